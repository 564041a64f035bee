-- One read into an empty block: the bytes that the source gives become the buffered ones, so nothing is consumed or
-- lost. If the source has given 2^63 bytes or more, the read is reported as a fault.
use Rattle.ptlines.proofs
use proofs.Common.{◌≡◌, ℕ, ◌+◌, ◌<◌, ◌≤◌, Bool, List, [], None, Option, take, refl, arith, length-take-le, take-take}
use proofs.Common.{SourceState, PullOk, ◌^◌, false, true, Some, Ok, Err, inr, slice_range, LineFault, Read, Reader}
use proofs.Common.{ReaderAdvance, length, rules, sym, ◌==◌, ◌∷◌}
use Rattle.std.proofs.lemmas.Slice.{between_from_start}
use Rattle.ptlines.specs.Private.Readers.{HasMorePost}
use Rattle.ptlines.specs.Readers.{reader_of}
use Rattle.ptlines.specs.declared.sizes.TheConstants.{BLOCK}

-- A read is due: nothing is buffered, no fault was reported, and the end of input was not reached.
pub record RefillPre (r : Reader) : Type 0 where
  pub empty : r.buffered ≡ []
  pub clean : r.fault ≡ None
  pub going : r.eof ≡ false

pub nothing_left : {buffered given : List ℕ} {empty : Bool} → given ≡ buffered → empty ≡ (length given == 0)
    → empty ≡ true → buffered ≡ []
nothing_left {given = []} same is some = sym same
nothing_left {given = x ∷ given} same is some = grind arith

module _ {old : Reader} {was : SourceState} (is : SourceState) (block : List ℕ) {buffered : List ℕ} {p : ℕ} (n : ℕ)
    {q : Bool} (q' : Bool) {fault : Option LineFault} {end : ℕ}
    (view : reader_of was buffered p fault q end ≡ old) (pre : RefillPre old) (kept : q' ≡ q) where
  front : n ≤ BLOCK → slice_range block 0 n ≡ take n (take BLOCK block)
  front small = search (rules, between_from_start, take-take)

  pub filled : (new_fault : Option LineFault) → PullOk was is (take BLOCK block) n → n ≤ BLOCK
      → ReaderAdvance old (reader_of is (slice_range block 0 n) (p + n) new_fault q' end) []
  filled = search (rules, front)

  pub refill_end : n ≡ 0 → PullOk was is (take BLOCK block) n
      → HasMorePost old (reader_of is (slice_range block 0 0) p fault q' end) (Ok false)
  refill_end none gives = grind arith

  pub refill_more : PullOk was is (take BLOCK block) n → n ≤ BLOCK → 0 < n → p + n < 2 ^ 63
      → HasMorePost old (reader_of is (slice_range block 0 n) (p + n) fault q' end) (Ok true)
  refill_more = grind (arith, front, length-take-le)

  pub refill_long : PullOk was is (take BLOCK block) n → n ≤ BLOCK → 2 ^ 63 ≤ p + n
      → HasMorePost old (reader_of is (slice_range block 0 n) (p + n) (Some Read) q' end) (Err Read)
  refill_long gives small long = (search (rules, filled), inr (long, cc), refl)
