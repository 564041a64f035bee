-- Two wrong implementations of `comm`, which the contract excludes: one that holds output back does not have a
-- bounded lag; and one that reads on after a disorder contradicts that the disorder was determined two blocks
-- earlier. The lemmas before these say which lines had been received by then.
use Rattle.std.proofs.Common.{◌≡◌, ℕ, zero, suc, ◌≤◌, Bool, true, false, List, [], ◌∷◌, ◌++◌, length, refl, sym, ◌∙◌}
use Rattle.std.proofs.Common.{ap, subst, arith, drop, get_or, length-append}
use Rattle.std.specs.Prelude.{replicate}
use Rattle.std.proofs.lemmas.Bool.{false≢true}
use Rattle.std.proofs.lemmas.List.{length-replicate}
use Rattle.ptlines.specs.Received.{Received, empty_input, known_lines}
use Rattle.ptlines.specs.Lag.{LaggedInput}
use Rattle.ptlines.specs.Calls.Lag.{BoundedLag}
use Rattle.ptlines.specs.Calls.Outputs.{Output}
use Rattle.ptlines.specs.Text.{unlines}
use Rattle.ptlines.specs.Calls.Text.{IsLine}
use Rattle.ptlines.specs.Laws.Text.{AreLines}
use Rattle.ptlines.proofs.TextLaws.{complete_lines_of_unlines}
use Rattle.ptlangs.specs.Private.Jobs.{default_comm}
use Rattle.ptmerge.specs.declared.key_order.Side.TheVariants.{First}
use Rattle.ptmerge.specs.Calls.Comm.{comm_tool}
use Rattle.ptmerge.specs.MergeSpec.{Lines}
use Rattle.ptmerge.specs.Calls.MergeSpec.{decided_output, decided_entries, disorder}
use Rattle.ptmerge.specs.Calls.MergeSpec.{lines_decide_disorder}
use Rattle.ptmerge.specs.Calls.MergeSpec.{disorder_is_decided}
use Rattle.ptmerge.specs.Calls.Sides.{both}
use Rattle.ptmerge.specs.Calls.Sides.{with_side}

-- Of two prefixes of the same bytes, the longer one begins with the shorter one.
front_of : (front more xs ys : List ℕ) → front ++ more ≡ xs ++ ys → length front ≤ length xs → (rest : List ℕ)
    × (xs ≡ front ++ rest) × (more ≡ rest ++ ys)
front_of [] more xs ys same few = (xs, refl, same)
front_of (f ∷ front) more [] ys same few = absurd (omega (arith, few))
front_of (f ∷ front) more (x ∷ xs) ys same few =
    let e = front_of front more xs ys (ap (drop 1) same) (omega (arith, few)) in
    let head : x ≡ f = sym (ap (λ (l : List ℕ). get_or l 0 0) same) in
    (e.0, (λ i. head i ∷ e.1 i), e.2)

front_free : (end : ℕ) (xs ys : List ℕ) → IsLine end (xs ++ ys) → IsLine end xs
front_free end [] ys free = tt
front_free end (x ∷ xs) ys free = (free.0, front_free end xs ys free.1)

many_free : (n : ℕ) → IsLine 10 (replicate n 120)
many_free zero = tt
many_free (suc n) = ((λ e. absurd (omega (arith, e))), many_free n)

-- These lines were received, and then 20,000 bytes without a terminator.
abbrev with_long_tail : Lines → Received
with_long_tail ls = record { bytes = unlines 10 ls ++ replicate 20000 120; eof = false }

-- Two blocks earlier the lines had been received.
received_two_blocks_earlier : (ls : Lines) → AreLines 10 ls → length (unlines 10 ls) ≤ 3600
    → (b : LaggedInput (record { bytes = unlines 10 ls ++ replicate 20000 120; eof = false }))
    → (b.earlier.eof ≡ false) × (known_lines 10 b.earlier ≡ ls)
received_two_blocks_earlier ls all few b =
    let many : length {A = ℕ} (replicate 20000 120) ≡ 20000 = length-replicate {A = ℕ} 20000 120 in
    let f = front_of (unlines 10 ls) (replicate 20000 120) b.earlier.bytes b.last b.split
    (omega (
      arith,
      few,
      b.short,
      many,
      ap length b.split,
      length-append b.earlier.bytes b.last,
      length-append (unlines 10 ls) (replicate 20000 120),
    )) in
    let free = front_free 10 f.0 b.last (subst (IsLine 10) f.2 (many_free 20000)) in (
      going,
      (λ i. known_lines 10 (record { bytes = f.1 i; eof = going i }))
          ∙ complete_lines_of_unlines 10 ls f.0 all free,
    )
  where
    going : b.earlier.eof ≡ false
    going = elim b.earlier.eof as (λ t. (t ≡ true → false ≡ true) → t
        ≡ false) [ true ↦ λ h. absurd (false≢true (h refl)) | false ↦ λ h. refl ] b.eof

-- The output that is determined, and whether the disorder is, if the first input has these lines and the second one has
-- ended without any.
abbrev decided_of : Bool → Lines → List ℕ
decided_of eof ls = unlines 10 (decided_entries (comm_tool default_comm) (both eof true) (both ls []))

abbrev is_disorder_decided : Bool → Lines → Bool
is_disorder_decided eof ls = lines_decide_disorder (comm_tool default_comm) (both eof true) (both ls [])
    (disorder (comm_tool default_comm) (both ls []))

not_ten : (n : ℕ) → 11 ≤ n → n ≡ 10 → ⊥
not_ten n few e = omega (arith, few, e)

a_then_b : AreLines 10 ((97 ∷ []) ∷ (98 ∷ []) ∷ [])
a_then_b = ((not_ten 97 (omega arith), tt), ((not_ten 98 (omega arith), tt), tt))

b_then_a : AreLines 10 ((98 ∷ []) ∷ (97 ∷ []) ∷ [])
b_then_a = ((not_ten 98 (omega arith), tt), ((not_ten 97 (omega arith), tt), tt))

-- Nothing was pushed, although "a" was determined 20,000 bytes earlier.
nothing_pushed : (was is : Output)
    → BoundedLag {I = Unit {0}}
    (λ came. decided_output (comm_tool default_comm) (with_side First (came tt)
    (both (with_long_tail ((97 ∷ []) ∷ (98 ∷ []) ∷ [])) empty_input)))
    (λ u. with_long_tail ((97 ∷ []) ∷ (98 ∷ []) ∷ [])) was is [] → ⊥
nothing_pushed was is k =
    let b = k.processing.before tt in
    let received = received_two_blocks_earlier ((97 ∷ []) ∷ (98 ∷ []) ∷ []) a_then_b (omega arith) b in
    let one : decided_of b.earlier.eof (known_lines 10 b.earlier) ≡ 97 ∷ 10 ∷ [] =
    λ i. decided_of (received.0 i) (received.1 i) in
    omega (
      arith,
      ap length k.processing.begins.is,
      ap length one,
      length-append (decided_of b.earlier.eof (known_lines 10 b.earlier)) k.processing.begins.rest,
    )

-- 20,000 bytes were read after a line that is out of order, although the other input has ended.
reads_on : (b : LaggedInput (with_long_tail ((98 ∷ []) ∷ (97 ∷ []) ∷ [])))
    → disorder_is_decided (comm_tool default_comm) (with_side First b.earlier
    (both (with_long_tail ((98 ∷ []) ∷ (97 ∷ []) ∷ [])) empty_input)) ≡ false → ⊥
reads_on b not =
    let received = received_two_blocks_earlier ((98 ∷ []) ∷ (97 ∷ []) ∷ []) b_then_a (omega arith) b in
    let is : is_disorder_decided b.earlier.eof (known_lines 10 b.earlier) ≡ true =
    λ i. is_disorder_decided (received.0 i) (received.1 i) in
    false≢true (sym not ∙ is)
