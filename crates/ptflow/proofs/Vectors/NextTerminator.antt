-- The terminators in 64 bytes are processed in order by clearing the lowest bit of their mask (`NextTerminator`).
use Rattle.ptflow.proofs
use proofs.Common.{◌≡◌, ◌≢◌, ℕ, zero, suc, ◌+◌, ◌-◌, ◌<◌, ◌≤◌, Bool, false, true, cond, Some, List, [], ◌∷◌, length}
use proofs.Common.{map, take, drop, get_or, refl, ap, sym, ◌∙◌, arith, usual, count_ones, count_by, count_by_more_yes}
use proofs.Common.{mask_l, count_by-le-length, sum_by-cons, sum_by-take-le, take-add, take-take, chunk, ones-mask_l}
use proofs.Common.{get_or-chunk, length-chunk, IsFirstByte, NoneBefore, Passes, is_byte, IsLine, byte_ne, IsSameLine}
use proofs.Common.{IsTerminatorMask, after_set, clear_first, count_chunk, count_in_prefix, first_is, near, without}
use Rattle.std.proofs.lemmas.List.{map-id}
use lib.Count.{count_trailing_zeros}

pub none_counted : (d : ℕ) (bytes : List ℕ) → IsLine d bytes → count_by (is_byte d) bytes ≡ 0
none_counted d [] free = refl
none_counted d (b ∷ bytes) (differs, free) = grind (arith, none_counted d bytes free, byte_ne)

-- no item from `start` on passes before the one at `end`
module _ (p : ℕ → Bool) (bytes : List ℕ) (start end : ℕ) (fits : end < length bytes)
    (is : p (get_or bytes end 0) ≡ true) (same : count_by p (take end bytes) ≡ count_by p (take start bytes)) where
  pub one_after : count_by p (take (end + 1) bytes) ≡ count_by p (take end bytes) + 1
  one_after = count_by_more_yes p _ end 0 fits is

  pub in_order : start ≤ end
  in_order = grind usual

  pub next_is : NoneBefore (Passes p (drop start bytes)) 0 (length (drop start bytes)) (end - start)
      × Passes p (drop start bytes) (end - start)
  next_is =
      let whole : start + (end - start) ≡ end = omega (arith, in_order) in
      grind (usual, first_is, in_order, take-add)

-- the next terminator among 64 bytes, after n of them, where the line starts at `start`
pub record NextTerminator (d : ℕ) (block : List ℕ) (from n bit start : ℕ) : Type 0 where
  pub near : bit < 64
  pub order : start ≤ from + bit
  pub first : IsFirstByte (is_byte d) (drop start block) (Some (from + bit - start))
  pub counted : count_by (is_byte d) (take (from + bit + 1) block) ≡ count_by (is_byte d) (take from block) + (n + 1)

module _ {d : ℕ} {block : List ℕ} {from all marked : ℕ} (n start : ℕ) (h : IsTerminatorMask d block from all)
    (some : n < count_ones all) (bits : marked ≡ mask_l (without n (map (is_byte d) (chunk from 64 block))))
    (ends : count_by (is_byte d) (take start block) ≡ count_by (is_byte d) (take from block) + n) where
  pub next_terminator : NextTerminator d block from n (count_trailing_zeros 64 marked) start
  next_terminator =
      let p = is_byte d in
      let bit = count_trailing_zeros 64 marked in
      let room : from + 64 ≤ length block = omega arith in
      let nth = after_set p (chunk from 64 block) n (omega (arith, length-chunk _ 64 _ room))
      (grind (arith, ones-mask_l)) bits in
      let close = near p block 64 from n bit room nth in
      let fits : from + bit < length block = omega arith in
      let (_, passes, _) = nth in
      let is : p (get_or block (from + bit) 0) ≡ true = cc (get_or-chunk from 64 block bit 0 close) in
      let as_many = count_in_prefix p block 64 from n bit room nth ∙ sym ends in
      grind (arith, in_order, next_is, one_after)

-- ---- the bits that are left

-- how many lines end between two indices
abbrev pub ended_between : ℕ → List ℕ → ℕ → ℕ → ℕ
ended_between d bytes from to = count_by (is_byte d) (take to bytes) - count_by (is_byte d) (take from bytes)

ones_cons : (b : Bool) (bits : List Bool) → count_by (λ b. b) (b ∷ bits) ≡ cond b 1 0 + count_by (λ b. b) bits
ones_cons b bits = sum_by-cons (λ b. cond b 1 0) b bits

ones_less : (bits : List Bool) → count_by (λ b. b) (clear_first bits) ≡ count_by (λ b. b) bits - 1
ones_less [] = refl
ones_less (true ∷ bits) = omega (arith, ones_cons true bits, ones_cons false bits)
ones_less (false ∷ bits) = ones_less bits

ones_left : (n : ℕ) (bits : List Bool) → count_by (λ b. b) (without n bits) ≡ count_by (λ b. b) bits - n
ones_left zero bits = omega arith
ones_left (suc n) bits = omega (arith, ones_less (without n bits), ones_left n bits)

some_set : (bits : List Bool) → mask_l bits ≢ 0 → 0 < count_by (λ b. b) bits
some_set [] some = absurd (some refl)
some_set (true ∷ bits) some = omega (arith, ones_cons true bits)
some_set (false ∷ bits) some = some_set bits (λ none. some (omega (arith, none)))

ones_are : (bits : List Bool) → count_ones (mask_l bits) ≡ count_by (λ b. b) bits
ones_are bits = cc (map-id bits, ones-mask_l (λ b. b) bits)

-- The bits of the terminators that are left, in a line that begins at `start`.
module _ {d : ℕ} {block : List ℕ} {from all marked : ℕ} (start : ℕ) (h : IsTerminatorMask d block from all)
    (order : count_by (is_byte d) (take from block) ≤ count_by (is_byte d) (take start block))
    (bits : marked ≡ mask_l (without (ended_between d block from start) (map (is_byte d) (chunk from 64 block)))) where
  abbrev n : ℕ
  n = ended_between d block from start

  abbrev flags : List Bool
  flags = map (is_byte d) (chunk from 64 block)

  all_set : count_by (λ b. b) flags ≡ count_by (is_byte d) (chunk from 64 block)
  all_set = sym (ones_are flags) ∙ ones-mask_l (is_byte d) _

  some_left : marked ≢ 0 → n < count_by (is_byte d) (chunk from 64 block)
  some_left set = omega (arith, all_set, ones_left n flags, some_set (without n flags) (λ none. set (bits ∙ none)))

  pub few_left : marked ≢ 0 → n < 64
  few_left set =
      let most = count_by-le-length (is_byte d) (chunk from 64 block) in
      omega (arith, some_left set, most, length-chunk from 64 block (omega (arith, h.within)))

  pub next_left : marked ≢ 0 → NextTerminator d block from n (count_trailing_zeros 64 marked) start
  next_left set =
      let ones = ap count_ones h.is ∙ ones-mask_l (is_byte d) (chunk from 64 block) in
      next_terminator n start h (omega (arith, some_left set, ones)) bits (omega (arith, order))

  pub none_left : marked ≡ 0 → start ≤ from + 64 → IsSameLine d block (from + 64) start
  unfolding lib.Count.ones
  none_left none within =
      let zero_ones : count_ones 0 ≡ 0 = refl in
      let none_set = ones_are (without n flags) ∙ ones_left n flags in
      let most = sum_by-take-le (λ b. cond (is_byte d b) 1 0) (take (from + 64) block) start in
      let so_far = rw (take-take start (from + 64) block within) at most in (
        within,
        omega (
          arith,
          order,
          all_set,
          none_set,
          ap count_ones (sym bits ∙ none),
          zero_ones,
          so_far,
          count_chunk (is_byte d) block from,
        ),
      )
