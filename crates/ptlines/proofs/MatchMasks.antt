-- The match masks of chunks. The trailing zeros of a mask count the bytes before the first match; a mask of zero
-- means that there is none. A search that goes on after bytes without a match; and the mask of few bytes, from those of
-- the first and of the last.
use Rattle.ptlines.proofs
use Rattle.std.proofs.lemmas
use proofs.Common.{◌≡◌, ℕ, ◌+◌, ◌*◌, ◌^◌, ◌%◌, ◌<◌, ◌≤◌, Bool, not, List, [], ◌∷◌, ◌++◌, rules, Option, Some, length}
use proofs.Common.{map, refl, sym, ◌∙◌, ap, arith, bit_or, drop-drop, length-map, length-chunk}
use proofs.Common.{None, drop, ◌-◌, prefix_len, mask_l, chunk, Nowhere, Passes, IsFirst, IsFirstByte, usual}
use Rattle.std.specs.Option.{option_map}
use Rattle.std.proofs.Common.{div-one, zero, suc, ◌/◌, cond, ◌||◌, take, replicate, eqb, true, false}
use Rattle.std.proofs.Math.Nat.{pow-succ', div-div-eq-div-mul, zero-div, mul-lt-mul_of_pos_right, mul_assoc, one-le-pow}
use Rattle.std.proofs.Math.Pow.{pow-add, pow_mono}
use Rattle.memchr.specs.Find.{is_byte, is_byte2}
use Rattle.std.specs.Simd.Lanes.{top, zip2}
use proofs.Common.{take_all}
use lib.Bits.{or_step, or_zero_l}
use lemmas.List.{drop-map, get_or-drop, length-drop, take-map}
use lib.Count.{count_trailing_zeros}
use lemmas.Simd.{map-map, mask_l-lt, mask_l-mod, none_from_empty_mask, run_in_chunk_fails, run_in_chunk_stops}
use lemmas.Simd.{trailing_mask_l, zip2_of_maps, zip2_splat}

prefix_len_lt : (test : ℕ → Bool) (xs : List ℕ) → 0 < mask_l (map test xs)
    → prefix_len (λ x. not (test x)) xs < length xs
prefix_len_lt _ [] some = absurd (omega arith)
prefix_len_lt test (x ∷ xs) some = grind (arith, prefix_len_lt test xs)

-- ---- the same facts for a number that equals the mask

pub none_if_zero_mask : (test : ℕ → Bool) (hay : List ℕ) (i n m : ℕ) → i + n ≤ length hay
    → m ≡ mask_l (map test (chunk i n hay)) → m ≡ 0 → Nowhere (Passes test hay) i (i + n)
none_if_zero_mask = grind (arith, none_from_empty_mask)

pub first_at_lowest_bit : (test : ℕ → Bool) (hay : List ℕ) (i n m : ℕ) → n ≤ 64 → i + n ≤ length hay
    → m ≡ mask_l (map test (chunk i n hay)) → (m ≡ 0 → ⊥)
    → IsFirst (Passes test hay) i (i + n) (Some (i + count_trailing_zeros 64 m))
first_at_lowest_bit =
    grind (arith, length-chunk, trailing_mask_l, prefix_len_lt, run_in_chunk_fails, run_in_chunk_stops)

-- ---- a search that continues after indices without a match

module _ (P : ℕ → Type 0) where
  pub nowhere_trans : (i j k : ℕ) → Nowhere P i j → Nowhere P j k → Nowhere P i k
  nowhere_trans = grind arith

-- If there is no match from an index up to another one, the first match is that among the bytes after them.
module _ (test : ℕ → Bool) (hay : List ℕ) (from size : ℕ) (order : from ≤ size)
    (none : Nowhere (Passes test hay) from size) where
  there : (k : ℕ) → size ≤ k → Passes test hay k → Passes test (drop size hay) (k - size)
  there k low passes = grind usual

  pub first_after : (r : Option ℕ) → IsFirstByte test (drop size hay) r
      → IsFirst (Passes test hay) from (length hay) (option_map (λ at. size + at) r)
  first_after None first = nowhere_trans (Passes test hay) from size (length hay) none (λ k low high passes.
      first (k - size) (omega arith) (omega (arith, length-drop size hay)) (there k low passes))
  first_after (Some at) (first, found) = (
    record {
      low = omega arith;
      high = grind usual;
      before = nowhere_trans (Passes test hay) from size (size + at) none
          (λ k low high passes. first.before (k - size) (omega arith) (omega arith) (there k low passes));
    },
    cc (get_or-drop size hay at 0),
  )

-- ---- masks without their first bits

pub mask_append : (front back : List Bool) → mask_l (front ++ back) ≡ mask_l front + 2 ^ length front * mask_l back
mask_append [] back = omega arith
mask_append (f ∷ front) back =
    omega (arith, mask_append front back, ap (λ p. p * mask_l back) (pow-succ' 2 (length front)))

-- without the lowest bits of a mask: the mask of the items after the first ones
pub shifted : (n : ℕ) (bits : List Bool) → mask_l bits / 2 ^ n ≡ mask_l (drop n bits)
shifted zero bits = div-one (mask_l bits)
shifted (suc n) [] = zero-div (2 ^ suc n)
shifted (suc n) (b ∷ bits) =
    let half : (b : Bool) → (cond b 1 0 + 2 * mask_l bits) / 2 ≡ mask_l bits = grind arith in
    grind (arith, half, div-div-eq-div-mul, shifted n bits)

-- without the first items up to one at an index
pub mask_after : (test : ℕ → Bool) (v : List ℕ) (n : ℕ) {mask : ℕ} → mask ≡ mask_l (map test v)
    → mask / 2 ^ n / 2 ≡ mask_l (map test (drop (n + 1) v))
mask_after test v n {mask} is =
    let twice : 2 ^ n * 2 ≡ 2 ^ (n + 1) = omega (arith, pow-add 2 n 1) in
    cc (div-div-eq-div-mul mask (2 ^ n) 2, shifted (n + 1) (map test v), drop-map test (n + 1) v)

-- ---- the lowest bits of two numbers

abbrev pub bit : Bool → ℕ
bit b = cond b 1 0

pub halves : (b : Bool) (x : ℕ) → ((bit b + 2 * x) / 2 ≡ x) × ((bit b + 2 * x) % 2 ≡ bit b)
halves = grind arith

pub or_bits : (b c : Bool) (x y : ℕ) → bit_or (bit b + 2 * x) (bit c + 2 * y) ≡ bit (b || c) + 2 * bit_or x y
or_bits b c x y = grind (arith, or_step (bit b + 2 * x) (bit c + 2 * y), halves c y)

-- ---- the mask of few bytes, from those of the first and of the last

or_prefix : (n : ℕ) (bits : List Bool) → bit_or (mask_l (take n bits)) (mask_l bits) ≡ mask_l bits
or_prefix zero bits = or_zero_l (mask_l bits)
or_prefix (suc n) [] = or_zero_l 0
or_prefix (suc n) (b ∷ bits) = grind (arith, or_bits b b (mask_l (take n bits)) (mask_l bits), or_prefix n bits)

or_ends : (last n : ℕ) (bits : List Bool) → last ≤ n
    → bit_or (mask_l (take n bits)) (2 ^ last * mask_l (drop last bits)) ≡ mask_l bits
or_ends zero n bits le = let one : 2 ^ 0 * mask_l bits ≡ mask_l bits = omega arith in
    ap (bit_or _) one ∙ or_prefix n bits
or_ends (suc last) zero bits le = absurd (omega arith)
or_ends (suc last) (suc n) [] le = grind arith
or_ends (suc last) (suc n) (b ∷ bits) le =
    let twice : 2 ^ suc last * mask_l (drop last bits) ≡ bit false + 2 * (2 ^ last * mask_l _) =
    search (rules, mul_assoc) in
    ap (bit_or (mask_l (b ∷ take n bits))) twice ∙ or_bits b false (mask_l (take n bits))
    (2 ^ last * mask_l (drop last bits)) ∙ grind (arith, or_ends last n bits (omega arith))

-- the mask of n to 2 n bytes, from those of the first n and of the last n
pub ends_mask : (test : ℕ → Bool) (bytes : List ℕ) (n : ℕ) → n ≤ length bytes → length bytes ≤ n + n → n ≤ 32
    → bit_or (mask_l (map test (chunk 0 n bytes))) (mask_l (map test (chunk (length bytes - n) n bytes)) * 2 ^
    (length bytes - n) % 2 ^ 64) ≡ mask_l (map test bytes)
ends_mask test bytes n first all few =
    let last = length bytes - n in
    let bits = map test bytes in
    let tail : map test (chunk last n bytes) ≡ drop last bits = grind (usual, drop-map) in
    let size : length (drop last bits) ≡ n = grind usual in
    let small = fits (mask_l (drop last bits)) n last (rw size at (mask_l-lt (drop last bits))) (omega arith) in
    let whole : mask_l (drop last bits) * 2 ^ last % 2 ^ 64 ≡ 2 ^ last * mask_l (drop last bits) = omega arith in
    cc (take-map _ n _, or_ends last n _ (omega arith))
  where
    fits : (m n last : ℕ) → m < 2 ^ n → n + last ≤ 64 → m * 2 ^ last < 2 ^ 64
    fits m n last low le = omega (
      arith,
      mul-lt-mul_of_pos_right {k = 2 ^ last} low (one-le-pow last 2 (omega arith)),
      pow-add 2 n last,
      pow_mono {j = 64} le,
    )

-- the mask of the bytes from an index on, of which there are fewer than 64, from that of the last 64
pub last_of_64 : (test : ℕ → Bool) (bytes : List ℕ) (at start m : ℕ) → start ≤ at → start + 64 ≡ length bytes
    → m ≡ mask_l (map test (chunk start 64 bytes)) → m / 2 ^ (at - start) ≡ mask_l (map test (drop at bytes))
last_of_64 test bytes at start m order size is =
    let all = take_all 64 (drop start bytes) (omega (arith, length-drop start bytes)) in
    let same : start + (at - start) ≡ at = omega arith in
    rw (is, all, shifted, drop-map, drop-drop, same)

-- ---- the bytes that equal one of two

either_top : (a b : Bool) → top 7 (bit_or (cond a 255 0) (cond b 255 0)) ≡ (a || b)
either_top true true = refl
either_top true false = refl
either_top false true = refl
either_top false false = refl

pub either_mask : (test : ℕ → Bool) (a b : ℕ) (v : List ℕ) (n : ℕ) → ((x : ℕ) → test x ≡ is_byte2 a b x)
    → length v ≡ n → n ≤ 64 → mask_l (map (top 7) (zip2 bit_or (zip2 (λ x y. cond (eqb x y) 255 0) v (replicate n a))
    (zip2 (λ x y. cond (eqb x y) 255 0) v (replicate n b)))) % 2 ^ 64 ≡ mask_l (map test v)
either_mask test a b v n is long few =
    let first = zip2_splat (λ x y. cond (eqb x y) 255 0) v n a long in
    let second = zip2_splat (λ x y. cond (eqb x y) 255 0) v n b long in
    ap (λ ms. mask_l ms % 2 ^ 64) (ap (map (top 7)) (zip2_of_maps bit_or _ _ v first second) ∙ map-map (top 7) _ v
    ∙ (λ i. map (λ x. (either_top (eqb x a) (eqb x b) ∙ sym (is x)) i) v))
    ∙ mask_l-mod (map test v) 64 (omega (arith, length-map v test))

pub byte_twice : (a x : ℕ) → is_byte a x ≡ is_byte2 a a x
byte_twice a x = grind arith
