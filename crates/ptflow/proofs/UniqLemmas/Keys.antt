-- The key of a line: skipping n fields leads to the byte after the n-th field end. In a window of bytes these ends are
-- the bits of one mask: a byte that is not a blank, before one that is. If the n-th one is the last byte of the line or
-- after it, the key is empty.
use Rattle.ptflow.proofs
use proofs.Common.{◌≡◌, ℕ, zero, suc, ◌+◌, ◌-◌, ◌/◌, ◌^◌, ◌<◌, ◌≤◌, Bool, true, false, cond, min, not, List, [], ◌∷◌}
use proofs.Common.{length, map, take, drop, refl, sym, ◌∙◌, ap, arith, usual, slice_get, option_map_or, drop-drop}
use proofs.Common.{is_blank, ends_word, word_ends, after_fields, ◌==◌, IsNth, count_by, from_bool, mask_l, chunk}
use proofs.Common.{get_or, count_ones, ones-mask_l, sum_by-cons, bit_and, mask_l-lt, length-map, length-chunk, rules}
use proofs.Common.{cases_lt, drop_all}
use proofs.CutLemmas.CutBytes.{rest_of}
use Rattle.ptflow.specs.Private.Uniq.FieldEnds.{field_ends}
use lib.Bits.{and_step, and_zero_r}

-- the rest of these bytes after n more field ends
abbrev pub suffix_at : ℕ → List ℕ → List ℕ
suffix_at n [] = []
suffix_at zero (b ∷ bytes) = b ∷ bytes
suffix_at (suc n) (b ∷ bytes) = cond (ends_word b bytes) (suffix_at n bytes) (suffix_at (suc n) bytes)

pub suffix_none : (n : ℕ) → suffix_at n [] ≡ []
suffix_none = grind arith

pub suffix_zero : (bytes : List ℕ) → suffix_at 0 bytes ≡ bytes
suffix_zero [] = refl
suffix_zero _ = refl

-- the rest of `line` after the n-th field end of `bytes`, which begin at index i
from_end : List ℕ → List ℕ → ℕ → ℕ → List ℕ
from_end line bytes i n = option_map_or (λ end. drop (end + 1) line) (slice_get (word_ends i bytes) n) []

from_end_is : (line bytes : List ℕ) (i n : ℕ) → drop i line ≡ bytes → from_end line bytes i n ≡ suffix_at (suc n) bytes
unfolding from_end
from_end_is _ [] i n is = refl
from_end_is line (b ∷ bytes) i n is = by_test (ends_word b bytes) n (λ m. from_end_is line _ (i + 1) m next)
  where
    next : drop (i + 1) line ≡ bytes
    next = cc (drop-drop 1 i line)

    by_test : (t : Bool) (n : ℕ) → ((m : ℕ) → from_end line bytes (i + 1) m ≡ suffix_at (suc m) bytes)
        → option_map_or (λ end. drop (end + 1) line)
        (slice_get (cond t (i ∷ word_ends (i + 1) bytes) (word_ends (i + 1) bytes)) n) []
        ≡ cond t (suffix_at n bytes) (suffix_at (suc n) bytes)
    by_test true zero later = next ∙ sym (suffix_zero _)
    by_test true (suc n) later = later n
    by_test false n later = later n

pub suffix_is : (n : ℕ) (line : List ℕ) → suffix_at n line ≡ after_fields n line
unfolding from_end
suffix_is = grind (arith, suffix_zero, from_end_is)

pub next_byte : (rest : List ℕ) (left : ℕ) → 0 < left → 0 < length rest
    → suffix_at left rest ≡ cond (ends_word (get_or rest 0 0) (drop 1 rest)) (suffix_at (left - 1) (drop 1 rest))
    (suffix_at left (drop 1 rest))
next_byte [] left some more = absurd (omega arith)
next_byte (b ∷ bytes) zero some more = absurd (omega arith)
next_byte _ _ some more = grind arith

-- ---- the ends of fields in a window of bytes

abbrev numbers : List Bool → List ℕ
numbers flags = map from_bool flags

abbrev pub is_set : ℕ → Bool
is_set b = b == 1

-- the ends of fields among the first n bytes, as numbers
abbrev pub ends_in : ℕ → List ℕ → List ℕ
ends_in n bytes = numbers (field_ends n bytes)

pub as_flags : (n : ℕ) (bytes : List ℕ) → map is_set (ends_in n bytes) ≡ field_ends n bytes
as_flags n bytes = decoded (field_ends n bytes)
  where
    decoded : (flags : List Bool) → map is_set (numbers flags) ≡ flags
    decoded [] = refl
    decoded (true ∷ flags) = ap (◌∷◌ true) (decoded flags)
    decoded (false ∷ flags) = ap (◌∷◌ false) (decoded flags)

pub length-ends_in : (n : ℕ) (bytes : List ℕ) → length (ends_in n bytes) ≤ n
length-ends_in zero bytes = omega arith
length-ends_in _ [] = omega arith
length-ends_in (suc n) (b ∷ bytes) = grind (arith, length-ends_in n bytes)

counted_one : (t : Bool) (xs : List ℕ) → count_by is_set (from_bool t ∷ xs) ≡ cond t 1 0 + count_by is_set xs
counted_one true xs = sum_by-cons _ 1 xs
counted_one false xs = sum_by-cons _ 0 xs

-- one byte of a line before another one
step : (n m : ℕ) (rest : List ℕ) (t : Bool) → n ≡ cond t 1 0 + m
    → cond t (suffix_at n rest) (suffix_at (suc n) rest) ≡ suffix_at (suc m) rest
step n m rest true is = ap (λ i. suffix_at i rest) (omega arith)
step n m rest false is = ap (λ i. suffix_at (suc i) rest) (omega arith)

nth_end : (j m n k : ℕ) (bytes : List ℕ) → IsNth is_set 0 n (ends_in j bytes) k
    → suffix_at (suc n) (take m bytes) ≡ drop (suc k) (take m bytes)
nth_end zero m n k bytes (within, _, _) = absurd (omega arith)
nth_end (suc j) m n k [] (within, _, _) = absurd (omega arith)
nth_end (suc j) zero n k (b ∷ bytes) h = refl
nth_end (suc j) (suc zero) n k (b ∷ bytes) h = grind (arith, suffix_none)
nth_end (suc j) (suc (suc m)) n k (b ∷ []) h = grind (arith, suffix_none)
nth_end (suc j) (suc (suc m)) n zero (b ∷ c ∷ bytes) (within, passes, counted) = grind arith
nth_end (suc j) (suc (suc m)) n (suc k) (b ∷ c ∷ bytes) (within, passes, counted) =
    let m' = count_by is_set (take k (ends_in j (c ∷ bytes))) in
    step n m' (c ∷ take m bytes) _
    (sym counted ∙ counted_one (ends_word b (c ∷ bytes)) (take k (ends_in j (c ∷ bytes))))
    ∙ nth_end j (suc m) m' k (c ∷ bytes) (omega arith, passes, refl)

none_after : (t : Bool) (n : ℕ) → cond t (suffix_at n []) (suffix_at (suc n) []) ≡ []
none_after true n = suffix_none n
none_after false n = refl

skip_ends : (j m n : ℕ) (bytes : List ℕ) → count_by is_set (ends_in j bytes) ≤ n
    → suffix_at (suc n) (take m bytes) ≡ suffix_at (suc (n - count_by is_set (ends_in j bytes))) (drop j (take m bytes))
skip_ends zero m n bytes few = grind arith
skip_ends (suc j) zero n bytes few = refl
skip_ends _ _ n [] few = refl
skip_ends (suc j) (suc zero) n (b ∷ bytes) few = cc (none_after (ends_word b []) n, drop_all {X = ℕ} j [] (omega arith))
skip_ends (suc j) (suc (suc m)) n (b ∷ []) few = cc (none_after (ends_word b []) n, drop_all {X = ℕ} j [] (omega arith))
skip_ends (suc j) (suc (suc m)) n (b ∷ c ∷ bytes) few =
    let t = ends_word b (c ∷ bytes) in
    let rest = count_by is_set (ends_in j (c ∷ bytes)) in
    let counted = counted_one t (ends_in j (c ∷ bytes)) in
    let same : n - cond t 1 0 - rest ≡ n - count_by is_set (ends_in (suc j) (b ∷ c ∷ bytes)) = omega arith in
    cc (
      step n (n - cond t 1 0) (c ∷ take m bytes) t (omega arith),
      skip_ends j (suc m) (n - cond t 1 0) (c ∷ bytes) (omega arith),
    )

-- the range from an index that may be after its end
range_from : (bytes : List ℕ) (at to : ℕ) → take (to - min at to) (drop (min at to) bytes)
    ≡ take (to - at) (drop at bytes)
range_from _ at to = grind (arith, cases_lt at to)

module _ (bytes : List ℕ) {ends : ℕ} (is : ends ≡ mask_l (field_ends 31 bytes)) where
  as_numbers : ends ≡ mask_l (map is_set (ends_in 31 bytes))
  as_numbers = is ∙ ap mask_l (sym (as_flags 31 _))

  pub ends_counted : {count : ℕ} → count ≡ count_ones ends → count ≡ count_by is_set (ends_in 31 bytes)
  ends_counted count_is = count_is ∙ ap count_ones as_numbers ∙ ones-mask_l is_set _

  pub nth_in_window : {count left k : ℕ} → count ≡ count_ones ends → 0 < left → left ≤ count
      → ((test : ℕ → Bool) (xs : List ℕ) → length xs ≤ 64 → ends ≡ mask_l (map test xs) → left - 1 < count_by test xs
      → IsNth test 0 (left - 1) xs k)
      → IsNth is_set 0 (left - 1) (ends_in 31 bytes) k
  nth_in_window count_is some enough found =
      found is_set (ends_in 31 bytes) (omega (arith, length-ends_in 31 bytes)) as_numbers
      (omega (arith, ends_counted count_is))

  pub near : {n k : ℕ} → IsNth is_set 0 n (ends_in 31 bytes) k → k < 31
  near (within, _, _) = omega (arith, length-ends_in 31 bytes)

module _ (bytes : List ℕ) (at to : ℕ) {left : ℕ} (some : 0 < left) where
  pub key_in_window : {k from : ℕ} → IsNth is_set 0 (left - 1) (ends_in 31 (drop at bytes)) k
      → from ≡ min (at + k + 1) to
      → suffix_at left (take (to - at) (drop at bytes)) ≡ take (to - from) (drop from bytes)
  key_in_window {k} {from} h is =
      let n : left ≡ suc (left - 1) = omega arith in
      let size : to - at - suc k ≡ to - (at + suc k) = omega arith in
      let start : min (at + suc k) to ≡ from = omega arith in
      cc (
        nth_end 31 (to - at) (left - 1) k (drop at bytes) h,
        rest_of (suc k) (to - at) (drop at bytes),
        drop-drop (suc k) at bytes,
        range_from bytes (at + suc k) to,
      )

  pub key_after_window : count_by is_set (ends_in 31 (drop at bytes)) < left
      → suffix_at (left - count_by is_set (ends_in 31 (drop at bytes))) (take (to - (at + 31)) (drop (at + 31) bytes))
      ≡ suffix_at left (take (to - at) (drop at bytes))
  key_after_window few =
      let count = count_by is_set (ends_in 31 (drop at bytes)) in
      let n : left ≡ suc (left - 1) = omega arith in
      let next : suc (left - 1 - count) ≡ left - count = omega arith in
      let size : to - at - 31 ≡ to - (at + 31) = omega arith in
      cc (skip_ends 31 (to - at) (left - 1) (drop at bytes) (omega arith), rest_of 31 _ _, drop-drop 31 at bytes)

-- ---- the mask of a window

abbrev is_word : ℕ → Bool
is_word b = not (is_blank b)

word_mask : (bytes : List ℕ) → mask_l (map is_word bytes) + mask_l (map is_blank bytes) + 1 ≡ 2 ^ length bytes
word_mask [] = refl
word_mask (b ∷ bytes) = search (rules, word_mask bytes)

and_ends : (j : ℕ) (bytes : List ℕ) → j < length bytes
    → bit_and (mask_l (map is_word (take (suc j) bytes))) (mask_l (map is_blank (take (suc j) bytes)) / 2)
    ≡ mask_l (field_ends j bytes)
and_ends j [] more = absurd (omega arith)
and_ends zero (b ∷ bytes) more = grind (arith, and_zero_r)
and_ends (suc j) (b ∷ []) more = absurd (omega arith)
and_ends (suc j) (b ∷ c ∷ bytes) more = grind (arith, and_ends j (c ∷ bytes), and_step)

module _ (bytes : List ℕ) (at : ℕ) (room : at + 32 ≤ length bytes) {blanks : ℕ}
    (is : blanks ≡ mask_l (map is_blank (chunk at 32 bytes)))
  where
    pub blanks_fit : blanks ≤ 4294967295
    blanks_fit =
        let v = chunk at 32 bytes in
        omega (arith, rw (length-map v is_blank ∙ length-chunk at 32 bytes room) at (mask_l-lt (map is_blank v)))

    pub ends_mask : bit_and (4294967295 - blanks) (blanks / 2) ≡ mask_l (field_ends 31 (drop at bytes))
    ends_mask =
        let v = chunk at 32 bytes in
        let all : mask_l (map is_word v) + mask_l (map is_blank v) + 1 ≡ 2 ^ 32 =
        rw (length-chunk at 32 _ room) at (word_mask v) in
        let words : 4294967295 - blanks ≡ mask_l (map is_word v) = omega arith in
        rw (words, is) (and_ends 31 _ (grind usual))
