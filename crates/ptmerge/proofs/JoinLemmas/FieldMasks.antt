-- Fields of a line of `join`, found by masks of its blanks or of its separators. A mask is the number of a list of
-- bits, so each fact is by induction on that list. The first run of set bits is the first word.
use Rattle.ptmerge.proofs
use Rattle.ptmerge.specs
use Rattle.std.proofs.lemmas
use proofs.Common.{◌≡◌, ⊎_elim, false, ℕ, List, ◌++◌, true, ◌∷◌, [], refl, arith, length-drop, suc, ◌+◌, ◌-◌, ◌≤◌, Bool}
use proofs.Common.{None, Some, length, drop, get_or, sym, zero, ◌<◌, ◌==◌, cond, filter, slice_split, is_blank, Lines}
use proofs.Common.{usual, map, join_fields, is_single_spaced, with_prefix, ◌^◌, eqb, ◌≢◌, ◌*◌, not, ◌&&◌, ◌∙◌, Option}
use proofs.Common.{drop_more, length-append, option_map, unwrap_or}
use lemmas.Bool.{cases_Bool, eqb-true}
use Rattle.std.specs.List.{prefix_len, onto_first, count_by}
use Rattle.std.proofs.Common.{rules, ◌/◌, bit_and, bit_or, replicate, take, ◌%◌}
use lemmas.List.{drop_all, take_all, get_or-drop, map-id, drop-drop, length-map, take-append-drop}
use lemmas.Simd.{mask_l-lt, trailing_mask_l}
use Rattle.std.specs.Simd.Lanes.{chunk, mask_l}
use Rattle.memchr.specs.Find.{is_byte, IsFirst, IsFirstByte, Passes}
use Rattle.std.proofs.Math.Nat.{div-div-eq-div-mul}
use Rattle.std.proofs.Math.Pow.{pow_mono}
use lib.Bits.{and_step, or_zero_r, and_zero_l, or_shifted_r, and_mod, and_le_l, and_self, or_self}
use lib.Count.{count_trailing_zeros}
use Rattle.ptlines.proofs.MatchMasks.{bit, halves, or_bits}
use Rattle.ptlines.proofs.TextLaws.{byte_eq}
use Rattle.ptlines.specs.Calls.Scan.{IsNth}
use lemmas.List.Sums.{sum_by-cons}
use Rattle.ptlangs.proofs.ListElements.{split_around, split_whole}
use specs.Join.{is_nonempty}
use specs.Private.JoinFields.{IsFieldAt, has_single_spaces}
use proofs.JoinLemmas.Fields.{first_is_position, none_past, prefixed_fields, space_is, single_spaced_words}

and_bits : (b c : Bool) (x y : ℕ) → bit_and (bit b + 2 * x) (bit c + 2 * y) ≡ bit (b && c) + 2 * bit_and x y
and_bits b c x y = grind (arith, and_step (bit b + 2 * x) (bit c + 2 * y), halves c y)

no_misplaced : (blank : Bool) (bytes : List ℕ) → cond (eqb (mask_l (map (is_byte 9) bytes)) 0)
    (eqb (bit_and (mask_l (map (is_byte 32) bytes)) (bit blank + 2 * mask_l (map (is_byte 32) bytes))) 0) false
    ≡ has_single_spaces blank bytes
no_misplaced _ [] = cc
no_misplaced blank (b ∷ bytes) = grind (arith, and_bits, no_misplaced (b == 32) bytes)

pub single_spaces_is : (spaces tabs before : ℕ) (bytes : List ℕ) → before ≤ 1 → length bytes ≤ 64
    → spaces ≡ mask_l (map (is_byte 32) bytes) → tabs ≡ mask_l (map (is_byte 9) bytes)
    → cond (eqb tabs 0) (eqb (bit_and spaces (bit_or (spaces * 2 % 2 ^ 64) before)) 0) false
    ≡ has_single_spaces (before == 1) bytes
single_spaces_is spaces tabs before bytes low few is tabs_is =
    let wide : 2 ^ length (map (is_byte 32) bytes) ≤ 2 ^ 64 =
    pow_mono {j = 64} (omega (arith, length-map bytes (is_byte 32))) in
    let small : spaces < 2 ^ 64 = omega (arith, mask_l-lt (map (is_byte 32) bytes)) in
    let sum : spaces * 2 + before ≡ bit (before == 1) + 2 * spaces = omega (arith, of_bit before low) in
    rw (or_even spaces before low, and_low spaces (spaces * 2 + before) small, sum, is, tabs_is)
    (no_misplaced (before == 1) bytes)
  where
    of_bit : (before : ℕ) → before ≤ 1 → bit (before == 1) ≡ before
    of_bit = grind arith

    or_even : (any before : ℕ) → before ≤ 1 → bit_or (any * 2 % 2 ^ 64) before ≡ (any * 2 + before) % 2 ^ 64
    or_even any before low =
        let half = any % 2 ^ 63 in
        grind (arith, or_bits false (before == 1) half 0, or_zero_r half)

    and_low : (x y : ℕ) → x < 2 ^ 64 → bit_and x (y % 2 ^ 64) ≡ bit_and x y
    and_low x y low = grind (arith, and_le_l x y, and_mod x y 64)

power_fits : (v : List ℕ) → length v < 64 → 1 * 2 ^ length v % 2 ^ 64 ≡ 1 * 2 ^ length v
power_fits = search rules

end_bit : (test : ℕ → Bool) (bytes : List ℕ)
    → mask_l (map test (bytes ++ 32 ∷ [])) ≡ mask_l (map test bytes) + cond (test 32) (2 ^ length bytes) 0
end_bit _ [] = grind arith
end_bit test (b ∷ bytes) = grind (arith, end_bit test bytes)

spaced_to_end : (blank : Bool) (bytes : List ℕ)
    → has_single_spaces blank (bytes ++ 32 ∷ []) ≡ is_single_spaced blank bytes
spaced_to_end blank [] = grind arith
spaced_to_end blank (b ∷ bytes) = cc (spaced_to_end (b == 32) bytes)

-- the last bytes of a line are checked as if a space followed them
pub spaced_rest : (blank : Bool) (spaces tabs : ℕ) (bytes : List ℕ) {result : Bool} → length bytes < 64
    → spaces ≡ mask_l (map (is_byte 32) bytes) → tabs ≡ mask_l (map (is_byte 9) bytes)
    → ((all : List ℕ) → length all ≤ 64 → bit_or spaces (1 * 2 ^ length bytes % 2 ^ 64) ≡ mask_l (map (is_byte 32) all)
    → tabs ≡ mask_l (map (is_byte 9) all) → result ≡ has_single_spaces blank all)
    → result ≡ is_single_spaced blank bytes
spaced_rest blank spaces tabs bytes short spaces_is tabs_is ensures =
    ensures (bytes ++ 32 ∷ []) (omega (arith, length-append bytes (32 ∷ [])))
    (grind (arith, mask_l-lt, length-map, power_fits, or_shifted_r, end_bit (is_byte 32) bytes))
    (omega (arith, end_bit (is_byte 9) bytes)) ∙ spaced_to_end blank bytes

-- ---- the next 64 bytes of a line

abbrev pub last_blank : Bool → List ℕ → Bool
last_blank blank [] = blank
last_blank blank (b ∷ bytes) = last_blank (b == 32) bytes

spaced_append : (blank : Bool) (v back : List ℕ) → is_single_spaced blank (v ++ back) ≡ cond
    (has_single_spaces blank v) (is_single_spaced (last_blank blank v) back) false
spaced_append _ [] back = refl
spaced_append blank (b ∷ v) back = grind (arith, spaced_append (b == 32) v back)

pub top_bit : (n : ℕ) (blank : Bool) (v : List ℕ) → length v ≡ suc n
    → mask_l (map (is_byte 32) v) / 2 ^ n ≡ bit (last_blank blank v)
top_bit n _ [] size = absurd (omega arith)
top_bit zero blank (b ∷ []) size = grind arith
top_bit zero blank (b ∷ c ∷ v) size = absurd (omega arith)
top_bit (suc n) blank (b ∷ v) size =
    let m = mask_l (map (is_byte 32) v) in
    let twice : 2 ^ suc n ≡ 2 * 2 ^ n = omega arith in
    cc (top_bit n _ v (omega arith), (halves _ m).0, div-div-eq-div-mul (bit (b == 32) + 2 * m) 2 (2 ^ n))

pub chunk_spaced : (blank : Bool) (bytes : List ℕ) (at : ℕ) → at + 64 ≤ length bytes
    → is_single_spaced blank (drop at bytes) ≡ cond (has_single_spaces blank (chunk at 64 bytes))
    (is_single_spaced (last_blank blank (chunk at 64 bytes)) (drop (at + 64) bytes)) false
chunk_spaced blank bytes at room = rw (← spaced_append, ← drop-drop 64 at bytes, take-append-drop 64 (drop at bytes))

pub bit_is : (b : Bool) → (bit b == 1) ≡ b
bit_is = grind arith

-- ---- the words of a line

abbrev pub is_word : ℕ → Bool
is_word b = not (is_blank b)

word_mask : (bytes : List ℕ) → mask_l (map is_word bytes) + mask_l (map is_blank bytes) + 1 ≡ 2 ^ length bytes
word_mask [] = refl
word_mask (b ∷ bytes) = search (rules, word_mask bytes)

-- ---- the first run of set bits

-- one more
abbrev after_ones : List Bool → List Bool
after_ones [] = true ∷ []
after_ones (true ∷ bits) = false ∷ after_ones bits
after_ones (false ∷ bits) = true ∷ bits

-- the bit after the first run, and all bits above it
abbrev after_run : List Bool → List Bool
after_run [] = true ∷ []
after_run (true ∷ bits) = false ∷ after_ones bits
after_run (false ∷ bits) = false ∷ after_run bits

abbrev clear_ones : List Bool → List Bool
clear_ones [] = []
clear_ones (true ∷ bits) = false ∷ clear_ones bits
clear_ones (false ∷ bits) = false ∷ bits

abbrev clear_run : List Bool → List Bool
clear_run [] = []
clear_run (true ∷ bits) = false ∷ clear_ones bits
clear_run (false ∷ bits) = false ∷ clear_run bits

plus_one : (bits : List Bool) → mask_l bits + 1 ≡ mask_l (after_ones bits)
plus_one [] = refl
plus_one (b ∷ bits) = grind (arith, plus_one bits)

or_less : (bits : List Bool) → 0 < mask_l bits → bit_or (mask_l bits) (mask_l bits - 1) + 1 ≡ mask_l (after_run bits)
or_less [] some = absurd (omega arith)
or_less (b ∷ bits) some =
    let m = mask_l bits in
    grind (arith, or_bits true false m m, or_self m, plus_one bits, or_bits false true m (m - 1), or_less bits)

and_ones : (bits : List Bool) → bit_and (mask_l bits) (mask_l (after_ones bits)) ≡ mask_l (clear_ones bits)
and_ones [] = and_zero_l 1
and_ones (b ∷ bits) =
    let ih = and_ones bits in
    let m = mask_l bits in
    grind (arith, and_self m, and_bits true false m (mask_l (after_ones bits)), and_bits false true m m)

and_run : (bits : List Bool) → bit_and (mask_l bits) (mask_l (after_run bits)) ≡ mask_l (clear_run bits)
and_run [] = and_zero_l 1
and_run (b ∷ bits) = grind (arith, and_run bits, and_ones bits, and_bits b false (mask_l bits))

length-after : (bits : List Bool)
    → (length (after_ones bits) ≤ suc (length bits)) × (length (after_run bits) ≤ suc (length bits))
length-after [] = (omega arith, omega arith)
length-after (b ∷ bits) = grind (arith, length-after bits)

lowest : (bits : List Bool) → length bits ≤ 64 → 0 < mask_l bits
    → count_trailing_zeros 64 (mask_l bits) ≡ prefix_len not bits
lowest bits few some = cc (map-id bits, trailing_mask_l (λ b. b) 64 _ few (rw (map-id bits) some))

-- ---- a word is a run of bytes that are no blanks

-- a bit for each byte of a word, from the index `at` on
abbrev from : ℕ → List ℕ → List Bool
from at v = replicate at false ++ map is_word (drop at v)

split_byte : (b : ℕ) (v : List ℕ) {t : Bool} → is_blank b ≡ t
    → slice_split is_blank (b ∷ v) ≡ cond t ([] ∷ slice_split is_blank v) (onto_first b (slice_split is_blank v))
split_byte b v e = rw e

one_more : (n : ℕ) → 1 + n ≡ suc n
one_more n = omega arith

-- the bytes continue a word for `size` bytes
record InWord (v : List ℕ) (size : ℕ) (cleared : List Bool) : Type 0 where
  pub high : size ≤ length v
  pub more : Lines
  pub split : slice_split is_blank v ≡ take size v ∷ more
  pub words : filter is_nonempty more ≡ join_fields None (drop size v)
  pub rest : cleared ≡ from size v
  pub spaced : is_single_spaced false v ≡ true → (is_single_spaced false (drop size v) ≡ true)
      × (with_prefix 32 (join_fields None (drop size v)) ≡ drop size v)

in_word : (v : List ℕ) → InWord v (prefix_len not (after_ones (from 0 v))) (clear_ones (from 0 v))
in_word [] = grind arith
in_word (b ∷ v) =
    let w = in_word v in
    ⊎_elim
    (λ (e : is_blank b ≡ true).
    let split = split_byte b v e in
    let more = slice_split is_blank v in
    simp e (grind (arith, more, split, single_spaced_words true v)))
    (λ (e : is_blank b ≡ false). simp e (let more = w.more in grind (arith, more, w, e)))
    (cases_Bool (is_blank b))

-- the first word of `v` from the index `at` on is from `start` to before `end`
pub record WordAt (at : ℕ) (v : List ℕ) (start end : ℕ) (cleared : List Bool) : Type 0 where
  pub low : start ≤ end
  pub high : end ≤ length v
  pub is : join_fields None (drop at v) ≡ take (end - start) (drop start v) ∷ join_fields None (drop end v)
  pub rest : cleared ≡ from end v
  pub spaced : (blank : Bool) → is_single_spaced blank (drop at v) ≡ true
      → (is_single_spaced false (drop end v) ≡ true) × (with_prefix 32 (join_fields None (drop end v)) ≡ drop end v)

byte_before : {at to start end : ℕ} {v : List ℕ} {cleared : List Bool} (b : ℕ) → WordAt at v start end cleared
    → join_fields None (drop to (b ∷ v)) ≡ join_fields None (drop at v)
    → ((blank : Bool) → is_single_spaced blank (drop to (b ∷ v)) ≡ true
    → (left : Bool) × (is_single_spaced left (drop at v) ≡ true))
    → WordAt to (b ∷ v) (1 + start) (1 + end) (false ∷ cleared)
byte_before b w same spaced = search rules

word_at : (at : ℕ) (v : List ℕ) → at ≤ length v → 0 < mask_l (from at v)
    → WordAt at v (prefix_len not (from at v)) (prefix_len not (after_run (from at v))) (clear_run (from at v))
word_at zero [] low some = absurd (omega arith)
word_at (suc at) [] low some = absurd (omega arith)
word_at (suc at) (b ∷ v) low some =
    byte_before b (word_at at v (omega arith) (omega arith)) refl (λ blank s. (blank, s))
word_at zero (b ∷ v) low some =
    ⊎_elim
    (λ (e : is_blank b ≡ true).
    let more = simp e at some in
    simp e (byte_before b (word_at 0 v (omega arith) (omega arith)) (cc (split_byte b v e))
    (λ blank s. (true, (space_is _ b v e s).1))))
    (λ (e : is_blank b ≡ false).
    let w = in_word v in
    let n = prefix_len not (after_ones (from 0 v)) in
    let size : suc n - 0 ≡ suc n = omega arith in
    simp (e, one_more) (record {
      low = omega arith;
      high = omega arith;
      is = rw (size, split_byte b v e, w.split, w.words);
      rest = search w.rest;
      spaced = λ blank s. w.spaced (grind arith);
    })) (cases_Bool _)

no_words : (at : ℕ) (v : List ℕ) → mask_l (from at v) ≡ 0 → join_fields None (drop at v) ≡ []
no_words zero [] none = refl
no_words (suc at) [] none = refl
no_words (suc at) (b ∷ v) none = no_words at v (omega arith)
no_words zero (b ∷ v) none = search (rules, no_words 0 v)

-- `passed` words of the line have been passed, and `words` is the mask of those from the index `at` on
pub record WordsLeft (line : List ℕ) (passed words : ℕ) : Type 0 where
  pub at : ℕ
  pub within : at ≤ length line
  pub mask : words ≡ mask_l (from at line)
  pub fields : drop passed (join_fields None line) ≡ join_fields None (drop at line)
  pub spaced : is_single_spaced true line ≡ true → (blank : Bool) × (is_single_spaced blank (drop at line) ≡ true)

pub words_start : (line : List ℕ) (any : ℕ) → length line < 64 → any ≡ mask_l (map is_blank line)
    → WordsLeft line 0 (1 * 2 ^ length line % 2 ^ 64 - 1 - any)
words_start = grind (arith, power_fits, word_mask)

pub any_fits : (line : List ℕ) (any : ℕ) → length line < 64 → any ≡ mask_l (map is_blank line)
    → any ≤ 1 * 2 ^ length line % 2 ^ 64 - 1
any_fits line any short is = omega (arith, power_fits _ short, word_mask line)

module _ {line : List ℕ} {passed words : ℕ} (short : length line < 64) (left : WordsLeft line passed words) where
  abbrev bits : List Bool
  bits = from left.at line

  bits_long : length bits ≡ length line
  bits_long = grind usual

  pub words_small : words < 2 ^ 63
  words_small = search (rules, bits_long, mask_l-lt)

  pub none_left : (number : ℕ) → words ≡ 0 → passed ≤ number - 1 → drop (number - 1) (join_fields None line) ≡ []
  none_left = grind (arith, none_past, no_words)

  module _ (some : words ≢ 0) where
    some_bits : 0 < mask_l bits
    some_bits = search rules

    first_word : WordAt left.at line (prefix_len not bits) (prefix_len not (after_run bits)) (clear_run bits)
    first_word = word_at _ _ left.within some_bits

    abbrev after : ℕ
    after = bit_or words (words - 1) + 1

    after_is : after ≡ mask_l (after_run bits)
    after_is = cc (or_less _ some_bits)

    start_is : count_trailing_zeros 64 words ≡ prefix_len not bits
    start_is = grind (arith, lowest, bits_long)

    end_is : count_trailing_zeros 64 after ≡ prefix_len not (after_run bits)
    end_is = grind (arith, lowest, length-after bits, bits_long, or_less)

    pub word_passed : WordsLeft line (passed + 1) (bit_and words after)
    word_passed = let w = first_word in
        record {
          at = prefix_len not (after_run bits);
          within = w.high;
          mask = cc (after_is, and_run bits);
          fields = cc (drop-drop 1 passed (join_fields None line));
          spaced = search rules;
        }

    pub word_found : (number : ℕ) → passed ≡ number - 1 → IsFieldAt None number line
        (record { start = count_trailing_zeros 64 words; end = count_trailing_zeros 64 after })
    word_found _ is = let w = first_word in
        rw (start_is, end_is) (record {
          more = join_fields None (drop (prefix_len not (after_run bits)) line);
          is = cc w.is;
          ordered = w.low;
          within = w.high;
          after = λ s. (w.spaced (left.spaced s).0 (left.spaced s).1).1;
        })

pub ruleset word_steps = (any_fits, words_start, word_passed, none_left, word_found)

-- ---- fields after a number of separators

onto_first_drop : (b m : ℕ) (pieces : Lines) → drop (suc m) (onto_first b pieces) ≡ drop (suc m) pieces
onto_first_drop = grind arith

byte_passed : (b k m : ℕ) (pieces rest : Lines) → drop (suc (m + k)) pieces ≡ rest → (ends : Bool)
    → drop (suc (m + (cond ends 1 0 + k))) (cond ends ([] ∷ pieces) (onto_first b pieces)) ≡ rest
byte_passed b k m pieces rest is true = let one : m + (1 + k) ≡ suc (m + k) = omega arith in rw one is
byte_passed b k m pieces rest is false =
    let none : m + (0 + k) ≡ m + k = omega arith in rw none (onto_first_drop b (m + k) pieces ∙ is)

none_passed : (m : ℕ) (pieces : Lines) → drop (suc (m + 0)) pieces ≡ drop (suc m) pieces
none_passed m pieces = grind arith

pieces_passed : (c : ℕ) (v : List ℕ) (n m : ℕ)
    → drop (suc (m + count_by (is_byte c) (take n v))) (join_fields (Some c) v)
    ≡ drop (suc m) (join_fields (Some c) (drop n v))
pieces_passed c v zero m = none_passed m (join_fields (Some c) v)
pieces_passed c [] (suc n) m = none_passed m (join_fields (Some c) [])
pieces_passed c (b ∷ v) (suc n) m =
    rw (sum_by-cons (λ x. cond (is_byte c x) 1 0) b (take n v))
    (byte_passed b (count_by (is_byte c) (take n v)) m _ _ (pieces_passed c v n m) (b == c))

pub fields_after_nth : (c number at : ℕ) (line : List ℕ) → 1 < number → 0 < at
    → IsNth (is_byte c) 0 (number - 2) (take (length line) line) (at - 1)
    → drop (number - 1) (join_fields (Some c) line) ≡ join_fields (Some c) (drop at line)
fields_after_nth c number at line some after nth =
    let (within, passes, counted) = rw (take_all (length line) line (omega arith)) at nth in
    let count : suc (0 + count_by (is_byte c) (take (at - 1) line)) ≡ number - 1 = omega arith in
    let next : at - 1 + 1 ≡ at = omega arith in
    let here = rw (eqb-true (get_or line (at - 1) 0) c passes, next) at (drop_more line (at - 1) 0 within) in
    rw (count, here, byte_eq c) at (pieces_passed c line (at - 1) 0)

pub no_field_after : (c number : ℕ) (line : List ℕ) → 1 < number
    → count_by (is_byte c) (take (length line) line) ≤ number - 2 → drop (number - 1) (join_fields (Some c) line) ≡ []
no_field_after c number line some few =
    let left = number - 2 - count_by (is_byte c) (take (length line) line) in
    let count : suc (left + count_by (is_byte c) (take (length line) line)) ≡ number - 1 = omega arith in
    rw (count, drop_all (length line) line (omega arith)) at (pieces_passed c line (length line) left)
    ∙ drop_all left [] (omega arith)

first_of_rest : (test : ℕ → Bool) (hay : List ℕ) (start : ℕ) → start ≤ length hay → (r : Option ℕ)
    → IsFirst (Passes test hay) start (length hay) r
    → IsFirstByte test (drop start hay) (option_map (λ at. at - start) r)
first_of_rest test hay start within None none = λ k low high passes.
    none (start + k) (omega arith) (omega (arith, length-drop start hay)) (rw (get_or-drop start hay k 0) at passes)
first_of_rest test hay start within (Some at) (first, found) = grind (arith, get_or-drop, length-drop, first.before)

module _ {c : ℕ} {line : List ℕ} {number start : ℕ} (within : start ≤ length line)
    (fields : drop (number - 1) (join_fields (Some c) line) ≡ join_fields (Some c) (drop start line)) where
  last_at : IsFirstByte (is_byte c) (drop start line) None → IsFieldAt (Some c) number line
      (record { start = start; end = length line })
  last_at none =
      let tail = drop start line in
      let more : Lines = [] in
      let all = fields ∙ split_whole (is_byte c) tail (sym (first_is_position (is_byte c) tail None none)) in
      grind (usual, all, more, within)

  found_at : (n : ℕ) → IsFirstByte (is_byte c) (drop start line) (Some n) → IsFieldAt (Some c) number line
      (record { start = start; end = start + n })
  found_at n found =
      let (range, passes) = found in
      let tail = drop start line in
      let rest = take_all (length tail - (n + 1)) (drop (n + 1) tail) (omega (arith, length-drop (n + 1) tail)) in
      let is = sym (first_is_position (is_byte c) tail (Some n) found) in
      let split = rw rest at (split_around (is_byte c) tail n is) in
      let end = rw (eqb-true (get_or tail n 0) c passes) at (drop_more tail n 0 range.high) in
      let size : start + n - start ≡ n = omega arith in
      grind (arith, size, split, end, drop-drop n start line, prefixed_fields c (drop (n + 1) tail), length-drop)

  pub field_at : (r : Option ℕ) → IsFirst (Passes (is_byte c) line) start (length line) r
      → IsFieldAt (Some c) number line (record { start = start; end = unwrap_or r (length line) })
  field_at None none = last_at (first_of_rest (is_byte c) line start within None none)
  field_at (Some at) first =
      let (range, passes) = first in
      let same : start + (at - start) ≡ at = omega arith in
      rw same at (found_at (at - start) (first_of_rest (is_byte c) line start within (Some at) first))
