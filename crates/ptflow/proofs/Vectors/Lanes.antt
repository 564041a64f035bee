-- Vector operations. Each is a `map` over the lanes, so facts about one byte carry over. A flag of a byte set is one
-- bit of one entry: the low nibble of a byte gives the entry, the high one the table and the bit. Images are looked up
-- in every row of a table; then each step halves the rows, and the lowest bit of a lane's row picks one of two vectors.
use Rattle.ptflow.proofs
use Rattle.ptflow.specs
use Rattle.std.proofs.lemmas
use proofs.Common.{is_byte, usual, ◌≡◌, ℕ, ◌+◌, ◌<◌, ◌≤◌, ◌%◌, Bool, false, List, [], ◌∷◌, ◌++◌, Option, map, take}
use proofs.Common.{drop, length, get_or, replicate, cond, refl, sym, ◌∙◌, ap, arith, w8, Fits, sum_by, zero, suc}
use proofs.Common.{slice_get, option_map, sel_l, zip2, top, Each1, take-add, false≢true, map-append, tops_compared}
use proofs.Common.{zip2_splat, zip2_of_maps, splat_is_map, Each1-from_get_or, stretch_delta, filter, mask_of}
use proofs.Common.{cast_unsigned, true, set, take_more_set, take-set, append-nil, add-one, sum_by-append, sum_by-cons}
use proofs.Common.{range_delta, ◌*◌, ◌/◌, ◌^◌, ◌&&◌, ◌||◌, ltb, eqb, ◌≢◌, ⊎_elim, bit_or, bit_and, cast_signed, bit_at}
use proofs.Common.{from_bool, swz_l, SwzOk, SwzOk-from_below, pick_l, get_or-drop, ◌-◌, map-map, and_mask, lt-ltb}
use proofs.Common.{le-ltb, cases_eq, cases_lt, pow_pos, length-map, set-get_or, get_or-set_same, table_has, set_has}
use proofs.Common.{IsSetOf, All, not, length-set, get_or-chunk, get_or-map, chunk, ext_get_or, get_or_default}
use proofs.Common.{get_or_past, min, rules, is_some}
use specs.declared.simd.shift.ShiftRange.{ShiftRange}
use Rattle.ptlangs.specs.declared.tr.shifts.Stretch.{Stretch}
use lemmas.Nat.Bits.{and_pow, bit_at_set_same, bit_at_set_other}
use Rattle.std.specs.Int.Bits.{or_zero_r}
use specs.declared.simd.byte_set.ByteSet.{ByteSet}
use lemmas.Simd.{Each1-get_or, get_or-sel_l, length-sel_l}
use specs.Private.Vectors.Tables.{image_from, lane_of, HasMoved}
use specs.declared.simd.table.MovedRange.{MovedRange}
pub use lemmas.List.{map-id}
use Rattle.ptlangs.specs.Calls.TrShifts.{shift_at}

-- ---- lanes that are computed from bytes

sel_map : (p : ℕ → Bool) (f g : ℕ → ℕ) (v : List ℕ)
    → sel_l (map p v) (map f v) (map g v) ≡ map (λ b. cond (p b) (f b) (g b)) v
sel_map p f g [] = refl
sel_map p f g (x ∷ xs) = grind (arith, sel_map p f g xs)

pub sel_maps : (p : ℕ → Bool) (f g : ℕ → ℕ) (v : List ℕ) {ms : List Bool} {xs ys : List ℕ} → ms ≡ map p v → xs ≡ map f v
    → ys ≡ map g v → sel_l ms xs ys ≡ map (λ b. cond (p b) (f b) (g b)) v
sel_maps p f g v em ex ey = cc (sel_map p f g v)

pub tests_are : (t : ℕ → ℕ → Bool) (f : ℕ → ℕ) (v : List ℕ) {xs : List ℕ} {n : ℕ} (y : ℕ) → length v ≡ n → xs ≡ map f v
    → map (top 7) (zip2 (λ a b. cond (t a b) 255 0) xs (replicate n y)) ≡ map (λ b. t (f b) y) v
tests_are t f v {xs} {n} y long is = tops_compared w8 t xs _
    ∙ zip2_of_maps t f _ v is (splat_is_map v n y long)

one_tested : (y : ℕ) (v : List ℕ) → map (λ a. cast_signed w8 (cond (eqb a y) 255 0)) v ≡ mask_of (is_byte y) v
one_tested y [] = refl
one_tested y (b ∷ v) = grind (arith, one_tested y v)

-- the lane mask of the bytes that are equal to one
pub compared_with : (y : ℕ) (v : List ℕ) {n : ℕ} → length v ≡ n
    → map (cast_signed w8) (zip2 (λ a b. cond (eqb a b) 255 0) v (replicate n y)) ≡ mask_of (is_byte y) v
compared_with y v {n} long = ap (map (cast_signed w8)) (zip2_splat (λ a b. cond (eqb a b) 255 0) v n y long)
    ∙ map-map (cast_signed w8) _ v ∙ one_tested y v

-- ---- the first bytes are mapped

pub mapped_more : (map_byte : ℕ → ℕ) (at next n : ℕ) (from to new : List ℕ) → next ≡ at + n
    → take at to ≡ map map_byte (take at from) → take (at + n) new ≡ take at to ++ map map_byte (take n (drop at from))
    → take next new ≡ map map_byte (take next from)
mapped_more _ at _ n _ to new is begun more = grind (arith, map-append, take-add)

pub bytes_same : {X : Type 0} (f g : ℕ → X) → ((b : ℕ) → b < 256 → f b ≡ g b) → (v : List ℕ) → Each1 (Fits w8) v
    → map f v ≡ map g v
bytes_same f g same [] fit = refl
bytes_same f g same (b ∷ v) (first, others) = λ i. same b first.fits i ∷ bytes_same f g same v others i

pub filter_same : (p q : ℕ → Bool) → ((b : ℕ) → b < 256 → p b ≡ q b) → (v : List ℕ) → Each1 (Fits w8) v
    → filter p v ≡ filter q v
filter_same p q same [] fit = refl
filter_same p q same (b ∷ v) (first, others) = grind (arith, filter_same p q same v others)

pub bytes_fit : (v : List ℕ) → ((k : ℕ) → Fits w8 (get_or v k 0)) → Each1 (Fits w8) v
bytes_fit v fit = Each1-from_get_or (Fits w8) v 0 (λ k _. fit k)

pub images_same : {X : Type 0} {f g : ℕ → X} (v : List ℕ) → ((b : ℕ) → b < 256 → f b ≡ g b)
    → ((k : ℕ) → Fits w8 (get_or v k 0)) → map f v ≡ map g v
images_same {f = f} {g} v same fit = bytes_same f g same v (bytes_fit v fit)

-- ---- ranges that are shifted

abbrev pub stretch_at : List Stretch → ℕ → Option (ℕ × ℕ × ℕ)
stretch_at ss k = option_map (λ s. (s.first, s.last, s.by)) (slice_get ss k)

-- what all ranges, and all stretches, add to a byte
abbrev pub range_sum : List ShiftRange → ℕ → ℕ
range_sum ranges b = sum_by (λ r. range_delta r b) ranges

abbrev pub stretch_sum : List Stretch → ℕ → ℕ
stretch_sum ss b = sum_by (λ s. shift_at s b) ss

stretch_taken : (ss : List Stretch) (i b : ℕ)
    → stretch_sum (take (suc i) ss) b ≡ stretch_sum (take i ss) b + stretch_delta (stretch_at ss i) b
stretch_taken [] i b = grind usual
stretch_taken (s ∷ ss) zero b = omega arith
stretch_taken (s ∷ ss) (suc i) b = search (rules, stretch_taken ss i b, sum_by-cons)

pub one_stretch_more : (ranges : List ShiftRange) (ss : List Stretch) (i : ℕ) (range : ShiftRange) (b : ℕ)
    → i < length ranges → range_sum (take i ranges) b ≡ stretch_sum (take i ss) b
    → range_delta range b ≡ stretch_delta (stretch_at ss i) b
    → range_sum (take (i + 1) (set ranges i range)) b ≡ stretch_sum (take (i + 1) ss) b
one_stretch_more _ ss i _ b room before is = grind (usual, sum_by-append, add-one, stretch_taken)

pub all_stretches : (n : ℕ) (ss : List Stretch) → is_some (stretch_at ss n) ≡ false → length ss ≤ n
all_stretches n [] none = omega arith
all_stretches zero (s ∷ ss) none = absurd (false≢true (sym none))
all_stretches (suc n) (s ∷ ss) none = grind (arith, all_stretches n ss none)

-- ---- masks of lanes

abbrev pub lanes_of : List Bool → List ℕ
lanes_of flags = map (λ t. cond t 255 0) flags

pub lanes_of_mask : (test : ℕ → Bool) (v : List ℕ) → map (cast_unsigned w8) (mask_of test v) ≡ lanes_of (map test v)
lanes_of_mask _ [] = refl
lanes_of_mask test (b ∷ v) = grind (arith, lanes_of_mask test v)

pub tops_of_lanes : (fs : List Bool) → map (top 7) (lanes_of fs) ≡ fs
tops_of_lanes [] = refl
tops_of_lanes (f ∷ fs) = grind (arith, tops_of_lanes fs)

-- ---- bytes that are stored, and count if their flag is set

pub stored_more : (flag : Bool) (row : List ℕ) (count place : ℕ) → count < length row
    → take (count + cond flag 1 0) (set row count place) ≡ take count row ++ cond flag (place ∷ []) []
stored_more true row count place room = take_more_set row count place room
stored_more _ row _ _ room = grind (arith, take-set, append-nil)

-- ---- a table of 16 entries, indexed by a nibble of each byte

pub shuffle_result : (v : List ℕ) (i : ℕ) (row : List ℕ) → i + length row ≤ 16 → Each1 (λ place. place < 16) row
    → swz_l w8 16 v i row ≡ pick_l 0 v row
shuffle_result v i [] room lanes = refl
shuffle_result v i (j ∷ js) room (low, lanes) = grind (arith, shuffle_result v (suc i) js)

module _ (half : ℕ → ℕ) (small : (b : ℕ) → b < 256 → half b < 16) where
  halves_small : (v : List ℕ) → Each1 (Fits w8) v → Each1 (λ j. j < 16) (map half v)
  halves_small [] fit = tt
  halves_small (b ∷ v) (first, others) = (small b first.fits, halves_small v others)

  module _ {js : List ℕ} (v : List ℕ) (is : js ≡ map half v) (fit : (length v ≡ 16) × Each1 (Fits w8) v) where
    pub nibbles_ok : SwzOk w8 16 16 0 js
    nibbles_ok =
        rw is (SwzOk-from_below w8 16 1 16 0 _ refl (omega (arith, length-map v half))
        (halves_small v fit.1))

    pub looked_up : (table : List ℕ) → swz_l w8 16 table 0 js ≡ map (λ b. get_or table (half b) 0) v
    looked_up _ =
        rw is (shuffle_result _ 0 _ (omega (arith, length-map v half)) (halves_small v fit.1)
        ∙ map-map _ half v)

pub low_nibbles : (v : List ℕ) → length v ≡ 16 → zip2 bit_and v (replicate 16 15) ≡ map (λ b. b % 16) v
low_nibbles v long = zip2_splat bit_and v 16 15 long ∙ (λ i. map (λ b. and_mask b 4 i) v)

abbrev pub bits_in_order : List ℕ
bits_in_order = 1 ∷ 2 ∷ 4 ∷ 8 ∷ 16 ∷ 32 ∷ 64 ∷ 128 ∷ 1 ∷ 2 ∷ 4 ∷ 8 ∷ 16 ∷ 32 ∷ 64 ∷ 128 ∷ []

bit_of : {half : ℕ} → half < 16 → get_or bits_in_order half 0 ≡ 2 ^ (half % 8)
bit_of {half} small = grind arith

all_or_none : (row k : ℕ) → eqb (bit_and row (2 ^ k)) (2 ^ k) ≡ eqb (bit_at row k) 1
all_or_none row k = grind (arith, and_pow, pow_pos)

pub tested : (set : ByteSet) (v : List ℕ) {low high bit : List ℕ} → length v ≡ 16 → Each1 (Fits w8) v
    → low ≡ map (λ b. get_or set.low (b % 16) 0) v → high ≡ map (λ b. get_or set.high (b % 16) 0) v
    → bit ≡ map (λ b. get_or bits_in_order (b / 16) 0) v
    → map (cast_signed w8) (zip2 (λ a b. cond (eqb a b) 255 0)
    (zip2 bit_and (sel_l (map (top 7) (zip2 (λ a b. cond (ltb a b) 255 0) v (replicate 16 128))) low high) bit) bit)
    ≡ mask_of (set_has set) v
tested set v long fit el eh eb =
    let rows = sel_maps _ _ _ v (tests_are ltb _ v 128 long (sym (map-id v))) el eh in
    ap (map (cast_signed w8)) (zip2_of_maps (λ a b. cond (eqb a b) 255 0) _ _ v (zip2_of_maps bit_and _ _ v rows eb) eb)
    ∙ map-map (cast_signed w8) _ v
    ∙ bytes_same _ _ (λ b byte. grind (arith, bit_of, all_or_none)) v fit

-- ---- a table that is filled flag by flag

-- sets the bit of byte n if x is 1
abbrev pub flags_set : List ℕ → ℕ → ℕ → List ℕ
flags_set table n x = set table (n % 16) (bit_or (get_or table (n % 16) 0) (x * 2 ^ (n / 16) % 256))

module _ (table : List ℕ) {n : ℕ} (long : length table ≡ 16) (within : n < 128) where
  same_bit : n / 16 % 8 ≡ n / 16
  same_bit = omega arith

  abbrev old : ℕ
  old = get_or table (n % 16) 0

  abbrev put : ℕ
  put = bit_or old (1 * 2 ^ (n / 16) % 256)

  set_there : {b : ℕ} → b < 128 → b ≢ n → table_has (flags_set table n 1) b ≡ table_has table b
  set_there {b} byte other = grind (
    usual,
    cases_eq (b % 16) (n % 16),
    get_or-set_same table (n % 16) put 0 (omega arith),
    bit_at_set_other w8 old (n / 16) (omega arith) (b / 16 % 8),
  )

  filled_is : (flag : Bool) {b : ℕ} → b < 128
      → table_has (flags_set table n (from_bool flag)) b
      ≡ cond (eqb b n) (flag || table_has table n) (table_has table b)
  filled_is true {b} byte = grind (
    arith,
    set_there,
    get_or-set_same table (n % 16) put 0 (omega arith),
    same_bit,
    bit_at_set_same w8 old (n / 16) (omega arith),
  )
  filled_is false {b} byte = grind (arith, or_zero_r, set-get_or)

-- the table has the flags of the first n bytes
pub record HasFlags (n : ℕ) (table : List ℕ) (flags : List Bool) : Type 0 where
  pub long : length table ≡ 16
  pub at : (b : ℕ) → b < 128 → table_has table b ≡ (ltb b n && get_or flags b false)

pub one_more_flag : {n : ℕ} {table : List ℕ} {flags : List Bool} {x : ℕ} → HasFlags n table flags → n < 128
    → x ≡ from_bool (get_or flags n false) → HasFlags (n + 1) (flags_set table n x) flags
one_more_flag has within is =
    let long = has.long in record { long = simp length-set long; at = λ b byte. grind (arith, filled_is, has.at) }

-- ---- a set of two tables, for the bytes below 128 and for the others

pub set_of_nibbles : (set : ByteSet) (flags : List Bool) (n : ℕ) → 128 ≤ n → HasFlags n set.low flags
    → HasFlags n set.high (drop 128 flags) → IsSetOf set flags
set_of_nibbles set flags n all low high b byte = ⊎_elim
    (λ less. cc (lt-ltb b 128 less, low.at b less, lt-ltb b n (omega arith)))
    (λ more.
    let entry : b % 16 ≡ (b - 128) % 16 = omega arith in
    let bit : b / 16 % 8 ≡ (b - 128) / 16 % 8 = omega arith in
    let place : 128 + (b - 128) ≡ b = omega arith in
    cc (
      le-ltb b 128 more,
      high.at (b - 128) (omega arith),
      lt-ltb (b - 128) n (omega arith),
      get_or-drop 128 flags (b - 128) false,
    )) (cases_lt b 128)

-- ---- tables of images

-- the first `index` of `n` vectors are those of a function
pub record IsFilledTo (n : ℕ) (f : ℕ → List ℕ) (index : ℕ) (kept : List (List ℕ)) : Type 0 where
  pub long : length kept ≡ n
  pub lanes : All (λ v. length v ≡ 16) kept
  pub made : (i : ℕ) → i < index → get_or kept i [] ≡ f i

pub filled_next : {n : ℕ} {f : ℕ → List ℕ} {index : ℕ} {kept : List (List ℕ)} {v : List ℕ} → IsFilledTo n f index kept
    → index < n → v ≡ f index → length (f index) ≡ 16 → IsFilledTo n f (index + 1) (set kept index v)
filled_next {f = f} {index} {kept} {v} filled room is size = grind (usual, length-set, get_or-set_same, cases_eq)

module _ (rows : List ℕ) (found : List (List ℕ)) (count : ℕ) where
  abbrev pub odd : ℕ → ℕ
  odd i = min (2 * i + 1) (count - 1)

  -- the lanes of the second of two vectors where the row is odd
  abbrev pub halved : ℕ → List ℕ
  halved i = sel_l (map (λ row. not (eqb (bit_and row 1) 0)) rows) (get_or found (odd i) []) (get_or found (2 * i) [])

  module _ (long : length rows ≡ 16) (lanes : All (λ v. length v ≡ 16) found) (few : count ≤ length found) where
    bits_long : length (map (λ row. not (eqb (bit_and row 1) 0)) rows) ≡ 16
    bits_long = length-map rows (λ row. not (eqb (bit_and row 1) 0)) ∙ long

    pub halved_next : {n i second : ℕ} {kept : List (List ℕ)} → IsFilledTo n halved i kept → i < n → 2 * i < count
        → second ≡ odd i → IsFilledTo n halved (i + 1) (set kept i
        (sel_l (map (top 7) (zip2 (λ a b. cond (not (eqb a b)) 255 0) (zip2 bit_and rows (replicate 16 1))
        (replicate 16 0))) (get_or found second []) (get_or found (2 * i) [])))
    halved_next filled room within is =
        let bits = tests_are (λ a b. not (eqb a b)) _ rows 0 long (zip2_splat bit_and rows 16 1 long) in
        filled_next filled room (cc is) (grind (arith, length-sel_l, bits_long))

    pub halved_lane : (lane : ℕ) → lane < 16 → get_or rows lane 0 < count
        → get_or (halved (get_or rows lane 0 / 2)) lane 0 ≡ lane_of found rows lane
    halved_lane lane low within =
        let row = get_or rows lane 0 in
        let bit = and_mask row 1 in
        let b = lanes (odd (row / 2)) [] (omega arith) in
        grind (arith, get_or-sel_l, get_or-map, bits_long)

-- ---- the images of 16 bytes

module _ (first n : ℕ) (table : List (List ℕ)) (within : first + 16 * n ≤ 256) (size : length table ≡ n)
    (lanes : All (λ row. length row ≡ 16) table)
  where
    pub image_is : {moved : MovedRange} {images : List ℕ} → HasMoved moved images → first ≤ moved.first
        → moved.last < first + 16 * n → ((i : ℕ) → i < n → get_or table i [] ≡ chunk (first + 16 * i) 16 images)
        → length images ≡ 256 → (b : ℕ) → b < 256 → image_from first table b ≡ get_or images b 0
    image_is {images} has low high made long b byte =
        let i = (b - first) / 16 in
        grind (
          arith,
          made i,
          get_or-chunk (first + 16 * i) 16 images ((b - first) % 16) b,
          get_or_default images b b 0,
          get_or_past table i [],
          has.others b byte,
        )

    abbrev pub offset : ℕ → ℕ
    offset b = (b + (256 - first)) % 256

    module _ (v : List ℕ) (long : length v ≡ 16) (fit : Each1 (Fits w8) v) {offsets rows : List ℕ} (found : List ℕ)
        (found_in_rows : List (List ℕ)) (offsets_are : offsets ≡ map offset v)
        (rows_are : rows ≡ map (λ b. offset b / 16) v)
        (looked_up : (row : ℕ) → row < n
        → get_or found_in_rows row [] ≡ map (λ o. get_or (get_or table row []) (o % 16) 0) offsets)
        (size_of_found : length found ≡ 16)
        (selected : (lane : ℕ) → lane < 16 → get_or rows lane 0 < n
        → get_or found lane 0 ≡ lane_of found_in_rows rows lane)
      where
        lane_is : (lane : ℕ) → lane < 16 → let b = get_or v lane 0 in
            cond (ltb (offset b / 16) n) (get_or found lane 0) b ≡ image_from first table b
        lane_is lane low =
            let byte = (Each1-get_or (Fits w8) v lane 0 (omega arith) fit).fits in
            let is : get_or offsets lane 0 ≡ offset (get_or v lane 0) = grind (arith, get_or-map) in
            grind (arith, length-map, get_or-map, get_or_default, get_or_past)

        pub images_of : {flags : List Bool} → flags ≡ map (λ b. ltb (offset b / 16) n) v
            → sel_l flags found v ≡ map (image_from first table) v
        images_of {flags} flags_are =
            let flags_long : length flags ≡ 16 = grind (arith, length-map) in
            let sizes = length-sel_l flags found v (omega arith) (omega arith) in
            ext_get_or 0 _ _ (grind (arith, length-map))
            (λ lane low. grind (arith, get_or-sel_l, get_or-map, lane_is lane (omega arith)))
