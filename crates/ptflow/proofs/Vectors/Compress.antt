-- Compression: a row has the indices of the set flags of a mask, in order, so a shuffle by it moves the selected lanes
-- to the front. A mask of 16 flags is two halves. Then filters: a byte is kept or removed by itself and the byte that
-- it is compared with, so a text can be processed in pieces.
use Rattle.ptflow.proofs
use proofs.Common.{usual, ◌≡◌, ℕ, zero, suc, ◌+◌, ◌*◌, ◌^◌, ◌/◌, ◌%◌, ◌<◌, ◌≤◌, Bool, true, false, cond, List, [], ◌∷◌}
use proofs.Common.{◌++◌, map, length, take, drop, set, get_or, length-drop, drop-cons, append_assoc, add-one}
use proofs.Common.{length-append, refl, ap, arith, w8, All, nat_eq, range_with_len, mask_l, put_chunk, chunk, pick_l}
use proofs.Common.{Each1, take_more_put_chunk, bit_mask_l, mask_l-lt, Each1-from_get_or, swz_l, pick_l-range_with_len}
use proofs.Common.{take-map, take-append-le, drop-append-le, length-take-le, take-append-add, length-range_with_len}
use proofs.Common.{get_or-range_with_len, and_numeral, not, eqb, filter, append-nil, take-append-drop, take-add, zip2}
use proofs.Common.{drop-drop, drop_all, length-chunk, length-zip2, bit_and, keep_flags, kept_bytes, FilterPre, bit_or}
use proofs.Common.{rules, slice_index_or, sym, ◌∙◌, ◌-◌, take_all, take-take, drop-take, copied_prefix, mask_append}
use proofs.Common.{le_or_l, le_or_r, IsCompressTable, IsCompressRow, select_by}
pub use proofs.Vectors.Lanes.{shuffle_result}

-- ---- items that are selected by flags

few_selected : {X : Type 0} (flags : List Bool) (xs : List X) → length (select_by flags xs) ≤ length flags
few_selected [] xs = omega arith
few_selected _ [] = omega arith
few_selected (flag ∷ flags) (x ∷ xs) = grind (arith, few_selected flags xs)

map-select_by : {X Y : Type 0} (f : X → Y) (flags : List Bool) (xs : List X)
    → map f (select_by flags xs) ≡ select_by flags (map f xs)
map-select_by f [] xs = refl
map-select_by f (flag ∷ flags) [] = refl
map-select_by f (true ∷ flags) (x ∷ xs) = ap (◌∷◌ (f x)) (map-select_by f flags xs)
map-select_by f (false ∷ flags) (x ∷ xs) = map-select_by f flags xs

pub select_by_prefix : {X : Type 0} (flags : List Bool) (xs : List X)
    → select_by flags (take (length flags) xs) ≡ select_by flags xs
select_by_prefix [] xs = refl
select_by_prefix _ [] = refl
select_by_prefix (flag ∷ flags) (x ∷ xs) = cc (select_by_prefix flags xs)

pub select_by_append : {X : Type 0} (front back : List Bool) (xs : List X)
    → select_by (front ++ back) xs ≡ select_by front xs ++ select_by back (drop (length front) xs)
select_by_append [] back xs = refl
select_by_append (flag ∷ front) [] [] = refl
select_by_append (flag ∷ front) (other ∷ back) [] = refl
select_by_append (true ∷ front) back (x ∷ xs) = ap (◌∷◌ x) (select_by_append front back xs)
select_by_append (false ∷ front) back (x ∷ xs) = select_by_append front back xs

pub all_selected : {X : Type 0} (flags : List Bool) (xs : List X) → length xs ≡ length flags
    → mask_l flags + 1 ≡ 2 ^ length flags → select_by flags xs ≡ xs
all_selected [] [] same all = refl
all_selected [] (x ∷ xs) same all = absurd (omega arith)
all_selected _ [] same all = absurd (omega arith)
all_selected (flag ∷ flags) (x ∷ xs) same all = grind (arith, all_selected flags xs)

pub all_but_one : {X : Type 0} (flags : List Bool) (xs : List X) (k : ℕ) → length xs ≡ length flags
    → k < length flags → mask_l flags + 2 ^ k + 1 ≡ 2 ^ length flags
    → select_by flags xs ≡ take k xs ++ drop (k + 1) xs
all_but_one [] xs k same within but_one = absurd (omega arith)
all_but_one _ [] k same within but_one = absurd (omega arith)
all_but_one (flag ∷ flags) (x ∷ xs) zero same within but_one = grind (arith, all_selected flags xs)
all_but_one (flag ∷ flags) (x ∷ xs) (suc k) same within but_one = grind (arith, all_but_one flags xs k)

-- a chunk was stored after the first `count` bytes, and then again what follows one byte of it
pub stored_again : (at count k : ℕ) (from into once twice : List ℕ) → k < 64 → count ≤ length into
    → count + k ≤ length once → take (count + 64) once ≡ take count into ++ chunk at 64 from
    → take (count + k + 64) twice ≡ take (count + k) once ++ chunk (at + k + 1) 64 from
    → take (count + 63) twice ≡ take count into ++ (take k (chunk at 64 from) ++ drop (k + 1) (chunk at 64 from))
stored_again at count k from into once twice low room room_once is_once is_twice =
    let n = 63 - k in
    let all : k + 1 + n ≡ 64 = omega arith in
    let size : count + k + n ≡ count + 63 = omega arith in
    let after : at + (k + 1) ≡ at + k + 1 = omega arith in
    cc (
      copied_prefix count k 64 into once (drop at from) room (omega arith) is_once,
      copied_prefix (count + k) n 64 once twice (drop (at + k + 1) from) room_once (omega arith) is_twice,
      take-take k 64 (drop at from) (omega arith),
      drop-take (k + 1) n (drop at from),
      drop-drop (k + 1) at from,
      append_assoc (take count into) (take k (chunk at 64 from)) (drop (k + 1) (chunk at 64 from)),
    )

-- ---- the mask of flags

abbrev pub flags_of : ℕ → ℕ → List Bool
flags_of zero m = []
flags_of (suc n) m = nat_eq (m % 2) 1 ∷ flags_of n (m / 2)

pub length-flags_of : (n m : ℕ) → length (flags_of n m) ≡ n
length-flags_of zero m = refl
length-flags_of (suc n) m = ap suc (length-flags_of n (m / 2))

pub mask_of_flags : (n m : ℕ) → m < 2 ^ n → mask_l (flags_of n m) ≡ m
mask_of_flags zero m low = omega arith
mask_of_flags (suc n) m low = grind (arith, mask_of_flags n (m / 2))

pub row_lanes : (row : List ℕ) → All (λ index. index < 16) row → Each1 (λ index. index < 16) row
row_lanes row lanes = Each1-from_get_or (λ index. index < 16) row 0 (λ i low. lanes i 0 low)

pub row_of_mask : (rows : List (List ℕ)) (mask : ℕ) → IsCompressTable rows → mask < 256
    → IsCompressRow (flags_of 8 mask) (slice_index_or rows mask [])
row_of_mask rows mask packing low = rw (mask_of_flags 8 _ low) at (packing (flags_of 8 mask) (length-flags_of 8 mask))

pub few_in_row : (flags : List Bool) (row : List ℕ) → IsCompressRow flags row → get_or row 15 0 ≤ length flags
few_in_row flags row is = omega (arith, is.count, few_selected flags (range_with_len 0 (length flags)))

pub row_selects : (flags : List Bool) (row v : List ℕ) → length v ≡ 16 → length flags ≡ 8 → IsCompressRow flags row
    → take (get_or row 15 0) (swz_l w8 16 v 0 row) ≡ select_by flags v
row_selects _ row v wide long is =
    grind (
      arith,
      length-range_with_len,
      shuffle_result,
      row_lanes,
      take-map,
      map-select_by,
      pick_l-range_with_len,
      select_by_prefix,
    )

pub selected_stored : (at n : ℕ) (into lanes : List ℕ) → length lanes ≡ 16 → n ≤ 16 → at + 16 ≤ length into
    → take (at + n) (put_chunk at into lanes) ≡ take at into ++ take n lanes
selected_stored at n into lanes long few room =
    grind (usual, take_more_put_chunk at into lanes (at + 16), take-append-add (take at into) lanes n)

-- ---- the row of a mask, index by index

-- the indices below `place` were tested, and `count` of them written to the row
pub record RowPrefix (mask place count : ℕ) (row : List ℕ) : Type 0 where
  pub behind : count ≤ place
  pub lanes : All (λ p. p < 16) row
  pub long : length row ≡ 16
  pub indices : (flags : List Bool) → length flags ≡ 8 → mask ≡ mask_l flags
      → take count row ≡ select_by (take place flags) (range_with_len 0 8)

next_place : (flags : List Bool) {place : ℕ} → length flags ≡ 8 → place < 8
    → select_by (take (place + 1) flags) (range_with_len 0 8) ≡ select_by (take place flags) (range_with_len 0 8)
    ++ cond (get_or flags place false) (place ∷ []) []
next_place flags {place} long low =
    let indices = range_with_len 0 8 in
    let here : 0 + place ≡ place = omega arith in
    let behind : drop (length (take place flags)) indices ≡ place ∷ drop (place + 1) indices =
    cc (
      length-take-le place flags (omega arith),
      drop-cons indices place 0 (omega arith),
      get_or-range_with_len 0 8 _ 0 low,
      add-one place,
    ) in
    grind (usual, select_by_append)

pub row_next : {mask place count bit : ℕ} {row : List ℕ} → place < 8 → bit ≡ mask / 2 ^ place % 2
    → RowPrefix mask place count row → RowPrefix mask (place + 1) (count + bit) (set row count place)
row_next {place} {count} {row} low is begun = grind (usual, bit_mask_l, next_place)

pub row_complete : {mask count : ℕ} {row : List ℕ} {flags : List Bool} → length flags ≡ 8 → mask ≡ mask_l flags
    → RowPrefix mask 8 count row → IsCompressRow flags (set row 15 count)
row_complete {count} {row} {flags} long masked begun =
    let all =
    begun.indices flags long masked
    ∙ (λ i. select_by (take_all 8 flags (omega arith) i) (range_with_len 0 (sym long i))) in
    grind (usual, all)

pub ruleset row_steps = (row_next, row_complete)

-- ---- the halves of a mask and of lanes

pub mask_below : (flags : List Bool) → length flags ≡ 8 → mask_l flags < 256
mask_below flags long = rw long at (mask_l-lt flags)

module _ (flags : List Bool) (long : length flags ≡ 16) where
  pub front_long : length (take 8 flags) ≡ 8
  front_long = length-take-le 8 flags (omega (arith, long))

  pub back_long : length (drop 8 flags) ≡ 8
  back_long = omega (arith, length-drop 8 flags, long)

  halves : mask_l flags ≡ mask_l (take 8 flags) + 256 * mask_l (drop 8 flags)
  halves = cc (mask_append (take 8 flags) (drop 8 flags), take-append-drop 8 flags, front_long)

  pub low_half : {keep : ℕ} → keep ≡ mask_l flags → bit_and keep 255 ≡ mask_l (take 8 flags)
  low_half is = omega (arith, and_numeral, halves, mask_below _ front_long)

  pub high_half : {keep : ℕ} → keep ≡ mask_l flags → bit_and (keep / 256) 255 ≡ mask_l (drop 8 flags)
  high_half is = omega (arith, and_numeral, halves, mask_below _ front_long, mask_below _ back_long)

  -- what is selected of the first eight lanes, and, after a rotation, of the last eight
  pub select_by_halves : (before v : List ℕ) → length v ≡ 16
      → (before ++ select_by (take 8 flags) v)
      ++ select_by (drop 8 flags) (pick_l 0 (v ++ v) (range_with_len 8 8 ++ range_with_len 0 8))
      ≡ before ++ select_by flags v
  select_by_halves before v lanes =
      let back = drop 8 flags in
      let turned = pick_l 0 (v ++ v) (range_with_len 8 8 ++ range_with_len 0 8) in
      cc (
        pick_l-range_with_len 0 (v ++ v) 8 8 (omega (arith, length-append v v)),
        select_by_prefix back turned,
        drop-append-le 8 v v (omega (arith, lanes)),
        take-append-le 8 (drop 8 v) v (omega (arith, length-drop 8 v, lanes)),
        select_by_prefix back (drop 8 v),
        select_by_append (take 8 flags) back v,
        take-append-drop 8 flags,
        append_assoc before (select_by (take 8 flags) v) (select_by back (drop 8 v)),
        front_long,
        back_long,
      )

-- ---- bytes that a filter keeps

pub chunk_parts : (at n m : ℕ) (from : List ℕ) → chunk at (n + m) from ≡ chunk at n from ++ chunk (at + n) m from
chunk_parts at n m _ = simp (take-add, drop-drop)

-- what is made of two parts is made of four
pub in_four : {X : Type 0} (f : ℕ → ℕ → List X) (most : ℕ)
    → ((at n m : ℕ) → at + n + m ≤ most → f at (n + m) ≡ f at n ++ f (at + n) m) → (at : ℕ) → at + 64 ≤ most
    → f at 64 ≡ ((f at 16 ++ f (at + 16) 16) ++ f (at + 32) 16) ++ f (at + 48) 16
in_four f _ two at room = cc (two at 48 16 (omega arith), two at 32 16 (omega arith), two at 16 16 (omega arith))

module _ (f : ℕ → ℕ → Bool) (before bytes : List ℕ) (paired : length bytes ≤ length before) where
  pub pairs_long : (at n : ℕ) → at + n ≤ length bytes → length (zip2 f (chunk at n before) (chunk at n bytes)) ≡ n
  pairs_long at n room = search (rules, length-zip2, length-chunk)

none_set : {a b c d : ℕ} → bit_or (bit_or (bit_or a b) c) d ≡ 0 → (a ≡ 0) × (b ≡ 0) × (c ≡ 0) × (d ≡ 0)
none_set {a} {b} {c} {d} none = omega (arith, le_or_l, le_or_r)

module _ (test : ℕ → Bool) where
  kept_nil : (before : List ℕ) → kept_bytes test before [] ≡ []
  kept_nil [] = refl
  kept_nil _ = refl

  pub parts_append : (xs ys before bytes : List ℕ) → length xs ≡ length ys
      → (kept_bytes test (xs ++ before) (ys ++ bytes) ≡ kept_bytes test xs ys ++ kept_bytes test before bytes)
      × (keep_flags test (xs ++ before) (ys ++ bytes) ≡ keep_flags test xs ys ++ keep_flags test before bytes)
  parts_append [] [] before bytes same = (refl, refl)
  parts_append [] (y ∷ ys) before bytes same = absurd (omega arith)
  parts_append _ [] before bytes same = absurd (omega arith)
  parts_append (x ∷ xs) (y ∷ ys) before bytes same = grind (arith, parts_append xs ys before bytes)

  pub select_kept : (before bytes : List ℕ)
      → select_by (keep_flags test before bytes) bytes ≡ kept_bytes test before bytes
  select_kept [] bytes = refl
  select_kept (a ∷ before) [] = refl
  select_kept (a ∷ before) (b ∷ bytes) = grind (arith, select_kept before bytes)

  pub kept_self : (bytes : List ℕ) → kept_bytes test bytes bytes ≡ filter (λ b. not (test b)) bytes
  kept_self [] = refl
  kept_self (b ∷ bytes) = grind (arith, kept_self bytes)

  all_kept : (before bytes : List ℕ) → length before ≡ length bytes → mask_l (zip2 eqb before bytes) ≡ 0
      → kept_bytes test before bytes ≡ bytes
  all_kept [] [] same none = refl
  all_kept [] (b ∷ bytes) same none = absurd (omega arith)
  all_kept _ [] same none = absurd (omega arith)
  all_kept (a ∷ before) (b ∷ bytes) same none = grind (arith, all_kept before bytes)

  module _ (before bytes : List ℕ) where
    abbrev pub kept_at : ℕ → ℕ → List ℕ
    kept_at at n = kept_bytes test (chunk at n before) (chunk at n bytes)

    -- The bytes that were stored, and then those that are kept of the rest, are the whole.
    pub record FilterInvariant (into : List ℕ) (at count : ℕ) (whole : List ℕ) : Type 0 where
      pub is : take count into ++ kept_bytes test (drop at before) (drop at bytes) ≡ whole
      pub pre : FilterPre bytes at count

    module _ (paired : length bytes ≤ length before) where
      same_length : (at n : ℕ) → at + n ≤ length bytes → length (chunk at n before) ≡ length (chunk at n bytes)
      same_length at n room = omega (arith, length-chunk)

      kept_two : (at n m : ℕ) → at + n + m ≤ length bytes → kept_at at (n + m) ≡ kept_at at n ++ kept_at (at + n) m
      kept_two at n m room = grind (arith, chunk_parts, parts_append, same_length)

      -- which bytes of a vector are equal to what they are compared with
      abbrev pub equal_at : ℕ → List Bool
      equal_at k = zip2 eqb (chunk k 16 before) (chunk k 16 bytes)

      -- a vector is kept whole if none is
      kept_none : (k : ℕ) → k + 16 ≤ length bytes → mask_l (equal_at k) ≡ 0 → kept_at k 16 ≡ chunk k 16 bytes
      kept_none k room = all_kept _ _ (same_length k 16 room)

      module _ (at : ℕ) (room : at + 64 ≤ length bytes) where
        pub kept_in_four : (t : List ℕ) {a b c d : List ℕ} → a ≡ t ++ kept_at at 16 → b ≡ a ++ kept_at (at + 16) 16
            → c ≡ b ++ kept_at (at + 32) 16 → d ≡ c ++ kept_at (at + 48) 16 → d ≡ t ++ kept_at at 64
        kept_in_four t ea eb ec ed = grind (arith, append_assoc, (in_four kept_at (length bytes) kept_two at room))

        pub none_equal_in_four : bit_or (bit_or (bit_or (mask_l (equal_at at)) (mask_l (equal_at (at + 16))))
            (mask_l (equal_at (at + 32)))) (mask_l (equal_at (at + 48))) ≡ 0 → kept_at at 64 ≡ chunk at 64 bytes
        none_equal_in_four none =
            let (a, b, c, d) = none_set none in
            cc (
              kept_none at (omega arith) a,
              kept_none (at + 16) (omega arith) b,
              kept_none (at + 32) (omega arith) c,
              kept_none (at + 48) (omega arith) d,
              in_four kept_at (length bytes) kept_two at room,
              in_four (λ k n. chunk k n bytes) (length bytes) (λ k n m low. chunk_parts k n m bytes) at room,
            )

module _ {test : ℕ → Bool} {before bytes into : List ℕ} {at count : ℕ} {whole : List ℕ}
    (k : FilterInvariant test before bytes into at count whole) where
  pub filter_done : length bytes ≤ at → take count into ≡ whole
  filter_done past = grind (arith, append-nil, drop_all, kept_nil)

  pub filter_piece : length bytes ≤ length before → (n : ℕ) → {into' : List ℕ} {count' : ℕ} → at + n ≤ length bytes
      → count' ≤ count + n → take count' into' ≡ take count into ++ kept_at test before bytes at n
      → FilterInvariant test before bytes into' (at + n) count' whole
  filter_piece paired n room few stored = record {
    is =
        let rest = drop (at + n) bytes in
        cc (
          append_assoc (take count into) (kept_at test before bytes at n) (kept_bytes test (drop (at + n) before) rest),
          take-append-drop n (drop at before),
          take-append-drop n (drop at bytes),
          drop-drop n at before,
          drop-drop n at bytes,
          (parts_append test _ _ _ _ (same_length test before bytes paired at n room)).0,
        );
    pre = record { within = room; room = omega arith };
  }
