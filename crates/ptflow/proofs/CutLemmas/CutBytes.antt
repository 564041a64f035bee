-- The output of `cut` by bytes. First what intervals select: slices, one after another. Then the output for the rest of
-- a text, which depends only on the line offset: for a line, a piece of one, or 64 empty lines. Last byte shuffles,
-- which copy the selected bytes of a line piece by piece.
use Rattle.ptflow.proofs
use Rattle.ptflow.specs
use proofs.Common.{drop_all, ◌≡◌, ℕ, ◌+◌, ◌-◌, ◌≤◌, ◌^◌, Bool, false, List, [], ◌∷◌, ◌++◌, map, length, take, drop}
use proofs.Common.{Some, refl, ap, arith, append_assoc, usual, flat_map, mask_l, chunk, length-chunk, chunk-drop}
use proofs.Common.{IsFirstByte, is_byte, unlines, lines, IsLine, complete_lines, lines_cons, byte_ne, lines_of_unlines}
use proofs.Common.{line_before_terminator, select_from, cut_line, cut, cut_decided, cut_list_from, IsPrefix, Cut}
use proofs.Common.{Interval, CutPost, selected_bytes, is_selected, zero, suc, ◌<◌, set, ◌&&◌, get_or, length-append}
use proofs.Common.{sym, ◌∙◌, w8, All, nat_le, range_with_len, take-add, swz_l, pick_l-range_with_len, take-map}
use proofs.Common.{take-take, take-append-le, take_all, length-take-le, append-nil, length-range_with_len, cases_eq}
use proofs.Common.{put_chunk, length-drop, length-swz_l, slice_get, min, drop_more, AreSeparated, ⊎_elim, cases_lt}
use proofs.Common.{length-set, selected_indices, selected_after, IsPieceShuffle, length-take}
use specs.declared.tools.cut.bytes.Line.{Line}
use proofs.Passes.Exits.{split_of, LineSplit, line_split}
use proofs.Vectors.Lanes.{stored_more}
use mir.Val.{bool_byte}
use specs.declared.tools.cut.shuffle.PieceShuffle.{PieceShuffle}
use proofs.Vectors.Compress.{row_lanes, selected_stored, shuffle_result}
use Rattle.std.proofs.lemmas.Slice.{between_is}
use lib.Seq.{take-nil}
use specs.Private.Cut.CutFrom.{ExtendsCut, cut_bytes_from, cut_lines_from}

-- ---- what intervals select: each a slice, and one after another, since they are disjoint and ascend

abbrev pub is_within : Interval → ℕ → Bool
is_within r n = nat_le r.first n && nat_le n r.last

below : (r : Interval) (n : ℕ) → n < r.first → is_within r n ≡ false
below r n low = grind arith

pub above : (r : Interval) (n : ℕ) → r.last < n → is_within r n ≡ false
above r n high = grind arith

pub not_selected : (rs : List Interval) (low n : ℕ) → AreSeparated low rs → n ≤ low → is_selected rs n ≡ false
not_selected [] low n apart out = refl
not_selected (r ∷ rs) low n apart out = grind (arith, not_selected rs _ n apart.2 (omega arith), below, apart)

pub select_none : {X : Type 0} (test : ℕ → Bool) (n : ℕ) (xs : List X)
    → ((k : ℕ) → n ≤ k → k < n + length xs → test k ≡ false) → select_from test n xs ≡ []
select_none _ n [] out = refl
select_none test n (x ∷ xs) out = grind (arith, select_none test (n + 1) xs (grind arith))

pub select_first : {X : Type 0} (r : Interval) (rs : List Interval) (n : ℕ) (xs : List X) → AreSeparated (r.last + 1) rs
    → select_from (is_selected (r ∷ rs)) n xs ≡ select_from (is_within r) n xs ++ select_from (is_selected rs) n xs
select_first r rs n [] apart = refl
select_first r rs n (x ∷ xs) apart =
    let more = select_first r rs (n + 1) xs apart in
    ⊎_elim
    (λ high. cc (above r n high, more, select_none (is_within r) (n + 1) xs (λ k from to. above r k (omega arith))))
    (λ low. grind (arith, not_selected rs (r.last + 1) n apart (omega arith))) (cases_lt r.last n)

pub select_skip : {X : Type 0} (test : ℕ → Bool) (n count : ℕ) (xs : List X)
    → ((k : ℕ) → n ≤ k → k < n + count → test k ≡ false)
    → select_from test n xs ≡ select_from test (n + count) (drop count xs)
select_skip test n zero xs out = grind arith
select_skip _ n _ [] out = refl
select_skip test n (suc count) (x ∷ xs) out = grind (arith, select_skip test (n + 1) count xs (grind arith))

pub select_slice : {X : Type 0} (r : Interval) (n : ℕ) (xs : List X) (i j : ℕ) → i ≡ r.first - n → j ≡ r.last + 1 - n
    → select_from (is_within r) n xs ≡ take (j - i) (drop i xs)
select_slice r n [] i j is js = grind (arith, take-nil, drop_all)
select_slice r n (x ∷ xs) i zero is js = grind (arith, select_none)
select_slice r n (x ∷ xs) zero (suc j) is js =
    grind (usual, select_slice r (n + 1) xs zero j (omega arith) (omega arith))
select_slice r n (x ∷ xs) (suc i) (suc j) is js = grind (arith, select_slice r (n + 1) xs i j)

pub rest_of : (from to : ℕ) (bytes : List ℕ) → drop from (take to bytes) ≡ take (to - from) (drop from bytes)
rest_of from to bytes = sym (between_is bytes from to)

-- an interval that reaches the end of the piece
rest_is : (r : Interval) (before count : ℕ) (bytes : List ℕ) → count ≤ length bytes → before + count ≤ r.last
    → let from = min (r.first - (before + 1)) count in
    take (count - from) (drop from bytes) ≡ select_from (is_within r) (before + 1) (take count bytes)
rest_is r _ _ _ within reaches = grind (usual, select_slice, rest_of)

-- The invariant of `copy_selected`: the intervals from `i` on are left. What was copied is not longer than the part of
-- the piece before them.
pub record CopyInvariant (all : List Interval) (i before : ℕ) (piece was is : List ℕ) (start at : ℕ) : Type 0 where
  pub front : is ++ select_from (is_selected (drop i all)) (before + 1) piece ≡ was
      ++ select_from (is_selected all) (before + 1) piece
  pub low : ℕ
  pub apart : AreSeparated low (drop i all)
  pub near : at ≤ start + (low - (before + 1))
  pub within : at ≤ start + length piece

module _ {all : List Interval} {before count : ℕ} (bytes : List ℕ) {was : List ℕ} {start : ℕ}
    (in_bytes : count ≤ length bytes) {i : ℕ} {is : List ℕ} {at : ℕ}
    (k : CopyInvariant all i before (take count bytes) was is start at) where
  abbrev piece : List ℕ
  piece = take count bytes

  module _ (within : i < length all) where
    abbrev r : Interval
    r = get_or all i (record { first = 0; last = 0 })

    abbrev rs : List Interval
    rs = drop (i + 1) all

    apart : AreSeparated k.low (r ∷ rs)
    apart = grind (arith, drop_more)

    next : (is ++ select_from (is_within r) (before + 1) piece) ++ select_from (is_selected rs) (before + 1) piece
        ≡ was ++ select_from (is_selected all) (before + 1) piece
    next = grind (usual, select_first)

    pub copied_none : r.last ≤ before → CopyInvariant all (i + 1) before piece was is start at
    copied_none passed =
        let none = select_none (is_within r) (before + 1) piece (λ n from to. above r n (omega arith)) in
        grind (arith, next, apart, append-nil)

    module _ (is' : List ℕ) where
      pub copied_ends : {from : ℕ} → from ≡ min (r.first - (before + 1)) count → before + count ≤ r.last
          → is' ≡ is ++ take (count - from) (drop from bytes)
          → is' ≡ was ++ select_from (is_selected all) (before + 1) piece
      copied_ends {from} from_is reaches copied =
          grind (arith, rest_is, select_none, not_selected, apart, append-nil, next, length-take-le _ bytes in_bytes)

      pub copied_more : {from to : ℕ} → from ≡ r.first - (before + 1) → to ≡ r.last - before → r.last < before + count
          → is' ≡ is ++ take (to - from) (drop from bytes)
          → CopyInvariant all (i + 1) before piece was is' start (at + (to - from))
      copied_more {from} {to} from_is to_is short copied =
          grind (arith, next, apart, select_slice, rest_of, take-take, length-take-le count bytes in_bytes)

module _ (end : ℕ) (selected : ℕ → Bool) where
  abbrev pub cut_text : List (List ℕ) → List ℕ
  cut_text ls = unlines end (map (select_from selected 1) ls)

  pub rest_of_all : (ls : List (List ℕ)) → cut_lines_from end selected 0 ls ≡ cut_text ls
  rest_of_all [] = refl
  rest_of_all _ = simp append_assoc

  pub rest_line : (line_offset : ℕ) (line rest : List ℕ) → IsLine end line
      → cut_bytes_from end selected line_offset (line ++ end ∷ rest)
      ≡ (select_from selected (line_offset + 1) line ++ end ∷ []) ++ cut_bytes_from end selected 0 rest
  rest_line _ _ _ whole = grind (arith, lines_cons, append_assoc)

  pub rest_piece : (line_offset : ℕ) (piece rest : List ℕ) → IsLine end piece
      → cut_bytes_from end selected line_offset (piece ++ rest) ≡ select_from selected (line_offset + 1) piece
      ++ cut_bytes_from end selected (line_offset + length piece) rest
  rest_piece line_offset [] rest whole = grind arith
  rest_piece line_offset (b ∷ piece) rest whole =
      grind (arith, rest_piece (line_offset + 1) piece rest whole.1, byte_ne)

module _ (end : ℕ) (bytes : List ℕ) (at : ℕ) (first : IsFirstByte (is_byte end) bytes (Some at)) where
  pub line_on : (selected : ℕ → Bool) (line_offset : ℕ) (more : List ℕ)
      → cut_bytes_from end selected line_offset (bytes ++ more)
      ≡ (select_from selected (line_offset + 1) (take at bytes) ++ end ∷ [])
      ++ cut_bytes_from end selected 0 (drop (at + 1) bytes ++ more)
  line_on selected line_offset more =
      cc (
        split_of end _ at first,
        append_assoc (take at bytes) (end ∷ drop (at + 1) bytes) more,
        rest_line end _ _ _ _
            (line_before_terminator end _ at first),
      )

pub empty_lines : (end : ℕ) (selected : ℕ → Bool) (ends more : List ℕ)
    → mask_l (map (is_byte end) ends) + 1 ≡ 2 ^ length ends
    → cut_bytes_from end selected 0 (ends ++ more) ≡ ends ++ cut_bytes_from end selected 0 more
empty_lines end selected [] more all = refl
empty_lines end selected (b ∷ ends) more all = grind (usual, empty_lines end selected ends more)

-- 64 empty lines
pub terminators_next : (end : ℕ) (selected : ℕ → Bool) (block : List ℕ) {from start now marked : ℕ}
    → from + 64 ≤ length block → start ≡ from → now ≡ 0 → marked ≡ mask_l (map (is_byte end) (chunk from 64 block))
    → marked ≡ 2 ^ 64 - 1 → (more : List ℕ)
    → cut_bytes_from end selected now (drop start block ++ more) ≡ chunk start 64 block
    ++ cut_bytes_from end selected now (drop (start + 64) block ++ more)
terminators_next end selected block {start} room here none is all more =
    let ends = chunk start 64 block in
    let long = length-chunk start 64 block (omega arith) in
    let every : mask_l (map (is_byte end) ends) + 1
    ≡ 2 ^ length ends = grind arith in
    cc (chunk-drop start 64 block, append_assoc ends (drop (start + 64) block) more, empty_lines end _ _ _ every)

pub cut_next : (end : ℕ) (list : List Interval) (line_offset now next : ℕ) (from rest rest' old was : List ℕ)
    {is : List ℕ} (bytes : List ℕ) → ExtendsCut end list line_offset from old now rest was → is ≡ was ++ bytes
    → ((more : List ℕ) → cut_list_from end list now (rest ++ more) ≡ bytes
    ++ cut_list_from end list next (rest' ++ more)) → ExtendsCut end list line_offset from old next rest' is
cut_next _ _ _ _ _ _ _ _ _ _ _ cut copied on start block so_far more =
    simp (cut start block so_far more, on more, copied, append_assoc)

pub line_cut : {end : ℕ} {list : List Interval} {block : List ℕ} {was now next : Line} {old new is : List ℕ} (count : ℕ)
    → CutPost end list block was old now new → IsFirstByte (is_byte end) (drop now.start block) (Some count)
    → is ≡ new ++ (selected_bytes list block now count ++ end ∷ []) → next.start ≡ now.start + count + 1
    → next.line_offset ≡ 0 → next.at ≤ now.at + count + 1 → CutPost end list block was old next is
line_cut {end} {list} {block} {was} {now} {next} {old} {new} count post first is start none near =
    grind (usual, line_on)

module _ (job : Cut) (by_bytes : job.fields ≡ false) where
  abbrev end : ℕ
  end = job.terminator

  pub made_is : (ls : List (List ℕ)) → unlines end (flat_map (cut_line job) ls) ≡ cut_text end job.selected ls
  made_is ls = ap (unlines end) (one_each ls)
    where
      one_each : (xs : List (List ℕ)) → flat_map (cut_line job) xs ≡ map (select_from job.selected 1) xs
      one_each [] = refl
      one_each (x ∷ xs) = cc (one_each xs)

  -- the pushed output begins with that for the complete lines
  pub rest_is_decided : (given pushed : List ℕ) (now : ℕ)
      → ((rest : List ℕ) → cut_bytes_from end job.selected 0 (given ++ rest) ≡ pushed
      ++ cut_bytes_from end job.selected now rest)
      → IsPrefix (cut_decided job (record { bytes = given; eof = false })) pushed
  rest_is_decided given pushed now on =
      let p : LineSplit end given = line_split end _ in
      -- with one terminator more, the piece is a line too
      let all_lines : lines end (given ++ end ∷ []) ≡ (complete_lines end given) ++ p.piece ∷ [] =
      grind (usual, lines_of_unlines, lines_cons) in
      record { rest = select_from job.selected 1 p.piece; is = grind (usual, rest_of_all, made_is) }

-- ---- shuffles: a row has the selected indices in order, and the counts tell how many a piece of each length has

module _ (selected : ℕ → Bool) where
  pub select_append : {X : Type 0} (n : ℕ) (xs ys : List X)
      → select_from selected n (xs ++ ys) ≡ select_from selected n xs ++ select_from selected (n + length xs) ys
  select_append n [] ys = grind arith
  select_append n (x ∷ xs) ys = grind (arith, select_append (n + 1) xs ys)

  map_select : (f : ℕ → ℕ) (n : ℕ) (xs : List ℕ) → map f (select_from selected n xs) ≡ select_from selected n (map f xs)
  map_select f n [] = refl
  map_select f n (x ∷ xs) = grind (arith, map_select f (n + 1) xs)

  few_selected : {X : Type 0} (n : ℕ) (xs : List X) → length (select_from selected n xs) ≤ length xs
  few_selected n [] = omega arith
  few_selected n (x ∷ xs) = grind (arith, few_selected (n + 1) xs)

  range_parts : (a n m : ℕ) → range_with_len a (n + m) ≡ range_with_len a n ++ range_with_len (a + n) m
  range_parts a zero m = grind arith
  range_parts a (suc n) m =
      let next : suc n + m ≡ suc (n + m) = omega arith in
      let there : a + 1 + n ≡ a + suc n = omega arith in
      cc (range_parts (a + 1) n m)

  picked_parts : (n m : ℕ) → selected_indices selected (n + m) ≡ selected_indices selected n
      ++ select_from selected (1 + n) (range_with_len n m)
  picked_parts n m = grind (arith, range_parts, select_append, length-range_with_len)

  pub record PickBegun (index count : ℕ) (row counts : List ℕ) : Type 0 where
    pub is : count ≡ length (selected_indices selected index)
    pub few : count ≤ index
    pub lanes : All (λ p. p < 16) row
    pub long : length row ≡ 16
    pub all_counts : length counts ≡ 17
    pub indices : take count row ≡ selected_indices selected index
    pub counted : (k : ℕ) → k ≤ index → get_or counts k 0 ≡ length (selected_indices selected k)

  pub shuffle_next : {index count : ℕ} {row counts after : List ℕ} {one : ℕ} → index < 16
      → PickBegun index count row counts → one ≡ bool_byte (selected (index + 1))
      → after ≡ set counts (index + 1) (count + one) → PickBegun (index + 1) (count + one) (set row count index) after
  shuffle_next {index} {count} {row} {counts} {after} {one} low begun told after_is =
      grind (usual, length-set, stored_more, cases_eq, picked_parts)

  pub none_later : {start count : ℕ} (xs : List ℕ)
      → ((index : ℕ) → start < index → index ≤ count → selected index ≡ false) → start ≤ count → count ≤ length xs
      → select_from selected 1 (take start xs) ≡ select_from selected 1 (take count xs)
  none_later {start} {count} xs past upto within =
      let whole : start + (count - start) ≡ count = omega arith in
      grind (arith, select_none, length-take, append-nil, select_append, take-add)

  module _ {piece : PieceShuffle} (is : IsPieceShuffle selected piece) where
    prefix_indices : {count : ℕ} → count ≤ 16
        → take (length (selected_indices selected count)) piece.row ≡ selected_indices selected count
    prefix_indices {count} short =
        let all : count + (16 - count) ≡ 16 = omega arith in
        let some = selected_indices selected count in
        let later = select_from selected (1 + count) (range_with_len count (16 - count)) in
        let parts : selected_indices selected 16 ≡ some ++ later = cc (picked_parts _ _) in
        let few : length some ≤ length (selected_indices selected 16) =
        omega (arith, ap length parts, length-append some later) in
        cc (
          take-take (length some) (length (selected_indices selected 16)) piece.row few,
          is.indices,
          take-append-le (length some) some later (omega arith),
          take_all (length some) some (omega arith),
        )

    pub shuffle_few : (count : ℕ) → count ≤ 16 → get_or piece.counts count 0 ≤ count
    shuffle_few _ short = grind (arith, few_selected, length-range_with_len)

pub none_after : (all : List Interval) (low n : ℕ) {last : Interval} {index : ℕ} → AreSeparated low all
    → length all ≤ n + 1 → slice_get all n ≡ Some last → last.last < index
    → (is_selected all index ≡ false) × (low < index)
none_after [] low n separated few is later = cc
none_after (one ∷ []) low zero separated few is later = grind arith
none_after (one ∷ two ∷ more) low zero separated few is later = absurd (omega arith)
none_after (one ∷ more) low (suc n) {last} {index} separated few is later =
    let (none, less) = none_after more (one.last + 1) n separated.2 (omega arith) is later in
    grind arith

-- the bytes after the first `size` ones were copied after those
pub rest_copied : (selected : ℕ → Bool) (bytes was : List ℕ) (before size rest count : ℕ) {is is' : List ℕ}
    → before ≡ size → size + rest ≡ count → count ≤ length bytes
    → is ≡ was ++ select_from selected 1 (take before bytes)
    → is' ≡ is ++ select_from selected (size + 1) (take rest (drop size bytes))
    → is' ≡ was ++ select_from selected 1 (take count bytes)
rest_copied selected bytes was before size rest count same whole within first then =
    let front = length-take-le size bytes (omega arith) in
    let parts = take-add size rest bytes in
    grind (arith, append_assoc, select_append selected 1 (take size bytes) (take rest (drop size bytes)))

select_later : (selected : ℕ → Bool) (start n : ℕ) (xs : List ℕ)
    → select_from (selected_after selected start) n xs ≡ select_from selected (start + n) xs
select_later _ _ n [] = refl
select_later selected start n (x ∷ xs) = grind (arith, select_later selected start (n + 1) xs)

-- the selected bytes of the next piece are stored after those before
pub piece_copied : (selected : ℕ → Bool) (start m at : ℕ) (bytes was into : List ℕ) {piece : PieceShuffle} {size : ℕ}
    → IsPieceShuffle (selected_after selected start) piece
    → size ≡ get_or piece.counts m 0 → m ≤ 16 → start + 16 ≤ length bytes → at + 16 ≤ length into → take at into ≡ was
    ++ select_from selected 1 (take start bytes)
    → take (at + size) (put_chunk at into (swz_l w8 16 (take 16 (drop start bytes)) 0 piece.row)) ≡ was
    ++ select_from selected 1 (take (start + m) bytes)
piece_copied selected start m at bytes was into {piece} {size} is counted short within room before =
    let v = take 16 (drop start bytes) in
    let long = length-take-le 16 (drop start bytes) (omega (arith, length-drop start bytes)) in
    let few = shuffle_few _ is m short in
    grind (
      usual,
      selected_stored at (get_or piece.counts m 0) _ _ (length-swz_l w8 16 v 0 _ ∙ is.long) (omega (arith, few)) room,
      take-take m 16 (drop start bytes) short,
      select_later selected start 1 (take m (drop start bytes)),
      take-add start m bytes,
      select_append selected 1 (take start bytes) (take m (drop start bytes)),
      shuffle_result,
      row_lanes,
      take-map,
      prefix_indices _ is,
      map_select (selected_after selected start),
      pick_l-range_with_len,
    )
