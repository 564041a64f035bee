-- The output of `cut` by fields. The fields after the first n start after the n-th delimiter. The fields of an interval
-- are one slice of the line, so the output of a line is slices, one for each step of the cursor. Lines without the
-- delimiter are kept or dropped, at the front of a block all at once.
use Rattle.ptflow.proofs
use Rattle.ptflow.specs
use proofs.Common.{usual, ◌≡◌, ℕ, zero, suc, ◌+◌, ◌<◌, ◌==◌, ◌-◌, ◌≤◌, Bool, true, false, List, [], ◌∷◌, ◌++◌, length}
use proofs.Common.{take, drop, refl, sym, ap, arith, join_with_byte, append-nil, take-take, take-add, take_all}
use proofs.Common.{drop_all, drop-drop, length-drop, length-take-le, take-append-drop, flat_map-append}
use proofs.Common.{length-slice_split, count_by, is_byte, byte_eq, IsNth, get_or, length-append, drop-append-le, Cut}
use proofs.Common.{cut_fields, is_selected, AreSeparated, Interval, select_from, IsFieldCursor, IsNextSlice}
use proofs.Common.{output_from_cursor, min, Option, None, Some, is_some, flat_map, list_any, list_any_at, IsFirstByte}
use proofs.Common.{line_if_not_found, unlines, IsLine, is_field_delimiter, cut_line, cut_lines, IsPrefix, ◌⊎◌, inl, inr}
use proofs.Common.{unwrap_or, complete_lines, AreLines, line_before_terminator, complete_lines_cons, the_lines}
use proofs.Common.{the_complete_lines, CopyLinesPost, the_lines_of_parts, CutOfParts, cases_lt, nth_later, nth_from}
use proofs.Common.{few_from, IsAfterNth}
use proofs.CutLemmas.CutBytes.{not_selected, select_first, select_slice, select_skip}
use proofs.Passes.Exits.{line_split}
use Rattle.ptlines.specs.declared.scan.MatchWindow.{MatchWindow}
use specs.declared.tools.cut.fields.FieldCursor.{FieldCursor}
use specs.Private.Cut.FieldOffsets.{IsFieldOffset, fields, prefixed_fields}

module _ (d : ℕ) where
  pub fields-append : (xs ys : List ℕ) → fields d (xs ++ d ∷ ys) ≡ fields d xs ++ fields d ys
  fields-append [] ys = rw (byte_eq d) refl
  fields-append (x ∷ xs) ys = grind (usual, fields-append xs ys, length-slice_split)

  pub prefixed_fields-append : (fs gs : List (List ℕ)) → prefixed_fields d (fs ++ gs) ≡ prefixed_fields d fs
      ++ prefixed_fields d gs
  prefixed_fields-append fs gs = flat_map-append (◌∷◌ d) fs gs

  -- with one more delimiter before it, a line is its fields with a delimiter before each
  pub prefixed_of_fields : (xs : List ℕ) → prefixed_fields d (fields d xs) ≡ d ∷ xs
  prefixed_of_fields [] = refl
  prefixed_of_fields (x ∷ xs) = grind (arith, prefixed_of_fields xs)

  pub join_prefixed : (fs : List (List ℕ)) → join_with_byte d fs ≡ drop 1 (prefixed_fields d fs)
  join_prefixed [] = refl
  join_prefixed (f ∷ []) = sym (append-nil f)
  join_prefixed (f ∷ g ∷ fs) = cc (join_prefixed (g ∷ fs))

  -- ---- where a field starts

  module _ (line : List ℕ) where
    pub offset_start : IsFieldOffset d 0 line 0
    offset_start = grind (arith, prefixed_of_fields)

    pub offset_end : {n : ℕ} → count_by (is_byte d) line < n → IsFieldOffset d n line (length line + 1)
    offset_end {n} lt = grind (arith, length-slice_split, take_all, prefixed_of_fields, drop_all)

    pub offset_after_nth : {n : ℕ} (at : ℕ) → 0 < n → IsNth (is_byte d) 0 (n - 1) line at
        → IsFieldOffset d n line (at + 1)
    offset_after_nth {n} at some (within, passes, before) =
        let xs = take at line in
        let ys = drop (at + 1) line in
        let here : drop at line ≡ d ∷ ys = grind usual in
        let number : length (fields d xs) ≡ n = omega (arith, length-slice_split (is_byte d) xs) in
        let split : fields d line ≡ fields d xs ++ fields d ys = cc (take-append-drop at line, fields-append xs ys) in
        grind (usual, prefixed_of_fields)

    module _ {n at : ℕ} (o : IsFieldOffset d n line at) where
      pub rest_at : at ≤ length line → drop at (d ∷ line) ≡ d ∷ drop at line
      rest_at fits = cc (o.later fits, prefixed_of_fields _)

      pub none_left : length line < at → drop n (fields d line) ≡ []
      none_left past = grind (arith, none, drop_all)
        where
          none : (fs : List (List ℕ)) → prefixed_fields d fs ≡ [] → fs ≡ []
          none [] is = refl
          none (f ∷ fs) is = cc

      pub offset_add : at ≤ length line → {k size : ℕ} → IsFieldOffset d k (drop at line) size
          → IsFieldOffset d (n + k) line (at + size)
      offset_add fits {k} {size} next = grind (usual, take-add, rest_at, drop-drop)

-- by a window of the delimiters, of which n - 1 are between it and the field
module _ (d : ℕ) (bytes : List ℕ) {to n : ℕ} {old new : MatchWindow} (within : old.at ≤ to) (fits : to ≤ length bytes)
    (some : 0 < n) (next : IsAfterNth (is_byte d) bytes to (n - 1) old new) where
  pub offset_later : old.at ≤ new.at
  offset_later = elim (cases_lt to new.at) [
    | inl past ↦ omega arith
    | inr near ↦ omega (arith, nth_later (is_byte d) bytes within fits _ (next.found near))
  ]

  pub offset_of_window : IsFieldOffset d n (drop old.at (take to bytes)) (min new.at (to + 1) - old.at)
  offset_of_window =
      let p = is_byte d in
      let line = drop old.at (take to bytes) in
      let long = length-take-le to bytes fits in
      elim (cases_lt to new.at) [
        | inl past ↦
            let is : min new.at (to + 1) - old.at ≡ length line + 1 =
            omega (arith, length-drop old.at (take to bytes)) in
            rw is (offset_end d line (omega (arith, few_from p bytes within fits {before = n - 1} (next.none past))))
        | inr near ↦
            let later = nth_later p bytes within fits _ (next.found near) in
            let is : min new.at (to + 1) - old.at ≡ new.at - 1 - old.at + 1 = omega arith in
            rw is (offset_after_nth d line _ some (nth_from p bytes within fits (next.found near)))
      ]

-- ---- the selected fields of a line, in one pass

module _ (cursor : FieldCursor) (none : cursor.passed ≡ 0) where
  pub selected_remaining : (job : Cut) {d : ℕ} (line : List ℕ) → d ≡ job.delimiter
      → is_selected cursor.left.now ≡ job.selected → cut_fields job line ≡ output_from_cursor d line cursor
  selected_remaining job {d} line same selected = grind (arith, join_prefixed)

module _ (d : ℕ) (line : List ℕ) (cursor : FieldCursor) where
  abbrev all : List Interval
  all = cursor.left.now

  pub none_selected : select_from (is_selected all) (cursor.passed + 1)
      (drop cursor.passed (fields d line)) ≡ [] → output_from_cursor d line cursor ≡ []
  none_selected none = grind arith

  module _ (w : IsFieldCursor d line cursor) (fits : cursor.window.at ≤ length line) (within : 0 < length all) where
    abbrev r : Interval
    r = get_or all 0 (record { first = 0; last = 0 })

    abbrev rs : List Interval
    rs = drop 1 all

    -- the fields from the cursor on; how many are before the interval, and how many in it
    abbrev here : List (List ℕ)
    here = drop cursor.passed (fields d line)

    abbrev skip : ℕ
    skip = r.first - 1 - cursor.passed

    abbrev size : ℕ
    size = r.last - r.first + 1

    begins : IsFieldOffset d cursor.passed line cursor.window.at
    begins =
        let is : min cursor.window.at (length line + 1) ≡ cursor.window.at = grind arith in
        rw is at w.offset

    these : all ≡ r ∷ rs
    these = grind arith

    apart : AreSeparated (cursor.passed + min cursor.passed 1) (r ∷ rs)
    apart = rw these at w.apart

    module _ {from : ℕ} (near : cursor.window.at ≤ from)
        (s : IsFieldOffset d skip (drop cursor.window.at line) (from - cursor.window.at)) where
      starts : IsFieldOffset d (cursor.passed + skip) line from
      starts = let is : cursor.window.at + (from - cursor.window.at) ≡ from = omega arith in
          rw is at (offset_add d line begins fits s)

      left : drop skip here ≡ drop (cursor.passed + skip) (fields d line)
      left = drop-drop skip _ (fields d line)

      pub ends_before : length line < from → output_from_cursor d line cursor ≡ []
      ends_before past = none_selected (cc (
        these,
        select_skip (is_selected (r ∷ rs)) (cursor.passed + 1) skip here
            (grind (arith, not_selected)),
        left,
        none_left d line starts past,
      ))

      module _ (begun : from ≤ length line) where
        abbrev rest : List ℕ
        rest = drop from line

        -- the start of the interval, with or without the delimiter before it
        sep_drop : drop (from - min cursor.passed 1) line ≡ drop (1 - min cursor.passed 1) (d ∷ rest)
        sep_drop = grind (arith, by_sep, rest_at, starts)
          where
            by_sep : (sep n : ℕ) → sep ≤ 1 → sep ≤ n → drop n (d ∷ line) ≡ d ∷ drop n line
                → drop (n - sep) line ≡ drop (1 - sep) (d ∷ drop n line)
            by_sep zero n one fits split = grind arith
            by_sep (suc zero) zero one fits split = absurd (omega arith)
            by_sep (suc zero) (suc n) one fits split = grind arith
            by_sep (suc (suc sep)) n one fits split = absurd (omega arith)

        module _ {at : ℕ} (later : from ≤ at) (p : IsFieldOffset d size rest (at - from)) where
          ends : IsFieldOffset d r.last line at
          ends =
              let is : from + (at - from) ≡ at = omega arith in
              let last : cursor.passed + skip + size ≡ r.last = omega (arith, apart.1, apart.0) in
              rw (is, last) at (offset_add d line starts begun p)

          some : 0 < at - from
          some = omega arith

          selected : select_from (is_selected (r ∷ rs)) (cursor.passed + 1) here ≡ take size (fields d rest)
              ++ select_from (is_selected rs) (r.last + 1) (drop r.last (fields d line))
          selected =
              let count : (cursor.passed + 1) + (skip + size) ≡ r.last + 1 = omega (arith, apart.1, apart.0) in
              grind (arith, select_first, select_slice, left, starts.later, select_skip, not_selected, apart, drop-drop)

          output : output_from_cursor d line cursor
              ≡ take ((at - 1) - (from - min cursor.passed 1)) (drop (from - min cursor.passed 1) line)
              ++ prefixed_fields d (select_from (is_selected rs) (r.last + 1) (drop r.last (fields d line)))
          output =
              grind (arith, length-take-le, some, these, selected, prefixed_fields-append, drop-append-le, sep_drop)

          pub next_slice : (next : FieldCursor) → next.left.now ≡ rs → next.passed ≡ r.last
              → min next.window.at (length line + 1) ≡ at → (end : ℕ) → end ≡ at - 1
              → IsNextSlice d line cursor (record { start = from - min cursor.passed 1; end = end }) next
          next_slice _ left_is passed_is at_is end end_is = grind (arith, output, ends)

-- ---- the output of a line is not longer than the line

few_prefixed : (d : ℕ) (test : ℕ → Bool) (n : ℕ) (fs : List (List ℕ))
    → length (prefixed_fields d (select_from test n fs)) ≤ length (prefixed_fields d fs)
few_prefixed d _ n [] = omega arith
few_prefixed d test n (f ∷ fs) = grind (usual, few_prefixed d test (n + 1) fs)

pub output_is_short : (job : Cut) (line : List ℕ) → length (cut_fields job line) ≤ length line
output_is_short job line =
    let d = job.delimiter in
    let selected = select_from job.selected 1 (fields d line) in
    omega (
      arith,
      ap length (join_prefixed d selected),
      length-drop 1 (prefixed_fields d selected),
      few_prefixed d job.selected 1 (fields d line),
      ap length (prefixed_of_fields d line),
    )

-- the copied output and the next part of it are not longer than all of it
pub output_is_near : (start end : ℕ) (was now out part rest : List ℕ) → take start was ++ out ≡ take end now
    ++ (part ++ rest)
    → start ≤ length was → end ≤ length now → end + length part ≤ start + length out
output_is_near start end was now out part rest copied room place =
    let size = simp length-append at (ap length copied) in
    omega (arith, size, length-take-le start was room, length-take-le end now place)

pub none_of : (d : ℕ) (line : List ℕ) → IsLine d line → list_any (λ b. b == d) line ≡ false
none_of d [] free = refl
none_of d (b ∷ line) free = grind (arith, none_of d line)

pub found : (d : ℕ) (line : List ℕ) (r : Option ℕ) → IsFirstByte (is_byte d) line r
    → list_any (λ b. b == d) line ≡ is_some r
found d line None first = none_of d _ (line_if_not_found d _ first)
found d _ _ first = grind (arith, list_any_at)

module _ (job : Cut) (by_fields : job.fields ≡ true) (line : List ℕ) where
  pub of_line : list_any (is_field_delimiter job) line ≡ false → job.only ≡ false → cut_line job line ≡ line ∷ []
  of_line none keeps = grind arith

  pub of_none : list_any (is_field_delimiter job) line ≡ false → job.only ≡ true → cut_line job line ≡ []
  of_none none only = grind arith

module _ (job : Cut) (line : List ℕ) where
  pub line_written : (bytes : List ℕ) → cut_line job line ≡ bytes ∷ [] → cut_lines job (line ∷ []) ≡ bytes
      ++ job.terminator ∷ []
  line_written _ is = grind (arith, append-nil)

  pub line_dropped : cut_line job line ≡ [] → cut_lines job (line ∷ []) ≡ []
  line_dropped is = cc

module _ (job : Cut) where
  pub cut_sure : (ls : List (List ℕ)) (pushed : List ℕ) → cut_lines job (ls ++ []) ≡ pushed ++ cut_lines job []
      → IsPrefix (cut_lines job ls) pushed
  cut_sure ls _ on = grind (arith, append-nil)

pub ended_more : (end : ℕ) (ls : List (List ℕ)) (bytes : List ℕ) → AreLines end ls
    → complete_lines end (unlines end ls ++ bytes) ≡ ls ++ complete_lines end bytes
ended_more end [] bytes whole = refl
ended_more end (l ∷ ls) bytes whole = grind (usual, ended_more end ls bytes whole.1, complete_lines_cons)

text_of_ended : (end : ℕ) (front : List ℕ) → unlines end (complete_lines end (front ++ end ∷ [])) ≡ front ++ end ∷ []
text_of_ended end front = grind (arith, the_complete_lines end [] tt, the_lines end (front ++ end ∷ []))

-- ---- lines without the delimiter

free_prefix : (d : ℕ) (n : ℕ) (bytes : List ℕ) → IsLine d bytes → IsLine d (take n bytes)
free_prefix d n [] free = grind usual
free_prefix d zero (b ∷ bytes) free = tt
free_prefix d (suc n) (b ∷ bytes) free = (free.0, free_prefix d n _ free.1)

free_before : (d : ℕ) (bytes : List ℕ) (r : Option ℕ) → IsFirstByte (is_byte d) bytes r
    → IsLine d (take (unwrap_or r (length bytes)) bytes)
free_before d bytes None none = grind (arith, take_all, line_if_not_found)
free_before d bytes (Some at) first = line_before_terminator d _ at first

free_lines : (d end : ℕ) (bytes : List ℕ) → IsLine d bytes → AreLines d (complete_lines end bytes)
free_lines d end [] free = tt
free_lines d end (b ∷ bytes) free = grind (arith, free_lines d end bytes free.1)

module _ (job : Cut) (by_fields : job.fields ≡ true) where
  lines_kept : job.only ≡ false → (ls : List (List ℕ)) → AreLines job.delimiter ls → flat_map (cut_line job) ls ≡ ls
  lines_kept keeps [] free = refl
  lines_kept keeps (l ∷ ls) free = search (lines_kept keeps ls free.1, of_line, none_of)

  lines_dropped : job.only ≡ true → (ls : List (List ℕ)) → AreLines job.delimiter ls → flat_map (cut_line job) ls ≡ []
  lines_dropped only [] free = refl
  lines_dropped only (l ∷ ls) free = search (lines_dropped only ls free.1, of_none, none_of)

module _ (job : Cut) (by_fields : job.fields ≡ true) {end : ℕ} (same : end ≡ job.terminator) (bytes : List ℕ) (to : ℕ)
    (first : IsFirstByte (is_byte end) bytes (Some to)) where
  -- all complete lines before `size`, none of which has the delimiter
  module _ {size up_to : ℕ} (high : to < size) (fits : size ≤ length bytes) (eof : get_or bytes (size - 1) 0 ≡ end)
      (near : (size ≡ to + 1) ⊎ (size ≤ up_to)) (past : to ≤ up_to) (r : Option ℕ)
      (before : up_to ≡ unwrap_or r (length bytes)) (found : IsFirstByte (is_byte job.delimiter) bytes r) where
    abbrev front : List (List ℕ)
    front = complete_lines end (take size bytes)

    is_ended : take size bytes ≡ take (size - 1) bytes ++ end ∷ []
    is_ended = grind usual

    texts : unlines end front ≡ take size bytes
    texts = grind (arith, is_ended, text_of_ended)

    lines_are : complete_lines end bytes ≡ front ++ complete_lines end (drop size bytes)
    lines_are = cc (take-append-drop size bytes, texts, ended_more end _ _ (line_split end _).whole)

    free_up_to : {n : ℕ} → n ≤ up_to → IsLine job.delimiter (take n bytes)
    free_up_to {n} le =
        rw (take-take n up_to bytes le) at (free_prefix _ n _ (rw (← before) at (free_before _ bytes r found)))

    are_free : ((size ≡ to + 1) ⊎ (size ≤ up_to)) → AreLines job.delimiter front
    are_free (inl one) = grind (usual, complete_lines_cons, line_before_terminator, free_up_to past)
    are_free (inr le) = search (free_lines, free_up_to)

    pub puts_kept : {old new : List ℕ} → job.only ≡ false → new ≡ old ++ take size bytes
        → CopyLinesPost job end bytes size old new
    puts_kept keeps put = grind (usual, texts, lines_are, lines_kept, are_free)

    pub puts_dropped : {old : List ℕ} → job.only ≡ true → CopyLinesPost job end bytes size old old
    puts_dropped {old} only = grind (usual, texts, lines_are, lines_dropped, are_free)

pub cut_of_parts : CutOfParts
cut_of_parts job a b whole = grind (usual, the_lines_of_parts)
