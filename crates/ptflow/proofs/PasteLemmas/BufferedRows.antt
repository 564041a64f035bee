-- Rows that are copied from the buffers of the readers: column by column, or many rows at once if all n columns read
-- one input. Then a row takes n of its lines, and is these with their terminators replaced by the cycle. So bytes with
-- count * n terminators, the last of which ends them, are `count` rows.
pub mod Rows
use Rattle.ptflow.proofs
pub use proofs.Common.{ne_eqb, append_assoc, nat_tests, mod-mul-add, count_by, is_byte, advance_ok_take, usual}
pub use proofs.Common.{line_before_terminator, take_with_terminator, lines_are, the_lines, Output, PushEffect}
pub use proofs.Common.{cycle_byte, with_replacements, IsConsumed, AreConsumed, IsFieldCopied, RowsWritten}
pub use proofs.Vectors.NextTerminator.{none_counted}
pub use proofs.PasteLemmas.Replaced.{counted, replaced-append, replaced_line}
pub use Rattle.ptflow.specs.declared.simd.replace.Cycle.{Cycle}
pub use Rows.*
pub use Rattle.ptflow.specs.Private.Paste.SharedInput.{IsWholeRows, IsSharedCycle}
use proofs.Common.{take-add}
use Rattle.std.proofs.Common.{arith, rules}

pub sound_after_consume : {b r : Reader} → IsSound b → IsConsumed b r → IsSound r
sound_after_consume s step = grind usual

-- The bytes before a copy do not change.
pub kept : (at to : ℕ) (was is more : List ℕ) → at ≤ to → at ≤ length was → take to is ≡ take at was ++ more
    → take at is ≡ take at was
kept at to was is more further within copied =
    sym (take-take at to is further) ∙ ap (take at) copied
    ∙ take-append-le at (take at was) more (omega (arith, length-take-le at was within))
    ∙ take-take at at was (omega arith)

-- The 16 bytes at index `from` were copied after those before.
pub vector_copied : (at from : ℕ) (was before is bytes : List ℕ)
    → take (at + from) before ≡ take at was ++ take from bytes
    → take (at + from + 16) is ≡ take (at + from) before ++ take 16 (drop from bytes)
    → take (at + (from + 16)) is ≡ take at was ++ take (from + 16) bytes
vector_copied at from was before is bytes first second =
    let number : at + (from + 16) ≡ at + from + 16 = omega arith in
    cc (
      ap (λ n. take n is) number,
      second,
      first,
      append_assoc (take at was) (take from bytes) (take 16 (drop from bytes)),
      take-add from 16 bytes,
    )

-- ---- one column

field_in_buffer : (end : ℕ) {b r : Reader} (before after : List ℕ) (has : Bool) → b.fault ≡ None → IsSound b
    → IsFieldCopied end b r before after has
    → (field : List ℕ) × (after ≡ before ++ field) × FieldTaken end b r field has × IsConsumed b r
field_in_buffer end {b} {r} before after true clean sound p =
    let (found, here) = p.found in
    let consumed : IsConsumed b r = record { size = p.at + 1; is = p.consumed } in
    let taken : LinesTaken end b r 1 (take p.at b.buffered ∷ []) =
    taken_by (advance_ok_take b r _ clean (omega arith) p.consumed) clean
    (sound_after_consume sound consumed) (record {
      so_far = search (rules, take_with_terminator, line_before_terminator);
    }) (inl refl) (λ none. cc) in
    (take p.at b.buffered, p.is, (taken, grind usual), consumed)
field_in_buffer end {b} before after false clean sound p =
    let done : IsDone b = grind arith in
    let taken : LinesTaken end b b 1 [] =
    taken_by (advance_ok_take b b 0 clean (omega arith) refl) clean sound (lines_none end b)
    (inr (done, omega arith)) (λ none. cc) in
    ([], cc (append-nil before), rw p.same (taken, refl, omega arith), rw p.same (record { size = 0; is = refl }))

pub consumed_none : {old : List Reader} → AreConsumed old old
consumed_none = record { count = refl; buffered = λ p. record { size = 0; is = refl } }

pub consumed_trans : {a b c : List Reader} → AreConsumed a b → AreConsumed b c → AreConsumed a c
consumed_trans p q = grind usual

pub still_readable : {row : RowShape} {old new : List Reader} → AreConsumed old new → BufferedRowsPre row old
    → BufferedRowsPre row new
still_readable c ready = record { within = λ k d low. omega arith; unfailed = search rules; same_end = search rules }

-- ---- the columns of a row

module _ {row : RowShape} where
  pub columns_start : {begun : BegunText} → CopyColumnsPost row begun begun
  columns_start = search rules

  module _ {begun now : BegunText} (s : CopyColumnsPost row begun now) (ready : BufferedRowsPre row begun.readers)
      (low : now.count < length row.cells) (unread r : Reader)
      (sound : IsSound (get_or now.readers (get_or row.cells now.count 0) unread)) (has : Bool) (copied : List ℕ) where
    abbrev input : ℕ
    input = get_or row.cells now.count 0

    abbrev b : Reader
    b = get_or now.readers input unread

    x : IsNextReader row now.readers now.count b
    x = next_reader (still_readable s.consumed ready) low _

    pub columns_more : {next byte : List ℕ} → IsFieldCopied row.terminator b r now.text copied has
        → next ≡ copied ++ byte → byte ≡ after_cell row now.count → CopyColumnsPost row begun (record {
          readers = set now.readers input r;
          count = now.count + 1;
          any_line = now.any_line || has;
          text = next;
        })
    columns_more field_is stored after =
        let (field, is, taken, consumed) = field_in_buffer _ _ _ has x.clean sound field_is in
        record {
          fields = s.fields ++ field ∷ [];
          is =
              let end = after_cell row now.count in
              grind (arith, cells_text-append, append_assoc);
          consumed = grind usual;
          width = omega (arith, length-append s.fields (field ∷ []));
          filled = λ from front given.
              rw (append_assoc front s.fields (field ∷ [])) at
              (fill_next (s.filled from front given) x r _ has taken);
        }

-- ---- complete rows, by the number of terminators

ends_of_lines : (end : ℕ) (ls : Lines) → AreLines end ls → count_by (is_byte end) (unlines end ls) ≡ length ls
ends_of_lines end [] are_lines = refl
ends_of_lines end (line ∷ ls) (free, are_lines) = grind (usual, none_counted, ends_of_lines end ls are_lines)

pub whole_rows_counted : (end n count : ℕ) (bytes : List ℕ)
    → (0 < length bytes → get_or bytes (length bytes - 1) 0 ≡ end) → count_by (is_byte end) bytes ≡ count * n
    → IsWholeRows end n bytes
whole_rows_counted end n count bytes last counted =
    let ((are_lines, text), only) = the_lines end bytes in
    let is : unlines end (lines end bytes) ≡ bytes = grind usual in
    record {
      count = count;
      ls = lines end bytes;
      is = sym is;
      are_lines = lines_are end _;
      long = search (rules, ends_of_lines);
    }

-- ---- the grid of one input

module _ (cells : List ℕ) (input : ℕ) (same : (c : ℕ) → c < length cells → get_or cells c 0 ≡ input) where
  uses_before_column : (c : ℕ) → c ≤ length cells → uses_of (take c cells) input ≡ c
  uses_before_column zero low = refl
  uses_before_column (suc c) low =
      let next : suc c ≡ c + 1 = omega arith in
      let here = same c (omega arith) in
      grind (arith, nat_tests, uses_more cells c input (omega arith), uses_before_column c (omega arith))

  uses_all : uses_of cells input ≡ length cells
  uses_all = grind (usual, uses_before_column)

  first_row : (some : 0 < length cells) (ls : Lines) → length cells ≤ length ls
      → rows (columns cells (lines_of_input input ls))
      ≡ take (length cells) ls ∷ rows (columns cells (lines_of_input input (drop (length cells) ls)))
  first_row some ls long =
      let n = length cells in
      let ins = lines_of_input input ls in
      cc (
        grid_step cells ins 0 some (grind arith),
        for_each_cell_unique (top_of cells ins) cells (take n ls) [] (length-take-le n ls long)
            (λ c low. rw (same c low)
            (rw ((update_here input ls (λ q. [])) input refl, uses_before_column c (omega arith))
            (get_or-take n ls c [] low))),
        columns_same cells (after_row cells ins) (lines_of_input input (drop n ls))
            (λ q used. grind (arith, uses_all)),
      )

-- ---- the text of rows

module _ {row : RowShape} {cycle : Cycle} (t : IsSharedCycle row cycle) where
  abbrev n : ℕ
  n = length row.cells

  abbrev all_replaced : ℕ → List ℕ → List ℕ
  all_replaced = with_replacements row.terminator (cycle_byte cycle)

  -- the lines of row k from column c on
  row_replaced : (k c : ℕ) (ls : Lines) → AreLines row.terminator ls → c + length ls ≡ n
      → all_replaced (k * n + c) (unlines row.terminator ls) ≡ cells_text row c ls
  row_replaced k c [] are_lines all = refl
  row_replaced k c (line ∷ ls) (free, are_lines) all =
      let rest = unlines row.terminator ls in
      let low : c < n = omega arith in
      let less : c < cycle.len = omega arith in
      let index : (k * n + c) % cycle.len ≡ c % cycle.len = cc (mod-mul-add k n c low, mod-eq_of_lt less) in
      let number : k * n + c + 1 ≡ k * n + (c + 1) = omega arith in
      let more = ap (λ m. all_replaced m rest) number ∙ row_replaced k (c + 1) ls are_lines (omega arith) in
      grind (arith, append_assoc, replaced_line)

  abbrev rows_of : Lines → List Lines
  rows_of ls = rows (columns row.cells (lines_of_input (get_or row.cells 0 0) ls))

  -- the lines of all rows from row k on
  rows_replaced : (k more : ℕ) (ls : Lines) → AreLines row.terminator ls → length ls ≡ more * n
      → (length (rows_of ls) ≡ more) × (all_replaced (k * n) (unlines row.terminator ls)
      ≡ unlines row.terminator (map (join_with_cycle row.delims 0) (rows_of ls)))
  rows_replaced k zero [] are_lines long =
      let none = grid_none row.cells (lines_of_input (get_or row.cells 0 0) []) (λ q used. grind arith) in
      (cc, cc)
  rows_replaced k zero (line ∷ ls) are_lines long = absurd (omega arith)
  rows_replaced k (suc more) ls are_lines long =
      let end = row.terminator in
      let first = take n ls in
      let rest = drop n ls in
      let (whole_first, whole_rest) : AreLines end first × AreLines end rest = grind usual in
      let first_long = length-take-le n ls (omega arith) in
      let start : k * n ≡ k * n + 0 = omega arith in
      let next : k * n + count_by (is_byte end) (unlines end first) ≡ (k + 1) * n =
      omega (arith, ends_of_lines end _ whole_first) in
      let step = first_row row.cells (get_or row.cells 0 0) (λ c low. t.same c 0 low) t.some ls (omega arith) in
      let (count, text) = rows_replaced (k + 1) more rest whole_rest (omega (arith, length-drop n ls)) in (
        omega (arith, ap length step),
        cc (
          take-append-drop n ls,
          unlines-append end first rest,
          replaced-append end (cycle_byte cycle) (k * n) (unlines end first) (unlines end rest),
          row_replaced k 0 _ whole_first (omega arith),
          row_text row 0 first (omega arith) (omega arith),
        ),
      )

-- ---- the complete rows in the buffer

module _ {row : RowShape} {cycle : Cycle} (t : IsSharedCycle row cycle) {old : List Reader}
    {b r : Reader} (x : IsNextReader row old 0 b) (sound : IsSound b) {count : ℕ} (some : 0 < count)
    (within : count ≤ length b.buffered) (rs : IsWholeRows row.terminator (length row.cells) (take count b.buffered))
    (step : r ≡ record b { buffered = drop count b.buffered }) where
  abbrev end : ℕ
  end = row.terminator

  abbrev shared : ℕ
  shared = get_or row.cells 0 0

  same : (c : ℕ) → c < length row.cells → get_or row.cells c 0 ≡ shared
  same c low = t.same c 0 low

  pub copied_rows : {written : List ℕ}
      → written ≡ with_replacements cycle.terminator (cycle_byte cycle) 0 (take count b.buffered)
      → {out pushed : Output} → PushEffect out pushed written → RowsWritten row old (set old shared r) out pushed
  copied_rows {written} copied wrote = record {
    written = written;
    rows = rw (copied, t.terminator) (record {
      taken_rows = rows_of t rs.ls;
      ls = lines_of_input shared rs.ls;
      first_rows = record {
        lines_taken = taken_from_one old _ x.within
            (rw (
              (rows_replaced t 0 _ _ rs.are_lines rs.long).0,
              uses_all row.cells shared same,
              ← x.is_read,
            ) (taken_by (advance_ok_take b r _ x.clean within step) x.clean
            (sound_after_consume sound (record { size = count; is = step }))
            (record { so_far = inl (rs.is, rs.are_lines) }) (inl rs.long) (λ none. absurd (omega (
              arith,
              length-take-le count b.buffered within,
              ap length rs.is,
              ap (λ l. length (unlines end l)) (nil_from_length _ (rs.long ∙ none)),
            )))))
            (λ q differ. grind (arith, last_use row.cells q, same));
        are = refl;
        count = length-set old shared r;
      };
      least = grind usual;
      is =
          let start : 0 ≡ 0 * length row.cells = omega arith in
          (λ i. with_replacements end (cycle_byte cycle) (start i) (rs.is i))
          ∙ (rows_replaced t 0 _ _ rs.are_lines rs.long).1;
    });
    consumed = search rules;
    wrote = wrote;
  }

-- The buffer has no complete row, or the columns share no reader.
pub no_rows_written : {row : RowShape} {old : List Reader} {out : Output} → RowsWritten row old old out out
no_rows_written = search (rules, rows_taken_none)
