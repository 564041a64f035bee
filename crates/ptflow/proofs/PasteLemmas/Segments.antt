-- Segments of a row of `paste`: a column, and the columns after it whose inputs have ended. To copy a segment is to
-- copy its columns one by one: each after the first has an empty field, and its reader stays as it is. Then
-- rows that are one segment: each is a line with the bytes of the segment.
use Rattle.ptflow.proofs
use proofs.Common.{◌<◌, ◌≤◌, false, true, set-get_or, sum_by, sum_by-cons, append_assoc, usual, length-append, ap}
use proofs.Common.{length-set, drop_all, ◌∙◌, drop, drop-drop, is_byte, subst, IsConsumed, IsFirstByte, Some}
use proofs.PasteLemmas.BufferedRows.{IsFieldCopied, sound_after_consume, AreConsumed, IsSound, take, sym, Bool, ◌||◌}
use proofs.PasteLemmas.BufferedRows.{List, ℕ, [], ◌∷◌, ◌++◌, ◌+◌, ◌≡◌, length, get_or, set, Reader, reader_at, RowShape}
use proofs.PasteLemmas.BufferedRows.{BegunText, BufferedRowsPre, CopyColumnsPost, RowsTaken, after_cell}
use proofs.PasteLemmas.BufferedRows.{cells_text-append, columns_more, columns_start, consumed_trans, fill_starts}
use proofs.PasteLemmas.BufferedRows.{still_readable, row_taken, rows_taken_none, rows_taken_trans, arith, refl}
use Rattle.std.proofs.Math.Bool.{or-false}
use Rattle.std.proofs.lemmas.List.{set-set}
use Rattle.ptlines.specs.Readers.{no_reader}
use Rattle.ptflow.specs.Private.Paste.Segments.{AreRowsCopied, AreSegments, EndsWith, IsEnded, IsRow, IsSegment}
use Rattle.ptflow.specs.Private.Paste.BufferedRows.{after_one}
use Rattle.ptflow.specs.declared.tools.paste.segments.Segment.{Segment}

pub columns_trans : {row : RowShape} {a b c : BegunText} → CopyColumnsPost row a b → CopyColumnsPost row b c
    → CopyColumnsPost row a c
columns_trans {row} {a} {b} {c} p q = record {
  fields = p.fields ++ q.fields;
  is = grind (usual, cells_text-append row a.count p.fields q.fields, append_assoc);
  consumed = consumed_trans p.consumed q.consumed;
  width = omega (arith, length-append p.fields q.fields);
  filled = λ from front given. rw (append_assoc front p.fields q.fields) at
      (q.filled from (front ++ p.fields) (p.filled from front given));
}

module _ {row : RowShape} {readers : List Reader} (c : ℕ) where
  pub ends_one : {bytes : List ℕ} → bytes ≡ after_cell row c → EndsWith row readers c (c + 1) bytes
  ends_one is first field number text consumed =
      let copied = text ∙ ap (λ after. field ++ after) (sym is) in
      subst (CopyColumnsPost row first) (λ i. record first { count = number i; text = copied i }) columns_start

  -- The input of the column `next` has ended, too.
  pub ends_more : {next : ℕ} {bytes more : List ℕ} → BufferedRowsPre row readers → next < length row.cells
      → IsEnded (reader_at readers (get_or row.cells next 0)) → EndsWith row readers c next bytes
      → more ≡ bytes ++ after_cell row next → EndsWith row readers c (next + 1) more
  ends_more {next} {bytes} {more} ready low ended ends is first field number text consumed =
      let input = get_or row.cells next 0 in
      let step = consumed.buffered input in
      let same = set-get_or first.readers input no_reader in
      let copied : (field ++ bytes) ++ after_cell row next ≡ field ++ more =
      cc (append_assoc field bytes (after_cell row next), is) in
      rw (same, or-false first.any_line, copied) at
      (columns_more (ends first field number text consumed) (still_readable consumed ready) low no_reader _
      (sound_after_consume ended.sound step) false (field ++ bytes) (record {
        eof = ap (λ r. r.eof) step.is ∙ ended.eof;
        none = ap (λ r. r.buffered) step.is ∙ ap (drop step.size) ended.none ∙ drop_all _ [] (omega arith);
        same = refl;
        is = refl;
      }) refl refl)

module _ (row : RowShape) where
  pub segments_more : (readers : List Reader) (c : ℕ) (segments : List Segment) (next : Segment)
      → AreSegments row readers c segments → IsSegment row readers (c + sum_by (λ s. s.count) segments) next
      → AreSegments row readers c (segments ++ next ∷ [])
  segments_more readers c [] next are is =
      let at : c + sum_by (λ (s : Segment). s.count) [] ≡ c = omega arith in (rw at at is, tt)
  segments_more readers c (s ∷ segments) next (first, are) is =
      let at : c + sum_by (λ s. s.count) (s ∷ segments) ≡ c + s.count + sum_by (λ s. s.count) segments =
      omega (arith, sum_by-cons (λ s. s.count) s segments) in
      (first, segments_more readers (c + s.count) segments next are (rw at at is))

  pub still_segments : (old new : List Reader) (c : ℕ) (segments : List Segment) → AreConsumed old new
      → AreSegments row old c segments → AreSegments row new c segments
  still_segments old new c [] step are = tt
  still_segments old new c (segment ∷ segments) step (is, are) = (
    record {
      input = is.input;
      some = is.some;
      within = is.within;
      few = is.few;
      ends = λ first field number text more. is.ends first field number text (consumed_trans step more);
    },
    still_segments old new (c + segment.count) segments step are,
  )

  pub first_segment : (readers : List Reader) (c : ℕ) (segments : List Segment) (none : Segment)
      → 1 ≤ length segments → AreSegments row readers c segments → IsSegment row readers c (get_or segments 0 none)
      × AreSegments row readers (c + (get_or segments 0 none).count) (drop 1 segments)
  first_segment readers c [] none some are = absurd (omega arith)
  first_segment readers c (segment ∷ segments) none some are = are

pub has_reader : {row : RowShape} {readers : List Reader} {c : ℕ} {segment : Segment} → BufferedRowsPre row readers
    → IsSegment row readers c segment → segment.input < length readers
has_reader {c = c} ready is = rw is.input (ready.within c 0 (omega (arith, is.within, is.some)))

-- A field was copied, and then the bytes of a segment.
pub segment_copied : {row : RowShape} {begun now : BegunText} → CopyColumnsPost row begun now
    → BufferedRowsPre row begun.readers → {segment : Segment} → IsSegment row begun.readers now.count segment
    → (unread r : Reader) → IsSound (get_or now.readers segment.input unread) → (has : Bool) (copied : List ℕ)
    → IsFieldCopied row.terminator (get_or now.readers segment.input unread) r now.text copied has
    → {text : List ℕ} → text ≡ copied ++ take segment.len segment.bytes
    → CopyColumnsPost row begun (record {
      readers = set now.readers segment.input r;
      count = now.count + segment.count;
      any_line = now.any_line || has;
      text = text;
    })
segment_copied s ready is unread r sound has copied field_is stored =
    let first = columns_more s ready (omega (arith, is.some, is.within)) unread r (rw is.input at sound) has copied
    (rw is.input at field_is) refl refl in
    rw (sym is.input, sym stored) at (columns_trans first (is.ends _ copied refl refl first.consumed))

-- A row was copied after others.
pub row_more : {row : RowShape} {old readers new : List Reader} {text next : List ℕ} {count : ℕ} {any_line : Bool}
    → RowsTaken row old readers text
    → CopyColumnsPost row (record { readers = readers; count = 0; any_line = false; text = text })
    (record { readers = new; count = count; any_line = any_line; text = next }) → count ≡ length row.cells
    → any_line ≡ true → RowsTaken row old new next
row_more rows p all some =
    rw p.is (rows_taken_trans rows (row_taken (rw all at (p.filled _ [] fill_starts)) some))

-- ---- rows of one column with lines

module _ (readers : List Reader) (one : ℕ) (within : one < length readers) where
  one_now : (n : ℕ) (d : Reader) → get_or (after_one readers one n) one d
      ≡ record (reader_at readers one) { buffered = drop n (reader_at readers one).buffered }
  one_now n d = grind usual

  -- more bytes of the reader are consumed
  one_more : (n k : ℕ) → let b = get_or (after_one readers one n) one no_reader in
      set (after_one readers one n) one (record b { buffered = drop k b.buffered }) ≡ after_one readers one (n + k)
  one_more n k = rw (one_now n no_reader, drop-drop, set-set) refl

pub one_consumed : (readers : List Reader) (one n : ℕ) → one < length readers → {b r : Reader}
    → b ≡ reader_at readers one → r ≡ record b { buffered = drop n b.buffered } → AreConsumed readers (set readers one r)
one_consumed readers one n within is_read step = record {
  count = length-set readers one _;
  buffered = λ input. grind usual;
}

pub none_copied : (row : RowShape) (readers : List Reader) (input : ℕ) (into : List ℕ)
    → AreRowsCopied row readers input 0 (record { start = 0; end = 0 }) into
none_copied row readers input into = record {
  rows = rw (set-get_or readers input no_reader) rows_taken_none;
  same = (omega arith, refl);
  fits = omega arith;
}

-- One more line was copied as a row.
module _ {row : RowShape} {readers : List Reader} {segment : Segment} (ready : BufferedRowsPre row readers)
    (is : IsRow row readers segment) (sound : IsSound (reader_at readers segment.input)) where
  pub row_of_one_copied : (start size : ℕ) {text copied next : List ℕ}
      → let bytes = drop start (reader_at readers segment.input).buffered in
      RowsTaken row readers (after_one readers segment.input start) text
      → IsFirstByte (is_byte row.terminator) bytes (Some size) → copied ≡ text ++ take size bytes
      → next ≡ copied ++ take segment.len segment.bytes
      → RowsTaken row readers (after_one readers segment.input (start + (size + 1))) next
  row_of_one_copied start size {text} {copied} rows found line stored =
      let one = segment.input in
      let within = has_reader ready is.is in
      let now = one_now readers one within start no_reader in
      let b = get_or (after_one readers one start) one no_reader in
      let step : AreConsumed readers (after_one readers one start) = one_consumed readers one start within refl refl in
      let (is_now, _) = still_segments row _ _ 0 (segment ∷ []) step (is.is, tt) in
      let consumed : IsConsumed (reader_at readers one) b = record { size = start; is = now } in
      rw (one_more readers one within start (size + 1)) at
      (row_more rows (segment_copied columns_start (still_readable step ready) is_now no_reader
      (record b { buffered = drop (size + 1) b.buffered }) (sound_after_consume sound consumed) true copied (record {
        at = size;
        found = rw now found;
        consumed = refl;
        is = rw now line;
      }) stored) (omega (arith, is.all)) refl)
