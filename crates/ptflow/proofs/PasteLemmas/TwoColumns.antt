-- Two columns with readers of their own, which are consumed after many rows: each row is copied from the readers as
-- they would be then (`after_both`). And rows with a begun row after them.
use Rattle.ptflow.proofs
use proofs.Common.{◌≡◌, ◌≢◌, ◌<◌, ◌≤◌, ◌+◌, ◌∙◌, ◌++◌, ℕ, Bool, true, false, List, [], length, get_or, set, take, drop}
use proofs.Common.{usual, arith, refl, sym, ap, drop-drop, set-get_or, AreConsumed, take_rest, ◌-◌, ◌||◌}
use Rattle.std.proofs.lemmas.List.{set-set, set_comm}
use Rattle.ptlines.specs.Calls.Readers.{IsSound}
use Rattle.ptlines.specs.Readers.{Reader, reader_at, no_reader}
use Rattle.ptflow.specs.Private.Paste.BufferedRows.{after_both, BufferedRowsPre, CopyColumnsPost, CopyRowsPost}
use Rattle.ptflow.specs.Private.Paste.BufferedRows.{IsLineCopied, RowsTaken}
use Rattle.ptflow.specs.Private.Paste.RowCells.{RowShape, BegunText, after_cell}
use proofs.PasteLemmas.BufferedRows.{columns_more, sound_after_consume, consumed_trans}
use proofs.PasteLemmas.BufferedRows.{kept, fill_starts, at_index}

-- some rows were copied, and columns of a row after them
pub rows_begun : {row : RowShape} {old mid new : List Reader} {count : ℕ} {any_line : Bool} (end further : ℕ)
    (was is : List ℕ) → end ≤ further → end ≤ length was → RowsTaken row old mid (take end was) → AreConsumed old mid
    → CopyColumnsPost row (record { readers = mid; count = 0; any_line = false; text = take end was })
    (record { readers = new; count = count; any_line = any_line; text = take further is })
    → CopyRowsPost row old (take end is)
    (record { readers = new; count = count; any_line = any_line; text = drop end (take further is) })
rows_begun {mid = mid} end further was is more within rows consumed p = record {
  mid = mid;
  rows = rw (kept end further was is _ more within p.is) rows;
  fields = p.fields;
  filled = p.filled mid [] fill_starts;
  is = grind usual;
  consumed = consumed_trans consumed p.consumed;
}

module _ (readers : List Reader) (one other : ℕ) (apart : one ≢ other) (within : one < length readers) where
  reader_now : (n m : ℕ) (d : Reader) → get_or (after_both readers one n other m) one d
      ≡ record (reader_at readers one) { buffered = drop n (reader_at readers one).buffered }
  reader_now n m d = grind usual

  -- more bytes of this reader are consumed
  reader_more : (n k m : ℕ) → let b = get_or (after_both readers one n other m) one no_reader in
      set (after_both readers one n other m) one (record b { buffered = drop k b.buffered })
      ≡ after_both readers one (n + k) other m
  reader_more n k m = rw (reader_now n m no_reader, drop-drop, set_comm _ one other _ _ apart, set-set)
      (set_comm readers other one _ _ (λ e. apart (sym e)))

-- the readers after the first n bytes of the first column's, and the first m of the other one's
abbrev pub after : RowShape → List Reader → ℕ → ℕ → List Reader
after row readers n m = after_both readers (get_or row.cells 0 0) n (get_or row.cells 1 0) m

pub exchanged : (row : RowShape) (readers : List Reader) → get_or row.cells 0 0 ≢ get_or row.cells 1 0 → (n m : ℕ)
    → after row readers n m ≡ after_both readers (get_or row.cells 1 0) m (get_or row.cells 0 0) n
exchanged row readers apart n m = set_comm readers _ _ _ _ apart

-- a row whose first `count` columns were copied from there
abbrev pub begun : RowShape → List Reader → ℕ → ℕ → ℕ → Bool → List ℕ → BegunText
begun row readers n m count any_line text =
    record { readers = after row readers n m; count = count; any_line = any_line; text = text }

module _ {row : RowShape} {readers : List Reader} (ready : BufferedRowsPre row readers) (wide : length row.cells ≡ 2)
  where
    pub both_in : (get_or row.cells 0 0 < length readers) × (get_or row.cells 1 0 < length readers)
    both_in = (ready.within 0 0 (omega (arith, wide)), ready.within 1 0 (omega (arith, wide)))

    pub none_yet : after row readers 0 0 ≡ readers
    none_yet = grind (usual, set-get_or, both_in)

-- one more field of the row, of the next n bytes that `buffered` gave
pub field_copied : {row : RowShape} {readers : List Reader} → BufferedRowsPre row readers → (k other n m : ℕ)
    → k < length row.cells → get_or row.cells k 0 ≢ other → {start : BegunText} → BufferedRowsPre row start.readers
    → {end : ℕ} {any_line : Bool} {was : List ℕ} → CopyColumnsPost row start (record {
      readers = after_both readers (get_or row.cells k 0) n other m;
      count = k;
      any_line = any_line;
      text = take end was;
    }) → {r : Reader} → r ≡ get_or readers (get_or row.cells k 0) r → IsSound r → {bytes : List ℕ} → bytes ≡ r.buffered
    → {size : ℕ} {is : List ℕ} → IsLineCopied row.terminator (take (length bytes - n) (drop n bytes)) end was is size
    → {next : List ℕ} → next ≡ take (end + size) is ++ after_cell row k → CopyColumnsPost row start (record {
      readers = after_both readers (get_or row.cells k 0) (n + (size + 1)) other m;
      count = k + 1;
      any_line = any_line || true;
      text = next;
    })
field_copied {row} {readers} ready k other n m low apart readable {end} p {r} at_one sound {bytes} given {size} {is}
    line stored =
    let one = get_or row.cells k 0 in
    let within = ready.within k 0 low in
    let same = at_one ∙ at_index readers _ r within in
    let rest = take_rest bytes n ∙ ap (drop n) (given ∙ ap (λ r. r.buffered) same) in
    let b = get_or (after_both readers one n other m) one no_reader in
    let is_b = reader_now readers one other apart within n m no_reader in
    rw (reader_more readers one other apart within n (size + 1) m) at
    (columns_more p readable low no_reader (record b { buffered = drop (size + 1) b.buffered })
    (sound_after_consume (rw same at sound) (record { size = n; is = is_b })) true (take (end + size) is)
    (record { at = size; found = rw (is_b, ← rest) line.found; consumed = refl; is = rw (is_b, ← rest) line.is })
    stored refl)
