-- The pushed bytes, and then the output from the cursor on, are the selected fields.
use Rattle.ptflow.proofs
use proofs.Common.{◌≡◌, false, length, take, cut_job, cut_fields, IsFieldCursor, output_from_cursor, IsLineWindow}
use proofs.Passes.Exits.{WrittenPrefix}
use proofs.tools.cut.fields.write_fields.Given as goal

abbrev pub invariant-slices : goal.invariant-slices
invariant-slices g l = record {
  front : WrittenPrefix (cut_fields (cut_job l.job) l.delimiters.bytes.now)
      (output_from_cursor l.delimiters.needle (take (length l.line) l.line) l.cursor) l.fn.out l.out;
  cursor : IsFieldCursor l.delimiters.needle (take (length l.line) l.line) l.cursor;
  window : IsLineWindow l.delimiters.needle l.delimiters.bytes.now (length l.line) l.cursor;
  clean : l.fn.out.write_failed ≡ false → l.out.write_failed ≡ false;
}

abbrev pub decreases-slices : goal.decreases-slices
decreases-slices g l = length l.cursor.left.now
