-- What was copied, and then the output from the cursor on, are the selected fields, and not longer than the line.
use Rattle.ptflow.proofs
use proofs.Common.{◌≡◌, ◌+◌, ◌≤◌, ◌++◌, length, take, cut_job, cut_fields, IsFieldCursor, output_from_cursor}
use proofs.Common.{IsLineWindow}
use proofs.tools.cut.fields.copy_fields.Given as goal

abbrev pub invariant-slices : goal.invariant-slices
invariant-slices g l =
    let line = take l.to l.delimiters.bytes.now in record {
      copied : take l.start l.fn.room ++ cut_fields (cut_job l.job) line
          ≡ take l.end l.room ++ output_from_cursor l.delimiters.needle line l.cursor;
      cursor : IsFieldCursor l.delimiters.needle line l.cursor;
      window : IsLineWindow l.delimiters.needle l.delimiters.bytes.now l.to l.cursor;
      low : l.start ≤ l.end;
      high : l.end ≤ l.start + l.to;
      long : length l.room ≡ length l.fn.room;
    }

abbrev pub decreases-slices : goal.decreases-slices
decreases-slices g l = length l.cursor.left.now
