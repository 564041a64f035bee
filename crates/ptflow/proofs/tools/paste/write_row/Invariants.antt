-- The copied text was pushed, and then the fields of the columns so far.
use Rattle.ptflow.proofs
use proofs.Common.{◌≡◌, ◌++◌, false, take, shape_of, slots_text}
use proofs.Passes.Exits.{WrittenPrefix}
use proofs.tools.paste.write_row.Given as goal

abbrev pub invariant-loop-column : goal.invariant-loop-column
invariant-loop-column g l = record {
  front : WrittenPrefix (take l.fn.begun.end l.into ++ slots_text (shape_of l.row) l.fn.begun.count l.store)
      (slots_text (shape_of l.row) l.column l.store) l.fn.out l.out;
  clean : l.out.write_failed ≡ false;
}
