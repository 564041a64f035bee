-- The selected bytes of the pieces before `index` were copied; `rest` is the number of bytes after these.
use Rattle.ptflow.proofs
use proofs.Common.{◌≡◌, ◌≤◌, ◌+◌, ◌*◌, ◌++◌, take, select_from, is_selected}
use proofs.tools.cut.bytes.Selection.copy_pieces.Given as goal

abbrev pub invariant-loop-index : goal.invariant-loop-index
invariant-loop-index l = record {
  sum : 16 * l.index + l.rest ≡ l.count;
  near : l.at ≤ l.fn.at + 16 * l.index;
  copied : take l.at l.into ≡ take l.fn.at l.fn.into
      ++ select_from (is_selected l.self.selected.now) 1 (take (16 * l.index) l.line);
}
