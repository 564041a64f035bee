-- The columns so far read the input of the first column.
use Rattle.ptflow.proofs
use proofs.Common.{◌≡◌, ◌<◌, ℕ, get_or}
use proofs.tools.paste.shared_input.shared_cycle.Given as goal

abbrev pub invariant-loop-input : goal.invariant-loop-input
invariant-loop-input l = record {
  same : (c : ℕ) → c < l.input-index → get_or l.row.cells.now c 0 ≡ get_or l.row.cells.now 0 0;
}
