-- The loop of `check`: the delimiters so far have no fault, so the fault of the list is that of the rest, which gets
-- shorter.
use Rattle.ptlangs.proofs
use proofs.Common.{delim_list, length, result_err, ◌≡◌}
use proofs.delims.check.Given as goal

abbrev pub invariant-loop-rest : goal.invariant-loop-rest
invariant-loop-rest l = result_err (delim_list l.text) ≡ result_err (delim_list l.left)

abbrev pub decreases-loop-rest : goal.decreases-loop-rest
decreases-loop-rest l = length l.left
