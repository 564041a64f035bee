-- The loop of `Delims::read`: the delimiters that are kept and those of the rest are together those of the list. A
-- fault of the rest is the fault of the list. The rest gets shorter.
use Rattle.ptlangs.proofs
use proofs.Common.{delim_list, length, ◌≡◌}
use proofs.ListElements.{append_ok}
use proofs.delims.Delims.read.Given as goal

abbrev pub invariant-loop-kept : goal.invariant-loop-kept
invariant-loop-kept g l = delim_list l.text ≡ append_ok l.kept.items (delim_list l.left)

abbrev pub decreases-loop-kept : goal.decreases-loop-kept
decreases-loop-kept g l = length l.left
