-- The row has the selected indices so far, and the counts say how many there are in each length.
use Rattle.ptflow.proofs
use proofs.Common.{is_selected, selected_after}
use proofs.CutLemmas.CutBytes.{PickBegun}
use proofs.tools.cut.shuffle.PieceShuffle.of.Given as goal

abbrev pub invariant-loop-index : goal.invariant-loop-index
invariant-loop-index g l = PickBegun (selected_after (is_selected l.list) l.start) l.index l.count l.row l.counts
