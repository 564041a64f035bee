-- The output for the lines before this one is written. The lines that are left decrease.
use Rattle.ptmerge.proofs
use proofs.Common.{[], ◌∷◌, Second, length}
use Rattle.ptmerge.specs.Private.BlockLines.{further_lines}
use proofs.RowLemmas.{EachWritten}
use proofs.merging.block_merge.write_row.Given as goal

abbrev pub invariant-lines : goal.invariant-lines
invariant-lines g l =
    let tool = g.T.MergeWriter.tool l.tool in
    EachWritten l.terminator (λ y. tool.entries l.key (l.fn.one ∷ []) (y ∷ [])) (tool.key Second) l.key l.seconds l.two
    l.fn.out l.out

abbrev pub decreases-lines : goal.decreases-lines
decreases-lines g l = length (further_lines l.terminator l.two)
