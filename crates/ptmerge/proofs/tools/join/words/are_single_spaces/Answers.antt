-- No bit of the masks is misplaced.
use Rattle.ptmerge.proofs
use proofs.Common.{arith}
use proofs.JoinLemmas.FieldMasks.{single_spaces_is}
use proofs.tools.join.words.are_single_spaces.Goals as goal

pub returns-then-tabs-eq0 : goal.returns-then-tabs-eq0
returns-then-tabs-eq0 c bytes few spaces tabs =
    rw c.if-tabs-eq0.true at (single_spaces_is _ _ _ _ c.requires few spaces tabs)

pub returns-else-tabs-eq0 : goal.returns-else-tabs-eq0
returns-else-tabs-eq0 c bytes few spaces tabs = grind (arith, single_spaces_is _ _ _ _ c.requires few spaces tabs)
