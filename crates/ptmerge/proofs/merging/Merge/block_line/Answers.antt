-- The line that `Merge::block_line` returns can be merged in its block: no line is passed yet, and its span is that of
-- its key.
use Rattle.ptmerge.proofs
use proofs.Common.{◌∙◌, ap, refl, sym}
use proofs.BlockLemmas.{can_merge}
use proofs.merging.Merge.block_line.Goals as goal

pub returns-clause-begins : goal.returns-clause-begins
returns-clause-begins g c =
    can_merge refl refl c.buffered.ensures.buffered c.buffered.ensures.sound
    (c.key.ensures ∙ ap (g.K.KeyOrder.key_of c.args.self.now.order c.args.side) (sym c.head.ensures))
