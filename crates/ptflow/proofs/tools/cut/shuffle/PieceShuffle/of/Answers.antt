-- The next entry of the counts is the number of selected indices so far.
use Rattle.ptflow.proofs
use proofs.Common.{◌∙◌, ap, ◌≡◌, ◌+◌, arith, is_selected}
use mir.Val.{bool_byte}
use proofs.CutLemmas.CutBytes.{shuffle_next}
use proofs.tools.cut.shuffle.PieceShuffle.of.Goals as goal

pub loop-index-preserved : goal.loop-index-preserved
loop-index-preserved g c =
    let start = c.args.start in
    let loop = c.loop-index in
    let position : start + c.from.result + 1 ≡ start + (loop.index + 1) = omega arith in
    shuffle_next _ (omega arith) loop.invariant
    (c.from-count.ensures ∙ ap bool_byte (c.contains.ensures ∙ ap (is_selected c.args.list.now) position)) (cc)
