-- Each end is skipped, is out of order, or is where the next file begins.
use Rattle.std.proofs.Common.{arith, inl, inr, refl, sym, ◌∙◌}
use Rattle.ptrunc.proofs.GivenLemmas.{all_ascend, end_ascends, end_descends, end_skipped}
use Rattle.ptrunc.proofs.given.are_ends.Goals.{then-end-begin-via-then-end-begin}
use Rattle.ptrunc.proofs.given.are_ends.Goals.{then-end-begin-via-else-end-begin+then-end-size}
use Rattle.ptrunc.proofs.given.are_ends.Goals as goal

pub loop-end-init : goal.loop-end-init
loop-end-init c = refl

pub loop-end-preserved-then-end : goal.loop-end-preserved-then-end
loop-end-preserved-then-end c =
    sym (end_skipped c.loop-end.begin c.args.size c.args.ends.now c.loop-end.end-index c.loop-end-test.true c.if-end.true)
    ∙ c.loop-end.invariant

pub returns-then-end-begin : goal.returns-then-end-begin
returns-then-end-begin c =
    let descends = end_descends c.loop-end.begin c.args.size c.args.ends.now c.loop-end.end-index c.loop-end-test.true
    c.if-end.false in
    elim c.then-end-begin.branch [
      | then-end-begin-via-then-end-begin w ↦ sym (descends (inl w.if-end-begin.true)) ∙ c.loop-end.invariant
      | then-end-begin-via-else-end-begin+then-end-size w ↦ sym (descends (inr w.if-end-size.true))
          ∙ c.loop-end.invariant
    ]

pub loop-end-preserved : goal.loop-end-preserved
loop-end-preserved c =
    sym (end_ascends c.loop-end.begin c.args.size c.args.ends.now c.loop-end.end-index c.loop-end-test.true c.if-end.false
    (omega (arith, c.if-end-begin.false)) (omega (arith, c.if-end-size.false)))
    ∙ c.loop-end.invariant

pub returns : goal.returns
returns c = sym (all_ascend c.loop-end.begin c.args.size c.args.ends.now c.loop-end.end-index c.loop-end-test.false)
    ∙ c.loop-end.invariant
