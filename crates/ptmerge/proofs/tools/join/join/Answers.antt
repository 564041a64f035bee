-- The contract is that of `join_with_order`, since setting the terminator does not change the inputs.
use Rattle.ptmerge.proofs
use proofs.Common.{refl, sym, ◌∙◌}
use proofs.MergeLemmas.Exits.{merge_halted, merge_set}
use proofs.tools.join.join.Goals as goal

pub returns-then-has_failed : goal.returns-then-has_failed
returns-then-has_failed g c = merge_halted c.requires.allowed (sym c.has_failed.ensures ∙ c.if-has_failed.true)

pub returns-then-job : goal.returns-then-job
returns-then-job g c =
    merge_set _ refl (sym c.has_failed.ensures ∙ c.if-has_failed.false) c.set_ending.ensures.set
    c.set_ending-2.ensures.set (rw c.if-job.true c.join_with_order.ensures)

pub returns : goal.returns
returns g c =
    merge_set _ refl (sym c.has_failed.ensures ∙ c.if-has_failed.false) c.set_ending.ensures.set
    c.set_ending-2.ensures.set (rw c.if-job.false c.join_with_order-2.ensures)
