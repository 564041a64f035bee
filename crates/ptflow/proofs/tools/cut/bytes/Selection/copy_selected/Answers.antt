-- An interval that reaches the end of the piece is the last one. If none is left, nothing more is selected.
use Rattle.ptflow.proofs
use proofs.Common.{arith, usual, length-drop, take_rest, ℕ, append-nil, drop_all}
use proofs.CutLemmas.CutBytes.{copied_ends, copied_more, copied_none, select_none}
use proofs.tools.cut.bytes.Selection.copy_selected.Goals as goal

pub returns-then-last-interval-clause-copied : goal.returns-then-last-interval-clause-copied
returns-then-last-interval-clause-copied c =
    copied_ends _ (omega (arith, length-drop {A = ℕ})) c.loop-interval.invariant
    c.loop-interval-test.true _ (cc)
    c.if-last-interval.true (rw take_rest at c.copy_short.ensures.copied)

pub loop-interval-preserved-then-interval-line : goal.loop-interval-preserved-then-interval-line
loop-interval-preserved-then-interval-line c =
    copied_none _ (omega (arith, length-drop {A = ℕ})) c.loop-interval.invariant
    c.loop-interval-test.true c.if-interval-line.true

pub loop-interval-preserved : goal.loop-interval-preserved
loop-interval-preserved c =
    copied_more _ (omega (arith, length-drop {A = ℕ})) c.loop-interval.invariant
    c.loop-interval-test.true _ c.saturating_sub-from.ensures c.saturating_sub-to.ensures
    c.if-last-interval.false (rw take_rest at c.copy_short-in-loop-interval.ensures.copied)

pub returns-clause-copied : goal.returns-clause-copied
returns-clause-copied c = grind (arith, select_none, drop_all, append-nil)

pub loop-interval-init : goal.loop-interval-init
loop-interval-init c = grind arith

pub overflow_add-at : goal.overflow_add-at
overflow_add-at c = grind usual

pub overflow_add-result : goal.overflow_add-result
overflow_add-result c = grind usual

pub copy_short-requires-in-loop-interval-clause-within : goal.copy_short-requires-in-loop-interval-clause-within
copy_short-requires-in-loop-interval-clause-within = grind usual

pub overflow_sub-at : goal.overflow_sub-at
overflow_sub-at = grind usual
