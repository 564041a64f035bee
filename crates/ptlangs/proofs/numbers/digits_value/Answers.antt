-- Answer for `digits_value`: a value above the limit stays above it, whatever digits follow.
use Rattle.ptlangs.proofs
use proofs.Common.{arith, ◌+◌}
use proofs.ListElements.{number_step, too_large}
use proofs.numbers.digits_value.Goals as goal

pub returns-then-value-from : goal.returns-then-value-from
returns-then-value-from c =
    let i = c.loop-digit.digit-index in
    let ds = c.args.digits.now in
    let below = c.requires.digits i 0 c.loop-digit-test.true in
    let more = number_step _ ds i _ _ c.loop-digit-test.true
    (omega arith) below c.loop-digit.invariant.0 c.from.ensures in
    let above = too_large c.args.base c.args.limit ds (i + 1) (omega arith) (omega arith) in
    rw above
