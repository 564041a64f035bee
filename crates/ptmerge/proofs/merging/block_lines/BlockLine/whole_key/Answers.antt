-- A further line has the key if that of the line before it is equal. At the end the lines are counted.
use Rattle.ptmerge.proofs
use proofs.Common.{◌-◌, arith}
use proofs.MergeLemmas.{IsKeyOrder}
use proofs.BlockLemmas.{lines_are_between, more_in_key, one_in_key}
use proofs.merging.block_lines.BlockLine.whole_key.Goals as goal

pub lines-init : goal.lines-init
lines-init g c = record { f = _; passed = one_in_key _ _ c.requires.next c.requires.passed }

pub lines-preserved : goal.lines-preserved
lines-preserved g c =
    let law = g.met.K.KeyOrder in
    let o : IsKeyOrder (g.K.KeyOrder.order c.args.order.now) = record { total = law.total _; exact = law.exact _ } in
    record { f = _; passed = more_in_key _ _ o c.lines.invariant.passed c.lines-test.true c.in_ok-after.ensures }

pub returns : goal.returns
returns g c =
    let i = c.lines.invariant.passed in
    record {
      passed = rw (lines_are_between (c.lines.after.passed - c.args.next.passed) i.passed
          (omega (arith, i.passed.passed))) i;
      new = c.lines-test.false;
    }
