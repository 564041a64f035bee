-- Each iteration clears one more bit. After `count` of them the lowest bit that is left is the match after `count`
-- others. A mask of more than `count` set bits is not zero before that.
use Rattle.ptlines.proofs
use Rattle.std.proofs.Common.{◌≡◌, ◌-◌, suc, map, arith}
use proofs.MatchWindows.{and_less, after_set, without}
use lib.Count.{count_trailing_zeros}
use proofs.scan.nth_bit.Goals as goal
use proofs.scan.nth_bit.Goals.{then-loop-left-test+else-rest-ne0, else-loop-left-test}

pub loop-left-preserved : goal.loop-left-preserved
loop-left-preserved c = record {
  few = omega arith;
  cleared = λ bits is.
      let next : c.args.count - (c.loop-left.left - 1) ≡ suc (c.args.count - c.loop-left.left) = omega arith in
      rw (next, (c.loop-left.invariant.cleared bits is)) (and_less (without (c.args.count - c.loop-left.left) bits));
}

pub returns : goal.returns
unfolding count_trailing_zeros
returns c = λ test bytes few is some.
    let rest = c.loop-left.invariant.cleared (map test bytes) is in
    let nth = after_set test bytes (c.args.count - c.loop-left.left) few (omega arith) rest in
    elim c.loop-left-test.branch [
      | then-loop-left-test+else-rest-ne0 w ↦ (
          absurd (omega (arith, rw w.if-rest-ne0.false at nth))
          )
      | else-loop-left-test w ↦ (
          let all : c.args.count - c.loop-left.left ≡ c.args.count = omega arith in
          rw all at nth
          )
    ]
