-- Each iteration stores the shuffle of one more piece, and leaves the others as they are.
use Rattle.ptflow.proofs
use proofs.Common.{arith, cases_eq, get_or-set_other, get_or-set_same, length-set}
use proofs.tools.cut.shuffle.LineShuffles.of.Goals as goal

pub loop-index-preserved : goal.loop-index-preserved
loop-index-preserved g c =
    let loop = c.loop-index in
    record {
      long = simp length-set loop.invariant.long;
      pieces = λ k upto. grind (arith, cases_eq k loop.index, get_or-set_same, get_or-set_other);
    }
