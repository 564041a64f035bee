-- The keys are compared of slices up to their lengths, which are the whole lines.
use Rattle.ptflow.proofs
use proofs.Common.{arith, length, take_all, usual}
use proofs.tools.uniq.LineUniq.is_same_run.Goals as goal

pub returns-then-self-gt0 : goal.returns-then-self-gt0
returns-then-self-gt0 c =
    let line = take_all (length c.args.line.now) c.args.line.now (omega arith) in
    grind (usual, line)
