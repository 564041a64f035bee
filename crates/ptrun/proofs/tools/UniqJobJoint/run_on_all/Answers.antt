-- `uniq` accepts one operand only, so the pass over its reader is the pass over all operands.
use Rattle.ptrun.proofs
use proofs.Common.{arith, scaled_Fits}
use proofs.JointRuns.{only_operand_post, only_operand_within}
use proofs.tools.UniqJobJoint.run_on_all.Goals as goal

pub bounds-inputs-position : goal.bounds-inputs-position
bounds-inputs-position g c = only_operand_within c.requires c.requires.accepts_operands 0

pub offset_bounds-inputs-position : goal.offset_bounds-inputs-position
offset_bounds-inputs-position g c = search (scaled_Fits, (bounds-inputs-position g c))

pub returns-in-Ok : goal.returns-in-Ok
returns-in-Ok g c =
    rw c.in-Ok.is at (only_operand_post c.requires c.requires.accepts_operands 0 c.index-inputs-position.result
    c.uniq.ensures)

pub returns-in-Err : goal.returns-in-Err
returns-in-Err g c =
    rw c.fault_at.ensures
    (rw c.in-Err.is at (only_operand_post c.requires c.requires.accepts_operands 0 c.index-inputs-position.result
    c.uniq.ensures))

pub bounds-operands-0 : goal.bounds-operands-0
bounds-operands-0 g c = grind arith
