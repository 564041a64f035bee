-- The fields, and then the terminator; a write that fails leaves a prefix of these.
use Rattle.ptmerge.proofs
use Rattle.ptlines.proofs.Push.{push_past_failure}
use proofs.JoinLemmas.Fields.{push_fails, then_pushes}
use proofs.tools.join.output.write_entry.Goals as goal

pub returns-in_err-write_fields : goal.returns-in_err-write_fields
returns-in_err-write_fields g c =
    push_fails _ c.from_residual.ensures.1 c.in_err-write_fields.ensures.fault
    (push_past_failure _ _ _ _ c.in_err-write_fields.ensures.fault c.write_fields.ensures.wrote)

pub returns : goal.returns
returns g c = then_pushes c.in_ok-write_fields.ensures.clean c.write_fields.ensures.wrote c.push.ensures.pushed
