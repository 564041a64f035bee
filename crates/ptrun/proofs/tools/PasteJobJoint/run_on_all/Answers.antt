-- Each operand is a column of `paste`. So what it has done, whether it failed or not, is what its engine does at the
-- positions of the operands.
use Rattle.ptrun.proofs
use proofs.Common.{err_from_is_err_and, paste_job}
use proofs.JointRuns.{rows_post}
use proofs.tools.PasteJobJoint.run_on_all.Goals as goal

pub returns-in_err-paste : goal.returns-in_err-paste
returns-in_err-paste g c =
    let e = err_from_is_err_and c.from_residual.result c.from_residual.ensures.1 in
    rw (e.1, e.2) (rw c.in_err-paste.was at (rows_post (paste_job c.args.self.now) c.requires _ c.paste.ensures))

pub returns : goal.returns
returns g c = rw c.in_ok-paste.was at (rows_post (paste_job c.args.self.now) c.requires _ c.paste.ensures)
