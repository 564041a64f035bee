-- The key, the other fields of the first line and those of the second; a write that fails leaves a prefix of these.
use Rattle.ptmerge.proofs
use proofs.Common.{option_copied, refl, join_job}
use proofs.JoinLemmas.Fields.{partial_ends, partial_fails, partial_first, partial_more, first_fails, entry_plain}
use proofs.tools.join.output.write_fields.Goals as goal

pub returns-in_err-push-in-None : goal.returns-in_err-push-in-None
returns-in_err-push-in-None g c =
    let e = c.args.entry.now in
    first_fails _ c.from_residual.ensures.1 _ (entry_plain (join_job e.job.now) e.key.now (option_copied e.one)
    (option_copied e.two) c.in-None.is) c.push.ensures.pushed.wrote c.in_err-push-in-None.ensures.pushed.fault

pub returns-in_err-write_other_fields-in-None : goal.returns-in_err-write_other_fields-in-None
returns-in_err-write_other_fields-in-None g c =
    let e = c.args.entry.now in
    let a = partial_first (entry_plain (join_job e.job.now) e.key.now (option_copied e.one) (option_copied e.two)
    c.in-None.is) c.push.ensures.pushed.wrote c.in_ok-push-in-None.ensures.pushed.clean in
    partial_fails _ c.from_residual-in_err-write_other_fields-in-None.ensures.1 _ refl a
    c.write_other_fields.ensures.wrote c.in_err-write_other_fields-in-None.ensures.fault

pub returns-in_ok-write_other_fields-in-None : goal.returns-in_ok-write_other_fields-in-None
returns-in_ok-write_other_fields-in-None g c =
    let e = c.args.entry.now in
    let clean = c.in_ok-push-in-None.ensures.pushed.clean in
    let a = partial_first (entry_plain (join_job e.job.now) e.key.now (option_copied e.one) (option_copied e.two)
    c.in-None.is) c.push.ensures.pushed.wrote clean in
    partial_ends refl (partial_more refl a c.write_other_fields.ensures.wrote
    (c.in_ok-write_other_fields-in-None.ensures.clean clean)) c.write_other_fields-in-None.ensures
