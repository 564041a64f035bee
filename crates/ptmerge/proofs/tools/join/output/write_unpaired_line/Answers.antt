-- A canonical line is its key and its other fields, so it is written unchanged.
use Rattle.ptmerge.proofs
use proofs.Common.{ap, join_job}
use proofs.JoinLemmas.Fields.{alone_is, one_line_is}
use proofs.tools.join.output.write_unpaired_line.Goals as goal

pub returns-then-is_unchanged : goal.returns-then-is_unchanged
returns-then-is_unchanged g c =
    rw (alone_is _ _ _ (c.is_unchanged.ensures c.if-is_unchanged.true) c.requires) at c.push_line.ensures.pushed

pub returns : goal.returns
returns g c =
    let alone = c.alone-entry.ensures in
    rw (one_line_is _ _ _ _ (ap join_job alone.job) alone.key alone.lines) at c.write_entry.ensures
