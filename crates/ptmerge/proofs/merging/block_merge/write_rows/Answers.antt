-- Answers for `write_rows`: its loop at the start, after a row, and at its exits.
use Rattle.ptmerge.proofs
use proofs.Common.{arith}
use proofs.RowLemmas.{all_written, each_fails_at, each_starts, each_written}
use proofs.merging.block_merge.write_rows.Goals as goal

pub lines-init : goal.lines-init
lines-init g c = each_starts c.requires.one c.requires.clean

pub lines-preserved : goal.lines-preserved
lines-preserved g c =
    each_written c.lines.invariant c.write_row.ensures.wrote c.in-Some.ensures
    (c.in_ok-write_row.ensures.clean c.lines.invariant.clean)

pub returns-in_default : goal.returns-in_default
returns-in_default g c =
    all_written c.lines.invariant c.write_row.ensures.wrote (grind arith)
    (c.in_ok-write_row.ensures.clean c.lines.invariant.clean)

pub returns-in_err-write_row : goal.returns-in_err-write_row
returns-in_err-write_row g c =
    each_fails_at c.lines.invariant c.write_row.ensures.wrote _ c.from_residual.ensures.1
    c.in_err-write_row.ensures.fault
