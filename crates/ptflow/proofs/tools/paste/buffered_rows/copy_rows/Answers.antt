-- After a row that was too long, no row is copied, and none begun.
use Rattle.ptflow.proofs
use proofs.Common.{arith}
use proofs.PasteLemmas.BufferedRows.{columns_start, consumed_none, rows_taken_none}
use proofs.PasteLemmas.TwoColumns.{rows_begun}
use proofs.tools.paste.buffered_rows.copy_rows.Goals as goal

pub returns-then-after_long-clause-rows : goal.returns-then-after_long-clause-rows
returns-then-after_long-clause-rows g c =
    rows_begun 0 0 c.args.into.now c.args.into.now (omega arith) (omega arith) rows_taken_none consumed_none
    columns_start

pub returns-then-after_long-clause-within : goal.returns-then-after_long-clause-within
returns-then-after_long-clause-within g c = omega arith

pub returns-then-has_ended_column-clause-within : goal.returns-then-has_ended_column-clause-within
returns-then-has_ended_column-clause-within g c = c.copy_rows_by.ensures.within

pub copy_rows_of_two-requires-clause-readable : goal.copy_rows_of_two-requires-clause-readable
copy_rows_of_two-requires-clause-readable g c = c.requires

pub returns-then-row-clause-rows : goal.returns-then-row-clause-rows
returns-then-row-clause-rows g c = c.copy_rows_of_two.ensures.rows

pub returns-clause-rows : goal.returns-clause-rows
returns-clause-rows g c = c.copy_rows_by-2.ensures.rows

pub copy_rows_by-requires-2-clause-readable : goal.copy_rows_by-requires-2-clause-readable
copy_rows_by-requires-2-clause-readable g c = c.requires

pub returns-clause-within : goal.returns-clause-within
returns-clause-within g c = c.copy_rows_by-2.ensures.within

pub segments-requires : goal.segments-requires
segments-requires g c = c.requires

pub returns-then-has_ended_column-clause-rows : goal.returns-then-has_ended_column-clause-rows
returns-then-has_ended_column-clause-rows g c = c.copy_rows_by.ensures.rows
