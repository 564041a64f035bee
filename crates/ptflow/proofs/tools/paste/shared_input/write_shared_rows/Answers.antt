-- Without a cycle, or if no row was copied, nothing is written. Otherwise the complete rows at the start of the buffer
-- are copied and pushed.
use Rattle.ptflow.proofs
use proofs.Common.{arith, set-get_or}
use borrow.Author.Rules.{scaled_Fits}
use proofs.PasteLemmas.BufferedRows.{copied_rows, no_rows_written, next_reader}
use proofs.tools.paste.shared_input.write_shared_rows.Goals as goal

pub returns-in_default-clause-rows : goal.returns-in_default-clause-rows
returns-in_default-clause-rows g c = no_rows_written

pub bounds-readers-row : goal.bounds-readers-row
bounds-readers-row g c = c.requires.readable.within 0 0 (rw c.in-Some.is at c.requires.is_cycle).some

pub returns-then-count-eq0-clause-rows : goal.returns-then-count-eq0-clause-rows
returns-then-count-eq0-clause-rows g c =
    rw set-get_or no_rows_written

pub returns-clause-rows : goal.returns-clause-rows
returns-clause-rows g c =
    let shared = rw c.in-Some.is at c.requires.is_cycle in
    let copied = c.copy_shared_rows-count.ensures in
    copied_rows shared (next_reader c.requires.readable shared.some _) copied.sound
    (omega arith) copied.within (rw (shared.terminator, shared.len) at copied.rows) c.consume.ensures.consumed
    copied.copied c.push_block.ensures.pushed.wrote

pub bounds-row-0 : goal.bounds-row-0
bounds-row-0 g c = (rw c.in-Some.is at c.requires.is_cycle).some

pub offset_bounds-readers-row : goal.offset_bounds-readers-row
offset_bounds-readers-row g c =
    let low = c.requires.readable.within 0 0 (rw c.in-Some.is at c.requires.is_cycle).some in search scaled_Fits
