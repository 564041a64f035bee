-- Each iteration takes the complete rows in the buffers, and finishes the next row and writes it. If that has no line,
-- all readers are at the end of their inputs. The invariant holds after each push (`pushed`, `sent`).
use Rattle.ptflow.proofs
use proofs.Common.{sym, ap, subst, arith, length, paste_job, job_shape, RowShape, RowFilledTo, begun_in, shape_of}
use proofs.Common.{call_on_failed_output, push_nothing, refl, [], ◌∙◌, Ok, Output}
use Rattle.std.proofs.lemmas.Bool.{not-false, not-true}
use proofs.Passes.Exits.{is_fault}
use proofs.PasteLemmas.{of_rows, row_job, paste_without_slots, rows_write_failed, paste_done}
use proofs.PasteLemmas.{paste_fill_failed, paste_row_write_failed, HasStarted, invariant_rows, invariant_written}
use proofs.PasteLemmas.{row_slots, invariant_slots, invariant_more, now_readable, RowsInvariant, still_readable}
use proofs.PasteLemmas.{filled_to_starts, nothing_taken, rows_taken_none, slots_bound_start}
use Rattle.ptflow.proofs.tools.paste.paste.Goals.{After-ensure_slots, In_ok-filled, In_ok-push}
use proofs.tools.paste.paste.Given as given
use proofs.tools.paste.paste.Goals as goal

pub returns-then-has_failed : goal.returns-then-has_failed
returns-then-has_failed g c = call_on_failed_output _ _ (cc) c.requires.not_denied

starts : (g : given.Over) (c : After-ensure_slots g)
    → HasStarted (row_job (job_shape (paste_job c.args.job.now) c.args.cells.now)) c.args.cells.now c.args.readers.now
    c.set_terminators.new.readers c.args.out.now c.args.store.now
starts g c = record {
  writable = cc;
  ready = c.requires;
  are_set = c.set_terminators.ensures;
  count = c.set_terminators.auto.readers;
}

pub returns-in_err-ensure_slots : goal.returns-in_err-ensure_slots
returns-in_err-ensure_slots g c =
    paste_without_slots (starts g (goal.at.returns-in_err-ensure_slots g c).After-ensure_slots)
    c.ensure_slots.ensures.adds c.ensure_slots.ensures.same_peak c.in_err-ensure_slots.ensures.denied
    c.in_err-ensure_slots.ensures.few {result = c.from_residual.result}
    (grind (arith, c.from_residual.ensures.1, c.in_err-ensure_slots.ensures.err))

pub rows-init : goal.rows-init
rows-init g c =
    let row : RowShape → Type 0 = λ r. RowsInvariant r c.args.readers.now c.set_terminators.new.readers
    c.set_terminators.new.readers c.args.out.now c.args.out.now c.args.store.now c.ensure_slots.new.store in
    let start = starts g (goal.at.rows-init g c).After-ensure_slots in
    subst row (sym c.row_format-row.ensures) (record {
      starts = start;
      written = [];
      rows = rows_taken_none;
      wrote = push_nothing _;
      clean = start.writable;
      kept = λ top high. slots_bound_start c.ensure_slots.ensures.adds c.in_ok-ensure_slots.ensures.allowed
          (c.ensure_slots.ensures.same_total ∙ c.requires.empty) c.ensure_slots.ensures.same_peak;
    })

pub write_shared_rows-requires-clause-readable : goal.write_shared_rows-requires-clause-readable
write_shared_rows-requires-clause-readable g c = now_readable c.rows.invariant

pub returns-in_err-write_shared_rows : goal.returns-in_err-write_shared_rows
returns-in_err-write_shared_rows g c =
    let p = c.write_shared_rows.ensures.rows in
    of_rows c.row_format-row.ensures (is_fault c.from_residual-in_err-write_shared_rows.ensures)
    (rows_write_failed c.rows.invariant p.rows 0 (λ input. nothing_taken refl) p.consumed p.wrote
    c.in_err-write_shared_rows.ensures.fault)

pub copy_rows-copied-requires : goal.copy_rows-copied-requires
copy_rows-copied-requires g c = still_readable c.write_shared_rows.ensures.rows.consumed (now_readable c.rows.invariant)

pub returns-in_err-push : goal.returns-in_err-push
returns-in_err-push g c =
    let p = c.copy_rows-copied.ensures.rows in
    of_rows c.row_format-row.ensures (is_fault c.from_residual-in_err-push.ensures) (rows_write_failed
    (invariant_written c.rows.invariant c.write_shared_rows.ensures.rows c.in_ok-write_shared_rows.ensures.clean) p.rows
    _ p.filled.consumed.lines_taken p.consumed c.push.ensures.pushed.wrote c.in_err-push.ensures.pushed.fault)

pub fill_row-requires-clause-readable : goal.fill_row-requires-clause-readable
fill_row-requires-clause-readable g c = still_readable c.copy_rows-copied.ensures.rows.consumed
    (still_readable c.write_shared_rows.ensures.rows.consumed (now_readable c.rows.invariant))

pub fill_row-requires-clause-within : goal.fill_row-requires-clause-within
fill_row-requires-clause-within g c =
    omega (arith, ap (λ b. b.count) (c.move_to_front-begun.ensures c.copy_rows-copied.new.readers))

pub fill_row-requires-clause-slots : goal.fill_row-requires-clause-slots
fill_row-requires-clause-slots g c = invariant_slots c.rows.invariant

module _ (g : given.Over) (c : In_ok-push g) where
  abbrev shape : RowShape
  shape = shape_of c.row_format-row.result

  -- The invariant after the rows in the buffers were pushed.
  abbrev Sent : Output → Type 0
  Sent out = RowsInvariant shape c.args.readers.now c.set_terminators.new.readers c.copy_rows-copied.ensures.rows.mid
      c.args.out.now out c.args.store.now c.rows.store

  pushed : Sent c.push.new.self
  pushed = invariant_rows (invariant_written c.rows.invariant c.write_shared_rows.ensures.rows
      c.in_ok-write_shared_rows.ensures.clean) c.copy_rows-copied.ensures.rows.rows c.push.ensures.pushed.wrote
      c.in_ok-push.ensures.pushed.clean

pub returns-in_err-filled : goal.returns-in_err-filled
returns-in_err-filled g c =
    of_rows c.row_format-row.ensures (is_fault c.from_residual-in_err-filled.ensures) (paste_fill_failed
    (pushed g (goal.at.returns-in_err-filled g c).In_ok-push) c.fill_row.new.readers c.fill_row.new.into
    c.in_err-filled.field-0.0 (c.in_err-filled.ensures.fills _ _ (filled_to_starts c.copy_rows-copied.ensures.rows
    (c.move_to_front-begun.ensures _))) c.in_err-filled.ensures.wrote c.in_err-filled.ensures.write_failed)

module _ (g : given.Over) (c : In_ok-filled g) where
  abbrev here : In_ok-push g
  here = (goal.at.In_ok-filled g c).In_ok-push

  filled_to : RowFilledTo (shape g here) (length (shape g here).cells) c.copy_rows-copied.ensures.rows.mid c.rows.store
      (begun_in c.fill_row.new.readers c.in_ok-filled.filled c.fill_row.new.into) c.fill_row.new.store
  filled_to = c.in_ok-filled.ensures.fills _ _
      (filled_to_starts c.copy_rows-copied.ensures.rows (c.move_to_front-begun.ensures _))

  -- The invariant before the row was written.
  sent : Sent g here c.fill_row.new.out
  sent = invariant_rows (pushed g here) rows_taken_none c.in_ok-filled.ensures.wrote c.in_ok-filled.ensures.write_failed

pub clear_slots-requires : goal.clear_slots-requires
clear_slots-requires g c =
    let here = (goal.at.clear_slots-requires g c).In_ok-filled in row_slots (sent g here) (filled_to g here)

pub returns-then-not-filled : goal.returns-then-not-filled
returns-then-not-filled g c =
    let here = (goal.at.returns-then-not-filled g c).In_ok-filled in
    of_rows {result = Ok tt} c.row_format-row.ensures refl (paste_done (sent g here) (filled_to g here)
    (not-true _ c.if-not-filled.true) c.clear_slots.ensures (push_nothing _) c.in_ok-filled.ensures.write_failed)

pub write_row-requires-clause-within : goal.write_row-requires-clause-within
write_row-requires-clause-within g c = (filled_to g (goal.at.write_row-requires-clause-within g c).In_ok-filled).within

pub write_row-requires-clause-slots : goal.write_row-requires-clause-slots
write_row-requires-clause-slots g c =
    let here = (goal.at.write_row-requires-clause-slots g c).In_ok-filled in row_slots (sent g here) (filled_to g here)

pub returns-in_err-write_row : goal.returns-in_err-write_row
returns-in_err-write_row g c =
    let here = (goal.at.returns-in_err-write_row g c).In_ok-filled in
    of_rows c.row_format-row.ensures (is_fault c.from_residual-in_err-write_row.ensures) (paste_row_write_failed
    (sent g here) (filled_to g here) (not-false _ c.if-not-filled.false) c.write_row.ensures.wrote
    c.in_err-write_row.ensures.fault)

pub rows-smaller : goal.rows-smaller
rows-smaller g c = omega (
  arith,
  (filled_to g (goal.at.rows-smaller g c).In_ok-filled).filled.less (not-false _ c.if-not-filled.false),
  c.copy_rows-copied.ensures.rows.rows.least,
)

pub rows-preserved : goal.rows-preserved
rows-preserved g c =
    let here = (goal.at.rows-preserved g c).In_ok-filled in
    invariant_more (sent g here) (filled_to g here) (not-false _ c.if-not-filled.false) c.write_row.ensures.wrote
    c.in_ok-write_row.ensures.clean

pub set_terminators-requires : goal.set_terminators-requires
set_terminators-requires g c = c.requires.within

pub ensure_slots-requires : goal.ensure_slots-requires
ensure_slots-requires g c = c.requires.not_denied

pub write_shared_rows-requires-clause-is_cycle : goal.write_shared_rows-requires-clause-is_cycle
write_shared_rows-requires-clause-is_cycle g c = c.shared_cycle-cycle.ensures

pub write_shared_rows-requires-clause-clean : goal.write_shared_rows-requires-clause-clean
write_shared_rows-requires-clause-clean g c = c.rows.invariant.clean

pub fill_row-requires-clause-clean : goal.fill_row-requires-clause-clean
fill_row-requires-clause-clean g c = c.in_ok-push.ensures.pushed.clean

pub write_row-requires-clause-clean : goal.write_row-requires-clause-clean
write_row-requires-clause-clean g c = c.in_ok-filled.ensures.write_failed

pub slice_bounds-buffer-end : goal.slice_bounds-buffer-end
slice_bounds-buffer-end g c =
    let rows = c.copy_rows-copied.result in
    omega (arith, rows.order, rows.begun.size_bound, c.type_inv.buffer)
