-- The text of the slots from a column on begins with the field of this column, so each iteration writes the next part
-- of the row. A failed write leaves a prefix of it.
use Rattle.ptflow.proofs
use proofs.Common.{◌≡◌, ℕ, ◌+◌, ◌<◌, ◌≤◌, [], ◌++◌, length, take, refl, ap, ◌∙◌, arith, append-nil, drop_all, drop_more}
use proofs.Common.{length-take-le, get_or-take, Slots, line, RowShape, after_cell, cells_text, shape_of, slots_text}
use Rattle.std.proofs.lemmas.List.{length-take}
use proofs.Passes.Exits.{is_fault, prefix_starts, front_more, front_fails, push_failed}
use proofs.tools.paste.write_row.Goals as goal

slots_next : (row : RowShape) (column : ℕ) (store : Slots) → column < length row.cells
    → length row.cells ≤ length store.lines → slots_text row column store
    ≡ (line store column ++ after_cell row column) ++ slots_text row (column + 1) store
slots_next row column store low room =
    let n = length row.cells in
    ap (cells_text row column) (drop_more (take n store.lines) column []
    (omega (arith, length-take-le n store.lines room)))
    ∙ ap (λ field. (field ++ after_cell row column) ++ slots_text row (column + 1) store)
    (get_or-take n store.lines column [] low)

pub returns-in_err-push : goal.returns-in_err-push
returns-in_err-push g c =
    push_failed (is_fault c.from_residual.ensures) (front_fails (prefix_starts refl) _ refl c.push.ensures.pushed.wrote
    c.in_err-push.ensures.pushed.fault) c.in_err-push.ensures.pushed.fault

pub loop-column-init : goal.loop-column-init
loop-column-init g c = record {
  front = front_more (prefix_starts refl) _ refl c.push.ensures.pushed.wrote;
  clean = c.in_ok-push.ensures.pushed.clean;
}

pub returns-in_err-write_slot : goal.returns-in_err-write_slot
returns-in_err-write_slot g c =
    push_failed (is_fault c.from_residual-in_err-write_slot.ensures) (front_fails c.loop-column.invariant.front _
    (slots_next (shape_of c.args.row) c.loop-column.column c.args.store.now c.loop-column-test.true c.requires.slots)
    c.write_slot.ensures.wrote c.in_err-write_slot.ensures.fault) c.in_err-write_slot.ensures.fault

pub loop-column-preserved : goal.loop-column-preserved
loop-column-preserved g c = record {
  front = front_more c.loop-column.invariant.front _ (slots_next (shape_of c.args.row) c.loop-column.column
      c.args.store.now c.loop-column-test.true c.requires.slots) c.write_slot.ensures.wrote;
  clean = c.in_ok-write_slot.ensures.clean;
}

pub returns : goal.returns
returns g c =
    -- After the last column nothing is left.
    let n = length c.args.row.cells.now in
    let lines = c.args.store.now.lines in
    let none = drop_all c.loop-column.column (take n lines) (omega (arith, length-take n lines)) in
    grind (arith, append-nil)
