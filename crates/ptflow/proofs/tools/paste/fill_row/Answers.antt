-- Each line is read into its slot. If the columns before it were all copied, it is copied from there, and the next
-- columns from the buffers.
use Rattle.ptflow.proofs
use proofs.Common.{◌≡◌, ◌+◌, List, [], ◌++◌, length, take, get_or, set, ◌∙◌, arith, PushEffect}
use proofs.Common.{Reader, Slots, push_nothing, push_trans, ◌||◌, BegunText, BufferedRowsPre, RowFilledTo, after_cell}
use proofs.Common.{begun_in, shape_of, rules}
use borrow.Author.Rules.{scaled_Fits}
use proofs.Passes.Exits.{is_fault}
use proofs.PasteLemmas.BufferedRows.{next_reader, filled_to_next, filled_to_failed, with_slot, readable_after}
use proofs.PasteLemmas.BufferedRows.{filled_to_columns, filled_to_copied, still_readable}
use Rattle.ptflow.proofs.tools.paste.fill_row.Goals.{After-fill_cell, In_ok-has_line}
use proofs.tools.paste.fill_row.Given as given
use proofs.tools.paste.fill_row.Goals as goal

pub cells-init : goal.cells-init
cells-init g c = record {
  filled_to = λ from first a. a;
  readable = c.requires.readable;
  slots = c.requires.slots;
  within = (omega arith, c.requires.within);
  wrote = push_nothing _;
  clean = c.requires.clean;
}

pub bounds-readers-input : goal.bounds-readers-input
bounds-readers-input g c = let low = c.requires.readable.within c.cells.column 0 c.cells-test.true in omega arith

pub fill_cell-requires-clause-readable : goal.fill_cell-requires-clause-readable
fill_cell-requires-clause-readable g c = (next_reader c.cells.invariant.readable c.cells-test.true _).clean

pub returns-in_err-has_line-clause-fills : goal.returns-in_err-has_line-clause-fills
returns-in_err-has_line-clause-fills g c =
    rw (is_fault c.from_residual.ensures) (λ from first a. filled_to_failed (c.cells.invariant.filled_to from first a)
    (search next_reader) _ _ c.cells.into c.in_err-has_line.field-0.0 c.in_err-has_line.ensures.fills)

sent : (g : given.Over) (c : After-fill_cell g) → PushEffect c.args.out.now c.fill_cell.new.out []
sent g c = push_trans _ _ _ _ _ c.cells.invariant.clean c.cells.invariant.wrote c.fill_cell.ensures.wrote

pub returns-in_err-has_line-clause-wrote : goal.returns-in_err-has_line-clause-wrote
returns-in_err-has_line-clause-wrote g c = search (rules, sent)

module _ (g : given.Over) (c : In_ok-has_line g) where
  -- The row after the line was read into its slot.
  abbrev filled : BegunText
  filled = record (begun_in c.cells.readers c.cells.begun c.cells.into) {
    readers = set c.cells.readers (get_or c.args.row.cells.now c.cells.column 0) c.fill_cell.new.reader;
    any_line = c.cells.begun.any_line || c.in_ok-has_line.has_line;
  }

  filled_to : (from : List Reader) (first : Slots)
      → RowFilledTo (shape_of c.args.row) c.args.begun.count from first
      (begun_in c.args.readers.now c.args.begun c.args.into.now) c.args.store.now
      → RowFilledTo (shape_of c.args.row) (c.cells.column + 1) from first filled c.fill_cell.new.store
  filled_to from first a =
      let (fills, sound) = c.in_ok-has_line.ensures.fills in
      filled_to_next (c.cells.invariant.filled_to from first a) (search (rules, next_reader)) _ _ (omega arith) sound _
      fills

  ready : BufferedRowsPre (shape_of c.args.row) filled.readers
  ready = readable_after (search next_reader) _ c.cells.invariant.readable _ _
      _ _ c.in_ok-has_line.ensures.fills.0

pub copy_columns-begun-requires-clause-readable : goal.copy_columns-begun-requires-clause-readable
copy_columns-begun-requires-clause-readable g c = search ready

pub cells-preserved-in-Some : goal.cells-preserved-in-Some
cells-preserved-in-Some g c =
    let at = goal.at.cells-preserved-in-Some g c in
    let row = filled g at.In_ok-has_line in
    let p = c.copy_columns-begun.ensures.cells in
    let (first, count, any_line) = c.in-Some.ensures.same in
    let text = c.in-Some.ensures.copied ∙ (λ i. take c.cells.begun.end c.cells.into
    ++ (c.line.ensures i ++ after_cell (shape_of c.args.row) c.cells.column)) in
    let resumed : begun_in row.readers c.in-Some.next c.copy_slot.new.into
    ≡ with_slot (shape_of c.args.row) c.cells.column c.fill_cell.new.store row = λ i.
    record { readers = row.readers; count = count i; any_line = any_line i; text = text i } in
    record {
      filled_to = λ from start a.
          filled_to_columns (filled_to_copied (filled_to g at.In_ok-has_line _ _ a) first) (rw resumed at p);
      readable = still_readable p.consumed (ready g at.In_ok-has_line);
      slots = omega arith;
      within = (omega arith, c.copy_columns-begun.ensures.within.0);
      wrote = sent g at.After-fill_cell;
      clean = c.in_ok-has_line.ensures.write_failed;
    }

pub cells-preserved : goal.cells-preserved
cells-preserved g c =
    let at = goal.at.cells-preserved g c in
    record {
      filled_to = λ from start a. rw c.in-None.ensures.none (filled_to g at.In_ok-has_line _ _ a);
      readable = ready g at.In_ok-has_line;
      slots = omega arith;
      within = (omega arith, omega arith);
      wrote = sent g at.After-fill_cell;
      clean = c.in_ok-has_line.ensures.write_failed;
    }

pub returns-clause-fills : goal.returns-clause-fills
returns-clause-fills g c = λ from first a.
    let all : c.cells.column ≡ length c.args.row.cells.now = omega arith in
    rw all at (c.cells.invariant.filled_to from first a)

pub offset_bounds-row-column : goal.offset_bounds-row-column
offset_bounds-row-column g c = search scaled_Fits

pub bounds-row-column : goal.bounds-row-column
bounds-row-column g c = c.cells-test.true

pub offset_bounds-readers-input : goal.offset_bounds-readers-input
offset_bounds-readers-input g c =
    let low = c.requires.readable.within c.cells.column 0 c.cells-test.true in search scaled_Fits

pub fill_cell-requires-clause-slot : goal.fill_cell-requires-clause-slot
fill_cell-requires-clause-slot g c = omega (arith, c.cells-test.true, c.cells.invariant.slots)

pub fill_cell-requires-clause-clean : goal.fill_cell-requires-clause-clean
fill_cell-requires-clause-clean g c = c.cells.invariant.clean
