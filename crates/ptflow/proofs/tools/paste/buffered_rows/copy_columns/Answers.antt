-- One more field after those so far. A field that cannot be copied ends the loop, and nothing of it was consumed. So
-- does the last column, which has the terminator after it.
use Rattle.ptflow.proofs
use proofs.Common.{take, take_more_set, length, arith, set-get_or, mod-add-mod, rules, eq-eqb, ne_eqb}
use proofs.Common.{refl, ◌∙◌, ap, ◌+◌, ◌%◌}
use borrow.Author.Rules.{scaled_Fits}
use proofs.PasteLemmas.BufferedRows.{columns_start, columns_more}
use proofs.tools.paste.buffered_rows.copy_columns.Goals as goal

pub cells-init : goal.cells-init
cells-init g c = search (rules, columns_start)

pub offset_bounds-readers-row : goal.offset_bounds-readers-row
offset_bounds-readers-row g c = let low = c.requires.readable.within c.cells.begun.0 0 c.cells-test.true in
    search scaled_Fits

pub bounds-readers-row : goal.bounds-readers-row
bounds-readers-row g c = let low = c.requires.readable.within c.cells.begun.0 0 c.cells-test.true in omega arith

pub cells-preserved : goal.cells-preserved
cells-preserved g c =
    let inv = c.cells.invariant in
    record {
      copied = columns_more inv.copied c.requires.readable c.cells-test.true _ _ c.in-Some.ensures.was_sound _ _
          c.in-Some.ensures.cell c.copy_option.ensures.copied
          (rw (ne_eqb _ _ c.if-begun-row.false, inv.at) refl);
      within = omega arith;
      grows = omega (arith, c.in-Some.ensures.size_bound);
      size_bound = omega (arith, c.in-Some.ensures.size_bound);
      at =
          let len = length c.args.row.delims.now in
          c.next_index-index.ensures ∙ ap (λ i. (i + 1) % len) inv.at ∙ mod-add-mod c.cells.begun.0 len 1;
      buffer_size = c.copy_option.array_long;
    }

pub returns-in_default-clause-cells : goal.returns-in_default-clause-cells
returns-in_default-clause-cells g c =
    let (same, none) = c.in_default.ensures.none in
    rw (same, set-get_or, none) c.cells.invariant.copied

pub returns-then-begun-row-clause-cells : goal.returns-then-begun-row-clause-cells
returns-then-begun-row-clause-cells g c =
    columns_more c.cells.invariant.copied c.requires.readable c.cells-test.true _ _ c.in-Some.ensures.was_sound _
    (take c.in-Some.field.end c.copy_cell.new.into) c.in-Some.ensures.cell (take_more_set _ _ _ (omega arith))
    (rw (eq-eqb _ _ c.if-begun-row.true) refl)
