-- What is copied by segments, and by columns after them, is one copy of columns (`copied`). A complete row is added to
-- those before it. The loop ends at a row that is not complete, or has no line.
use Rattle.ptflow.proofs
use Rattle.std.proofs.Math.Bool.{not-not}
use proofs.Common.{◌≤◌, take, ◌∙◌, ap, not, [], sym, arith, false, shape_of, begun_in, BegunText}
use proofs.Common.{CopyColumnsPost}
use proofs.PasteLemmas.BufferedRows.{fill_starts, consumed_trans, still_readable}
use proofs.PasteLemmas.TwoColumns.{rows_begun}
use proofs.PasteLemmas.Segments.{row_more, still_segments, columns_trans}
use proofs.tools.paste.buffered_rows.copy_rows_by.Given as given
use proofs.tools.paste.buffered_rows.copy_rows_by.Goals as goal
use Rattle.ptflow.proofs.tools.paste.buffered_rows.copy_rows_by.Goals.{After-copy_columns-begun}

pub copy_segments-first-requires-clause-segments : goal.copy_segments-first-requires-clause-segments
copy_segments-first-requires-clause-segments g c =
    still_segments (shape_of c.args.row) _ _ 0 _ c.rows.invariant.consumed c.requires.segments

pub copy_columns-begun-requires-clause-readable : goal.copy_columns-begun-requires-clause-readable
copy_columns-begun-requires-clause-readable g c =
    still_readable (consumed_trans c.rows.invariant.consumed c.copy_segments-first.ensures.cells.consumed)
    c.requires.readable

module _ (g : given.Over) (c : After-copy_columns-begun g) where
  abbrev start : BegunText
  start = record { readers = c.rows.readers; count = 0; any_line = false; text = take c.rows.end c.rows.into }

  copied : CopyColumnsPost (shape_of c.args.row) start
      (begun_in c.copy_columns-begun.new.readers c.copy_columns-begun.result c.copy_columns-begun.new.into)
      × (c.rows.end ≤ c.copy_columns-begun.result.end)
  copied =
      let first = c.copy_segments-first.ensures in
      let rest = c.copy_columns-begun.ensures in
      (columns_trans first.cells rest.cells, omega (arith, first.within, rest.within))

pub returns-then-begun-row-clause-rows : goal.returns-then-begun-row-clause-rows
returns-then-begun-row-clause-rows g c =
    let (p, further) = copied g (goal.at.returns-then-begun-row-clause-rows g c).After-copy_columns-begun in
    rows_begun c.rows.end _ c.rows.into _ further (omega arith) c.rows.invariant.rows c.rows.invariant.consumed p

pub rows-smaller : goal.rows-smaller
rows-smaller g c =
    let (p, _) = copied g (goal.at.rows-smaller g c).After-copy_columns-begun in
    (p.filled _ [] fill_starts).less (sym (not-not _) ∙ ap not c.if-not-begun.false)

pub rows-preserved : goal.rows-preserved
rows-preserved g c =
    let (p, _) = copied g (goal.at.rows-preserved g c).After-copy_columns-begun in
    record {
      rows = row_more c.rows.invariant.rows p (omega arith) (sym (not-not _) ∙ ap not c.if-not-begun.false);
      consumed = consumed_trans c.rows.invariant.consumed p.consumed;
      size_bound = c.copy_columns-begun.result.size_bound;
      buffer_size = omega arith;
    }

pub copy_segments-first-requires-clause-readable : goal.copy_segments-first-requires-clause-readable
copy_segments-first-requires-clause-readable g c = still_readable c.rows.invariant.consumed c.requires.readable

pub copy_columns-begun-requires-clause-within : goal.copy_columns-begun-requires-clause-within
copy_columns-begun-requires-clause-within g c = c.copy_segments-first.ensures.within.0

pub returns-then-begun-row-clause-within : goal.returns-then-begun-row-clause-within
returns-then-begun-row-clause-within g c = c.copy_columns-begun.ensures.within.0

pub invariant_of-start : goal.invariant_of-start
invariant_of-start g c = record { size_bound = c.rows.invariant.size_bound }

pub invariant_of-result : goal.invariant_of-result
invariant_of-result g c =
    let columns = c.copy_columns-begun.ensures in
    record { order = omega (arith, c.copy_segments-first.ensures.within, columns.within) }
