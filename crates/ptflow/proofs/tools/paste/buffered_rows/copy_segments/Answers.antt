-- The first segment that is left (`segment`, `first`, `low`) is added to the columns before it. A field that cannot be
-- copied ends the loop, and nothing of it was consumed.
use Rattle.ptflow.proofs
use proofs.Common.{rules, ◌<◌, [], ◌+◌, drop, get_or, arith, set-get_or, sym, subst, take_all}
use proofs.Common.{length, length-drop, shape_of}
use borrow.Author.Rules.{scaled_Fits}
use proofs.PasteLemmas.BufferedRows.{columns_start}
use proofs.PasteLemmas.Segments.{first_segment, has_reader, segment_copied}
use Rattle.ptflow.specs.Private.Paste.Segments.{AreSegments, IsSegment}
use Rattle.ptflow.specs.declared.tools.paste.segments.Segment.{Segment}
use proofs.tools.paste.buffered_rows.copy_segments.Given as given
use proofs.tools.paste.buffered_rows.copy_segments.Goals as goal
use Rattle.ptflow.proofs.tools.paste.buffered_rows.copy_segments.Goals.{In-len1-up}

pub segments-init : goal.segments-init
segments-init g c = search (rules, columns_start)

module _ (g : given.Over) (c : In-len1-up g) where
  abbrev segment : Segment
  segment = get_or c.segments.rest.now 0 (record { input = 0; count = 0; len = 0; bytes = [] })

  first : IsSegment (shape_of c.args.row) c.args.readers.now c.segments.begun.0 segment
      × AreSegments (shape_of c.args.row) c.args.readers.now (c.segments.begun.0 + segment.count)
      (drop 1 c.segments.rest.now)
  first = first_segment (shape_of c.args.row) _ _ _ _ c.in-len1-up.len_at_least c.segments.invariant.are

  low : segment.input < length c.args.readers.now
  low = let (is, _) = first in has_reader c.requires.readable is

pub offset_bounds-readers-segment : goal.offset_bounds-readers-segment
offset_bounds-readers-segment g c =
    let within = low g (goal.at.offset_bounds-readers-segment g c).In-len1-up in search scaled_Fits

pub bounds-readers-segment : goal.bounds-readers-segment
bounds-readers-segment g c =
    omega (arith, low g (goal.at.bounds-readers-segment g c).In-len1-up, c.segments.auto.readers)

pub returns-in_default-copy_cell-clause-cells : goal.returns-in_default-copy_cell-clause-cells
returns-in_default-copy_cell-clause-cells g c =
    let (same, none) = c.in_default-copy_cell.ensures.none in
    rw (same, set-get_or, none) c.segments.invariant.copied

pub segments-preserved : goal.segments-preserved
segments-preserved g c =
    let (is, are) = first g (goal.at.segments-preserved g c).In-len1-up in
    record {
      copied = segment_copied c.segments.invariant.copied c.requires.readable is _ _ c.in-Some.ensures.was_sound _ _
          c.in-Some.ensures.cell c.copy_bytes.ensures.copied;
      are = subst (AreSegments (shape_of c.args.row) c.args.readers.now _)
          (sym (take_all _ _ (omega (arith, length-drop 1 c.segments.rest.now)))) are;
      within = is.within;
      grows = omega (arith, c.in-Some.ensures.size_bound, c.copy_bytes.ensures.end);
      size_bound = omega (arith, c.in-Some.ensures.size_bound, c.copy_bytes.ensures.end, is.few);
      buffer_size = c.copy_bytes.array_long;
    }

pub overflow_add-begun : goal.overflow_add-begun
overflow_add-begun g c = let (is, _) = first g (goal.at.overflow_add-begun g c).In-len1-up in omega (arith, is.within)

pub copy_bytes-requires-clause-few : goal.copy_bytes-requires-clause-few
copy_bytes-requires-clause-few g c =
    let (is, _) = first g (goal.at.copy_bytes-requires-clause-few g c).In-len1-up in is.few

pub copy_bytes-requires-clause-room : goal.copy_bytes-requires-clause-room
copy_bytes-requires-clause-room g c = c.in-Some.ensures.size_bound.1
