-- If the segment is no row, none is taken. Otherwise the reader is consumed up to the line after the rows.
use Rattle.ptflow.proofs
use proofs.Common.{◌≡◌, ◌<◌, ◌∙◌, List, [], ap, arith, drop, get_or, length, reader_at, refl, shape_of, Reader}
use borrow.Author.Rules.{scaled_Fits}
use proofs.PasteLemmas.BufferedRows.{at_index, consumed_none, rows_taken_none}
use proofs.PasteLemmas.Segments.{first_segment, has_reader, none_copied, one_consumed}
use Rattle.ptflow.specs.Private.Paste.Segments.{IsSegment}
use Rattle.ptflow.specs.declared.tools.paste.segments.Segment.{Segment}
use proofs.tools.paste.buffered_rows.copy_rows_of_one.Given as given
use proofs.tools.paste.buffered_rows.copy_rows_of_one.Goals as goal
use Rattle.ptflow.proofs.tools.paste.buffered_rows.copy_rows_of_one.Goals.{After-consume, In-len1-up, else-chunks-test}
use Rattle.ptflow.proofs.tools.paste.buffered_rows.copy_rows_of_one.Goals.{then-chunks-test+in_default-copy_chunk}

pub returns-in_default-clause-rows : goal.returns-in_default-clause-rows
returns-in_default-clause-rows g c = rows_taken_none

pub returns-in_default-2-clause-rows : goal.returns-in_default-2-clause-rows
returns-in_default-2-clause-rows g c = rows_taken_none

pub returns-in_default-clause-consumed : goal.returns-in_default-clause-consumed
returns-in_default-clause-consumed g c = consumed_none

pub returns-in_default-2-clause-consumed : goal.returns-in_default-2-clause-consumed
returns-in_default-2-clause-consumed g c = consumed_none

abbrev segment : List Segment → Segment
segment segments = get_or segments 0 (record { input = 0; count = 0; len = 0; bytes = [] })

is : (g : given.Over) (c : In-len1-up g)
    → IsSegment (shape_of c.args.row) c.args.readers.now 0 (segment c.args.segments.now)
is g c =
    (first_segment (shape_of c.args.row) _ 0 _ _ c.in-len1-up.len_at_least
    c.requires.segments).0

pub chunks-init : goal.chunks-init
chunks-init g c = record {
  within = omega arith;
  copied = none_copied _ _ _ _;
  buffer_size = c.told-into;
}

pub overflow_sub-size : goal.overflow_sub-size
overflow_sub-size g c = c.chunks.invariant.within

pub bounds-readers-segment : goal.bounds-readers-segment
bounds-readers-segment g c =
    has_reader c.requires.readable (is g (goal.at.bounds-readers-segment g c).In-len1-up)

pub offset_bounds-readers-segment : goal.offset_bounds-readers-segment
offset_bounds-readers-segment g c =
    let low = has_reader c.requires.readable (is g (goal.at.offset_bounds-readers-segment g c).In-len1-up) in
    search scaled_Fits

pub bounds-readers-segment-2 : goal.bounds-readers-segment-2
bounds-readers-segment-2 g c =
    has_reader c.requires.readable (is g (goal.at.bounds-readers-segment-2 g c).In-len1-up)

pub offset_bounds-readers-segment-2 : goal.offset_bounds-readers-segment-2
offset_bounds-readers-segment-2 g c =
    let low = has_reader c.requires.readable (is g (goal.at.offset_bounds-readers-segment-2 g c).In-len1-up) in
    search scaled_Fits

pub copy_chunk-requires-clause-segment : goal.copy_chunk-requires-clause-segment
copy_chunk-requires-clause-segment g c =
    record { is = is g (goal.at.copy_chunk-requires-clause-segment g c).In-len1-up; all = omega arith }

pub copy_chunk-requires-clause-copied : goal.copy_chunk-requires-clause-copied
copy_chunk-requires-clause-copied g c = c.chunks.invariant.copied

pub copy_chunk-requires-clause-within : goal.copy_chunk-requires-clause-within
copy_chunk-requires-clause-within g c =
    let low = has_reader c.requires.readable (is g (goal.at.copy_chunk-requires-clause-within g c).In-len1-up) in
    let same = c.buffered-size.ensures.buffered ∙ ap (λ r. r.buffered) (at_index _ _ _ low) in
    omega (arith, c.chunks-test.true, c.chunks.invariant.within, ap length same)

pub chunks-preserved : goal.chunks-preserved
chunks-preserved g c = record {
  within = omega (arith, c.chunks-test.true, c.chunks.invariant.within);
  copied = c.in-Some.ensures.copied;
  buffer_size = c.copy_chunk.array_long;
}

pub consume-requires : goal.consume-requires
consume-requires g c =
    let low = has_reader c.requires.readable (is g (goal.at.consume-requires g c).In-len1-up) in
    let same = c.buffered-size.ensures.buffered ∙ ap (λ r. r.buffered) (at_index _ _ _ low) in
    let now = ap (λ r. length r.buffered) (at_index c.args.readers.now _ c.index-readers-segment-2.result low) in
    omega (arith, c.chunks.invariant.within, c.chunks.invariant.copied.same.0, ap length same, now)

module _ (g : given.Over) (c : After-consume g)
    (low : (segment c.args.segments.now).input < length c.args.readers.now) where
  same_into : c.chunks-test.into ≡ c.chunks.into
  same_into =
      elim c.chunks-test.branch [
        | else-chunks-test w ↦ w.into-is
        | then-chunks-test+in_default-copy_chunk w ↦ w.into-is ∙ w.in_default-copy_chunk.ensures.none
      ]

  consumed : c.consume.new.self
      ≡ (let r = reader_at c.args.readers.now (segment c.args.segments.now).input in
      record r { buffered = drop c.chunks.copied.start r.buffered })
  consumed =
      c.consume.ensures.consumed
      ∙ ap (λ (r : Reader). record r { buffered = drop c.chunks.copied.start r.buffered }) (at_index _ _ _ low)

pub returns-clause-rows : goal.returns-clause-rows
returns-clause-rows g c =
    let low = has_reader c.requires.readable (is g (goal.at.returns-clause-rows g c).In-len1-up) in
    rw (consumed g c low, same_into g c low) c.chunks.invariant.copied.rows

pub returns-clause-consumed : goal.returns-clause-consumed
returns-clause-consumed g c =
    let low = has_reader c.requires.readable (is g (goal.at.returns-clause-consumed g c).In-len1-up) in
    one_consumed c.args.readers.now _ c.chunks.copied.start low refl (consumed g c low)

pub returns-clause-size_bound : goal.returns-clause-size_bound
returns-clause-size_bound g c = c.chunks.invariant.copied.fits
