-- The segment of the next column is added to the list.
use Rattle.ptflow.proofs
use proofs.Common.{◌≡◌, ◌+◌, ◌∷◌, [], arith, sum_by, sum_by-append, sum_by-cons, shape_of}
use proofs.PasteLemmas.Segments.{segments_more}
use proofs.tools.paste.segments.segments.Goals as goal

pub segments-preserved : goal.segments-preserved
segments-preserved g c =
    let inv = c.segments.invariant in
    let next = c.segment_at-segment.result in
    let items = c.segments.segments.items in
    let at : c.segments.column ≡ 0 + sum_by (λ s. s.count) items = omega (arith, inv.total) in
    record {
      within = c.segment_at-segment.ensures.within;
      total = rw c.push.ensures.items (omega (
        arith,
        sum_by-append (λ s. s.count) items (next ∷ []),
        sum_by-cons (λ s. s.count) next [],
      ));
      are = rw c.push.ensures.items (segments_more (shape_of c.args.row) _ 0 _ _ inv.are
          (rw at at c.segment_at-segment.ensures));
    }
