-- The bytes after the first column alone, and then those after a column whose input has ended.
use Rattle.ptflow.proofs
use proofs.Common.{◌≡◌, ◌+◌, ◌-◌, ◌∙◌, ◌++◌, take, subst, ap, refl, arith, shape_of}
use borrow.Author.Rules.{scaled_Fits}
use proofs.PasteLemmas.BufferedRows.{at_index}
use proofs.PasteLemmas.Segments.{ends_more, ends_one}
use Rattle.ptflow.specs.Private.Paste.Segments.{EndsWith}
use proofs.tools.paste.segments.segment_at.Goals as goal

pub columns-init : goal.columns-init
columns-init g c = record {
  within = omega arith;
  few = omega (arith, c.copy_option-len.ensures.size_bound);
  ends = ends_one c.args.column (c.copy_option-len.ensures.copied ∙ c.byte_after.ensures);
}

pub columns-preserved : goal.columns-preserved
columns-preserved g c =
    let more = c.copy_option-len-in-columns.ensures in
    record {
      within = omega arith;
      few = omega (arith, more.size_bound);
      ends = ends_more c.args.column c.requires.readable c.columns-test.true
          (rw (at_index _ _ _ (c.requires.readable.within c.columns.next 0 c.columns-test.true)) at
          (rw c.index-readers-row.is at (c.has_ended.ensures c.if-has_ended.true))) c.columns.invariant.ends
          (more.copied ∙ ap (λ after. take c.columns.len c.columns.bytes ++ after) c.byte_after-in-columns.ensures);
    }

pub returns : goal.returns
returns g c =
    let number : c.columns.next ≡ c.args.column + (c.columns.next - c.args.column) = omega arith in
    record {
      input = refl;
      some = omega arith;
      within = omega arith;
      few = c.columns.invariant.few;
      ends = subst (λ next. EndsWith (shape_of c.args.row) c.args.readers.now c.args.column next
          (take c.columns.len c.columns.bytes)) number c.columns.invariant.ends;
    }

pub offset_bounds-row-next : goal.offset_bounds-row-next
offset_bounds-row-next g c = search scaled_Fits

pub bounds-row-next : goal.bounds-row-next
bounds-row-next g c = c.columns-test.true

pub offset_bounds-readers-row : goal.offset_bounds-readers-row
offset_bounds-readers-row g c = let low = c.requires.readable.within c.columns.next 0 c.columns-test.true in omega arith

pub bounds-readers-row : goal.bounds-readers-row
bounds-readers-row g c = c.requires.readable.within c.columns.next 0 c.columns-test.true

pub offset_bounds-row-column : goal.offset_bounds-row-column
offset_bounds-row-column g c = search scaled_Fits

pub bounds-row-column : goal.bounds-row-column
bounds-row-column g c = c.requires.low
