-- The copied bytes are not longer than the line, so there is room for one more slice.
use Rattle.ptflow.proofs
use proofs.Common.{◌+◌, ◌-◌, ◌≤◌, ◌++◌, take, drop, refl, ◌∙◌, ap, arith, length-take-le, length-drop, is_selected}
use proofs.Common.{cut_job, cut_fields, output_from_cursor, usual, append_assoc, take-take}
use proofs.CutLemmas.Fields.{selected_remaining, output_is_short, output_is_near, offset_start}
use proofs.tools.cut.fields.copy_fields.Given as given
use proofs.tools.cut.fields.copy_fields.Goals as goal
use Rattle.ptflow.proofs.tools.cut.fields.copy_fields.Goals.{In-Some}
use proofs.CutLemmas.CutBytes.{rest_of}

pub slices-init : goal.slices-init
slices-init g c =
    let of = c.new-cursor.ensures in
    record {
      copied = ap (◌++◌ (take c.args.start c.args.room.now))
          (selected_remaining c.new-cursor.result of.passed (cut_job c.args.job.now) _ c.requires.delimiter
          (ap is_selected (of.left ∙ c.intervals.ensures.kept)));
      cursor = grind (arith, offset_start);
      window = λ near. of.window;
      low = omega arith;
      high = omega arith;
      long = refl;
    }

slice_near : (g : given.Over) (c : In-Some g)
    → c.slices.end + (c.in-Some.slice.end - c.in-Some.slice.start) ≤ c.args.start + c.args.to
slice_near g c =
    let job = cut_job c.args.job.now in
    let line = take c.args.to c.args.delimiters.now.bytes.now in
    let first = c.in-Some.slice.start in
    let next = c.in-Some.ensures.next in
    let loop = c.slices in
    let long = length-take-le c.args.to c.args.delimiters.now.bytes.now (omega arith) in
    let size = length-take-le (c.in-Some.slice.end - first) (drop first line) (omega (arith, length-drop first line)) in
    let rest = output_from_cursor c.args.delimiters.now.needle line c.next_slice.new.self in
    let near = output_is_near c.args.start loop.end c.args.room.now loop.room (cut_fields job line)
    (take (c.in-Some.slice.end - first) (drop first line)) rest (cc next.output) (omega arith) (omega arith) in
    omega (arith, size, near, output_is_short job line)

pub slices-preserved : goal.slices-preserved
slices-preserved g c =
    let to = c.args.to in
    let bytes = c.args.delimiters.now.bytes.now in
    let first = c.in-Some.slice.start in
    let next = c.in-Some.ensures.next in
    let loop = c.slices in
    let long = length-take-le to bytes (omega arith) in
    let rest = output_from_cursor c.args.delimiters.now.needle (take to bytes) c.next_slice.new.self in
    record {
      copied =
          let size = c.in-Some.slice.end - first in
          let same = ap (take size) (rest_of _ to _) ∙ take-take size (to - first) (drop first bytes) (omega arith) in
          rw (c.copy_slice.ensures.copied, append_assoc, ← same, ← next.output) loop.invariant.copied;
      cursor = next.moved;
      window = c.in-Some.ensures.window;
      low = omega arith;
      high = slice_near g (goal.at.slices-preserved g c).In-Some;
      long = cc;
    }

pub copy_slice-requires-clause-room : goal.copy_slice-requires-clause-room
copy_slice-requires-clause-room g c = omega (arith, slice_near g (goal.at.copy_slice-requires-clause-room g c).In-Some)

pub returns-clause-put : goal.returns-clause-put
returns-clause-put = grind usual
