-- Each iteration pushes one more slice (`next`). If a push fails, a prefix of the selected fields was pushed.
use Rattle.ptflow.proofs
use proofs.Common.{◌≡◌, ◌-◌, ◌++◌, take, drop, length, ◌∙◌, ap, arith, take_all, is_selected, cut_job}
use proofs.Common.{output_from_cursor}
use proofs.Passes.Exits.{prefix_starts, front_more, front_fails}
use proofs.CutLemmas.Fields.{selected_remaining, offset_start}
use proofs.tools.cut.fields.write_fields.Given as given
use proofs.tools.cut.fields.write_fields.Goals as goal
use Rattle.ptflow.proofs.tools.cut.fields.write_fields.Goals.{In-Some}

pub slices-init : goal.slices-init
slices-init g c =
    let line = c.args.delimiters.now.bytes.now in
    let of = c.new-cursor.ensures in
    let all = take_all (length line) line (omega arith) in record {
      front = prefix_starts (rw all
          (selected_remaining c.new-cursor.result of.passed (cut_job c.args.job.now) line c.requires
          (ap is_selected (of.left ∙ c.intervals.ensures.kept))));
      cursor = grind (arith, offset_start);
      window = λ near. of.window;
      clean = λ clean. clean;
    }

next : (g : given.Over) (c : In-Some g) → let line = c.args.delimiters.now.bytes.now in
    output_from_cursor c.args.delimiters.now.needle (take (length line) line) c.slices.cursor
    ≡ take (c.in-Some.slice.end - c.in-Some.slice.start) (drop c.in-Some.slice.start line)
    ++ output_from_cursor c.args.delimiters.now.needle (take (length line) line) c.next_slice.new.self
next g c =
    let line = c.args.delimiters.now.bytes.now in
    cc (c.in-Some.ensures.next.output, take_all (length line) line (omega arith))

pub returns-in_err-push-clause-wrote : goal.returns-in_err-push-clause-wrote
returns-in_err-push-clause-wrote g c =
    let pushed = c.in_err-push.ensures.pushed in
    front_fails c.slices.invariant.front _ (next g (goal.at.returns-in_err-push-clause-wrote g c).In-Some)
    pushed.wrote pushed.fault

pub slices-preserved : goal.slices-preserved
slices-preserved g c = record {
  front = front_more c.slices.invariant.front _ (next g (goal.at.slices-preserved g c).In-Some)
      c.in_ok-push.ensures.pushed.wrote;
  cursor = c.in-Some.ensures.next.moved;
  window = c.in-Some.ensures.window;
  clean = λ was_clean. c.in_ok-push.ensures.pushed.clean;
}
