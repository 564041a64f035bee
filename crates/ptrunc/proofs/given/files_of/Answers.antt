-- Each end gives the next file.
use Rattle.std.proofs.Common.{ap, refl, ◌∙◌}
use Rattle.ptrunc.proofs.GivenLemmas.{file_next, no_file_next}
use Rattle.ptrunc.proofs.given.files_of.Goals.{then-end+in_ok-push, else-end+in_ok-push-2}
use Rattle.ptrunc.proofs.given.files_of.Goals as goal

pub loop-end-preserved : goal.loop-end-preserved
loop-end-preserved g c = elim c.if-end.branch [
  | then-end+in_ok-push w ↦ let next = no_file_next c.loop-end.files.items c.if-end.files.items c.loop-end.begin
      c.if-end.begin c.loop-end.end-index c.args.ends.now c.args.bytes.now c.loop-end-test.true
      c.loop-end.invariant.files c.loop-end.invariant.in_order w.if-end.true
      (ap (λ v. v.items) w.files-is ∙ w.in_ok-push.ensures.items) w.begin-is in
      record { files = next.0; in_order = next.1 }
  | else-end+in_ok-push-2 w ↦ let next = file_next c.loop-end.files.items c.if-end.files.items c.loop-end.begin
      c.if-end.begin c.loop-end.end-index c.args.ends.now c.args.bytes.now c.loop-end-test.true
      c.loop-end.invariant.files c.loop-end.invariant.in_order _ refl w.if-end.false
      (ap (λ v. v.items) w.files-is ∙ w.in_ok-push-2.ensures.items) w.begin-is in
      record { files = next.0; in_order = next.1 }
]
