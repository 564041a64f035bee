-- Answers for `Images::push_string`: as the string has no fault, no read of a byte fails, and the bytes that are
-- paired are all of its array. A class that cannot be paired with one of them cannot be paired with the array.
use Rattle.ptlangs.proofs
use proofs.Common.{First, PairPost, all_paired, ap, marked_array, member_results, refl, segments_of, sequence, ◌∙◌}
use proofs.Common.{arith}
use proofs.TrArrays.{items_at, items_end, items_fault, items_more, never_fault, on_fault, paired_same, sequence-ok}
use proofs.TrArrays.{string-ok}
use proofs.tr.images.Images.push_string.Goals as goal

pub returns-in_err-member : goal.returns-in_err-member
returns-in_err-member c = λ ps to e h.
    never_fault _ (member_results 0 (segments_of First c.args.text.now)) (string-ok First c.args.text.now 0 ps e)
    (items_fault c.loop-member.invariant c.in_err-member.ensures.steps)

pub loop-member-preserved : goal.loop-member-preserved
loop-member-preserved c =
    let read = c.loop-member.invariant in
    items_more read _ _ (grind arith) (λ holds to h. c.in_ok-push.ensures read.done to (holds to h))

pub returns-in_err-push : goal.returns-in_err-push
returns-in_err-push c = λ ps to e h.
    let read = c.loop-member.invariant in
    let whole = ap sequence (string-ok First c.args.text.now 0 ps e) ∙ sequence-ok _ in
    let (more, is) = items_at read (rw c.in-Some.is at c.in_ok-member.ensures.steps) whole in
    let (kind, wrong) = c.in_err-push.ensures read.done to (read.holds to h) in
    let (_, fault) = c.from_residual-in_err-push.ensures in
    on_fault (PairPost _ to c.push.new.self) c.from_residual-in_err-push.result _ fault
    (kind, ap (λ ms. all_paired ms to) is ∙ wrong more)

pub returns : goal.returns
returns c = λ ps to e h.
    let read = c.loop-member.invariant in
    let (end, _) = rw c.in_default.is at c.in_ok-member.ensures.steps in
    let whole = ap sequence (string-ok First c.args.text.now 0 ps e) ∙ sequence-ok (marked_array 0 ps) in
    paired_same read.done to (cc (items_end read end)) refl (read.holds to h)
