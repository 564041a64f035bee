-- Answers for `Images::finish`: a class that starts after the end of the first array has no other case, which is a
-- fault; other bytes are passed, with their copies. No read of a byte fails here, and fewer bytes are left after
-- each turn.
use Rattle.ptlangs.proofs
use proofs.Common.{rules, arith}
use proofs.TrArrays.{never_fault, passing-copies, passing-end, passing-next, split_ok}
use proofs.tr.images.Images.finish.Goals as goal

pub returns-in_err-member : goal.returns-in_err-member
returns-in_err-member c = λ from to h.
    never_fault _ _ (c.loop-member.invariant from to h).left c.in_err-member.ensures.steps

pub returns-then-is_some : goal.returns-then-is_some
returns-then-is_some c = search (rules, split_ok)

pub loop-member-preserved : goal.loop-member-preserved
loop-member-preserved c = λ from to h.
    let next = passing-next (c.loop-member.invariant from to h) c.next.new.self c.in-Some.member (grind arith)
    (grind arith) in
    passing-copies next c.skip_repeats.new.self _ c.skip_repeats.ensures.passed

pub returns : goal.returns
returns c = search (rules, passing-end)

pub loop-member-smaller : goal.loop-member-smaller
loop-member-smaller c = grind arith
