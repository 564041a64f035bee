-- Answers for `Images::push`: the next byte of the second array becomes the last one; if none is left, the last one
-- stays. A class that starts with it without its other case is a fault. No read of a byte fails here.
use Rattle.ptlangs.proofs
use proofs.Common.{arith, rules, None}
use proofs.TrArrays.{never_fault, push-last, push-next, written, takes_next}
use proofs.tr.images.Images.push.Goals.{in-Some+else-not-classes_match, in_default}
use proofs.tr.images.Images.push.Goals as goal

pub returns-in_err-to : goal.returns-in_err-to
returns-in_err-to c = λ before to h. never_fault _ _ h.left c.in_err-to.ensures.steps

pub returns-then-not-classes_match : goal.returns-then-not-classes_match
returns-then-not-classes_match c = search (rules, takes_next None)

pub returns : goal.returns
returns c = λ before to h.
    let old = c.args.self.now in
    let from = c.args.from in
    elim c.match-branch-2.branch [
      | in-Some+else-not-classes_match w ↦
          written _ to c.match-branch-2.self c.from.result c.unwrap_or.result from.byte old.table c.next.new.self
          _ w.self-is c.from.ensures c.unwrap_or.ensures
          (push-next before to old from h (omega arith) c.next.new.self w.in-Some.to (grind arith) (grind arith))
      | in_default w ↦
          let (now, end) = rw w.in_default.is at c.in_ok-to.ensures.steps in
          written _ to c.match-branch-2.self c.from.result c.unwrap_or.result from.byte old.table c.next.new.self
          old.last w.self-is c.from.ensures c.unwrap_or.ensures (search (rules, push-last))
    ]
