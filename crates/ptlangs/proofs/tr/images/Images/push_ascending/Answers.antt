-- Answers for `Images::push_ascending`: a byte that the complement contains is paired after those below it, and any
-- other is passed (`paired`). A class that cannot be paired with one of these bytes cannot be paired with the
-- complement.
use Rattle.ptlangs.proofs
use proofs.Common.{HasPaired, List, Member, PairPost, [], all_paired, ap, append-nil, arith, complement_of, contents_of}
use proofs.Common.{map-append, plain_members, subst, ℕ, ◌+◌, ◌∙◌, ◌≡◌, take_all}
use proofs.TrArrays.{complement-around, is_kept, on_fault, others_below, others_below-more, length-all, paired_same}
use Rattle.ptlangs.proofs.tr.images.Images.push_ascending.Goals.{Joined-first-from, else-first-from}
use Rattle.ptlangs.proofs.tr.images.Images.push_ascending.Goals.{then-first-from+in_ok-push}
use Rattle.ptlangs.proofs.tr.images.Images.push_ascending.Goals as goal

pub returns-in_err-push : goal.returns-in_err-push
returns-in_err-push c = λ bytes to e h.
    let b = c.loop-byte.byte in
    let (kind, wrong) = c.in_err-push.ensures _ to (c.loop-byte.invariant bytes to e h) in
    let (rest, is) =
    complement-around _ b (omega arith) (is_kept _ _ b _ _ c.from.ensures (omega arith) c.if-first-from.true e) in
    let (_, fault) = c.from_residual.ensures in
    on_fault (PairPost _ to c.push.new.self) _ _ fault (kind, grind (arith, all_paired, plain_members, map-append))

paired : (c : Joined-first-from) (bytes : List ℕ) (to : List Member)
    → c.args.first.now ≡ contents_of (complement_of bytes) → HasPaired [] to c.args.self.now
    → HasPaired (plain_members (others_below bytes (c.loop-byte.byte + 1))) to c.if-first-from.self
paired c bytes to e h =
    let b = c.loop-byte.byte in
    elim c.if-first-from.branch [
      | then-first-from+in_ok-push w ↦
          let more =
          others_below-more _ b _ (omega arith)
          (is_kept _ _ b _ _ c.from.ensures (omega arith) w.if-first-from.true e) in
          paired_same _ to (grind (arith, map-append)) w.self-is
          (w.in_ok-push.ensures _ to (c.loop-byte.invariant bytes to e h))
      | else-first-from w ↦
          let more =
          others_below-more _ b _ (omega arith)
          (is_kept _ _ b _ _ c.from.ensures (omega arith) w.if-first-from.false e) in
          paired_same _ to (ap plain_members (more ∙ append-nil (others_below bytes b))) w.self-is
          (c.loop-byte.invariant bytes to e h)
    ]

pub loop-byte-preserved : goal.loop-byte-preserved
loop-byte-preserved c = paired (goal.at.loop-byte-preserved c).Joined-first-from

pub returns-after-first-from : goal.returns-after-first-from
returns-after-first-from c = λ bytes to e h.
    subst (λ bs. HasPaired (plain_members bs) to c.if-first-from.self) (grind (arith, take_all, length-all))
    (paired (goal.at.returns-after-first-from c).Joined-first-from bytes to e h)
