-- The loop of `Images::finish`: no class started in the bytes of the second array that were passed, and the table
-- has the images of all bytes. Fewer bytes are left after each turn.
use Rattle.ptlangs.proofs
use proofs.Common.{HasPaired, List, Member, most_left}
use proofs.TrArrays.{IsPassing}
use proofs.tr.images.Images.finish.Given as goal

abbrev pub invariant-loop-member : goal.invariant-loop-member
invariant-loop-member l = (from to : List Member) → HasPaired from to l.fn.self → IsPassing from to l.self

abbrev pub decreases-loop-member : goal.decreases-loop-member
decreases-loop-member l = most_left l.self.second
