-- The loop of `Images::push_string`: the bytes that were read are paired, and with those that are left they are all
-- bytes of the string. Fewer are left after each turn.
use Rattle.ptlangs.proofs
use proofs.Common.{First, HasPaired, List, Member, [], bytes_left, member_results, most_left, segments_of}
use proofs.TrArrays.{ItemsRead}
use proofs.tr.images.Images.push_string.Given as goal

abbrev pub invariant-loop-member : goal.invariant-loop-member
invariant-loop-member l =
    ItemsRead (member_results 0 (segments_of First l.fn.text)) (bytes_left l.bytes)
    (λ (ms : List Member). (to : List Member) → HasPaired [] to l.fn.self → HasPaired ms to l.self)

abbrev pub decreases-loop-member : goal.decreases-loop-member
decreases-loop-member l = most_left l.bytes
