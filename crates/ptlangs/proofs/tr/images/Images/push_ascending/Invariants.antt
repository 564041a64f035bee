-- The bytes of the complement below this one are paired.
use Rattle.ptlangs.proofs
use proofs.Common.{HasPaired, List, Member, [], complement_of, contents_of, plain_members, ℕ, ◌≡◌}
use proofs.TrArrays.{others_below}
use proofs.tr.images.Images.push_ascending.Given as goal

abbrev pub invariant-loop-byte : goal.invariant-loop-byte
invariant-loop-byte l =
    (bytes : List ℕ) (to : List Member) → l.fn.first ≡ contents_of (complement_of bytes) → HasPaired [] to l.fn.self
    → HasPaired (plain_members (others_below bytes l.byte)) to l.self
