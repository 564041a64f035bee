-- The loop of `compare_bytewise`: the bytes before the index are equal.
use Rattle.std.proofs.Common.{◌≡◌, take}
use Rattle.ptlines.proofs.cmp.compare_bytewise.Given as goal

abbrev pub invariant-loop-at : goal.invariant-loop-at
invariant-loop-at l = take l.at l.a ≡ take l.at l.b
