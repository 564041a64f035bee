-- The loop of `new`: the store has one empty slot for each turn so far.
use Rattle.std.proofs.Common.{◌≡◌, [], replicate, false}
use Rattle.ptlines.proofs.store.Store.new.Given as goal

abbrev pub invariant-loop-i : goal.invariant-loop-i
invariant-loop-i g l = l.made ≡ record { lines = replicate l._i []; peak = 0; denied = false }
