-- The loop of `Shifts::image`: the image so far is the byte and what the stretches so far add to it, modulo 256.
use Rattle.ptlangs.proofs
use proofs.Common.{shift_at, sum_by, take, ◌%◌, ◌+◌, ◌≡◌}
use proofs.tr.shifts.Shifts.image.Given as goal

abbrev pub invariant-loop-stretch : goal.invariant-loop-stretch
invariant-loop-stretch l =
    l.image ≡ (l.byte + sum_by (λ s. shift_at s l.byte) (take l.stretch-index l.stretch-items)) % 256
