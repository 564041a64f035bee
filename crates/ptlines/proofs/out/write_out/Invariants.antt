-- The loop of `write_out`: the bytes that the sink has accepted and the rest are all bytes, and the rest gets shorter.
use Rattle.ptlines.proofs
use proofs.Common.{◌≡◌, ℕ, List, ◌++◌, length, WriteOutOk}
use proofs.out.write_out.Given as goal

abbrev pub invariant-loop-rest : goal.invariant-loop-rest
invariant-loop-rest g l = record {
  done : List ℕ;
  split : l.bytes ≡ done ++ l.rest;
  written : WriteOutOk (g.W.Sink.state l.initial.sink) (g.W.Sink.state l.sink) done;
}

abbrev pub decreases-loop-rest : goal.decreases-loop-rest
decreases-loop-rest g l = length l.rest
