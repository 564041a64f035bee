-- The loop of `fill_slow`: the bytes consumed so far are in the slot (`LineSoFar`), and the condition of `fill`
-- still holds. Each turn consumes bytes of the source, of which there are fewer than 2^63.
use Rattle.ptlines.proofs
use Rattle.std.proofs.Common.{◌+◌, ◌-◌, ◌^◌, length}
use proofs.ReadLine.{LineSoFar}
use Rattle.ptlines.specs.Private.ReadLine.{FillPre}
use proofs.reader.LineReader.fill_slow.Given as goal

abbrev pub invariant-pieces : goal.invariant-pieces
invariant-pieces g l = record {
  so_far : LineSoFar l.fn.self l.self l.fn.store l.store l.slot;
  fill_pre : FillPre l.self l.store l.slot;
}

abbrev pub decreases-pieces : goal.decreases-pieces
decreases-pieces g l = 2 ^ 63 + length l.self.buffered - l.self.pulled
