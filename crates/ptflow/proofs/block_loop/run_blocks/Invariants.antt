-- The bytes pushed so far, and the output for the rest. The tool's counters grow by at most the bytes that it
-- processed.
use Rattle.ptflow.proofs
use proofs.Common.{◌≤◌, ◌-◌, length, budget}
use proofs.Passes.Exits.{BlockLoopState}
use proofs.block_loop.run_blocks.Given as goal

abbrev pub invariant-reading : goal.invariant-reading
invariant-reading g l = record {
  run : BlockLoopState g.T.BlockFilter.rest g.T.BlockFilter.IsUnchanged l.fn.tool l.tool l.fn.reader l.reader l.fn.out
      l.out;
  counted : g.T.BlockFilter.counted l.tool ≤ l.reader.pulled - length l.reader.buffered;
}

abbrev pub decreases-reading : goal.decreases-reading
decreases-reading g l = budget l.reader
