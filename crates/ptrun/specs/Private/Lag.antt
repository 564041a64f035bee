-- Bytes that were pushed, and have reached the sink but for at most one block.
use Rattle.std.specs.Prelude.{ℕ, List}
use Rattle.ptlines.specs.Calls.Lag.{BufferLag}
use Rattle.ptlines.specs.Calls.Outputs.{Output}
use Rattle.ptlines.specs.Received.{IsPrefix}

-- `bytes` were pushed, and all of them except at most one block (8,192 bytes) have reached the sink.
pub record IsPushedUpToBlock (bytes : List ℕ) (was is : Output) (pushed : List ℕ) : Type 0 where
  pub begins : IsPrefix bytes pushed
  pub buffering : BufferLag was is bytes
