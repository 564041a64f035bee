-- Bounded lag: output follows input with a delay of at most two blocks of input and one block of output, also if the
-- run ends early. `I` identifies the inputs: one input, a side of a merge, or an index.
use Rattle.std.specs.Prelude.{◌≡◌, ◌≤◌, ◌+◌, ℕ, List, length, max}
use Rattle.std.specs.Io.KnownBytes.{append_known}
use Rattle.ptlines.specs.Calls.Outputs.{Output}
use Rattle.ptlines.specs.Lag.{LaggedInput}
use Rattle.ptlines.specs.Received.{IsPrefix, Received}
use Rattle.ptlines.specs.declared.sizes.TheConstants.{BLOCK}

-- At least the output that was decided by such prefixes was pushed.
pub record ProcessLag {I : Type 0} (decided : (I → Received) → List ℕ) (came : I → Received)
    (pushed : List ℕ) : Type 0 where
  pub before : (i : I) → LaggedInput (came i)
  pub begins : IsPrefix (decided (λ i. (before i).earlier)) pushed

-- Of the bytes that were buffered, followed by `bytes`, all but at most one block (8,192 bytes) were written to the
-- sink.
pub record BufferLag (was is : Output) (bytes : List ℕ) : Type 0 where
  pub written_out : List ℕ
  pub accepted : is.accepted ≡ append_known was.accepted written_out
  pub most : length was.buffered + length bytes ≤ length written_out + max BLOCK (length was.buffered)

-- The output decided by such prefixes was pushed, and written to the sink but for at most one block.
pub record BoundedLag {I : Type 0} (decided : (I → Received) → List ℕ) (came : I → Received) (was is : Output)
    (pushed : List ℕ) : Type 0 where
  pub processing : ProcessLag decided came pushed
  pub buffering : BufferLag was is (decided (λ i. (processing.before i).earlier))
