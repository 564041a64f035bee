-- The specification of a tool with one input.
use Rattle.std.specs.Prelude.{ℕ, Bool, List}
use Rattle.ptlines.specs.Received.{Received}

-- a tool: its output for an input, and the use that it makes of slots
pub record ToolSpec : Type 0 where
  -- the output for an input
  pub text : List ℕ → List ℕ
  -- the output that the received part of an input decides
  pub decided : Received → List ℕ
  -- a bound of the bytes in the slots
  pub size : List ℕ → ℕ
  -- the number of slots that are used
  pub slots : ℕ
  -- the line terminator, for a tool with slots
  pub end : ℕ
  -- whether the reader keeps the terminator that it had, since the tool has no lines
  pub keeps_end : Bool
