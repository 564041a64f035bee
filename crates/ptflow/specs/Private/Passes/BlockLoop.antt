-- Tools that work block by block, and keep nothing in the store: what makes a tool one (`IsBlockFilter`), and the
-- contract of `run_blocks`, which runs it. Also the room that is left in a counter and in the output of a block.
use Rattle.std.specs.Prelude.{◌≡◌, ◌<◌, ◌≤◌, ◌+◌, ◌^◌, ℕ, List, ◌++◌, false, None, Result}
use Rattle.ptlines.specs.Received.{IsPrefix}
use Rattle.ptlines.specs.Calls.Engines.{terminator_after}
use Rattle.ptlines.specs.Calls.Outputs.{Output}
use Rattle.ptlines.specs.Readers.{Reader}
use Rattle.ptflow.specs.Calls.Passes.{StorelessPost}
use Rattle.ptflow.specs.Passes.{pass_engine}
use Rattle.ptflow.specs.ToolSpec.{ToolSpec}
use Rattle.ptflow.specs.declared.faults.FlowFault.{FlowFault}
use Rattle.ptlines.specs.declared.sizes.TheConstants.{BLOCK}

-- there is room for `more` bytes in a counter, and in the output of a block
pub record HasRoom (counted written more : ℕ) : Type 0 where
  pub short : counted + more < 2 ^ 63
  pub small : written + more ≤ BLOCK

-- the condition of a pass: no byte was counted; the reader can be read, and no write has failed
pub record RunBlocksPre (counted : ℕ) (reader : Reader) (out : Output) : Type 0 where
  pub fresh : counted ≡ 0
  pub readable : reader.fault ≡ None
  pub clean : out.write_failed ≡ false

-- A block tool that begins in the state `start`. In a state x the output for the rest of the input is `rest_from x`.
pub record IsBlockFilter {X : Type 0} (tool : ToolSpec) (rest_from : X → List ℕ → List ℕ) (IsUnchanged : X → X → Type 0)
    (start : X) : Type 0 where
  pub text : (bytes : List ℕ) → rest_from start bytes ≡ tool.text bytes
  pub decided : (given pushed : List ℕ) (now : X) → IsUnchanged start now
      → ((rest : List ℕ) → rest_from start (given ++ rest) ≡ pushed ++ rest_from now rest)
      → IsPrefix (tool.decided (record { bytes = given; eof = false })) pushed
  pub holds : IsUnchanged start start
  pub slots : tool.slots ≡ 0

-- A call over the blocks of an input is a pass of every such tool, if the reader has the terminator of the tool.
abbrev pub RunBlocksPost : {X : Type 0} → (X → List ℕ → List ℕ) → (X → X → Type 0) → X → Reader → Reader → Output
    → Output → Result (Unit {0}) FlowFault → Type 0
RunBlocksPost rest_from IsUnchanged start old new was is result =
    (tool : ToolSpec) → IsBlockFilter tool rest_from IsUnchanged start
    → terminator_after (pass_engine tool) old.terminator ≡ old.terminator → StorelessPost tool old new was is result
