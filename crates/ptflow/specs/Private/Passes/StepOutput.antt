-- The effect of one step of a tool, which processes some items of its input (bytes or lines) and pushes output for
-- them: what is pushed is right for every continuation of the input.
use Rattle.std.specs.Prelude.{◌≡◌, ℕ, true, false, List, ◌++◌}
use Rattle.ptlines.specs.Received.{IsPrefix}
use Rattle.ptlines.specs.Calls.Outputs.{Output, PushEffect}

-- The items were processed, and no write failed. In a state x, `rest_from x` is the output for the items that are left.
-- In the state `before`, that output is the pushed bytes followed by the output for the rest in the state `after`.
pub record OutputPart {X Y : Type 0} (rest_from : X → List Y → List ℕ) (before after : X) (items : List Y)
    (was is : Output) : Type 0 where
  pub pushed : List ℕ
  pub wrote : PushEffect was is pushed
  pub clean : is.write_failed ≡ false
  pub on : (rest : List Y) → rest_from before (items ++ rest) ≡ pushed ++ rest_from after rest

-- A write failed at these items: the pushed bytes are a prefix of the output for every continuation.
pub record OutputFailed {X Y : Type 0} (rest_from : X → List Y → List ℕ) (before : X) (items : List Y)
    (was is : Output) : Type 0 where
  pub pushed : List ℕ
  pub wrote : PushEffect was is pushed
  pub fault : is.write_failed ≡ true
  pub is_prefix : (rest : List Y) → IsPrefix pushed (rest_from before (items ++ rest))
