-- An engine, as a specification over its inputs. `I` names these: `Unit` for one, a side for two, an index for more.
use Rattle.std.specs.Prelude.{◌==◌, ℕ, Bool, List, Option}
use Rattle.std.specs.List.{list_any}
use Rattle.ptlines.specs.Received.{Received}

-- An index is in a list.
abbrev pub is_in : List ℕ → ℕ → Bool
is_in indices index = list_any (λ i. i == index) indices

-- The specification of an engine.
pub record EngineSpec (I : Type 0) : Type 0 where
  -- the output
  pub text : (I → List ℕ) → List ℕ
  -- the output that is decided by what was received from each input
  pub decided : (I → Received) → List ℕ
  -- the input that is reported as out of order, if any, and the number of its line, counted from 1
  pub disorder : (I → List ℕ) → Option (I × ℕ)
  -- the most bytes of lines that are stored at any moment, and the most slots that are needed for them
  pub size : (I → List ℕ) → ℕ
  pub slots : (I → List ℕ) → ℕ
  -- how many slots are added before anything is read
  pub first_slots : ℕ
  -- whether memory may be requested once the inputs have ended, as `join` does for a group
  pub keeps_groups : Bool
  -- the line terminator
  pub terminator : ℕ
  -- whether the readers keep the terminator that they had, since the engine has no lines
  pub keeps_terminator : Bool
