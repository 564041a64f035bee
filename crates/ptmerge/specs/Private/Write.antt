-- The contracts of functions that write any number of bytes to an output, or add them to a row.
use Rattle.std.specs.Prelude.{◌≡◌, ◌++◌, ℕ, true, false, List, Result, OnOk, OnErr}
use Rattle.ptlines.specs.Calls.Outputs.{Output, PushEffect}

-- All of `bytes` were pushed to the output, and there may be none. An error is returned only if a write has failed, and
-- always if one failed during the call.
pub record WriteBytesPost {E : Type 0} (old new : Output) (bytes : List ℕ) (result : Result (Unit {0}) E) : Type 0 where
  pub wrote : PushEffect old new bytes
  pub clean : old.write_failed ≡ false → OnOk result (new.write_failed ≡ false)
  pub fault : OnErr result (new.write_failed ≡ true)

-- The bytes `piece` were added to a row, of which the first bytes were pushed then: there may be none.
pub record AddPost {E : Type 0} (row left piece : List ℕ) (old new : Output) (result : Result (Unit {0}) E) : Type 0 where
  pub pushed : List ℕ
  pub split : row ++ piece ≡ pushed ++ left
  pub wrote : WriteBytesPost old new pushed result
