-- The effect of the private calls of `Out` if a write fails.
use Rattle.std.specs.Prelude.{◌≡◌, ℕ, true, List, [], ◌++◌}
use Rattle.std.specs.Io.KnownBytes.{append_known}
use Rattle.ptlines.specs.Calls.Outputs.{Output}

-- A write or a flush failed: the sink accepted a prefix of the bytes, and nothing is buffered.
pub record OutputErr (old new : Output) (bytes : List ℕ) : Type 0 where
  pub front : List ℕ
  pub rest : List ℕ
  pub split : bytes ≡ front ++ rest
  pub accepted : new.accepted ≡ append_known old.accepted front
  pub buffered : new.buffered ≡ []
  pub write_failed : new.write_failed ≡ true
  pub flushes : new.flushes ≡ old.flushes
