-- The effect of `put` on a sink, and a sink whose bytes are not known.
use Rattle.std.specs.Prelude.{◌≡◌, ℕ, ◌<◌, ◌≤◌, true, List, None}
use Rattle.std.specs.Prelude.{Result, Ok, Err, length, take}
use Rattle.std.specs.Io.KnownBytes.{append_known}
use Rattle.ptlines.specs.Calls.Sinks.{SinkErr}
use Rattle.ptlines.specs.Sinks.{SinkState, unflushed_after}
use Rattle.ptlines.specs.declared.sink.Failed.{Failed}

-- A write returned `Ok n`: the first `n` bytes were accepted. `n = 0` counts as a failure.
pub record PutOk (old new : SinkState) (bytes : List ℕ) (n : ℕ) : Type 0 where
  pub fits : n ≤ length bytes
  pub accepted : new.accepted ≡ append_known old.accepted (take n bytes)
  pub same : 0 < n → new.failed ≡ old.failed
  pub none : n ≡ 0 → new.failed ≡ true
  pub unflushed : new.unflushed ≡ unflushed_after old.unflushed (take n bytes)
  pub flushes : new.flushes ≡ old.flushes

-- the effect of `put`
abbrev pub PutPost : SinkState → SinkState → List ℕ → Result ℕ Failed → Type 0
PutPost old new bytes (Ok n) = PutOk old new bytes n
PutPost old new bytes (Err e) = SinkErr old new

-- the state with the accepted bytes made unknown
abbrev pub hide_accepted : SinkState → SinkState
hide_accepted s = record s { accepted = None }
