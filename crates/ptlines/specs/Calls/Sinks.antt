-- The effect of `flush` and of `write_out` on a sink.
use Rattle.std.specs.Prelude.{◌≡◌, ℕ, ◌<◌, true, false, List, ◌++◌}
use Rattle.std.specs.Prelude.{Result, Ok, Err, length}
use Rattle.std.specs.Io.KnownBytes.{append_known}
use Rattle.ptlines.specs.Sinks.{SinkState, flushes_after, unflushed_after}
use Rattle.ptlines.specs.declared.sink.Failed.{Failed}

-- a write or a flush failed: no byte was accepted or flushed
pub record SinkErr (old new : SinkState) : Type 0 where
  pub accepted : new.accepted ≡ old.accepted
  pub failed : new.failed ≡ true
  pub unflushed : new.unflushed ≡ old.unflushed
  pub flushes : new.flushes ≡ old.flushes

-- the effect of `flush`: after success nothing is unflushed, and one more flush is counted
abbrev pub FlushPost : SinkState → SinkState → Result (Unit {0}) Failed → Type 0
FlushPost old new (Ok u) = new ≡ record old { unflushed = false; flushes = flushes_after old.flushes }
FlushPost old new (Err e) = SinkErr old new

-- only a proper prefix of the bytes was accepted, and the sink has failed
pub record WriteOutErr (old new : SinkState) (bytes : List ℕ) : Type 0 where
  pub front : List ℕ
  pub rest : List ℕ
  pub split : bytes ≡ front ++ rest
  pub some : 0 < length rest
  pub accepted : new.accepted ≡ append_known old.accepted front
  pub failed : new.failed ≡ true
  pub unflushed : new.unflushed ≡ unflushed_after old.unflushed front
  pub flushes : new.flushes ≡ old.flushes

-- all bytes were accepted
abbrev pub WriteOutOk : SinkState → SinkState → List ℕ → Type 0
WriteOutOk old new bytes =
    new ≡ record old { accepted = append_known old.accepted bytes; unflushed = unflushed_after old.unflushed bytes }

-- the effect of `write_out`: all bytes were accepted, or an error is reported and a proper prefix was accepted
abbrev pub WriteOutPost : {E : Type 0} → SinkState → SinkState → List ℕ → Result (Unit {0}) E → Type 0
WriteOutPost old new bytes (Ok u) = WriteOutOk old new bytes
WriteOutPost old new bytes (Err e) = WriteOutErr old new bytes
