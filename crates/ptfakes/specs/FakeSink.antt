-- The model of the sinks of the tests, which know the bytes that they have accepted: a new one, its state as a
-- `Sink`, and the effects of a write and of a flush.
use Rattle.std.specs.Prelude.{◌≡◌, ℕ, ◌-◌, ◌==◌, ◌<◌, ◌≤◌, ◌||◌, Bool, true, false, List, [], ◌++◌, Some, Result, Ok}
use Rattle.std.specs.Prelude.{Err, length, take, min}
use Rattle.ptlines.specs.Sinks.{SinkState, unflushed_after, flushes_after}
use Rattle.ptlines.specs.declared.sink.Failed.{Failed}
use Rattle.ptfakes.specs.Calls.{count_after}

-- the accepted bytes, the most bytes that one call and all calls accept, how many calls succeed before every later one
-- fails, the number of calls, how many of them were flushes that succeeded, whether one has failed, and whether bytes
-- are unflushed
pub record FakeSink : Type 0 where
  pub accepted : List ℕ
  pub size : ℕ
  pub room : ℕ
  pub ok_calls : ℕ
  pub calls : ℕ
  pub flushes : ℕ
  pub failed : Bool
  pub unflushed : Bool

-- a sink that has accepted nothing
abbrev pub new_fake_sink : ℕ → ℕ → ℕ → FakeSink
new_fake_sink size room ok_calls = record {
  accepted = [];
  size = size;
  room = room;
  ok_calls = ok_calls;
  calls = 0;
  flushes = 0;
  failed = false;
  unflushed = false;
}

-- the state of such a sink as a `Sink`
abbrev pub sink_state : FakeSink → SinkState
sink_state k = record { accepted = Some k.accepted; failed = k.failed; unflushed = k.unflushed; flushes = k.flushes }

-- A write returned `Ok n`: the first `n` bytes were accepted, limited by the size of a call and the room. None is a
-- failure.
pub record FakePutOk (old new : FakeSink) (bytes : List ℕ) (n : ℕ) : Type 0 where
  pub passes : old.calls < old.ok_calls
  pub count : n ≡ min (min (length bytes) old.size) (old.room - length old.accepted)
  pub is : new ≡ record old {
    accepted = old.accepted ++ take n bytes;
    calls = count_after old.calls;
    failed = old.failed || (n == 0);
    unflushed = unflushed_after old.unflushed (take n bytes);
  }

-- the effect of one write
abbrev pub FakePutPost : FakeSink → FakeSink → List ℕ → Result ℕ Failed → Type 0
FakePutPost old new bytes (Ok n) = FakePutOk old new bytes n
FakePutPost old new bytes (Err e) = new ≡ record old { calls = count_after old.calls; failed = true }

-- the effect of one flush
abbrev pub FakeFlushPost : FakeSink → FakeSink → Result (Unit {0}) Failed → Type 0
FakeFlushPost old new (Ok u) = (old.calls < old.ok_calls)
    × (new ≡ record old { calls = count_after old.calls; flushes = flushes_after old.flushes; unflushed = false })
FakeFlushPost old new (Err e) = (old.ok_calls ≤ old.calls)
    × (new ≡ record old { calls = count_after old.calls; failed = true })
