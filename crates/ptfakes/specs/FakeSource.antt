-- The model of the sources of the tests, which know the bytes that they have left: a new one, its state as a
-- `Source`, and the effect of a read.
use Rattle.std.specs.Prelude.{◌≡◌, ℕ, ◌==◌, ◌<◌, ◌≤◌, ◌||◌, Bool, true, false, List, Some, Result, Ok, Err, length}
use Rattle.std.specs.Prelude.{take, drop, min, max}
use Rattle.ptlines.specs.Sources.{SourceState}
use Rattle.ptlines.specs.declared.sink.Failed.{Failed}
use Rattle.ptfakes.specs.Calls.{count_after}

-- the bytes left, the most bytes that one read returns, how many reads succeed before every later one fails, the number
-- of reads, whether the end of input was reached, and whether a read has failed
pub record FakeSource : Type 0 where
  pub left : List ℕ
  pub size : ℕ
  pub ok_calls : ℕ
  pub pulls : ℕ
  pub eof : Bool
  pub failed : Bool

-- a source of which nothing was read
abbrev pub new_fake_source : List ℕ → ℕ → ℕ → FakeSource
new_fake_source text size ok_calls = record {
  left = text;
  size = max size 1;
  ok_calls = ok_calls;
  pulls = 0;
  eof = false;
  failed = false;
}

-- the state of such a source as a `Source`
abbrev pub source_state : FakeSource → SourceState
source_state source = record { left = Some source.left; eof = source.eof; failed = source.failed }

-- A read returned `Ok n`: the next `n` bytes, limited by the text, the chunk size and the buffer. None is the end of
-- input.
pub record FakePullOk (old new : FakeSource) (into : List ℕ) (n : ℕ) : Type 0 where
  pub passes : old.pulls < old.ok_calls
  pub count : n ≡ min (min (length old.left) old.size) (length into)
  pub given : take n into ≡ take n old.left
  pub is : new ≡ record old { left = drop n old.left; pulls = count_after old.pulls; eof = old.eof || (n == 0) }

-- the effect of one read
abbrev pub FakePullPost : FakeSource → FakeSource → List ℕ → Result ℕ Failed → Type 0
FakePullPost old new into (Ok n) = FakePullOk old new into n
FakePullPost old new into (Err e) = (old.ok_calls ≤ old.pulls)
    × (new ≡ record old { pulls = count_after old.pulls; failed = true })
