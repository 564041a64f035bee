-- The effect of `pull` on a source, and a source whose bytes are not known.
use Rattle.std.specs.Prelude.{◌≡◌, ℕ, ◌<◌, ◌≤◌, true, List, None, Result, Ok, Err, length, take}
use Rattle.std.specs.Io.KnownBytes.{prepend_known, IsAtEnd}
use Rattle.ptlines.specs.Sources.{SourceState}
use Rattle.ptlines.specs.declared.sink.Failed.{Failed}

-- A read returned `Ok n`: the first `n` bytes left were moved to the front of `into`. `n = 0` means the end of input.
pub record PullOk (old new : SourceState) (into : List ℕ) (n : ℕ) : Type 0 where
  pub fits : n ≤ length into
  pub moved : old.left ≡ prepend_known (take n into) new.left
  pub failed : new.failed ≡ old.failed
  pub more : 0 < n → new.eof ≡ old.eof
  pub eof : n ≡ 0 → new.eof ≡ true
  pub at_end : n ≡ 0 → IsAtEnd new.left

-- the effect of `pull`; a failed read loses no byte
abbrev pub PullPost : SourceState → SourceState → List ℕ → Result ℕ Failed → Type 0
PullPost old new into (Ok n) = PullOk old new into n
PullPost old new into (Err e) = new ≡ record old { failed = true }

-- the state with the bytes left made unknown
abbrev pub hide_left : SourceState → SourceState
hide_left s = record s { left = None }
