-- A message as a line, and its effect on a sink.
use Rattle.std.specs.Prelude.{◌≡◌, ℕ, true, false, List, [], ◌∷◌, ◌++◌, flat_map}
use Rattle.std.specs.Io.KnownBytes.{append_known}
use Rattle.ptlines.specs.Sinks.{SinkState, unflushed_after}

-- A message of these parts, with its newline.
abbrev pub line_of : List (List ℕ) → List ℕ
line_of parts = flat_map (λ p. p) parts ++ 10 ∷ []

-- A text was written to a sink: all of it, or a prefix if the sink has failed since. A sink that had failed before is
-- unchanged.
pub record HasSaid (old new : SinkState) (text : List ℕ) : Type 0 where
  pub front : List ℕ
  pub rest : List ℕ
  pub split : text ≡ front ++ rest
  pub accepted : new.accepted ≡ append_known old.accepted front
  pub unflushed : new.unflushed ≡ unflushed_after old.unflushed front
  pub flushes : new.flushes ≡ old.flushes
  pub whole : new.failed ≡ false → rest ≡ []
  pub stays : old.failed ≡ true → new ≡ old
