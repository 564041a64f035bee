-- The postcondition of writing a text to the sink of the messages.
use Rattle.std.specs.Prelude.{◌≡◌, ℕ, ◌<◌, Bool, true, false, List, [], ◌++◌, length, map}
use Rattle.std.specs.Io.KnownBytes.{append_known}
use Rattle.std.specs.Borrow.{Bor}
use Rattle.ptlines.specs.Sinks.{SinkState, unflushed_after}

-- The texts of a `&[&str]`.
abbrev pub texts : List (Bor (List ℕ)) → List (List ℕ)
texts parts = map (λ p. p.now) parts

-- The postcondition of writing a text to a sink that has not failed: a prefix of it was taken, and not flushed. `all`
-- is true if that is the whole text, and false if a write failed.
pub record SayPost (old new : SinkState) (text : List ℕ) (all : Bool) : Type 0 where
  pub front : List ℕ
  pub rest : List ℕ
  pub split : text ≡ front ++ rest
  pub accepted : new.accepted ≡ append_known old.accepted front
  pub unflushed : new.unflushed ≡ unflushed_after old.unflushed front
  pub flushes : new.flushes ≡ old.flushes
  pub whole : all ≡ true → (rest ≡ []) × (new.failed ≡ false)
  pub broken : all ≡ false → (0 < length rest) × (new.failed ≡ true)
