-- The part of an input that was received so far, and the inputs that are possible after it.
use Rattle.std.specs.Prelude.{◌≡◌, ◌+◌, ℕ, Bool, true, List, [], ◌++◌, length, if◌then◌else◌}
use Rattle.std.specs.Io.KnownBytes.{prepend_known, IsAtEnd}
use Rattle.ptlines.specs.Text.{lines, complete_lines}
use Rattle.ptlines.specs.Readers.{Reader, remaining_bytes}

-- the bytes received, and whether the end of the input was reached
pub record Received : Type 0 where
  pub bytes : List ℕ
  pub eof : Bool

-- an empty input, read to its end
abbrev pub empty_input : Received
empty_input = record { bytes = []; eof = true }

-- The lines that are complete regardless of the input that follows: all lines if the end was reached, otherwise those
-- that end with the terminator.
abbrev pub known_lines : ℕ → Received → List (List ℕ)
known_lines end given = if given.eof then lines end given.bytes else complete_lines end given.bytes

-- `xs` is a prefix of `ys`
pub record IsPrefix (xs ys : List ℕ) : Type 0 where
  pub rest : List ℕ
  pub is : ys ≡ xs ++ rest

-- A whole input of which this part may have been received: it begins with the bytes received, and equals them if the
-- end was reached.
pub record IsConsistent (given : Received) (input : List ℕ) : Type 0 where
  pub rest : List ℕ
  pub is : input ≡ given.bytes ++ rest
  pub whole : given.eof ≡ true → rest ≡ []

-- The part received from a reader's source since the state `old`. It begins with the bytes that were buffered then, and
-- does not depend on the reader's terminator.
pub record HasReceived (old new : Reader) (given : Received) : Type 0 where
  pub moved : remaining_bytes old ≡ prepend_known given.bytes new.left
  pub count : new.pulled + length old.buffered ≡ old.pulled + length given.bytes
  pub eof : given.eof ≡ new.eof
  pub refused : new.refused ≡ old.refused
  -- after the end of input the source is not read again
  pub still : old.eof ≡ true → (new.pulled ≡ old.pulled) × (new.eof ≡ true)
  -- and it has no bytes left
  pub end : (old.eof ≡ true → IsAtEnd old.left) → new.eof ≡ true → IsAtEnd new.left
