-- The inputs of a command by position, and what was received from them. Position 0 is standard input, and `i` + 1 is
-- the `i`-th file. Then the readers by position: new, read to their ends, failed, or with these bytes to give.
use Rattle.std.specs.Prelude.{◌≡◌, ℕ, ◌+◌, ◌<◌, ◌≤◌, ◌^◌, List, [], Bool, true, false, Option, Some, None, IfSome}
use Rattle.std.specs.Prelude.{slice_index_or, is_none, length, ⊤, All}
use Rattle.ptlines.specs.Engines.{is_in}
use Rattle.ptlines.specs.Readers.{Reader, IsDone, remaining_bytes, reader_at}
use Rattle.ptlines.specs.Received.{Received, HasReceived}
use Rattle.ptlines.specs.Received as one

-- The bytes of each input by position, and `None` for a file that could not be opened.
abbrev pub InputBytes : Type 0
InputBytes = List (Option (List ℕ))

-- The received part of each input by position, and `None` for a file that could not be opened.
abbrev pub ReceivedInputs : Type 0
ReceivedInputs = List (Option Received)

-- The entry at a position, and `None` after the last.
abbrev pub at : {X : Type 0} → List (Option X) → ℕ → Option X
at xs position = slice_index_or xs position None

-- The input at a position could not be opened.
abbrev pub is_unopened : {X : Type 0} → List (Option X) → ℕ → Bool
is_unopened xs position = is_none (at xs position)

-- The bytes of one input are consistent with what was received from it; a file that could not be opened has neither.
abbrev pub IsConsistentAt : Option Received → Option (List ℕ) → Type 0
IsConsistentAt (Some g) (Some bytes) = one.IsConsistent g bytes
IsConsistentAt None None = ⊤
IsConsistentAt _ _ = ⊥

-- The bytes of all inputs are consistent with what was received: the same files could not be opened, and what was
-- received from each other input is a prefix of its bytes, and all of them if its end was reached.
abbrev pub AreInputsConsistent : ReceivedInputs → InputBytes → Type 0
AreInputsConsistent r w = (position : ℕ) → IsConsistentAt (at r position) (at w position)

-- ---- readers

-- The reader at a position is that of a file that could not be opened.
abbrev pub is_reader_unopened : List Reader → ℕ → Bool
is_reader_unopened readers position = (reader_at readers position).refused

-- This part was received from one reader. The reader of a file that could not be opened is unchanged.
abbrev pub HasReceivedAt : Reader → Reader → Option Received → Type 0
HasReceivedAt old new None = (old.refused ≡ true) × (new ≡ old)
HasReceivedAt old new (Some g) = (old.refused ≡ false) × HasReceived old new g

-- These parts were received from all readers, by position.
abbrev pub HaveReceived : List Reader → List Reader → ReceivedInputs → Type 0
HaveReceived old new r = (position : ℕ) → HasReceivedAt (reader_at old position) (reader_at new position) (at r position)

-- Nothing was read from it yet, and it has no fault.
pub record IsNew (r : Reader) : Type 0 where
  pub buffered : r.buffered ≡ []
  pub eof : r.eof ≡ false
  pub pulled : r.pulled ≡ 0
  pub fault : r.fault ≡ None

-- Opened and not yet read, or not opened.
abbrev pub IsNewOrUnopened : Reader → Type 0
IsNewOrUnopened r = r.refused ≡ false → IsNew r

-- None of these readers was read yet. If a command is run, they are those of standard input and of its `files` files;
-- otherwise any readers, or none.
abbrev pub AreNewInputs : Option ℕ → List Reader → Type 0
AreNewInputs files readers = IfSome files (λ count. length readers ≡ count + 1) × All IsNewOrUnopened readers

-- Of the inputs at these positions, those that were opened were read to their end, and nothing of them is buffered.
abbrev pub AreReadToEnd : List Reader → List ℕ → Type 0
AreReadToEnd readers positions = (position : ℕ) → is_in positions position ≡ true
    → (reader_at readers position).refused ≡ false → IsDone (reader_at readers position)

-- One of the inputs at these positions was opened, and not read to its end.
abbrev pub IsOneUnended : List Reader → List ℕ → Type 0
IsOneUnended readers positions =
    (position : ℕ) × (is_in positions position ≡ true) × ((reader_at readers position).refused ≡ false)
    × (IsDone (reader_at readers position) → ⊥)

-- A read of the input at a position failed.
abbrev pub HasReadFailed : List Reader → List Reader → ℕ → Type 0
HasReadFailed old new position = let was = reader_at old position in
    (was.refused ≡ false) × (was.failed ≡ false) × ((reader_at new position).failed ≡ true)

-- 2^63 bytes or more were received from it.
abbrev pub IsTooLong : Option Received → Type 0
IsTooLong None = ⊥
IsTooLong (Some g) = 2 ^ 63 ≤ length g.bytes

-- It has these bytes to give, fewer than 2^63; or could not be opened.
abbrev pub HasBytesAt : Reader → Option (List ℕ) → Type 0
HasBytesAt r None = r.refused ≡ true
HasBytesAt r (Some bytes) = (r.refused ≡ false) × (remaining_bytes r ≡ Some bytes) × (length bytes < 2 ^ 63)

-- The readers have these bytes to give.
abbrev pub HasBytes : List Reader → InputBytes → Type 0
HasBytes readers w = (position : ℕ) → HasBytesAt (reader_at readers position) (at w position)
