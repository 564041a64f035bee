-- The invariant of every reader, and how one moves on: it consumes bytes, with a fault or without.
use Rattle.std.specs.Prelude.{◌≡◌, ℕ, ◌+◌, ◌-◌, ◌^◌, ◌<◌, ◌≤◌, ◌⊎◌, true, false, List, [], None, Some}
use Rattle.std.specs.Prelude.{length}
use Rattle.std.specs.Io.KnownBytes.{prepend_known, IsAtEnd}
use Rattle.ptlines.specs.Calls.Text.{IsLine}
use Rattle.ptlines.specs.Readers.{Reader, remaining_bytes}
use Rattle.ptlines.specs.declared.store.LineFault.{LineFault}
use Rattle.ptlines.specs.declared.sizes.TheConstants.{BLOCK}

-- the invariant of every reader
pub record IsSound (r : Reader) : Type 0 where
  pub buffered : length r.buffered ≤ BLOCK
  pub count : length r.buffered ≤ r.pulled
  pub end : r.eof ≡ true → IsAtEnd r.left
  pub long : r.fault ≡ None → r.pulled < 2 ^ 63
  -- a failed read is always reported as a fault
  pub unfailed : r.refused ≡ false → r.fault ≡ None → r.failed ≡ false

-- the reader has moved on: exactly these bytes were consumed, and the block may have been refilled
pub record ReaderAdvance (old new : Reader) (bytes : List ℕ) : Type 0 where
  pub moved : remaining_bytes old ≡ prepend_known bytes (remaining_bytes new)
  pub count : new.pulled + length old.buffered ≡ old.pulled + length bytes + length new.buffered
  pub refused : new.refused ≡ old.refused
  pub terminator : new.terminator ≡ old.terminator
  -- after the end of input the source is not read again
  pub still : old.eof ≡ true → (new.pulled ≡ old.pulled) × (new.eof ≡ true)
  -- and it has no bytes left
  pub end : (old.eof ≡ true → IsAtEnd old.left) → new.eof ≡ true → IsAtEnd new.left

-- The reason for a `Read` fault: a read failed and nothing is buffered, or the source has given 2^63 bytes or more.
abbrev pub HasReadCause : Reader → Reader → Type 0
HasReadCause old new = ((new.failed ≡ true) × (new.buffered ≡ []) × (new.eof ≡ false))
    ⊎ ((2 ^ 63 ≤ new.pulled) × (new.failed ≡ old.failed))

-- the reader has consumed these bytes, a part of one line, and then reported a fault for the first time
pub record AdvanceErr (old new : Reader) (bytes : List ℕ) (fault : LineFault) : Type 0 where
  pub reads : ReaderAdvance old new bytes
  pub whole : IsLine old.terminator bytes
  pub is : new.fault ≡ Some fault

-- the reader has consumed these bytes, and reported no fault
pub record AdvanceOk (old new : Reader) (bytes : List ℕ) : Type 0 where
  pub reads : ReaderAdvance old new bytes
  pub fault : new.fault ≡ None
  pub failed : new.failed ≡ old.failed
  pub short : old.pulled < 2 ^ 63 → new.pulled < 2 ^ 63

-- how many bytes can still be consumed before the limit of 2^63 is reached; it decreases with each line
abbrev pub budget : Reader → ℕ
budget r = 2 ^ 63 + length r.buffered - r.pulled
