-- The sinks in memory (`Kept`, `Counted`, `Filling`): the state of each as a sink, and when it is new. And what it
-- means that bytes, or those of a file, were added to a room.
use Rattle.std.specs.Prelude.{◌≡◌, ◌⊎◌, ℕ, Bool, true, false, List, [], ◌∷◌, ◌+◌, ◌++◌, Option, Some, None, take}
use Rattle.ptlines.specs.Received.{IsPrefix}
use Rattle.ptlines.specs.Sinks.{SinkState}
use Rattle.ptrunc.specs.Results.{Holds}
use Rattle.ptrunc.specs.declared.answer.Part.{Part}
use Rattle.ptrunc.specs.declared.memory.Counted.{Counted}
use Rattle.ptrunc.specs.declared.memory.Filling.{Filling}
use Rattle.ptrunc.specs.declared.memory.Kept.{Kept}
use Rattle.ptrunc.specs.declared.memory.Room.{Room}

-- The state as a sink of bytes that are kept.
abbrev pub kept_state : {A : Type 0} → Kept A → SinkState
kept_state s = record { accepted = Some s.bytes.items; failed = s.failed; unflushed = s.unflushed; flushes = s.flushes }

-- Nothing was written yet.
pub record IsNewKept {A : Type 0} (s : Kept A) : Type 0 where
  pub empty : s.bytes.items ≡ []
  pub unfailed : s.failed ≡ false
  pub flushed : s.unflushed ≡ false

-- The state as a sink of bytes that are counted.
abbrev pub counted_state : Counted → SinkState
counted_state s = record { accepted = Some s.bytes.items; failed = s.failed; unflushed = s.unflushed; flushes = s.flushes }

-- Nothing was written yet.
pub record IsNewCounted (s : Counted) : Type 0 where
  pub empty : s.bytes.items ≡ []
  pub unfailed : s.failed ≡ false
  pub flushed : s.unflushed ≡ false

-- The bytes that were written to the room, and those after them, which did not fit.
abbrev pub filling_bytes : Filling → List ℕ
filling_bytes s = take s.room.written s.room.bytes.now ++ s.rest.bytes.items

-- The state as a sink. The ghost name of the room, a number that no other room has, comes before the bytes. So a run
-- that returns a sink to which it has added bytes has returned the one that fills this room.
abbrev pub filling_state : Filling → SinkState
filling_state s = record {
  accepted = Some (s.room.bytes.ghost_name ∷ filling_bytes s);
  failed = s.rest.failed;
  unflushed = s.rest.unflushed;
  flushes = s.rest.flushes;
}

-- Nothing was written yet.
pub record IsNewFilling (s : Filling) : Type 0 where
  pub empty : filling_bytes s ≡ []
  pub unfailed : s.rest.failed ≡ false

-- How much of the bytes the room has got.
abbrev pub part_of : Filling → Part
part_of s = record { written = s.room.written; lacking = s.rest.count }

-- Bytes were added to a room, as far as they fit, and `lacking` did not: if it held a text before, it holds that text and
-- these bytes.
pub record HoldsMore (old new : Room) (bytes : List ℕ) (lacking : ℕ) : Type 0 where
  pub same_room : new.bytes.ghost_name ≡ old.bytes.ghost_name
  pub holds : (text : List ℕ) (before : ℕ)
      → Holds old.bytes.now (record { written = old.written; lacking = before }) text
      → Holds new.bytes.now (record { written = new.written; lacking = before + lacking }) (text ++ bytes)

-- The bytes of a file.
abbrev pub bytes_of_file : {A : Type 0} → Option (Kept A) → List ℕ
bytes_of_file None = []
bytes_of_file (Some file) = file.bytes.items

-- A write to it has failed.
abbrev pub has_failed : {A : Type 0} → Option (Kept A) → Bool
has_failed None = false
has_failed (Some file) = file.failed

-- The bytes of a file were added, or a part of them, if memory ran out. `failed` says whether a write has failed.
pub record AppendPost {A : Type 0} (old new : Filling) (file : Option (Kept A)) (failed : Bool) : Type 0 where
  pub same_room : new.room.bytes.ghost_name ≡ old.room.bytes.ghost_name
  pub is_prefix : IsPrefix (filling_bytes new) (filling_bytes old ++ bytes_of_file file)
  pub whole : failed ≡ false → (filling_bytes new ≡ filling_bytes old ++ bytes_of_file file)
      × (old.rest.failed ≡ false) × (has_failed file ≡ false)
  pub cause : failed ≡ true → (has_failed file ≡ true) ⊎ (new.rest.failed ≡ true)
