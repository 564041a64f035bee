-- A run that returns a sink to which it has added bytes has returned the sink of the same room: the state of a sink
-- begins with the ghost name of its room. Then what it means for a room that a file is appended, and that a room has
-- what the state of its sink says: all of a text, or its beginning if the room is full.
use Rattle.std.proofs.Common.{◌≡◌, ℕ, ◌<◌, ◌⊎◌, Bool, true, false, List, [], ◌∷◌, ◌++◌, Option, Some, None, ap, sym, ◌∙◌, refl}
use Rattle.std.proofs.Common.{arith, inl, inr, length, take, length-append, append_assoc, ⊎_elim}
use Rattle.std.proofs.lemmas.Bool.{true≢false}
use Rattle.std.proofs.lemmas.List.{append-nil, length-take-le}
use Rattle.std.proofs.Math.Seq.{take-append_seam}
use Rattle.std.specs.Io.KnownBytes.{append_known}
use Rattle.ptlines.specs.Calls.Sinks.{WriteOutErr, WriteOutOk}
use Rattle.ptlines.specs.Received.{IsPrefix}
use Rattle.ptrunc.proofs.Below.{below_or_not}
use Rattle.ptrunc.specs.Private.Rooms.{AppendPost, IsNewFilling, filling_bytes, filling_state, part_of}
use Rattle.ptrunc.specs.Results.{Holds, HoldsBeginning, IsFull}
use Rattle.ptrunc.specs.declared.memory.Filling.{Filling}
use Rattle.ptrunc.specs.declared.memory.Kept.{Kept}

head_of : Option (List ℕ) → ℕ
head_of None = 0
head_of (Some []) = 0
head_of (Some (x ∷ xs)) = x

tail_of : Option (List ℕ) → List ℕ
tail_of None = []
tail_of (Some []) = []
tail_of (Some (x ∷ xs)) = xs

module _ (old new : Filling) (bytes : List ℕ)
    (added : (filling_state new).accepted ≡ append_known (filling_state old).accepted bytes) where
  pub same_room : new.room.bytes.ghost_name ≡ old.room.bytes.ghost_name
  unfolding head_of
  same_room = ap head_of added

  pub bytes_after : filling_bytes new ≡ filling_bytes old ++ bytes
  unfolding tail_of
  bytes_after = ap tail_of added

  pub bytes_added : IsNewFilling old → filling_bytes new ≡ bytes
  bytes_added is_new = bytes_after ∙ ap (λ (l : List ℕ). l ++ bytes) is_new.empty

-- ---- a file is appended

module _ {A : Type 0} (old new : Filling) (file : Kept A) where
  pub appended : old.rest.failed ≡ false → WriteOutOk (filling_state old) (filling_state new) file.bytes.items
      → AppendPost old new (Some file) file.failed
  appended unfailed all =
      let after = bytes_after old new file.bytes.items (ap (λ s. s.accepted) all) in
      record {
        same_room = same_room old new file.bytes.items (ap (λ s. s.accepted) all);
        is_prefix = record { rest = []; is = sym after ∙ sym (append-nil (filling_bytes new)) };
        whole = λ fine. (after, unfailed, fine);
        cause = λ failed. inl failed;
      }

-- ---- a room

module _ (s : Filling) where
  written_length : length (take s.room.written s.room.bytes.now) ≡ s.room.written
  written_length = length-take-le s.room.written s.room.bytes.now s.room.within

  pub holds_of : (text : List ℕ) → filling_bytes s ≡ text → Holds s.room.bytes.now (part_of s) text
  holds_of text is = rw (← is) (record {
    begins = sym (ap (λ (n : ℕ). take n (filling_bytes s)) (sym written_length)
        ∙ take-append_seam (take s.room.written s.room.bytes.now) s.rest.bytes.items);
    counts = omega (
      arith,
      written_length,
      s.rest.counts,
      length-append (take s.room.written s.room.bytes.now) s.rest.bytes.items,
    );
    within = s.room.within;
    is_full = λ lacking. room_is_full lacking;
  })
    where
      room_is_full : 0 < s.rest.count → s.room.written ≡ length s.room.bytes.now
      room_is_full lacking =
          ⊎_elim (λ space. absurd (omega (arith, lacking, s.rest.counts, ap length (s.rest_is_after space).0)))
          (λ full. omega (arith, full, s.room.within)) (below_or_not s.room.written (length s.room.bytes.now))

  pub full_if_failed : s.rest.failed ≡ true → IsFull s.room.bytes.now (part_of s)
  full_if_failed failed =
      ⊎_elim (λ space. absurd (true≢false (sym failed ∙ (s.rest_is_after space).1)))
      (λ full. omega (arith, full, s.room.within)) (below_or_not s.room.written (length s.room.bytes.now))

  pub prefix_of_room : (text : List ℕ) → IsPrefix (filling_bytes s) text
      → IsPrefix (take s.room.written s.room.bytes.now) text
  prefix_of_room text p =
      record {
        rest = s.rest.bytes.items ++ p.rest;
        is = p.is
            ∙ append_assoc (take s.room.written s.room.bytes.now) s.rest.bytes.items p.rest;
      }

  pub holds_or_begins : (text : List ℕ) → IsPrefix (filling_bytes s) text
      → (s.rest.failed ≡ false → filling_bytes s ≡ text)
      → Holds s.room.bytes.now (part_of s) text ⊎ HoldsBeginning s.room.bytes.now (part_of s) text
  holds_or_begins text p whole = by_failed s.rest.failed refl
    where
      by_failed : (failed : Bool) → s.rest.failed ≡ failed
          → Holds s.room.bytes.now (part_of s) text ⊎ HoldsBeginning s.room.bytes.now (part_of s) text
      by_failed false fine = inl (holds_of text (whole fine))
      by_failed true failed = inr (record {
        begins = prefix_of_room text p;
        counts = omega (
          arith,
          ap length p.is,
          length-append (filling_bytes s) p.rest,
          written_length,
          s.rest.counts,
          length-append (take s.room.written s.room.bytes.now) s.rest.bytes.items,
        );
        full = full_if_failed failed;
      })
