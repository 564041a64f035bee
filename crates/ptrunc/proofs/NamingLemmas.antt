-- A room holds a text and the bytes that are added to it, as far as they fit. So does one to which a name and byte 0
-- are added, and with them the list of names up to this one.
use Rattle.std.proofs.Common.{◌≡◌, ◌<◌, ◌≤◌, ◌+◌, ◌-◌, ℕ, suc, List, [], ◌∷◌, ◌++◌, ap, sym, ◌∙◌, arith, length, min, take}
use Rattle.std.proofs.Common.{⊎_elim, subst, append_assoc, length-append, get_or}
use Rattle.std.proofs.lemmas.Grind.{flat_map-append}
use Rattle.std.proofs.lemmas.List.{append-nil, map-append, take-append-le, take_all}
use Rattle.std.proofs.Math.Seq.{take-append-add, take-suc}
use Rattle.std.proofs.Math.Nat.{min-le_left, min-le_right, min-eq_left, min-eq_right}
use Rattle.std.specs.Borrow.{Bor}
use Rattle.ptrunc.proofs.Below.{below_or_not}
use Rattle.ptrunc.specs.Private.Rooms.{HoldsMore}
use Rattle.ptrunc.specs.Results.{Holds}
use Rattle.ptlines.specs.Text.{unlines}
use Rattle.ptopts.specs.Commands.{words_view}
use Rattle.ptrunc.specs.declared.memory.Room.{Room}

module _ (room room' : List ℕ) (w w' c lack : ℕ) (text bytes : List ℕ)
    (h : Holds room (record { written = w; lacking = lack }) text) (count : c ≡ min (length bytes) (length room - w))
    (end : w' ≡ w + c) (added : take w' room' ≡ take w room ++ take c bytes) (same : length room' ≡ length room) where
  none_fit : 0 < lack → c ≡ 0
  none_fit lacks = omega (arith, count, h.is_full lacks, min-le_right (length bytes) (length room - w))

  begins : take w' room' ≡ take w' (text ++ bytes)
  begins = ⊎_elim
      (λ lacks. let none = none_fit lacks in
      added ∙ ap (λ n. take w room ++ take n bytes) none ∙ append-nil (take w room) ∙ h.begins
      ∙ sym (take-append-le w text bytes (omega (arith, h.counts)))
      ∙ ap (λ n. take n (text ++ bytes)) (omega (arith, end, none)))
      (λ fits. let whole : w ≡ length text = omega (arith, fits, h.counts) in
      added ∙ ap (λ (l : List ℕ). l ++ take c bytes) (h.begins ∙ take_all w text (omega (arith, whole)))
      ∙ sym (take-append-add text bytes c)
      ∙ ap (λ n. take n (text ++ bytes)) (omega (arith, end, whole)))
      (below_or_not 0 lack)

  pub holds_more : Holds room' (record { written = w'; lacking = lack + (length bytes - c) }) (text ++ bytes)
  holds_more = record {
    begins = begins;
    counts = omega (arith, h.counts, end, count, min-le_left (length bytes) (length room - w), length-append text bytes);
    within = omega (arith, h.within, end, count, min-le_right (length bytes) (length room - w), same);
    is_full = λ lacks. is_full lacks;
  }
    where
      fits_all : length bytes ≤ length room - w → min (length bytes) (length room - w) ≡ length bytes
      fits_all within = min-eq_left within

      fits_some : length room - w ≤ length bytes → min (length bytes) (length room - w) ≡ length room - w
      fits_some within = min-eq_right within

      is_full : 0 < lack + (length bytes - c) → w' ≡ length room'
      is_full lacks = ⊎_elim
          (λ lacked. omega (arith, none_fit lacked, h.is_full lacked, end, same))
          (λ fit. ⊎_elim
          (λ below. absurd (omega (arith, lacks, fit, count, fits_all (omega (arith, below)))))
          (λ above. omega (arith, end, same, h.within, count, fits_some above))
          (below_or_not (length bytes) (length room - w)))
          (below_or_not 0 lack)

-- The names up to the next one.
pub next_name : (names : List (Bor (List ℕ))) (i : ℕ) (d : Bor (List ℕ)) → i < length names
    → unlines 0 (words_view (take (i + 1) names))
    ≡ unlines 0 (words_view (take i names)) ++ ((get_or names i d).now ++ 0 ∷ [])
next_name names i d within =
    ap (λ n. unlines 0 (words_view (take n names))) next
    ∙ ap (λ l. unlines 0 (words_view l)) (take-suc names i d within)
    ∙ ap (unlines 0) (map-append (λ w. w.now) (take i names) (get_or names i d ∷ []))
    ∙ flat_map-append (λ line. line ++ 0 ∷ []) (words_view (take i names)) ((get_or names i d).now ∷ [])
    ∙ ap (λ (l : List ℕ). unlines 0 (words_view (take i names)) ++ l) (append-nil ((get_or names i d).now ++ 0 ∷ []))
  where
    next : i + 1 ≡ suc i
    next = omega arith

-- A name and byte 0 after it.
pub name_added : (old middle new : Room) (name : List ℕ) (named ended : ℕ)
    → named ≡ min (length name) (length old.bytes.now - old.written) → middle.written ≡ old.written + named
    → take middle.written middle.bytes.now ≡ take old.written old.bytes.now ++ take named name
    → length middle.bytes.now ≡ length old.bytes.now → middle.bytes.ghost_name ≡ old.bytes.ghost_name
    → ended ≡ min 1 (length middle.bytes.now - middle.written) → new.written ≡ middle.written + ended
    → take new.written new.bytes.now ≡ take middle.written middle.bytes.now ++ take ended (0 ∷ [])
    → length new.bytes.now ≡ length middle.bytes.now → new.bytes.ghost_name ≡ middle.bytes.ghost_name
    → HoldsMore old new (name ++ 0 ∷ []) (length name - named + (1 - ended))
name_added old middle new name named ended count end added same same_room count' end' added' same' same_room' = record {
  same_room = same_room' ∙ same_room;
  holds = λ text before held. subst (λ l. Holds new.bytes.now (record {
    written = new.written;
    lacking = before + (length name - named + (1 - ended));
  }) l) (append_assoc text name (0 ∷ []))
      (subst (λ n. Holds new.bytes.now (record { written = new.written; lacking = n }) ((text ++ name) ++ 0 ∷ []))
      (omega arith)
      (holds_more middle.bytes.now new.bytes.now middle.written new.written ended (before + (length name - named))
      (text ++ name) (0 ∷ [])
      (holds_more old.bytes.now middle.bytes.now old.written middle.written named before text name held count end added
      same) count' end' added' same'));
}

-- The names up to the next one are in the room.
pub next_list : (old new : Room) (names : List (Bor (List ℕ))) (i : ℕ) (d : Bor (List ℕ)) (before lacking after : ℕ)
    → i < length names
    → Holds old.bytes.now (record { written = old.written; lacking = before }) (unlines 0 (words_view (take i names)))
    → HoldsMore old new ((get_or names i d).now ++ 0 ∷ []) lacking → after ≡ before + lacking
    → Holds new.bytes.now (record { written = new.written; lacking = after })
    (unlines 0 (words_view (take (i + 1) names)))
next_list old new names i d before lacking after within held more is =
    rw (next_name names i d within, is) (more.holds (unlines 0 (words_view (take i names))) before held)
