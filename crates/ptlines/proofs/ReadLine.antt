-- A line is read piece by piece (`LineSoFar`), up to its terminator or the end of input: what several calls consumed
-- is the concatenation of what each consumed. A line whose terminator is among the next 64 bytes is copied at once.
use Rattle.ptlines.proofs
use proofs.Common.{◌≡◌, ℕ, ◌+◌, ◌-◌, ◌^◌, ◌<◌, ◌≤◌, None, Some, take, List, [], ◌∷◌, ◌++◌, length, sym, ◌∙◌, ap}
use proofs.Common.{subst, arith, length-append, set-set, Slots, line, with_line, not, ◌==◌, Ok, IsLine, Reader}
use proofs.Common.{ReaderAdvance, AdvanceOk, IsDone, IsFirst, IsFirstByte, Passes, is_byte, slice_range, rules, usual}
use proofs.KnownBytes.{prepend_known-append}
use proofs.SlotTotals.{total_bytes_set}
use proofs.LineSearch.{IsLine-append, line_before_terminator, advance_ok_take}
use proofs.Consume.{rest_of_range}
use Rattle.ptlines.specs.Calls.ReadLine.{FillPost, FillLine}

pub advance_trans : (a b c : Reader) (xs ys : List ℕ) → ReaderAdvance a b xs → ReaderAdvance b c ys
    → ReaderAdvance a c (xs ++ ys)
advance_trans = grind (arith, prepend_known-append, length-append)

pub advance_ok_trans : (a b c : Reader) (xs ys : List ℕ) → AdvanceOk a b xs → AdvanceOk b c ys
    → AdvanceOk a c (xs ++ ys)
advance_ok_trans a b c xs ys first second = search (rules, advance_trans)

pub line_of_with_line : (store : Slots) (slot : ℕ) (xs : List ℕ) → slot < length store.lines
    → line (with_line store slot xs) slot ≡ xs
line_of_with_line = search rules

-- these bytes were appended to the slot
abbrev pub IsAppended : Slots → Slots → ℕ → List ℕ → Type 0
IsAppended before after slot bytes = after ≡ with_line before slot (line before slot ++ bytes)

-- All buffered bytes were moved to the slot: a part of a line, whose terminator is not among them.
pub record PiecePartial (old new : Reader) (before after : Slots) (slot : ℕ) : Type 0 where
  pub piece : List ℕ
  pub advance_ok : AdvanceOk old new piece
  pub whole : IsLine old.terminator piece
  pub some : 0 < length piece
  pub empty : new.buffered ≡ []
  pub appended : IsAppended before after slot piece

-- The rest of a line was moved to the slot, and its terminator consumed.
pub record PieceLine (old new : Reader) (before after : Slots) (slot : ℕ) : Type 0 where
  pub piece : List ℕ
  pub advance_ok : AdvanceOk old new (piece ++ old.terminator ∷ [])
  pub whole : IsLine old.terminator piece
  pub appended : IsAppended before after slot piece

pub appended_twice : (s t u : Slots) (slot : ℕ) (xs ys : List ℕ) → slot < length s.lines → t ≡ with_line s slot xs
    → IsAppended t u slot ys → u ≡ with_line s slot (xs ++ ys)
appended_twice = grind (arith, line_of_with_line, length-append, set-set, total_bytes_set)

-- the bytes consumed since `old`, a part of one line, are in the slot
pub record LineSoFar (old now : Reader) (before so_far : Slots) (slot : ℕ) : Type 0 where
  pub piece : List ℕ
  pub advance_ok : AdvanceOk old now piece
  pub whole : IsLine old.terminator piece
  pub stored : so_far ≡ with_line before slot piece

pub line_so_far_partial : (old now new : Reader) (before so_far after : Slots) (slot : ℕ) → slot < length before.lines
    → LineSoFar old now before so_far slot → PiecePartial now new so_far after slot
    → LineSoFar old new before after slot
line_so_far_partial old now new _ _ _ _ within begun partial = record {
  piece = begun.piece ++ partial.piece;
  advance_ok = search (rules, advance_ok_trans);
  whole = grind (arith, IsLine-append);
  stored = grind (arith, appended_twice);
}

pub fill_line : (old now new : Reader) (before so_far after : Slots) (slot : ℕ) → slot < length before.lines
    → old.pulled < 2 ^ 63 → LineSoFar old now before so_far slot → PieceLine now new so_far after slot
    → FillLine old new before after slot
fill_line old now new _ _ _ _ within short begun last =
    grind (arith, all, length-append, IsLine-append, appended_twice)
  where
    same : now.terminator ≡ old.terminator
    same = begun.advance_ok.reads.terminator

    all : AdvanceOk old new ((begun.piece ++ last.piece) ++ old.terminator ∷ [])
    all =
        subst (λ b. AdvanceOk old new b)
        (ap (λ end. begun.piece ++ (last.piece ++ end ∷ [])) same
        ∙ sym (grind usual))
        (search (rules, advance_ok_trans))

pub fill_eof : (old now new : Reader) (before so_far after : Slots) (slot : ℕ)
    → slot < length before.lines → old.pulled < 2 ^ 63 → LineSoFar old now before so_far slot → AdvanceOk now new []
    → IsDone new → after ≡ so_far → FillPost old new before after slot (Ok (not (length (line after slot) == 0)))
fill_eof old now new before so_far after slot within short begun advance_ok done same =
    grind (arith, line_of_with_line, by_piece)
  where
    by_piece : (piece : List ℕ) → AdvanceOk old new piece → IsLine old.terminator piece
        → after ≡ with_line before slot piece → FillPost old new before after slot (Ok (not (length piece == 0)))
    by_piece [] g w s = grind arith
    by_piece (x ∷ piece) g w s = search rules

-- `front` begins with the buffered bytes. The line before the terminator among its first `n` bytes was copied at once.
module _ (n : ℕ) (old new : Reader) (block front : List ℕ) (start end size : ℕ) (before after : Slots) (slot : ℕ) where
  first_in_block : start + size < end → end - start ≤ length old.buffered → take (end - start) front ≡ old.buffered
      → IsFirst (Passes (is_byte old.terminator) front) 0 n (Some size)
      → IsFirstByte (is_byte old.terminator) old.buffered (Some size)
  first_in_block = grind usual

  pub fill_short_line : old.fault ≡ None → old.pulled < 2 ^ 63 → start + size < end → end ≤ length block
      → slice_range block start end ≡ old.buffered → take (end - start) front ≡ old.buffered
      → IsFirst (Passes (is_byte old.terminator) front) 0 n (Some size)
      → new ≡ record old { buffered = slice_range block (start + size + 1) end }
      → after ≡ with_line before slot (take size front) → FillLine old new before after slot
  fill_short_line = grind (usual, first_in_block, rest_of_range, advance_ok_take, line_before_terminator)
