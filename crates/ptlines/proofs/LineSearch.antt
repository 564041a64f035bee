-- The bytes before the first terminator are a line; if there is none, all bytes are a part of one. Two parts of a
-- line, one after the other, are a part of one. What is taken and dropped at the terminator. And a reader that has
-- taken the first of its buffered bytes has advanced by these.
use Rattle.ptlines.proofs
use proofs.Common.{◌≡◌, ℕ, suc, ◌+◌, ◌<◌, ◌≤◌, List, [], ◌∷◌, ◌++◌, None, Some, length, get_or, take, drop, arith}
use proofs.Common.{IsFirstByte, is_byte, IsLine, Reader, AdvanceOk, usual}
use proofs.KnownBytes.{prepend_known-append}

pub is_line_if_none : (end : ℕ) (bytes : List ℕ) → ((k : ℕ) → k < length bytes → get_or bytes k 0 ≡ end → ⊥)
    → IsLine end bytes
is_line_if_none end [] none = tt
is_line_if_none end (b ∷ bytes) none =
    (none 0 (omega arith), is_line_if_none end bytes (λ k lt is. none (suc k) (omega arith) is))

pub IsLine-append : (end : ℕ) (xs ys : List ℕ) → IsLine end xs → IsLine end ys → IsLine end (xs ++ ys)
IsLine-append end [] ys p q = q
IsLine-append end (x ∷ xs) ys (differs, p) q = (differs, IsLine-append end xs ys p q)

pub line_before_terminator : (end : ℕ) (hay : List ℕ) (at : ℕ) → IsFirstByte (is_byte end) hay (Some at)
    → IsLine end (take at hay)
line_before_terminator = grind (usual, is_line_if_none)

pub line_if_not_found : (end : ℕ) (hay : List ℕ) → IsFirstByte (is_byte end) hay None → IsLine end hay
line_if_not_found = grind (arith, is_line_if_none)

pub take_with_terminator : (end : ℕ) (hay : List ℕ) (at : ℕ) → IsFirstByte (is_byte end) hay (Some at)
    → take (at + 1) hay ≡ take at hay ++ end ∷ []
take_with_terminator = grind usual

pub drop_at_terminator : (end : ℕ) (hay : List ℕ) (at : ℕ) → IsFirstByte (is_byte end) hay (Some at)
    → drop at hay ≡ end ∷ drop (at + 1) hay
drop_at_terminator = grind usual

pub advance_ok_take : (old new : Reader) (n : ℕ) → old.fault ≡ None → n ≤ length old.buffered
    → new ≡ record old { buffered = drop n old.buffered } → AdvanceOk old new (take n old.buffered)
advance_ok_take = grind (usual, prepend_known-append)
