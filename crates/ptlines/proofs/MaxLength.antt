-- The length of the longest line: of two lists of lines together it is the maximum of both, and a piece at the
-- beginning of a text, without a terminator, is not longer.
use Rattle.ptlines.proofs.Common.{◌≡◌, ℕ, ◌+◌, ◌≤◌, List, [], ◌∷◌, ◌++◌, length, max, arith, onto_first}
use Rattle.ptlines.specs.Text.{lines, max_length}
use Rattle.ptlines.specs.Calls.Text.{IsLine}

pub max_length-append : (xs ys : List (List ℕ)) → max_length (xs ++ ys) ≡ max (max_length xs) (max_length ys)
max_length-append [] ys = omega arith
max_length-append (x ∷ xs) ys = omega (arith, max_length-append xs ys)

first_length : List (List ℕ) → ℕ
first_length [] = 0
first_length (line ∷ ls) = length line

first_onto : (b : ℕ) (ls : List (List ℕ)) → first_length (onto_first b ls) ≡ first_length ls + 1
unfolding first_length
first_onto = grind arith

first_le_max_length : (ls : List (List ℕ)) → first_length ls ≤ max_length ls
unfolding first_length
first_le_max_length = grind arith

first_piece : (end : ℕ) (piece rest : List ℕ) → IsLine end piece
    → length piece ≤ first_length (lines end (piece ++ rest))
first_piece end [] rest free = omega arith
first_piece end (b ∷ piece) rest (differs, free) = grind (arith, first_onto, first_piece end piece rest free)

pub piece_le_max_length : (end : ℕ) (piece rest : List ℕ) → IsLine end piece
    → length piece ≤ max_length (lines end (piece ++ rest))
piece_le_max_length end piece rest free =
    omega (arith, first_piece end piece rest free, first_le_max_length (lines end (piece ++ rest)))
