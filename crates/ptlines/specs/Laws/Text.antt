-- Laws of lines: a text has its lines in one way, and its complete lines are those up to its last terminator.
use Rattle.std.specs.Prelude.{◌≡◌, ◌≢◌, ◌⊎◌, ℕ, List, [], ◌∷◌, ◌++◌}
use Rattle.std.specs.List.{AllByRecursion}
use Rattle.ptlines.specs.Calls.Text.{IsLine}
use Rattle.ptlines.specs.Text.{complete_lines, lines, unlines}

-- no line contains the terminator
abbrev pub AreLines : ℕ → List (List ℕ) → Type 0
AreLines terminator lines = AllByRecursion (IsLine terminator) lines

-- ---- a text has one list of lines

-- the last byte of the text is this one
abbrev pub EndsWithByte : ℕ → List ℕ → Type 0
EndsWithByte terminator bytes = (front : List ℕ) × (bytes ≡ front ++ terminator ∷ [])

-- `ls` is a way to split the text into lines: no line contains the terminator, and the lines put together with their
-- terminators are the text, to which a terminator is added if it is not empty and does not end with one.
abbrev pub AreLinesOf : ℕ → List ℕ → List (List ℕ) → Type 0
AreLinesOf terminator bytes ls =
    AreLines terminator ls × ((unlines terminator ls ≡ bytes)
    ⊎ ((bytes ≢ []) × ¬ EndsWithByte terminator bytes × (unlines terminator ls ≡ bytes ++ terminator ∷ [])))

-- Theorem: `lines` splits a text into lines, and no other list does.
abbrev pub LinesAreUnique : Type 0
LinesAreUnique = (terminator : ℕ) (bytes : List ℕ)
    → AreLinesOf terminator bytes (lines terminator bytes)
    × ((ls : List (List ℕ)) → AreLinesOf terminator bytes ls → ls ≡ lines terminator bytes)

-- Theorem: the complete lines of a text are the lines of its part up to the last terminator. A text without a
-- terminator has none.
abbrev pub CompleteLinesAreLines : Type 0
CompleteLinesAreLines = (terminator : ℕ) (rest : List ℕ) → IsLine terminator rest
    → (complete_lines terminator rest ≡ [])
    × ((front : List ℕ) → complete_lines terminator (front ++ terminator ∷ rest)
    ≡ lines terminator (front ++ terminator ∷ []))
