-- The lines of a text that is cut into two parts.
use Rattle.std.specs.Prelude.{◌≡◌, ◌⊎◌, ℕ, List, [], ◌++◌}
use Rattle.ptlines.specs.Laws.Text.{EndsWithByte}
use Rattle.ptlines.specs.Text.{lines}

-- the text is empty or ends with the terminator, so it has no incomplete last line
abbrev pub HasOnlyCompleteLines : ℕ → List ℕ → Type 0
HasOnlyCompleteLines terminator bytes = (bytes ≡ []) ⊎ EndsWithByte terminator bytes

-- Theorem: if the first part has only complete lines, the lines of the whole text are those of the first part followed
-- by those of the second.
abbrev pub LinesOfParts : Type 0
LinesOfParts = (terminator : ℕ) (a b : List ℕ) → HasOnlyCompleteLines terminator a
    → lines terminator (a ++ b) ≡ lines terminator a ++ lines terminator b
