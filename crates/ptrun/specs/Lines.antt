-- The lines of an input as far as they are known, and the longest of them.
use Rattle.std.specs.Prelude.{ℕ, ◌-◌, ◌==◌, List, [], ◌∷◌, length, map, max, take, if◌then◌else◌}
use Rattle.std.specs.List.{slice_split}
use Rattle.ptlines.specs.Received.{Received}
use Rattle.ptlines.specs.Text.{lines}

-- The list without its last item.
abbrev pub init : {X : Type 0} → List X → List X
init xs = take (length xs - 1) xs

-- The lines that no later byte changes: all if the end was reached, or else those that end with the terminator.
abbrev pub known_lines : ℕ → Received → List (List ℕ)
known_lines terminator given =
    if given.eof then lines terminator given.bytes else init (slice_split (λ b. b == terminator) given.bytes)

-- The greatest of some numbers, and 0 of none.
abbrev pub maximum : List ℕ → ℕ
maximum [] = 0
maximum (n ∷ ns) = max n (maximum ns)

-- The length of the longest known line.
abbrev pub longest : ℕ → Received → ℕ
longest terminator given = maximum (map length (known_lines terminator given))
