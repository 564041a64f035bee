-- The ends of fields among some bytes, for `uniq`.
use Rattle.std.specs.Prelude.{ℕ, zero, suc, List, [], ◌∷◌, Bool}
use Rattle.ptflow.specs.Uniqs.{ends_word}

-- which of the first n bytes end a field
abbrev pub field_ends : ℕ → List ℕ → List Bool
field_ends zero bytes = []
field_ends (suc n) [] = []
field_ends (suc n) (b ∷ bytes) = ends_word b bytes ∷ field_ends n bytes
