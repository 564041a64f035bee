-- A function that is changed at one index, as one of several readers is.
use Rattle.std.specs.Prelude.{◌==◌, ℕ, if◌then◌else◌}

-- A function that is `x` at one index and `f` at all others.
abbrev pub update_at : {X : Type 0} → ℕ → X → (ℕ → X) → ℕ → X
update_at input x f other = if other == input then x else f other
