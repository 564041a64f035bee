-- A line, as bytes without the terminator.
use Rattle.std.specs.Prelude.{◌≢◌, ℕ, List}
use Rattle.std.specs.List.{AllByRecursion}

-- the bytes contain no terminator
abbrev pub IsLine : ℕ → List ℕ → Type 0
IsLine terminator bytes = AllByRecursion (λ b. b ≢ terminator) bytes
