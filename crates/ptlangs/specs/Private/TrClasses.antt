-- The bytes of a range of a class, which the code has as a pair.
use Rattle.std.specs.Prelude.{ℕ, List}
use Rattle.ptlangs.specs.TrClasses.{span}

-- `span` of a pair of bounds
abbrev pub range_bytes : ℕ × ℕ → List ℕ
range_bytes r = span r.0 r.1
