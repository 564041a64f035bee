-- The order of byte strings.
use Rattle.std.specs.Prelude.{ℕ, List}
use Rattle.std.specs.declared.cmp.Ordering.{Ordering}
use Rattle.std.specs.Ordering.{nat_cmp}
use Rattle.std.specs.Cmp.Lexicographic.{slice_cmp}

-- a comparison of two byte strings
abbrev pub Cmp : Type 0
Cmp = List ℕ → List ℕ → Ordering

-- lexicographic order by byte value: a proper prefix is less than the longer string
abbrev pub byte_cmp : Cmp
byte_cmp = slice_cmp nat_cmp
