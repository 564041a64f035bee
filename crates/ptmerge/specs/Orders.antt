-- Keys of lines, and the orders in which they are compared.
use Rattle.std.specs.Prelude.{ℕ, List, Bool, if◌then◌else◌}
use Rattle.std.specs.Ordering.{flip_args}
pub use Rattle.ptlines.specs.ByteOrder.{Cmp, byte_cmp}

-- The key of a line.
abbrev pub Key : Type 0
Key = List ℕ → List ℕ

-- Byte order or its reverse.
abbrev pub line_cmp : Bool → Cmp
line_cmp descending = if descending then flip_args byte_cmp else byte_cmp
