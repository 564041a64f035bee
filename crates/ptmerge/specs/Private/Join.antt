-- The output line of `join` for an unpaired line, of either input.
use Rattle.std.specs.Prelude.{ℕ, List, []}
use Rattle.ptlangs.specs.Jobs.{Join}
use Rattle.ptmerge.specs.Join.{entry, join_fields}
use Rattle.ptmerge.specs.declared.key_order.Side.{Side}
use Rattle.ptmerge.specs.declared.key_order.Side.TheVariants.{First, Second}

-- The output line, without its terminator, of an unpaired line of a file and its join field.
abbrev pub entry_alone : Join → Side → List ℕ → List ℕ → List ℕ
entry_alone job First k line = entry job k (join_fields job.separator line) []
entry_alone job Second k line = entry job k [] (join_fields job.separator line)
