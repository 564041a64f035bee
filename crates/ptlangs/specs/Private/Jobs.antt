-- The jobs of `uniq` and `comm` without options.
use Rattle.std.specs.Prelude.{false}
use Rattle.ptlangs.specs.Jobs.{Comm, Uniq}
use Rattle.ptlangs.specs.declared.jobs.Show.TheVariants.{All}

-- `uniq` without options: one line for each run of equal lines
abbrev pub default_uniq : Uniq
default_uniq = record { show = All; fields = 0; chars = 0; terminator = 10 }

-- `comm` without options: all three columns
abbrev pub default_comm : Comm
default_comm = record { hide1 = false; hide2 = false; hide3 = false; terminator = 10; descending = false }
