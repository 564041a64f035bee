-- The jobs of `paste` and `join` without options.
use Rattle.std.specs.Prelude.{[], ◌∷◌, true, false, Some, None}
use Rattle.ptlangs.specs.Jobs.{Join, Paste}

-- `paste` without options: one line of each file, joined by tabs
abbrev pub default_paste : Paste
default_paste = record { serial = false; delimiters = Some 9 ∷ []; terminator = 10 }

-- `join` without options: the pairs of lines with equal first fields
abbrev pub default_join : Join
default_join = record {
  pairs = true;
  unpaired1 = false;
  unpaired2 = false;
  empty = [];
  list = None;
  separator = None;
  field1 = 1;
  field2 = 1;
  terminator = 10;
  descending = false;
}
