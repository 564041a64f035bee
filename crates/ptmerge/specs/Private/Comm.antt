-- The columns of the output of `comm`: whether each is hidden, the tabs before its lines, and its output lines.
use Rattle.std.specs.Prelude.{◌≡◌, ℕ, List, [], Bool}
use Rattle.ptlangs.specs.Jobs.{Comm}
use Rattle.ptmerge.specs.Comm.{column_entries, tab_if_shown}
use Rattle.ptmerge.specs.MergeSpec.{Lines}
use Rattle.ptmerge.specs.declared.key_order.Side.{Side}
use Rattle.ptmerge.specs.declared.key_order.Side.TheVariants.{First, Second}
use Rattle.ptmerge.specs.declared.tools.comm.column.Column.{Column}

-- The column has these tabs before its lines, and is hidden or not.
pub record IsColumn (column : Column) (hidden : Bool) (tabs : List ℕ) : Type 0 where
  pub hidden_is : column.hidden ≡ hidden
  pub tabs_are : column.tabs.now ≡ tabs

-- The output lines for a line in a column.
abbrev pub lines_in : Column → List ℕ → Lines
lines_in column x = column_entries column.hidden column.tabs.now 1 x

-- Whether the column of the lines of one input alone is hidden.
abbrev pub hidden_of : Comm → Side → Bool
hidden_of job First = job.hide1
hidden_of job Second = job.hide2

-- The tabs before the lines of one input alone.
abbrev pub tabs_of : Comm → Side → List ℕ
tabs_of job First = []
tabs_of job Second = tab_if_shown job.hide1
