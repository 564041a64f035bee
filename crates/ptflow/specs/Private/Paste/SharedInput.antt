-- `paste` when all columns read one input: its terminators are replaced by a repeating cycle, which has the byte
-- after each column (`IsSharedCycle`). And what it means that bytes are complete rows (`IsWholeRows`).
use Rattle.std.specs.Prelude.{◌≡◌, ℕ, ◌*◌, ◌<◌, List, All, length, slice_index_or}
use Rattle.ptlines.specs.Text.{unlines}
use Rattle.ptlines.specs.Laws.Text.{AreLines}
use Rattle.ptflow.specs.Private.Paste.Replaced.{cycle_byte}
use Rattle.ptflow.specs.Private.Paste.RowCells.{RowShape, after_cell}
use Rattle.ptflow.specs.declared.simd.replace.Cycle.{Cycle}

-- The columns all read one input, and the cycle has the byte after each.
pub record IsSharedCycle (row : RowShape) (cycle : Cycle) : Type 0 where
  pub some : 0 < length row.cells
  pub same : All (λ input. input ≡ slice_index_or row.cells 0 0) row.cells
  pub terminator : cycle.terminator ≡ row.terminator
  pub len : cycle.len ≡ length row.cells
  pub bytes : (c : ℕ) → c < length row.cells → cycle_byte cycle c ≡ after_cell row c

-- These bytes are complete lines, `n` for each of `count` rows.
pub record IsWholeRows (end n : ℕ) (bytes : List ℕ) : Type 0 where
  pub count : ℕ
  pub ls : List (List ℕ)
  pub is : bytes ≡ unlines end ls
  pub are_lines : AreLines end ls
  pub long : length ls ≡ count * n
