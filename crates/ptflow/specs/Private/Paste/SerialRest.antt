-- The output of `paste -s` from a position on, and the contract of the functions that copy bytes of a row and replace
-- their terminators by delimiters (`CopyCellsPre`, `CopyCellsPost`).
use Rattle.std.specs.Prelude.{◌≡◌, ◌<◌, ◌≤◌, ℕ, ◌+◌, ◌%◌, List, [], ◌∷◌, ◌++◌, Option, length, if◌then◌else◌}
use Rattle.std.specs.List.{count_by}
use Rattle.memchr.specs.Find.{is_byte}
use Rattle.ptlines.specs.Text.{lines}
use Rattle.ptflow.specs.PasteText.{delimiter, join_with_cycle}
use Rattle.ptflow.specs.Private.Paste.Replaced.{with_replacements}
use Rattle.ptflow.specs.declared.tools.paste.serial.ColumnPos.{ColumnPos}
use Rattle.ptflow.specs.declared.tools.paste.serial.SerialFormat.{SerialFormat}
use Rattle.ptlines.specs.declared.sizes.TheConstants.{BLOCK}

-- The rest of the row, from column `number` on, if its bytes follow.
abbrev pub row_rest : ℕ → List (Option ℕ) → ℕ → List ℕ → List ℕ
row_rest end delims number bytes = join_with_cycle delims number (lines end bytes) ++ end ∷ []

-- The rest of the row, if the text `rest` follows at a position. The terminator of a complete line was held back.
abbrev pub serial_rest : SerialFormat → ColumnPos → List ℕ → List ℕ
serial_rest format cell rest =
    row_rest format.terminator format.delims.now cell.index (if cell.complete then format.terminator ∷ rest else rest)

-- The delimiter with this index exists, and there is room for the bytes.
pub record CopyCellsPre (format : SerialFormat) (index : ℕ) (bytes : List ℕ) (at : ℕ) : Type 0 where
  pub low : index < length format.delims.now
  pub room : at + length bytes ≤ BLOCK

-- The bytes were appended to `before`, with the terminators replaced from the delimiter `index` on. The next one has
-- the index `next`.
pub record CopyCellsPost (format : SerialFormat) (index : ℕ) (bytes before : List ℕ) (next : ℕ)
    (after : List ℕ) : Type 0
  where
    pub is : after ≡ before ++ with_replacements format.terminator (delimiter format.delims.now) index bytes
    pub later : next ≡ (index + count_by (is_byte format.terminator) bytes) % length format.delims.now
