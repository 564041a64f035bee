-- Lines that were taken from a reader.
use Rattle.std.specs.Prelude.{◌≡◌, ◌⊎◌, ℕ, ◌<◌, ◌≤◌, ◌^◌, List, length}
use Rattle.ptlines.specs.Text.{unlines, lines}
use Rattle.ptlines.specs.Laws.Text.{AreLines}
use Rattle.ptlines.specs.Readers.{Reader, IsDone}
use Rattle.ptlines.specs.Calls.Readers.{ReaderAdvance}
use Rattle.ptlines.specs.declared.sizes.TheConstants.{BLOCK}

-- `ls` are the lines of the bytes `given` that a reader gave: all of them complete, or the last one without terminator
-- at the end of the input.
pub record AreReceivedLines (end : ℕ) (reader : Reader) (given : List ℕ) (ls : List (List ℕ)) : Type 0 where
  pub so_far : ((given ≡ unlines end ls) × AreLines end ls) ⊎ ((lines end given ≡ ls) × IsDone reader)

-- The lines that were taken from a reader: `most` of them, or fewer if the input has ended.
pub record LinesTaken (end : ℕ) (old new : Reader) (most : ℕ) (input_lines : List (List ℕ)) : Type 0 where
  pub bytes : List ℕ
  pub reads : ReaderAdvance old new bytes
  pub failed : new.failed ≡ old.failed
  pub fault : new.fault ≡ old.fault
  pub short : old.pulled < 2 ^ 63 → new.pulled < 2 ^ 63
  pub buffered : length old.buffered ≤ BLOCK → length new.buffered ≤ BLOCK
  pub none : most ≡ 0 → new ≡ old
  pub came : AreReceivedLines end new bytes input_lines
  pub enough : (length input_lines ≡ most) ⊎ (IsDone new × (length input_lines ≤ most))
