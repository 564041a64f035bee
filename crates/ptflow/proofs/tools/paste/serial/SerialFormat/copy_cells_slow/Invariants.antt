-- If `rest` is copied from the delimiter `index` on, all bytes are.
use Rattle.ptflow.proofs
use proofs.Common.{◌≡◌, ◌<◌, ◌≤◌, ◌+◌, ℕ, List, length, take}
use Rattle.ptflow.specs.Private.Paste.SerialRest.{CopyCellsPost}
use proofs.tools.paste.serial.SerialFormat.copy_cells_slow.Given as goal
use Rattle.ptlines.specs.declared.sizes.TheConstants.{PADDED}

abbrev pub invariant-pieces : goal.invariant-pieces
invariant-pieces l = record {
  on : (next : ℕ) (after : List ℕ) → CopyCellsPost l.self l.index l.rest (take l.at l.into) next after
      → CopyCellsPost l.self l.fn.index l.bytes (take l.fn.at l.fn.into) next after;
  low : l.index < length l.self.delims.now;
  size_bound : l.at + length l.rest ≤ l.fn.at + length l.bytes;
  buffer_size : length l.into ≡ PADDED;
}

abbrev pub decreases-pieces : goal.decreases-pieces
decreases-pieces l = length l.rest
