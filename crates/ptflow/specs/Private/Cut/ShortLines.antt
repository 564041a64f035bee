-- The byte shuffles with which `cut` selects bytes of a line, 16 after 16 (`src/tools/cut/shuffle.rt`), and a lemma for
-- a ghost field of `Selection`.
use Rattle.std.specs.Prelude.{◌≡◌, ◌<◌, ◌≤◌, ◌+◌, ◌*◌, ℕ, List, [], ◌∷◌, Bool, false, All, length, take, slice_index}
use Rattle.std.specs.Prelude.{slice_index_or}
use Rattle.std.specs.List.{range_with_len}
use mathlib.Core.HLevel.{×₃_prop}
use Rattle.std.specs.Coded.{Unit-prop, le_prop}
use Rattle.ptlangs.specs.Calls.CutLists.{AreSeparated}
use Rattle.ptlangs.specs.declared.ranges.Interval.{Interval}
use Rattle.ptflow.specs.Cuts.{select_from}
use Rattle.ptflow.specs.declared.tools.cut.shuffle.LineShuffles.{LineShuffles}
use Rattle.ptflow.specs.declared.tools.cut.shuffle.PieceShuffle.{PieceShuffle}

-- the selected indices of a line of `count` bytes
abbrev pub selected_indices : (ℕ → Bool) → ℕ → List ℕ
selected_indices selected count = select_from selected 1 (range_with_len 0 count)

-- The row begins with the selected indices below 16, which are followed by any indices of lanes. Each entry of `counts`
-- is the number of selected indices of a piece of that length.
pub record IsPieceShuffle (selected : ℕ → Bool) (piece : PieceShuffle) : Type 0 where
  pub indices : take (length (selected_indices selected 16)) piece.row ≡ selected_indices selected 16
  pub long : length piece.row ≡ 16
  pub lanes : All (λ index. index < 16) piece.row
  pub counts : (count : ℕ) → count ≤ 16 → slice_index piece.counts count ≡ length (selected_indices selected count)

-- the piece at an index
abbrev pub piece_at : List PieceShuffle → ℕ → PieceShuffle
piece_at pieces k = slice_index_or pieces k (record { row = []; counts = [] })

-- a position is selected, counted from the first `start` bytes of a line on
abbrev pub selected_after : (ℕ → Bool) → ℕ → ℕ → Bool
selected_after selected start index = selected (start + index)

-- Each 16 bytes that are cut so have their shuffle. No position after the last one is selected.
pub record AreLineShuffles (selected : ℕ → Bool) (shuffles : LineShuffles) : Type 0 where
  pub few : shuffles.count ≤ 8
  pub pieces : (k : ℕ) → k < 8 → IsPieceShuffle (selected_after selected (16 * k)) (piece_at shuffles.pieces k)
  pub last : (index : ℕ) → shuffles.last < index → selected index ≡ false

-- two proofs of `AreSeparated` are equal, as a ghost field requires
pub AreSeparated-prop : (low : ℕ) (list : List Interval) → IsProp (AreSeparated low list)
AreSeparated-prop low [] = Unit-prop
AreSeparated-prop low (interval ∷ list) = ×₃_prop le_prop le_prop (AreSeparated-prop (interval.last + 1) list)
