-- Byte maps as tables of images: the image of a byte by rows of 16 images, how a lane is looked up in several rows,
-- and tables of which no byte, or only those of a range, differ from their images.
use Rattle.std.specs.Prelude.{◌≡◌, ◌<◌, ◌≤◌, ℕ, ◌-◌, ◌/◌, ◌%◌, ◌⊎◌, List, [], nat_lt}
use Rattle.std.specs.Prelude.{slice_index, slice_index_or, if◌then◌else◌}
use Rattle.ptflow.specs.declared.simd.table.MovedRange.{MovedRange}

-- what the vectors of all rows have in a lane, in the row that the lane of `rows` names
abbrev pub lane_of : List (List ℕ) → List ℕ → ℕ → ℕ
lane_of found rows lane = slice_index (slice_index_or found (slice_index rows lane) []) lane

-- the image of a byte, if it is one of those from `first` on whose images the rows list; another byte stays as it is
abbrev pub image_from : ℕ → List (List ℕ) → ℕ → ℕ
image_from first rows b =
    if nat_lt b first then b else slice_index_or (slice_index_or rows ((b - first) / 16) []) ((b - first) % 16) b

-- every byte is its own image
abbrev pub IsIdentity : List ℕ → Type 0
IsIdentity table = (b : ℕ) → b < 256 → b ≡ slice_index table b

-- every byte that is not in the range is its own image
pub record HasMoved (moved : MovedRange) (table : List ℕ) : Type 0 where
  pub ordered : moved.first ≤ moved.last
  pub bytes : moved.last < 256
  pub others : (b : ℕ) → b < 256 → (b < moved.first) ⊎ (moved.last < b) → b ≡ slice_index table b
