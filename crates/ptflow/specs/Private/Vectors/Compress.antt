-- Compression: the items whose flag is set are moved together (`select_by`). The rows of the table for this, each of
-- which has the indices of the flags of a mask, and the room that a chunk of 64 bytes needs.
use Rattle.std.specs.Prelude.{◌≡◌, ◌<◌, ◌≤◌, ◌+◌, ℕ, List, [], ◌∷◌, Bool, All, length, map, not, take, slice_index_or}
use Rattle.std.specs.Prelude.{if◌then◌else◌}
use Rattle.std.specs.List.{range_with_len}
use Rattle.std.specs.Simd.Lanes.{mask_l}
use Rattle.ptlines.specs.declared.sizes.TheConstants.{BLOCK}

-- the items whose flag is set, in order
abbrev pub select_by : {X : Type 0} → List Bool → List X → List X
select_by [] xs = []
select_by (flag ∷ flags) [] = []
select_by (flag ∷ flags) (x ∷ xs) = if flag then x ∷ select_by flags xs else select_by flags xs

-- the mask of the items whose flag is not set
abbrev pub removed_mask : List Bool → ℕ
removed_mask flags = mask_l (map not flags)

-- the indices of the flags that are set
abbrev pub true_indices : List Bool → List ℕ
true_indices flags = select_by flags (range_with_len 0 (length flags))

-- A row begins with the indices of the flags that are set, goes on with any indices of lanes, and ends with the count.
pub record IsCompressRow (flags : List Bool) (row : List ℕ) : Type 0 where
  pub indices : take (length (true_indices flags)) row ≡ true_indices flags
  pub long : length row ≡ 16
  pub lanes : All (λ index. index < 16) row
  pub count : slice_index_or row 15 0 ≡ length (true_indices flags)

-- a chunk of 64 bytes begins at index `at`, and the buffer has room for it after the `count` bytes kept before
pub record ChunkPre (bytes : List ℕ) (at count : ℕ) : Type 0 where
  pub lanes : at + 64 ≤ length bytes
  pub room : count + 64 ≤ BLOCK

-- the table has the row of each mask of eight flags
abbrev pub IsCompressTable : List (List ℕ) → Type 0
IsCompressTable rows = (flags : List Bool) → length flags ≡ 8
    → IsCompressRow flags (slice_index_or rows (mask_l flags) [])
