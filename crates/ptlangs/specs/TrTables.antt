-- The plan of `tr` in the code: three tables, each with an entry for every byte.
use Rattle.std.specs.Prelude.{ℕ, List, Bool, false, slice_index, slice_index_or}
use Rattle.ptlangs.specs.TrPlan.{ByteMap}

-- for each byte: is it deleted, its image, and is it squeezed
pub record Tables : Type 0 where
  pub deleted : List Bool
  pub images : List ℕ
  pub squeezed : List Bool

-- the byte is deleted
abbrev pub deletes : Tables → ℕ → Bool
deletes tables b = slice_index_or tables.deleted b false

-- the image of the byte: the byte that replaces it
abbrev pub image : Tables → ℕ → ℕ
image tables b = slice_index tables.images b

-- repeats of the byte are squeezed to one
abbrev pub squeezes : Tables → ℕ → Bool
squeezes tables b = slice_index_or tables.squeezed b false

-- what the tables have for each byte
abbrev pub byte_map_of : Tables → ByteMap
byte_map_of tables = record { deletes = deletes tables; image = image tables; squeezes = squeezes tables }
