-- The ways to compute the images of a plan with vectors: when one of them has the images of a table (`IsMapKind`),
-- and a lemma for the ghost field that states this.
use Rattle.std.specs.Prelude.{◌≡◌, ◌<◌, ℕ, List, slice_index, if◌then◌else◌}
use Rattle.std.proofs.Props.{props}
use Rattle.ptlangs.specs.Calls.TrShifts.{image_of_shifts}
use Rattle.ptflow.specs.declared.tools.tr.map_kind.MapSetToByte.{MapSetToByte}
use Rattle.ptflow.specs.declared.tools.tr.map_kind.MapKind.{MapKind}
use Rattle.ptflow.specs.declared.tools.tr.map_kind.MapKind.TheVariants.{Identity, Shifts, SetToByte, Table}
use Rattle.ptflow.specs.Private.Vectors.ByteSets.{set_has}
use Rattle.ptflow.specs.Private.Vectors.Tables.{HasMoved, IsIdentity}

-- the image of a byte if all bytes of a set have the same image
abbrev pub set_to_byte : MapSetToByte → ℕ → ℕ
set_to_byte set_map b = if set_has set_map.set b then set_map.byte else b

-- the map kind has the images of a table
abbrev pub IsMapKind : MapKind → List ℕ → Type 0
IsMapKind Identity images = IsIdentity images
IsMapKind (Shifts shifts) images = (b : ℕ) → b < 256 → image_of_shifts shifts b ≡ slice_index images b
IsMapKind (SetToByte set_map) images = (b : ℕ) → b < 256 → set_to_byte set_map b ≡ slice_index images b
IsMapKind (Table moved) images = HasMoved moved images

-- two proofs of `IsMapKind` are equal, as a ghost field requires
pub IsMapKind-prop : (kind : MapKind) (images : List ℕ) → IsProp (IsMapKind kind images)
IsMapKind-prop Identity images = Prim.hlevel props
IsMapKind-prop (Shifts shifts) images = Prim.hlevel props
IsMapKind-prop (SetToByte set_map) images = Prim.hlevel props
IsMapKind-prop (Table moved) images = Prim.hlevel props
