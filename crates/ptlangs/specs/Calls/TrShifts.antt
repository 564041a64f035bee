-- The byte map of a plan of `tr` as shifts: a stretch is a range of successive byte values to which the same number
-- is added. The stretches of a table of images, which `src/tr/shifts.rt` makes, and the images that stretches give.
use Rattle.std.specs.Prelude.{◌≡◌, ◌<◌, ℕ, ◌+◌, ◌-◌, ◌%◌, ◌==◌, ◌&&◌, List, [], ◌∷◌, nat_le, sum_by, if◌then◌else◌}
use Rattle.ptlangs.specs.TrTables.{Tables, image}
use Rattle.ptlangs.specs.declared.tr.shifts.Stretch.{Stretch}

-- the number that takes byte `b` to its image, modulo 256
abbrev pub shift_of : ℕ → ℕ → ℕ
shift_of b becomes = (becomes + (256 - b)) % 256

-- ---- the stretches of a table of images

-- The byte before the stretches of the bytes after it, with the shift `by`: the first stretch is extended to the byte
-- if it starts right after the byte and has the same shift, otherwise a stretch of this one byte is prepended.
abbrev pub prepend_shift : ℕ → ℕ → List Stretch → List Stretch
prepend_shift b by [] = record { first = b; last = b; by = by } ∷ []
prepend_shift b by (s ∷ more) =
    if (s.by == by) && (s.first == b + 1)
    then record { first = b; last = s.last; by = by } ∷ more
    else record { first = b; last = b; by = by } ∷ s ∷ more

-- the stretches of the bytes from `b` on, given their images
abbrev pub stretches_from : ℕ → List ℕ → List Stretch
stretches_from b [] = []
stretches_from b (becomes ∷ more) =
    let rest = stretches_from (b + 1) more in
    if shift_of b becomes == 0 then rest else prepend_shift b (shift_of b becomes) rest

-- the stretches of all bytes, ascending; a byte that is its own image is in none of them
abbrev pub stretches : Tables → List Stretch
stretches tables = stretches_from 0 tables.images

-- ---- the images that stretches give

-- the number that a stretch adds to a byte: its shift if it contains the byte, else 0
abbrev pub shift_at : Stretch → ℕ → ℕ
shift_at s b = if nat_le s.first b && nat_le b s.last then s.by else 0

-- the image of a byte
abbrev pub image_of_shifts : List Stretch → ℕ → ℕ
image_of_shifts ss b = (b + sum_by (λ s. shift_at s b) ss) % 256

-- for every byte the stretches give the image that the tables have
abbrev pub HasImagesOf : List Stretch → Tables → Type 0
HasImagesOf ss tables = (b : ℕ) → b < 256 → image_of_shifts ss b ≡ image tables b
