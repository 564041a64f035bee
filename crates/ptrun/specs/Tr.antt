-- The output of `tr` for a text.
use Rattle.std.specs.Prelude.{ℕ, ◌==◌, ◌&&◌, List, ◌∷◌, Bool, filter, if◌then◌else◌, map, not}
use Rattle.ptlangs.specs.TrPlan.{ByteMap}

-- The bytes without those that are squeezed and stand right before an equal one.
abbrev pub squeeze : (ℕ → Bool) → List ℕ → List ℕ
squeeze test (a ∷ b ∷ more) = if (a == b) && test b then squeeze test (b ∷ more) else a ∷ squeeze test (b ∷ more)
squeeze test bytes = bytes

-- The output for a text, by what happens to each byte: the bytes that are deleted are left out, each other one is
-- replaced by its image, and of equal neighbours that are squeezed only one is kept.
abbrev pub tr : ByteMap → List ℕ → List ℕ
tr m bytes = squeeze m.squeezes (map m.image (filter (λ b. not (m.deletes b)) bytes))
