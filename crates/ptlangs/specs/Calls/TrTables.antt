-- The meaning of a plan of `tr` for one byte, and the tables of a plan.
use Rattle.std.specs.Prelude.{ℕ, Bool, map}
use Rattle.ptlangs.specs.TrClasses.{all_bytes}
use Rattle.ptlangs.specs.TrPlan.{Plan, has_byte, image_by}
use Rattle.ptlangs.specs.TrTables.{Tables}

-- the byte is deleted
abbrev pub is_deleted : Plan → ℕ → Bool
is_deleted plan b = has_byte b plan.deleted

-- the image of the byte
abbrev pub image_of : Plan → ℕ → ℕ
image_of plan b = image_by plan.from plan.to b

-- repeats of the byte are squeezed to one
abbrev pub is_squeezed : Plan → ℕ → Bool
is_squeezed plan b = has_byte b plan.squeezed

-- the tables of a plan
abbrev pub tables : Plan → Tables
tables plan =
    record {
      deleted = map (is_deleted plan) all_bytes;
      images = map (image_of plan) all_bytes;
      squeezed = map (is_squeezed plan) all_bytes;
    }
