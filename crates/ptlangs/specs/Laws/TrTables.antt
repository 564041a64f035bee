-- The law that the tables of a plan of `tr` do with each byte what the plan says.
use Rattle.std.specs.Prelude.{◌≡◌, ◌<◌, ◌^◌, ℕ}
use Rattle.ptlangs.specs.TrPlan.{Plan, byte_map}
use Rattle.ptlangs.specs.TrTables.{byte_map_of, deletes, image, squeezes}
use Rattle.ptlangs.specs.Calls.TrTables.{image_of, is_deleted, is_squeezed, tables}

-- for every byte the tables of a plan agree with the plan
abbrev pub TablesMatchPlan : Type 0
TablesMatchPlan = (plan : Plan) (b : ℕ) → b < 2 ^ 8
    → (deletes (tables plan) b ≡ is_deleted plan b) × (image (tables plan) b ≡ image_of plan b)
    × (squeezes (tables plan) b ≡ is_squeezed plan b)

-- the tables of a plan have the plan's map
abbrev pub TablesHaveMap : Type 0
TablesHaveMap = (plan : Plan) → byte_map_of (tables plan) ≡ byte_map plan
