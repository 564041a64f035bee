-- For the contract of `Ranges`: the fault that an error reports, and intervals that are separated.
use Rattle.std.specs.Prelude.{ℕ, ◌+◌, ◌<◌, ◌≤◌, List, [], ◌∷◌}
use Rattle.std.specs.Prelude.{Option, Some, None}
use Rattle.ptlangs.specs.declared.ranges.Interval.{Interval}
use Rattle.ptlangs.specs.declared.ranges.ListFault.{ListFault}
use Rattle.ptlangs.specs.declared.ranges.ListFault.TheVariants.{Memory}

-- the fault that an error reports; `None` for an allocation failure
abbrev pub cut_list_fault : ListFault → Option ListFault
cut_list_fault Memory = None
cut_list_fault fault = Some fault

-- The intervals are above `low`, ascending, and separated: between two of them is at least one number that neither
-- contains.
abbrev pub AreSeparated : ℕ → List Interval → Type 0
AreSeparated low [] = Unit {0}
AreSeparated low (r ∷ rs) = (low < r.first) × (r.first ≤ r.last) × AreSeparated (r.last + 1) rs
