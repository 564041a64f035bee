-- How the code reads an element of a list of `cut`, and the intervals of a list in order, before they are merged.
use Rattle.std.specs.Prelude.{ℕ, ◌≤◌, ◌==◌, ◌||◌, ◌&&◌, List, [], ◌∷◌, Bool, not, Option, Some, None, Result, Ok, Err}
use Rattle.std.specs.Prelude.{if◌then◌else◌, nat_lt}
use Rattle.std.specs.List.{slice_split}
use Rattle.std.specs.Str.{byte}
use Rattle.ptlangs.specs.Numbers.{is_empty, is_number, max_u64, value}
use Rattle.ptlangs.specs.declared.ranges.Interval.{Interval}
use Rattle.ptlangs.specs.declared.ranges.ListFault.{ListFault}
use Rattle.ptlangs.specs.declared.ranges.ListFault.TheVariants.{Descending, Empty, Malformed, TooLarge, Zero}

-- each interval is ascending, and the intervals are in the order of their first numbers, none of which is below `low`
abbrev pub AreSortedFrom : ℕ → List Interval → Type 0
AreSortedFrom low [] = Unit {0}
AreSortedFrom low (r ∷ rs) = (low ≤ r.first) × (r.first ≤ r.last) × AreSortedFrom r.first rs

-- ---- one element, in the steps of the code

-- a bound of an element: decimal digits, or nothing
abbrev pub is_bound : List ℕ → Bool
is_bound bs = is_empty bs || is_number bs

-- the value of a bound, or `default` if the bound is empty
abbrev pub value_or : ℕ → List ℕ → ℕ
value_or default bs = if is_empty bs then default else value bs

-- the interval `n-m`; one of the two bounds may be empty: an empty lower bound is 1, an empty upper bound is `max_u64`
abbrev pub interval_of_bounds : List ℕ → List ℕ → Option Interval
interval_of_bounds n m =
    if is_bound n && is_bound m && not (is_empty n && is_empty m)
    then Some (record { first = value_or 1 n; last = value_or max_u64 m })
    else None

-- the interval of an element that is split at its dashes; `None` if the element has none of the forms `n`, `n-m`, `-m`
-- and `n-`
abbrev pub bounds_of_parts : List (List ℕ) → Option Interval
bounds_of_parts (n ∷ []) = if is_number n then Some (record { first = value n; last = value n }) else None
bounds_of_parts (n ∷ m ∷ []) = interval_of_bounds n m
bounds_of_parts _ = None

-- the interval, or the fault of its bounds; `None` is a malformed element
abbrev pub checked_interval : Option Interval → Result Interval ListFault
checked_interval None = Err Malformed
checked_interval (Some r) =
    if nat_lt max_u64 r.first || nat_lt max_u64 r.last then Err TooLarge
    else (if (r.first == 0) || (r.last == 0) then Err Zero
    else (if nat_lt r.last r.first then Err Descending else Ok r))

-- the byte is a dash
abbrev pub is_dash : ℕ → Bool
is_dash b = b == byte "-"

-- the interval of one element, or the fault of the element
abbrev pub checked_element : List ℕ → Result Interval ListFault
checked_element bs = if is_empty bs then Err Empty else checked_interval (bounds_of_parts (slice_split is_dash bs))
