-- The list of `cut`, options `-b`, `-c` and `-f` (POSIX.1-2017, XCU, `cut`), as a parse: the interval of each
-- element, its fault, and the set of numbers that the list selects. Its grammar is in Laws/CutLists.
use Rattle.std.specs.Prelude.{ℕ, ◌==◌, ◌||◌, ◌&&◌, List, [], ◌∷◌, ◌++◌, Bool, not, Result, Ok, Err, if◌then◌else◌}
use Rattle.std.specs.Prelude.{nat_lt, nat_le, codes}
use Rattle.std.specs.List.{slice_split, list_any}
use Rattle.std.specs.Str.{byte}
use Rattle.ptlangs.specs.Numbers.{and_then, elements, is_empty, is_number, max_u64, traverse, value}
use Rattle.ptlangs.specs.declared.ranges.Interval.{Interval}
use Rattle.ptlangs.specs.declared.ranges.ListFault.{ListFault}
use Rattle.ptlangs.specs.declared.ranges.ListFault.TheVariants.{Descending, Empty, Malformed, TooLarge, Zero}

-- the interval from one number to another, or the first of its faults
abbrev pub interval : List ℕ → List ℕ → Result Interval ListFault
interval n m =
    if not (is_number n && is_number m) then Err Malformed
    else (if nat_lt max_u64 (value n) || nat_lt max_u64 (value m) then Err TooLarge
    else (if (value n == 0) || (value m == 0) then Err Zero
    else (if nat_lt (value m) (value n) then Err Descending else Ok (record { first = value n; last = value m }))))

-- the interval of an element that is split at its dashes: `n`, `n-m`, `-m` from 1, `n-` to the greatest number
abbrev pub interval_of_parts : List (List ℕ) → Result Interval ListFault
interval_of_parts (n ∷ []) = if is_empty n then Err Empty else interval n n
interval_of_parts (n ∷ m ∷ []) =
    if is_empty (n ++ m) then Err Malformed
    else interval (if is_empty n then codes "1" else n) (if is_empty m then codes "18446744073709551615" else m)
interval_of_parts _ = Err Malformed

-- the interval of one element, or the fault of the element
abbrev pub element_interval : List ℕ → Result Interval ListFault
element_interval bs = interval_of_parts (slice_split (λ b. b == byte "-") bs)

-- the number lies in one of the intervals
abbrev pub is_selected : List Interval → ℕ → Bool
is_selected intervals n = list_any (λ r. nat_le r.first n && nat_le n r.last) intervals

-- the set of numbers that a list selects, or the fault of the first faulty element
abbrev pub selection : List ℕ → Result (ℕ → Bool) ListFault
selection bs = and_then (traverse element_interval (elements bs)) (λ intervals. Ok (is_selected intervals))
