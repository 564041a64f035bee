-- Examples of lists of `cut`: the intervals of each, or its fault. They hold by computation.
use Rattle.std.proofs.Common.{◌≡◌, ℕ, List, [], ◌∷◌, refl, codes, map, Result, Ok, Err}
use Rattle.ptlangs.specs.Laws.CutLists.{cut_list}
use Rattle.ptlangs.specs.declared.ranges.Interval.{Interval}
use Rattle.ptlangs.specs.declared.ranges.ListFault.{ListFault}
use Rattle.ptlangs.specs.declared.ranges.ListFault.TheVariants.{Empty, Zero, Descending, TooLarge, Malformed}

abbrev from_to : ℕ → ℕ → Interval
from_to a b = record { first = a; last = b }

abbrev examples : List (List ℕ × Result (List Interval) ListFault)
examples =
    (codes "3-,1", Ok (from_to 3 18446744073709551615 ∷ from_to 1 1 ∷ []))
    ∷ (codes "2 4,1", Ok (from_to 2 2 ∷ from_to 4 4 ∷ from_to 1 1 ∷ []))
    ∷ (codes "-2", Ok (from_to 1 2 ∷ []))
    ∷ (
      codes "00012-0000000000000000000000000000000000000000000000013\t7-",
      Ok
          (from_to 12 13 ∷ from_to 7 18446744073709551615 ∷ []),
    )
    ∷ (codes "1,3-2", Err Descending)
    ∷ (codes "1,,2", Err Empty)
    ∷ ([], Err Empty)
    ∷ (codes "0", Err Zero)
    ∷ (codes "18446744073709551616", Err TooLarge)
    ∷ (codes "-", Err Malformed)
    ∷ (codes "1-2-3", Err Malformed)
    ∷ (codes "1,3-2,0", Err Descending)
    ∷ []

are_read : map (λ (row : List ℕ × Result (List Interval) ListFault). cut_list row.0) examples
    ≡ map (λ (row : List ℕ × Result (List Interval) ListFault). row.1) examples
are_read = refl
