-- Examples of lists of `paste`: the delimiters of each, or its fault; and that a list is used again from its
-- beginning. They hold by computation.
use Rattle.std.proofs.Common.{◌≡◌, ℕ, List, [], ◌∷◌, refl, codes, map, Option, Some, None, Result, Ok, Err}
use Rattle.ptlangs.specs.DelimLists.{delim_list, delim_at}
use Rattle.ptlangs.specs.declared.delims.DelimFault.{DelimFault}
use Rattle.ptlangs.specs.declared.delims.DelimFault.TheVariants.{Empty, Escape}

abbrev examples : List (List ℕ × Result (List (Option ℕ)) DelimFault)
examples =
    (codes "\\0,", Ok (None ∷ Some 44 ∷ []))
    ∷ (codes "\\n\\t\\\\\\0", Ok (Some 10 ∷ Some 9 ∷ Some 92 ∷ None ∷ []))
    ∷ (codes "\\012", Ok (None ∷ Some 49 ∷ Some 50 ∷ []))
    ∷ (codes "\\\\n", Ok (Some 92 ∷ Some 110 ∷ []))
    ∷ (codes "a\\", Err Escape)
    ∷ (codes "a\\q", Err Escape)
    ∷ (codes "abcdefghijklmnopqrstuvwxyz0123456789abcdefghijklmnopqrstuvwxyz\\q", Err Escape)
    ∷ ([], Err Empty)
    ∷ []

are_read : map (λ (row : List ℕ × Result (List (Option ℕ)) DelimFault). delim_list row.0) examples
    ≡ map (λ (row : List ℕ × Result (List (Option ℕ)) DelimFault). row.1) examples
are_read = refl

-- after the last delimiter comes the first one again
list_is_reused : map (delim_at (None ∷ Some 44 ∷ [])) (2 ∷ 18446744073709551615 ∷ []) ≡ None ∷ Some 44 ∷ []
list_is_reused = refl
