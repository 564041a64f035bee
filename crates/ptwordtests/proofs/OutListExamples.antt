-- Examples of output lists of `join`: the fields of each, also by index, or its fault. They hold by computation.
use Rattle.std.proofs.Common.{◌≡◌, ℕ, List, [], ◌∷◌, refl, codes, map, Some, None, Result, Ok, Err}
use Rattle.ptlangs.specs.OutLists.{out_list}
use Rattle.ptlangs.specs.Calls.OutLists.{field_at}
use Rattle.ptlangs.specs.declared.outlist.File.TheVariants.{First, Second}
use Rattle.ptlangs.specs.declared.outlist.OutField.{OutField}
use Rattle.ptlangs.specs.declared.outlist.OutField.TheVariants.{Join, Field}
use Rattle.ptlangs.specs.declared.outlist.OutFault.{OutFault}
use Rattle.ptlangs.specs.declared.outlist.OutFault.TheVariants.{Empty, Malformed, Zero, TooLarge}

abbrev examples : List (List ℕ × Result (List OutField) OutFault)
examples =
    (codes "0,1.2,2.2", Ok (Join ∷ Field First 2 ∷ Field Second 2 ∷ []))
    ∷ (codes "1.007 0\t2.18446744073709551615", Ok (Field First 7 ∷ Join ∷ Field Second 18446744073709551615 ∷ []))
    ∷ ([], Err Empty)
    ∷ (codes "0,,1.1", Err Empty)
    ∷ (codes "1.0", Err Zero)
    ∷ (codes "1.", Err Malformed)
    ∷ (codes "00", Err Malformed)
    ∷ (codes "3.1", Err Malformed)
    ∷ (codes "12", Err Malformed)
    ∷ (codes "0.1", Err Malformed)
    ∷ (codes "2.18446744073709551616", Err TooLarge)
    ∷ (codes "1.x,1.0", Err Malformed)
    ∷ []

are_read : map (λ (row : List ℕ × Result (List OutField) OutFault). out_list row.0) examples
    ≡ map (λ (row : List ℕ × Result (List OutField) OutFault). row.1) examples
are_read = refl

fields_by_index : map (field_at (Join ∷ Field First 2 ∷ Field Second 3 ∷ [])) (0 ∷ 2 ∷ 3 ∷ [])
    ≡ Some (0, 0) ∷ Some (2, 3) ∷ None ∷ []
fields_by_index = refl
