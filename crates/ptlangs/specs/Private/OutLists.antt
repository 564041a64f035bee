-- How the code reads an element of an output list of `join`: by its first byte, its second byte and the rest.
use Rattle.std.specs.Prelude.{ℕ, ◌==◌, List, [], ◌∷◌, not, Result, Ok, Err, if◌then◌else◌}
use Rattle.std.specs.Str.{byte}
use Rattle.ptlangs.specs.OutLists.{field_of}
use Rattle.ptlangs.specs.declared.outlist.File.TheVariants.{First, Second}
use Rattle.ptlangs.specs.declared.outlist.OutFault.{OutFault}
use Rattle.ptlangs.specs.declared.outlist.OutFault.TheVariants.{Empty, Malformed}
use Rattle.ptlangs.specs.declared.outlist.OutField.{OutField}
use Rattle.ptlangs.specs.declared.outlist.OutField.TheVariants.{Join}

-- the field of an element of the form `1.n` or `2.n`
abbrev pub field_after_point : ℕ → ℕ → List ℕ → Result OutField OutFault
field_after_point name point number =
    if not (point == byte ".") then Err Malformed
    else (if name == byte "1" then field_of First number
    else (if name == byte "2" then field_of Second number else Err Malformed))

-- the field that one element denotes, or its fault
abbrev pub field_by_bytes : List ℕ → Result OutField OutFault
field_by_bytes [] = Err Empty
field_by_bytes (b ∷ []) = if b == byte "0" then Ok Join else Err Malformed
field_by_bytes (b ∷ c ∷ more) = field_after_point b c more
