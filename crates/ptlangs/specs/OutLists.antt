-- The output list of `join`, option `-o` (POSIX.1-2017, XCU, `join`), as a parse: the field that each element
-- denotes, or its fault. Its grammar is in Laws/OutLists.
use Rattle.std.specs.Prelude.{ℕ, ◌==◌, List, not, Result, Ok}
use Rattle.std.specs.Prelude.{Err, if◌then◌else◌, nat_lt, take, drop, codes, bytes_eq}
use Rattle.ptlangs.specs.Numbers.{elements, is_empty, is_number, max_u64, traverse, value}
use Rattle.ptlangs.specs.declared.outlist.File.{File}
use Rattle.ptlangs.specs.declared.outlist.File.TheVariants.{First, Second}
use Rattle.ptlangs.specs.declared.outlist.OutFault.{OutFault}
use Rattle.ptlangs.specs.declared.outlist.OutFault.TheVariants.{Empty, Malformed, TooLarge, Zero}
use Rattle.ptlangs.specs.declared.outlist.OutField.{OutField}
use Rattle.ptlangs.specs.declared.outlist.OutField.TheVariants.{Field, Join}

-- the field of the file with this number, or the fault of the number
abbrev pub field_of : File → List ℕ → Result OutField OutFault
field_of file number =
    if not (is_number number) then Err Malformed
    else (if nat_lt max_u64 (value number) then Err TooLarge
    else (if value number == 0 then Err Zero else Ok (Field file (value number))))

-- the field that one element denotes, `0`, `1.n` or `2.n`, or its fault
abbrev pub element_field : List ℕ → Result OutField OutFault
element_field bs =
    if is_empty bs then Err Empty
    else (if bytes_eq bs (codes "0") then Ok Join
    else (if bytes_eq (take 2 bs) (codes "1.") then field_of First (drop 2 bs)
    else (if bytes_eq (take 2 bs) (codes "2.") then field_of Second (drop 2 bs) else Err Malformed)))

-- the fields of a list, or the fault of the first faulty element
abbrev pub out_list : List ℕ → Result (List OutField) OutFault
out_list bs = traverse element_field (elements bs)
