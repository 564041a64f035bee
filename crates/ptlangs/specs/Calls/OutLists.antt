-- For the contract of `OutList`: the fault that an error reports, and its fields as pairs of numbers.
use Rattle.std.specs.Prelude.{ℕ, List, Option, Some, None}
use Rattle.std.specs.Prelude.{option_map, slice_get}
use Rattle.ptlangs.specs.declared.outlist.File.TheVariants.{First, Second}
use Rattle.ptlangs.specs.declared.outlist.OutFault.{OutFault}
use Rattle.ptlangs.specs.declared.outlist.OutFault.TheVariants.{Memory}
use Rattle.ptlangs.specs.declared.outlist.OutField.{OutField}
use Rattle.ptlangs.specs.declared.outlist.OutField.TheVariants.{Field, Join}

-- the fault that an error reports; `None` for an allocation failure
abbrev pub out_list_fault : OutFault → Option OutFault
out_list_fault Memory = None
out_list_fault fault = Some fault

-- a field as a pair: the number of the file and the number of the field; (0, 0) for the join field
abbrev pub field_as_pair : OutField → ℕ × ℕ
field_as_pair Join = (0, 0)
field_as_pair (Field First n) = (1, n)
field_as_pair (Field Second n) = (2, n)

-- the field with this index in the list, counted from 0, as a pair
abbrev pub field_at : List OutField → ℕ → Option (ℕ × ℕ)
field_at fields index = option_map field_as_pair (slice_get fields index)
