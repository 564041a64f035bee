-- The fault that an error of `DelimList` reports.
use Rattle.std.specs.Prelude.{Option, Some, None}
use Rattle.ptlangs.specs.declared.delims.DelimFault.{DelimFault}
use Rattle.ptlangs.specs.declared.delims.DelimFault.TheVariants.{Memory}

-- the fault that an error reports; `None` for an allocation failure
abbrev pub delim_list_fault : DelimFault → Option DelimFault
delim_list_fault Memory = None
delim_list_fault fault = Some fault
