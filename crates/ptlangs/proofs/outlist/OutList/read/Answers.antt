-- Answer for `OutList::read`: the fault that is returned is that of the list.
use Rattle.ptlangs.proofs
use proofs.Common.{rules}
use proofs.ListElements.{fault_of_fields}
use proofs.outlist.OutList.read.Goals as goal

pub returns-in-Some : goal.returns-in-Some
returns-in-Some g c = search (rules, fault_of_fields)
