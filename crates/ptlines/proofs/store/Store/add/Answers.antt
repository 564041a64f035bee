-- `add`: the invariant of the store with one more slot, and the number of that slot, which is the number
-- of slots before.
use Rattle.ptlines.proofs
use proofs.store.Store.add.Goals as goal
use proofs.Common.{usual, length-map, rules}
use Rattle.std.proofs.lemmas.List.{map-append}

pub invariant_of-self : goal.invariant_of-self
invariant_of-self g c = grind usual

pub returns-in-Ok-clause-added : goal.returns-in-Ok-clause-added
returns-in-Ok-clause-added g c = search (rules, length-map)

pub returns-in-Ok-clause-ok : goal.returns-in-Ok-clause-ok
returns-in-Ok-clause-ok g c = grind (rules, map-append)
