-- `slots`: the store has as many slots as its model has lines.
use Rattle.ptlines.proofs
use proofs.Common.{length-map, rules}
use proofs.store.Store.slots.Goals as goal

pub returns : goal.returns
returns g c = search (rules, length-map)
