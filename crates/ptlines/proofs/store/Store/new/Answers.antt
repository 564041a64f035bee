-- `new`: each turn of the loop adds an empty slot, so the store has as many as are asked for.
use Rattle.ptlines.proofs
use proofs.Common.{usual, rules}
use proofs.store.Store.new.Goals as goal

pub loop-i-preserved : goal.loop-i-preserved
loop-i-preserved c = grind usual

pub returns-clause-made : goal.returns-clause-made
returns-clause-made g c = search rules
