-- `line`: the line of the slot is the one that the model of the store has there.
use Rattle.ptlines.proofs
use proofs.Common.{◌∙◌, rules}
use proofs.SlotTotals.{line_before, slot_in_range}
use proofs.store.Store.line.Goals as goal

pub returns : goal.returns
returns g c = c.line.ensures.line ∙ search (rules, line_before, slot_in_range)
