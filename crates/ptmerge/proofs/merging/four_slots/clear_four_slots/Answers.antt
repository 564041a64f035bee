-- The calls of `clear_four_slots` empty one slot after the other, so the total loses the bytes of all of them.
use Rattle.ptmerge.proofs
use proofs.MergeLemmas.Exits.SlotLines.{four_cleared}
use Rattle.std.proofs.Common.{rules}
use proofs.merging.four_slots.clear_four_slots.Goals as goal

pub returns : goal.returns
returns g c = search (rules, four_cleared)
