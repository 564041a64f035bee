-- The slots of the columns so far are empty, and bounds that held before still hold.
use Rattle.ptflow.proofs
use proofs.Common.{◌≡◌, ◌<◌, ℕ, [], length, Slots, line, SlotsBound}
use proofs.tools.paste.clear_slots.Given as goal

abbrev pub invariant-loop-column : goal.invariant-loop-column
invariant-loop-column g l = record {
  empty : (c : ℕ) → c < l.column → line l.store c ≡ [];
  kept : (first : Slots) (top : ℕ → ℕ) → SlotsBound l.cells top first l.fn.store → SlotsBound l.cells top first l.store;
  same : length l.store.lines ≡ length l.fn.store.lines;
}
