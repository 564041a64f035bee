-- Slots are only added, and are empty, so each slot keeps its line, and the store holds the same number of bytes.
use Rattle.ptmerge.proofs
use proofs.Common.{◌≡◌, ◌-◌, ◌≤◌, ℕ, length, max, line, total_bytes}
use proofs.merging.four_slots.ensure_four_slots.Given as goal

abbrev pub invariant-loop-store : goal.invariant-loop-store
invariant-loop-store g l = record {
  slots : max (length l.store.lines) 4 ≡ max (length l.fn.store.lines) 4;
  least : length l.fn.store.lines ≤ length l.store.lines;
  same : (slot : ℕ) → line l.store slot ≡ line l.fn.store slot;
  total_bytes : total_bytes l.store.lines ≡ total_bytes l.fn.store.lines;
  peak : l.store.peak ≡ l.fn.store.peak;
  denied : l.store.denied ≡ l.fn.store.denied;
}

abbrev pub decreases-loop-store : goal.decreases-loop-store
decreases-loop-store g l = 4 - length l.store.lines
