-- Added slots are empty, so the total is unchanged; they are added only while there are too few.
use Rattle.ptflow.proofs
use proofs.Common.{◌≡◌, ◌≤◌, ◌-◌, false, length, max, total_bytes}
use proofs.slots.ensure_slots.Given as goal

abbrev pub invariant-loop-store : goal.invariant-loop-store
invariant-loop-store g l = record {
  allowed : l.store.denied ≡ false;
  same_total : total_bytes l.store.lines ≡ total_bytes l.fn.store.lines;
  same_peak : l.store.peak ≡ l.fn.store.peak;
  least : length l.fn.store.lines ≤ length l.store.lines;
  most : length l.store.lines ≤ max (length l.fn.store.lines) l.count;
}

abbrev pub decreases-loop-store : goal.decreases-loop-store
decreases-loop-store g l = l.count - length l.store.lines
