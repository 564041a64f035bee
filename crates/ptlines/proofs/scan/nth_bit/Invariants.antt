-- Each iteration clears the lowest set bit.
use Rattle.ptlines.proofs
use proofs.Common.{◌≡◌, ◌≤◌, ◌-◌, Bool, List, mask_l}
use proofs.MatchWindows.{without}
use proofs.scan.nth_bit.Given as goal

abbrev pub invariant-loop-left : goal.invariant-loop-left
invariant-loop-left l = record {
  few : l.left ≤ l.count;
  cleared : (bits : List Bool) → l.mask ≡ mask_l bits → l.rest ≡ mask_l (without (l.count - l.left) bits);
}

abbrev pub decreases-loop-left : goal.decreases-loop-left
decreases-loop-left l = l.left
