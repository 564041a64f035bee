-- The line is single-spaced exactly if the rest of it is, after a space if `before` is 1. The bytes left decrease.
use Rattle.ptmerge.proofs
use proofs.Common.{◌≡◌, ◌==◌, ◌-◌, ◌≤◌, true, drop, length, is_single_spaced}
use proofs.tools.join.words.is_single_spaced.Given as goal

abbrev pub invariant-loop-at : goal.invariant-loop-at
invariant-loop-at l = record {
  within : l.at ≤ length l.line;
  bit : l.before ≤ 1;
  same : is_single_spaced true l.line ≡ is_single_spaced (l.before == 1) (drop l.at l.line);
}

abbrev pub decreases-loop-at : goal.decreases-loop-at
decreases-loop-at l = length l.line - l.at
