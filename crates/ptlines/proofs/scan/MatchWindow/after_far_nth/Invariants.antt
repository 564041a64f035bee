-- The loop of `MatchWindow::after_far_nth`: the matches passed since the start and those that are still to be skipped
-- are together those that were to be skipped. The bytes that are left become fewer.
use Rattle.ptlines.proofs
use proofs.Common.{◌≡◌, ◌≤◌, ◌+◌, ◌-◌, length, take}
use Rattle.std.specs.List.{count_by}
use proofs.scan.MatchWindow.after_far_nth.Given as goal

abbrev pub invariant-loop-at : goal.invariant-loop-at
invariant-loop-at g l = record {
  within : l.at ≤ length l.bytes;
  counted : l.left + count_by (g.M.Needle.test l.needle) (take l.at l.bytes)
      ≡ l.before + count_by (g.M.Needle.test l.needle) (take l.fn.self.at l.bytes);
}

abbrev pub decreases-loop-at : goal.decreases-loop-at
decreases-loop-at g l = length l.bytes - l.at
