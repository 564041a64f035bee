-- A window of fewer than 64 bytes has the last ones.
use Rattle.ptlines.proofs
use proofs.Common.{arith}
use proofs.MatchWindows.{last_window}
use proofs.scan.MatchWindow.new.Goals as goal

pub returns-then-bytes-at-lt64-clause-window : goal.returns-then-bytes-at-lt64-clause-window
returns-then-bytes-at-lt64-clause-window g c =
    last_window (g.M.Needle.test c.args.needle) c.args.bytes.now c.args.at c.requires.within (omega arith)
    c.last_mask.ensures
