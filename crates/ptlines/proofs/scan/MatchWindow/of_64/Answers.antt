-- The mask is that of the next 64 bytes.
use Rattle.ptlines.proofs
use proofs.Common.{arith}
use proofs.MatchWindows.{window_of}
use proofs.scan.MatchWindow.of_64.Goals as goal

pub returns-clause-window : goal.returns-clause-window
returns-clause-window g c =
    window_of (g.M.Needle.test c.args.needle) c.args.bytes.now c.args.at 64 (omega arith) (omega arith)
    c.mask_at.ensures
