-- The match is before the window, unless this is after all bytes.
use Rattle.ptlines.proofs
use proofs.MatchWindows.{nth_from_start}
use proofs.scan.nth_index.Goals as goal

pub after_nth-window-requires-clause-window : goal.after_nth-window-requires-clause-window
after_nth-window-requires-clause-window g c =
    c.start.ensures.window (g.M.Needle.test c.args.needle) c.args.bytes.now

pub returns : goal.returns
returns g c = nth_from_start _ _ c.requires c.start.ensures.start c.after_nth-window.ensures c.if-window-to.false
