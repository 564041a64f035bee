-- The first match is the lowest bit of the mask, or is after the window.
use Rattle.ptlines.proofs
use proofs.Common.{None, Some}
use proofs.MatchWindows.{first_in_window, first_past, nowhere_in_window}
use proofs.scan.MatchWindow.first.Goals as goal

pub returns-then-self-ne0 : goal.returns-then-self-ne0
returns-then-self-ne0 g c = first_in_window _ _ c.requires.window c.if-self-ne0.true

pub returns-then-self-bytes : goal.returns-then-self-bytes
returns-then-self-bytes g c = rw c.if-self-bytes.true at (nowhere_in_window _ _ c.requires.window c.if-self-ne0.false)

pub returns-in_err-at : goal.returns-in_err-at
returns-in_err-at g c =
    rw c.from_residual.ensures (first_past _ _ c.requires.window c.if-self-ne0.false None c.in_err-at.ensures)

pub returns : goal.returns
returns g c = first_past _ _ c.requires.window c.if-self-ne0.false (Some c.in_ok-at.at) c.in_ok-at.ensures
