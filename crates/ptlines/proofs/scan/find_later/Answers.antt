-- The first match is the lowest bit of the mask of the window, or is after the window.
use Rattle.ptlines.proofs
use proofs.Common.{None, Some}
use proofs.MatchWindows.{first_in_window, first_past, nowhere_in_window}
use proofs.scan.find_later.Goals as goal

pub returns-then-window-ne0 : goal.returns-then-window-ne0
returns-then-window-ne0 g c =
    rw c.new-window.ensures.at at (first_in_window _ _ c.new-window.ensures.window c.if-window-ne0.true)

pub returns-then-window-bytes : goal.returns-then-window-bytes
returns-then-window-bytes g c =
    let none = nowhere_in_window _ _ c.new-window.ensures.window c.if-window-ne0.false in
    rw (c.new-window.ensures.at, c.if-window-bytes.true) at none

pub returns-in_err-at : goal.returns-in_err-at
returns-in_err-at g c =
    let past = first_past _ _ c.new-window.ensures.window c.if-window-ne0.false None c.in_err-at.ensures in
    rw c.from_residual.ensures (rw c.new-window.ensures.at at past)

pub returns : goal.returns
returns g c =
    let past = first_past _ _ c.new-window.ensures.window c.if-window-ne0.false (Some c.in_ok-at.at)
    c.in_ok-at.ensures in
    rw c.new-window.ensures.at at past
