-- Answers for `MatchWindow::after_nth`: the n-th match is in the window, or after it, or there is none.
use Rattle.ptlines.proofs
use proofs.Common.{arith, refl}
use proofs.MatchWindows.{window_counted, nth_in_window, window_inside, after_in_window, after_all, count_up_to}
use proofs.scan.MatchWindow.after_nth.Goals as goal

pub after-requires : goal.after-requires
after-requires g c =
    let nth = nth_in_window _ _ c.requires.window (omega arith) c.nth_bit.ensures in
    omega (arith, window_inside _ _ c.requires.window nth)

pub returns-then-before-from : goal.returns-then-before-from
returns-then-before-from g c =
    let nth = nth_in_window _ _ c.requires.window (omega arith) c.nth_bit.ensures in
    rw c.after.ensures (after_in_window _ _ c.requires.window nth c.requires.within.1 refl)

pub returns-then-self-to : goal.returns-then-self-to
returns-then-self-to g c =
    let p = g.M.Needle.test c.args.needle in
    let bytes = c.args.bytes.now in
    rw c.past.ensures (after_all p bytes c.requires.within.1 (omega (
      arith,
      window_counted p bytes c.requires.window,
      count_up_to p bytes c.args.to c.args.self.end (omega arith),
    )))
