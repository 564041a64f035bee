-- The window has all the bytes that are left, so that a bit of its mask is the match, or there is none.
use Rattle.ptlines.proofs
use proofs.Common.{ap, arith, take}
use Rattle.std.specs.List.{count_by}
use proofs.MatchWindows.{window_counted, nth_in_window, window_inside, after_in_window, after_all, count_up_to}
use proofs.scan.MatchWindow.after_last_nth.Goals as goal

pub after-requires : goal.after-requires
after-requires g c =
    let window = c.new-window.ensures.window in
    omega (arith, window_inside _ _ window (nth_in_window _ _ window (omega arith) c.nth_bit.ensures))

pub returns-then-before-from : goal.returns-then-before-from
returns-then-before-from g c =
    let p = g.M.Needle.test c.args.needle in
    let bytes = c.args.bytes.now in
    let window = c.new-window.ensures.window in
    let nth = nth_in_window p bytes window (omega arith) c.nth_bit.ensures in
    rw c.after.ensures (after_in_window p bytes window nth c.requires.within.1
    (omega (arith, ap (λ i. count_by p (take i bytes)) c.new-window.ensures.at)))

pub returns : goal.returns
returns g c =
    let p = g.M.Needle.test c.args.needle in
    let bytes = c.args.bytes.now in
    rw c.past.ensures (after_all p bytes c.requires.within.1 (omega (
      arith,
      window_counted p bytes c.new-window.ensures.window,
      count_up_to p bytes c.args.to c.new-window.result.end (omega arith),
      ap (λ i. count_by p (take i bytes)) c.new-window.ensures.at,
    )))
