-- Answers for `MatchWindow::after_far_nth`: a window with too few matches is skipped, and otherwise a bit of its mask
-- is the match.
use Rattle.ptlines.proofs
use proofs.Common.{ap, arith, take}
use Rattle.std.specs.List.{count_by}
use proofs.MatchWindows.{window_counted, nth_in_window, window_inside, after_in_window, after_all, count_up_to}
use proofs.MatchWindows.{from_before}
use proofs.scan.MatchWindow.after_far_nth.Goals as goal

pub loop-at-init : goal.loop-at-init
loop-at-init g c = record {
  within = c.requires.window.within;
  counted = omega (arith, window_counted (g.M.Needle.test c.args.needle) c.args.bytes.now c.requires.window);
}

pub loop-at-preserved : goal.loop-at-preserved
loop-at-preserved g c =
    let p = g.M.Needle.test c.args.needle in
    let bytes = c.args.bytes.now in
    let window = c.of_64-window.ensures.window in
    record {
      within = window.within;
      counted = omega (
        arith,
        window_counted p bytes window,
        ap (λ i. count_by p (take i bytes)) c.of_64-window.ensures.at,
      );
    }

pub after-requires : goal.after-requires
after-requires g c =
    let window = c.of_64-window.ensures.window in
    omega (arith, window_inside _ _ window (nth_in_window _ _ window (omega arith) c.nth_bit.ensures))

pub returns-then-left-count : goal.returns-then-left-count
returns-then-left-count g c =
    let p = g.M.Needle.test c.args.needle in
    let bytes = c.args.bytes.now in
    let window = c.of_64-window.ensures.window in
    let nth = nth_in_window p bytes window (omega arith) c.nth_bit.ensures in
    rw c.after.ensures (after_in_window p bytes window nth c.requires.within.1
    (omega (arith, ap (λ i. count_by p (take i bytes)) c.of_64-window.ensures.at)))

pub returns-then-at-to : goal.returns-then-at-to
returns-then-at-to g c =
    let p = g.M.Needle.test c.args.needle in
    let bytes = c.args.bytes.now in
    rw c.past.ensures (after_all p bytes c.requires.within.1
    (omega (arith, count_up_to p bytes c.args.to c.loop-at.at (omega arith))))

pub returns : goal.returns
returns g c =
    from_before (g.M.Needle.test c.args.needle) c.args.bytes.now c.requires.within.1 c.after_last_nth.ensures
    c.loop-at.invariant.counted
