-- Each iteration cuts a line. The bytes after the last terminator are a piece of an unfinished line.
use Rattle.ptflow.proofs
use proofs.Common.{◌+◌, ◌-◌, ◌<◌, [], length, take, drop, refl, arith, length-drop, take_all, take_rest, usual}
use proofs.Common.{is_selected, line_if_not_found, select_from}
use proofs.CutLemmas.CutBytes.{line_cut, rest_piece, cut_next}
use proofs.tools.cut.bytes.Selection.cut_tail.Goals as goal

pub lines-preserved : goal.lines-preserved
lines-preserved c =
    let line = c.lines.line in
    let first = rw take_rest at c.in-Some.ensures in
    let high : line.start + c.in-Some.count < length c.args.block.now =
    omega (arith, length-drop line.start c.args.block.now) in
    record {
      on = line_cut _ c.lines.invariant.on first
          (grind usual) (omega arith) refl (omega arith);
      within = omega arith;
    }

pub returns-clause-cut : goal.returns-clause-cut
returns-clause-cut c =
    let end = c.args.self.now.terminator in
    let line = c.lines.line in
    let rest = drop line.start c.args.block.now in
    let count = length c.args.block.now - line.start in
    let all = take_all count rest (omega (arith, length-drop line.start c.args.block.now)) in
    let long = length-drop line.start c.args.block.now in
    let free = line_if_not_found end _ (rw take_rest at c.in_default.ensures) in
    cut_next end _ _ _ _ _ _ [] _ (take line.at c.lines.into)
    (select_from (is_selected c.args.self.now.selected.now) (line.line_offset + 1) rest) c.lines.invariant.on.cut
    (rw all at c.copy_selected-at.ensures.copied) (rw (← long) (λ more. rest_piece end _ _ _ _ free))
