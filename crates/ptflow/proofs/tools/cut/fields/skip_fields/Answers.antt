-- Field n starts after the n-th delimiter. If there are fewer, the index is after the end of the line.
use Rattle.ptflow.proofs
use proofs.Common.{◌≡◌, ◌+◌, ◌-◌, arith, min}
use proofs.CutLemmas.Fields.{offset_start, offset_later, offset_of_window}
use proofs.tools.cut.fields.skip_fields.Goals as goal

pub returns-then-count-eq0-clause-offset : goal.returns-then-count-eq0-clause-offset
returns-then-count-eq0-clause-offset c =
    let none : min c.args.window.at (c.args.to + 1) - c.args.window.at ≡ 0 = omega arith in
    rw (none, c.if-count-eq0.true) (offset_start _ _)

pub returns-clause-near : goal.returns-clause-near
returns-clause-near c =
    let d = c.args.delimiters.now in
    offset_later d.needle d.bytes.now c.requires.within.0 c.requires.within.1 (omega arith) c.after_nth.ensures

pub returns-clause-offset : goal.returns-clause-offset
returns-clause-offset c =
    let d = c.args.delimiters.now in
    offset_of_window d.needle d.bytes.now c.requires.within.0 c.requires.within.1 (omega arith) c.after_nth.ensures
