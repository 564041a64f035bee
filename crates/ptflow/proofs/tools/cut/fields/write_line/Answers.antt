-- The output of a line with the delimiter is its selected fields; any other line is unchanged, or dropped with `-s`.
use Rattle.ptflow.proofs
use proofs.Common.{◌≡◌, push_nothing, push_past_failure, sym, ◌∙◌, cut_job, cut_fields, list_any, arith}
use proofs.Common.{is_field_delimiter}
use proofs.Passes.Exits.{wrote_then}
use proofs.CutLemmas.Fields.{found, of_line, of_none, line_written, line_dropped}
use proofs.tools.cut.fields.write_line.Given as given
use proofs.tools.cut.fields.write_line.Goals as goal
use Rattle.ptflow.proofs.tools.cut.fields.write_line.Goals.{After-is_some}

has : (g : given.Over) (c : After-is_some g) → list_any (is_field_delimiter (cut_job c.args.selection.now.job.now))
    c.args.line.now ≡ c.is_some.result
has g c =
    let of = c.new-delimiters.ensures in
    found _ _ _ (rw (of.needle, of.bytes, c.args.selection.now.delimits) at c.first.ensures) ∙ sym c.is_some.ensures

pub returns-in_err-write_fields-clause-wrote : goal.returns-in_err-write_fields-clause-wrote
returns-in_err-write_fields-clause-wrote g c =
    let job = cut_job c.args.selection.now.job.now in
    let line = c.args.line.now in
    let some = has g (goal.at.returns-in_err-write_fields-clause-wrote g c).After-is_some ∙ c.if-is_some.true in
    rw (line_written job line (cut_fields job line) (grind arith))
    (push_past_failure _ _ _ _ c.in_err-write_fields.ensures.fault
    (rw c.new-delimiters.ensures.bytes at c.in_err-write_fields.ensures.wrote))

pub returns-then-selection-clause-wrote : goal.returns-then-selection-clause-wrote
returns-then-selection-clause-wrote g c =
    let job = cut_job c.args.selection.now.job.now in
    let none = has g (goal.at.returns-then-selection-clause-wrote g c).After-is_some ∙ c.if-is_some.false in
    rw (line_dropped job c.args.line.now
    (of_none job c.args.selection.now.by_fields c.args.line.now none c.if-selection.true))
    (push_nothing _)

pub returns-then-is_some-clause-wrote : goal.returns-then-is_some-clause-wrote
returns-then-is_some-clause-wrote g c =
    let job = cut_job c.args.selection.now.job.now in
    let line = c.args.line.now in
    let some = has g (goal.at.returns-then-is_some-clause-wrote g c).After-is_some ∙ c.if-is_some.true in
    rw (line_written job line (cut_fields job line) (grind arith))
    (wrote_then _ _ _ (rw c.new-delimiters.ensures.bytes at c.in_ok-write_fields.ensures.wrote)
    (rw c.args.selection.now.ends at c.push.ensures.pushed.wrote))

pub returns-clause-wrote : goal.returns-clause-wrote
returns-clause-wrote g c =
    let job = cut_job c.args.selection.now.job.now in
    let line = c.args.line.now in
    let none = has g (goal.at.returns-clause-wrote g c).After-is_some ∙ c.if-is_some.false in
    rw (line_written job line _ (of_line job c.args.selection.now.by_fields line none c.if-selection.false))
    (rw c.args.selection.now.ends at c.push_line.ensures.pushed.wrote)
