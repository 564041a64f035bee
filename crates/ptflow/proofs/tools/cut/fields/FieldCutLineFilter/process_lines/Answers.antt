-- The output for the lines of the block is pushed at the end; if that fails, a prefix of it is.
use Rattle.ptflow.proofs
use proofs.Common.{rules, ℕ, take, ◌∙◌, arith, length-drop, take_rest, take_at, line_if_not_found, complete_lines_none}
use proofs.Common.{cut_job, append-nil, usual}
use proofs.Passes.Exits.{on_err, taken_more}
use proofs.tools.cut.fields.FieldCutLineFilter.process_lines.Goals as goal

pub lines-preserved : goal.lines-preserved
lines-preserved g c =
    let l = c.lines in
    let put = rw c.args.self.now.selection.ends at c.copy_lines-copied.ensures.put in
    rw take_rest (record {
      taken = taken_more _ _ put.taken l.invariant.taken;
      on = λ more. l.invariant.on more ∙ put.on more;
      space = omega (arith, length-drop {A = ℕ}, put.fits, c.copy_lines-copied.ensures.end.1);
      same_selection = l.invariant.same_selection;
      long = c.copy_lines-copied.ensures.long ∙ l.invariant.long;
    })

pub returns-in_err-push_block-clause-halts : goal.returns-in_err-push_block-clause-halts
returns-in_err-push_block-clause-halts g c =
    let l = c.lines in
    on_err c.from_residual.result
    (record {
      passed = take l.end l.self.buffer;
      wrote = c.push_block.ensures.pushed.wrote;
      fault = c.in_err-push_block.ensures.pushed.fault;
      is_prefix = λ more. (_, l.invariant.on more);
    })

pub returns-clause-continues : goal.returns-clause-continues
returns-clause-continues g c =
    let l = c.lines in
    let none = complete_lines_none (cut_job c.args.self.now.selection.job.now).terminator c.lines.rest.now
    (search (rules, line_if_not_found)) in record {
      passed = take l.end l.self.buffer;
      wrote = c.in_ok-push_block.ensures.pushed.wrote;
      clean = λ was_clean. c.in_ok-push_block.ensures.pushed.clean;
      on = λ more. rw none at (l.invariant.on more);
      count = omega arith;
      some = λ h. omega arith;
    }

pub returns-clause-passed : goal.returns-clause-passed
returns-clause-passed g c = (
  omega arith,
  grind (usual, take_at, complete_lines_none, append-nil, line_if_not_found),
)
