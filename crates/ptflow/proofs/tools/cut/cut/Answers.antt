-- A line tool by fields, a block tool by bytes. Setting the terminator does not change the input.
use Rattle.ptflow.proofs
use proofs.Common.{refl, sym, ◌∙◌, ap, cond, cut_job, cut_tool, Reader, arith}
use proofs.CutLemmas.CutBytes.{rest_is_decided, made_is, rest_of_all}
use proofs.Passes.Exits.{pass_unchanged, pass_set, ready_set}
use proofs.tools.cut.cut.Goals as goal
use proofs.CutLemmas.Fields.{cut_sure}

pub returns-in_err-terminator : goal.returns-in_err-terminator
returns-in_err-terminator g c = grind (arith, pass_unchanged)

pub run_lines-requires-clause-tool : goal.run_lines-requires-clause-tool
run_lines-requires-clause-tool g c = grind (arith, cut_sure (cut_job c.new.result.selection.job.now))

pub returns-then-job : goal.returns-then-job
returns-then-job g c =
    let start = c.in_ok-terminator.ensures in
    pass_set _ (rw c.new.ensures at c.run_lines.ensures) start.set.1 start.set.0 refl start.clean

pub returns : goal.returns
returns g c =
    let job = cut_job c.args.job.now in
    let begun = c.in_ok-terminator.ensures in
    let end = c.new-2.ensures.terminator ∙ begun.set.0 in
    let list = c.new-2.ensures.selected in
    let pass = c.run_blocks.ensures (cut_tool job)
    (record {
      text = λ bytes. rw (end, list, c.new-2.ensures.start) (simp (rest_of_all, made_is job c.if-job.false));
      decided = λ given pushed now holds on.
          rest_is_decided job c.if-job.false given pushed now.line_offset (λ rest. cc (on rest, holds.0, holds.1));
      holds = (refl, refl);
      slots = ap (λ b. cond b 1 0) c.if-job.false;
    })
    (sym (ap (λ (r : Reader). r.terminator) begun.set.1 ∙ begun.set.0)) c.args.store.now
    (ready_set _ c.requires begun.set.1) in
    pass_set _ pass begun.set.1 begun.set.0 refl begun.clean
