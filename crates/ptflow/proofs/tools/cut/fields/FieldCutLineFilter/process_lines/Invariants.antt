-- The buffer has the output for the lines so far, and is not longer than they are.
use Rattle.ptflow.proofs
use proofs.Common.{◌≡◌, ◌+◌, ◌≤◌, ◌++◌, ℕ, List, length, take, complete_lines, cut_job, cut_lines, PADDED}
use proofs.Passes.Exits.{IsAfterLines}
use proofs.tools.cut.fields.FieldCutLineFilter.process_lines.Given as goal

abbrev pub invariant-lines : goal.invariant-lines
invariant-lines g l =
    let job = cut_job l.fn.self.selection.job.now in record {
      taken : IsAfterLines job.terminator l.block l.rest;
      on : (more : List (List ℕ)) → cut_lines job (complete_lines job.terminator l.block ++ more)
          ≡ take l.end l.self.buffer ++ cut_lines job (complete_lines job.terminator l.rest ++ more);
      space : l.end + length l.rest ≤ length l.block;
      same_selection : l.self.selection ≡ l.fn.self.selection;
      long : length l.self.buffer ≡ PADDED;
    }

abbrev pub decreases-lines : goal.decreases-lines
decreases-lines g l = length l.rest
