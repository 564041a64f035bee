-- No state is carried from line to line, so what a failed write leaves is a prefix for any lines after it, too.
use Rattle.ptflow.proofs
use proofs.Common.{◌∷◌, [], line, cut_job, cut_lines, usual, Result, Ok, Err, OnErr}
use proofs.tools.cut.fields.FieldCutLineFilter.process_line.Goals as goal

if_failed : {E : Type 0} (r : Result (Unit {0}) E) {P Q : Type 0} → OnErr r P → (P → Q) → OnErr r Q
if_failed (Ok u) p f = tt
if_failed (Err e) p f = f p

pub returns-clause-halts : goal.returns-clause-halts
returns-clause-halts g c =
    let job = cut_job c.args.self.now.selection.job.now in
    if_failed c.write_line.result c.write_line.ensures.fault (λ fault. record {
      passed = cut_lines job (line c.args.store.now 0 ∷ []);
      wrote = rw c.line.ensures at c.write_line.ensures.wrote;
      fault = fault;
      is_prefix = λ more. (cut_lines job more, grind usual);
    })
