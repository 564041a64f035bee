-- `cut_job`: at most one of the three lists is present. If its allocation fails, the lists read before it have no
-- fault, and those after it are absent. If none fails, the job selects the numbers of the list.
use Rattle.ptopts.proofs
use proofs.Common.{err_from_is_err_and, fault_view, options_of, selected_set, arith, usual}
use proofs.CutOptions.{no_fault_beside_b, no_fault_beside_c}
use Rattle.ptlangs.specs.CutLists.{is_selected}
use proofs.parsing.ParsedArgs.cut_job.Goals as goal

pub returns-clause-job : goal.returns-clause-job
returns-clause-job g c = grind (arith, is_selected, selected_set)

pub returns-in_err-bytes-clause-memory : goal.returns-in_err-bytes-clause-memory
returns-in_err-bytes-clause-memory g c told =
    let p = err_from_is_err_and c.from_residual.result c.from_residual.ensures.1 in
    no_fault_beside_b (options_of c.args.self.now) c.requires (grind arith) (grind (arith, fault_view))

pub returns-in_err-characters-clause-memory : goal.returns-in_err-characters-clause-memory
returns-in_err-characters-clause-memory g c told =
    let p = err_from_is_err_and c.from_residual-in_err-characters.result c.from_residual-in_err-characters.ensures.1 in
    no_fault_beside_c (options_of c.args.self.now) c.requires (grind arith)
    c.in_ok-bytes.ensures.fault (grind (arith, fault_view))

pub returns-in_err-fields-clause-memory : goal.returns-in_err-fields-clause-memory
returns-in_err-fields-clause-memory g c = grind usual

pub returns-in_err-delimiter-clause-memory : goal.returns-in_err-delimiter-clause-memory
returns-in_err-delimiter-clause-memory g c = grind usual
