-- Answers for `check`: a fault of the next delimiter is the fault of the list; without one, the fault of the list is
-- that of the rest after it.
use Rattle.ptlangs.proofs
use proofs.Common.{rules}
use proofs.DelimGrammar.{left_fault, left_without_fault}
use proofs.delims.check.Goals as goal

pub returns-in_err-rest : goal.returns-in_err-rest
returns-in_err-rest c =
    let fault = left_fault c.args.text.now c.loop-rest.left.now c.loop-rest.invariant _ c.in_err-rest.ensures.first in
    search rules

pub loop-rest-preserved : goal.loop-rest-preserved
loop-rest-preserved c = search (rules, left_without_fault)
