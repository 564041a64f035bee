-- `char_plan`: the operands are the strings of the plan (`first_word`), so a fault is the one that the definition
-- gives (`read_fault`), and so is the map of bytes (`read_map`).
use Rattle.ptopts.proofs
use proofs.Common.{Bor, Err, List, Result, Some, [], arith, refl, result_err, Ok, slice_index_or, words_view, ℕ, ◌≡◌}
use Rattle.ptlangs.specs.Calls.TrParsing.{ok_map}
use Rattle.ptlangs.proofs.TrArrays.{tables_have_map}
use Rattle.ptlangs.specs.TrPlan.{Plan, byte_map, plan}
use Rattle.ptlangs.specs.TrTables.{Tables, byte_map_of}
use Rattle.ptlangs.specs.Calls.TrTables.{tables}
use Rattle.ptlangs.specs.declared.faults.SetFault.{SetFault}
use Rattle.ptopts.specs.Private.Jobs.{identity_plan}
use Rattle.std.proofs.Math.ListN.{get_or}
use Rattle.std.specs.Result.{result_unwrap_or}
use Rattle.ptopts.specs.Private.Faults.{plan_of_operands}
use Rattle.ptopts.specs.Private.ParseSteps.{options_of, operands_of}
use Rattle.std.specs.Prelude.{option_copied}
use Rattle.std.proofs.Common.{ap, ◌∙◌}
use proofs.parsing.ParsedArgs.char_plan.Goals as goal

first_word : (words : List (Bor (List ℕ))) (d : Bor (List ℕ)) → d.now ≡ []
    → (get_or words 0 d).now ≡ slice_index_or (words_view words) 0 []
first_word [] d none = none
first_word _ d none = refl

read_fault : (p : Result Plan SetFault) (r : Result Tables SetFault) (e : SetFault) → r ≡ ok_map tables p → r ≡ Err e
    → result_err p ≡ Some e
read_fault = grind arith

pub returns-in_err-plan-clause-fault : goal.returns-in_err-plan-clause-fault
returns-in_err-plan-clause-fault g c = grind (arith, first_word, read_fault)

pub returns-clause-fault : goal.returns-clause-fault
returns-clause-fault g c = grind (arith, first_word)

read_map : (p : Result Plan SetFault) (r : Result Tables SetFault) (t : Tables) → r ≡ ok_map tables p → r ≡ Ok t
    → byte_map_of t ≡ byte_map (result_unwrap_or p identity_plan)
read_map (Ok plan) r t is ok =
    let same : t ≡ tables plan = grind (arith, is, ok) in
    rw same (tables_have_map plan)
read_map (Err e) r t is ok = absurd (grind (arith, is, ok))

pub returns-clause-plan : goal.returns-clause-plan
returns-clause-plan g c =
    let same : plan c.form.result c.is_complemented.result c.as_bytes.result.now (option_copied c.second.result)
    ≡ plan_of_operands (options_of c.args.self.now) (operands_of c.args.self.now) =
    grind (arith, first_word) in
    read_map _ _ _ c.read.ensures c.in_ok-plan.was
    ∙ ap (λ p. byte_map (result_unwrap_or p identity_plan)) same
