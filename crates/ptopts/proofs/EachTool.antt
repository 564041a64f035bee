-- Facts about each tool: no option is both with and without a value, and none is a dash (`IsSyntaxOf`, by
-- computation); and how many inputs its job has if there is no fault (`AreInputsOf`).
use Rattle.ptopts.proofs
use proofs.Common.{Comm, Cut, Fault, Input, Job, Join, List, ParsedOption, Paste, RunComm, RunJoin, RunPaste, RunUniq}
use proofs.Common.{Tool, Tr, Uniq, [], arith, false, input_operands, is_flag, length, list_all, nat_le, nat_lt, not}
use proofs.Common.{order_from, takes_value, true, ℕ, ⊤, ◌++◌, ◌∷◌, ◌≡◌}
use proofs.InputCounts.{AreTwo, are_two, few_inputs, sole_input}
use Rattle.ptopts.specs.Commands.{job}
use Rattle.ptopts.specs.Faults.{count, faults, two_inputs}
use Rattle.ptopts.specs.Syntax.{letters}

pub record IsSyntaxOf (tool : Tool) : Type 0 where
  pub disjoint : list_all (λ l. not (is_flag tool l)) (letters tool).1 ≡ true
  pub dash_is_no_flag : is_flag tool 45 ≡ false
  pub dash_takes_no_value : takes_value tool 45 ≡ false
  pub ascii : list_all (λ l. nat_lt l 128) (letters tool).1 ≡ true

pub syntax_is : (tool : Tool) → IsSyntaxOf tool
syntax_is = grind arith

-- the number of inputs of a job, where it is bounded
abbrev pub AreInputsOf : Job → List Input → Type 0
AreInputsOf (RunUniq told) order = length order ≡ 1
AreInputsOf (RunPaste told) order = nat_le (length order) 512 ≡ true
AreInputsOf (RunComm told) order = AreTwo order
AreInputsOf (RunJoin told) order = AreTwo order
AreInputsOf _ order = ⊤

last_is_none : (xs ys : List Fault) → xs ++ ys ≡ [] → ys ≡ []
last_is_none [] ys none = none
last_is_none (x ∷ xs) ys none = cc

pub are_inputs : (tool : Tool) (os : List ParsedOption) (operands : List (List ℕ)) → faults tool os operands ≡ []
    → AreInputsOf (job tool os operands) (order_from 0 (input_operands tool operands))
are_inputs Cut os _ none = tt
are_inputs Paste os operands none = few_inputs operands (last_is_none _ (count 1 512 operands) none)
are_inputs Uniq os operands none = sole_input operands
are_inputs Comm os operands none = are_two operands none
are_inputs Join os operands none = are_two operands (last_is_none _ (two_inputs operands) none)
are_inputs Tr os _ none = tt
