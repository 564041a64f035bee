-- The number of inputs if the operands have no fault: one of `uniq`, at most 512 of `paste`, and two of `comm` and
-- `join`, which differ. Each operand is one input.
use Rattle.ptopts.proofs
use proofs.Common.{Input, List, [], arith, length, nat_le, or_stdin, order_from, refl, take, true, ℕ, ◌+◌, ◌∙◌, ◌∷◌}
use proofs.Common.{◌≡◌}
use Rattle.ptopts.specs.Faults.{count, two_inputs}

order_length : (n : ℕ) (operands : List (List ℕ)) → length (order_from n operands) ≡ length operands
order_length n [] = refl
order_length n (operand ∷ operands) = grind (arith, order_length n operands, order_length (n + 1) operands)

one_of : (operands : List (List ℕ)) → length (take 1 (or_stdin operands)) ≡ 1
one_of = grind arith

-- `uniq` has one input
pub sole_input : (operands : List (List ℕ)) → length (order_from 0 (take 1 (or_stdin operands))) ≡ 1
sole_input operands = order_length 0 (take 1 (or_stdin operands)) ∙ one_of operands

pub few_inputs : (operands : List (List ℕ)) → count 1 512 operands ≡ [] → nat_le (length (order_from 0 operands)) 512 ≡ true
few_inputs = grind (arith, order_length)

pub record AreTwo (order : List Input) : Type 0 where
  pub first : Input
  pub second : Input
  pub are : order ≡ first ∷ second ∷ []
  pub differ : first ≡ second → ⊥

-- `comm` and `join` have two inputs
pub are_two : (operands : List (List ℕ)) → two_inputs operands ≡ [] → AreTwo (order_from 0 operands)
are_two (a ∷ b ∷ []) none = grind arith
are_two _ none = grind arith
