-- The inputs of operands, as the proofs of runs go through them.
use Rattle.std.specs.Prelude.{ℕ, List, [], ◌∷◌, ◌++◌, Option, option_map, filter_map, unwrap_or, if◌then◌else◌}
use Rattle.ptlines.specs.Engines.{is_in}
use Rattle.ptrun.specs.Files.{InputBytes, at}

-- The bytes of the input at a position.
abbrev pub bytes_of : InputBytes → ℕ → List ℕ
bytes_of w position = unwrap_or (at w position) []

-- The input of an operand: that at its position, or `rest` if an operand before it has read that input.
abbrev pub input_of_operand : {X : Type 0} → X → List (Option X) → List ℕ → ℕ → Option X
input_of_operand rest xs before position = option_map (λ x. if is_in before position then rest else x) (at xs position)

-- The inputs of operands in order; `before` are the positions of the operands before them.
abbrev pub inputs_of_operands : {X : Type 0} → X → List (Option X) → List ℕ → List ℕ → List (Option X)
inputs_of_operands rest xs before [] = []
inputs_of_operands rest xs before (p ∷ ps) =
    input_of_operand rest xs before p ∷ inputs_of_operands rest xs (before ++ p ∷ []) ps

-- The inputs among these that were opened.
abbrev pub opened_values : {X : Type 0} → List (Option X) → List X
opened_values os = filter_map (λ o. o) os

-- The inputs of the operands that were opened, in order. Of an input that was read by an earlier operand only `rest` is
-- left.
abbrev pub opened_inputs : {X : Type 0} → X → List (Option X) → List ℕ → List X
opened_inputs rest xs positions = opened_values (inputs_of_operands rest xs [] positions)
