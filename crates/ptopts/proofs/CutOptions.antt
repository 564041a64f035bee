-- The options `-b` (98), `-c` (99) and `-f` (102) of `cut` conflict: beside one, the others are absent and have no
-- fault.
use Rattle.ptopts.proofs
use Rattle.ptopts.specs
use proofs.Common.{Bool, Cut, Fault, IsSome, List, None, ParsedOption, Some, [], arith, constraint_fault}
use proofs.Common.{constraints_fault, false, has_option, refl, true, value_of, ℕ, ◌&&◌, ◌∷◌, ◌≡◌}
use specs.Private.Faults.{is_cut_list, value_fault}
use specs.declared.tool.Constraint.TheVariants.{Conflict}
use Rattle.std.specs.Prelude.{All, if◌then◌else◌}

valueless : (letter : ℕ) (os : List ParsedOption) → has_option letter os ≡ false → value_of letter os ≡ None
valueless _ [] none = refl
valueless letter (o ∷ os) none = grind (arith, valueless letter os)

not_both : (one other : Bool) (fault : Fault) → (if one && other then Some fault else None) ≡ None → one ≡ true
    → other ≡ false
not_both = grind arith

given : (letter : ℕ) (os : List ParsedOption) → IsSome (value_of letter os) → has_option letter os ≡ true
given = grind (arith, valueless)

other_is_absent : (a b : ℕ) (os : List ParsedOption) → constraint_fault os (Conflict a b) ≡ None
    → IsSome (value_of a os) → value_of b os ≡ None
other_is_absent = grind (arith, not_both, given)

abbrev pub HasNoFault : List ParsedOption → ℕ → Type 0
HasNoFault os letter = value_fault os (letter, is_cut_list) ≡ None

pub all_three : (os : List ParsedOption) (b c f : ℕ) → HasNoFault os b → HasNoFault os c → HasNoFault os f
    → All (HasNoFault os) (b ∷ c ∷ f ∷ [])
all_three = grind arith

module _ (os : List ParsedOption) (none : constraints_fault Cut os ≡ None) where
  pub no_fault_beside_b : IsSome (value_of 98 os) → HasNoFault os 98 → All (HasNoFault os) (98 ∷ 99 ∷ 102 ∷ [])
  no_fault_beside_b = grind (arith, all_three, other_is_absent)

  pub no_fault_beside_c : IsSome (value_of 99 os) → HasNoFault os 98 → HasNoFault os 99
      → All (HasNoFault os) (98 ∷ 99 ∷ 102 ∷ [])
  no_fault_beside_c = grind (arith, all_three, other_is_absent)
