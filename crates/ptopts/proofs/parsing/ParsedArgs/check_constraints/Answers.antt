-- The constraints before this one are met, so the first fault is that of this one, or of the remaining ones.
use Rattle.ptopts.proofs
use proofs.Common.{CheckPost, Fault, IsSome, List, None, Option, constraint_fault, constraints_fault, drop, first_some}
use proofs.Common.{get_or, length, map, on_fault, options_of, sym, ℕ, ◌+◌, ◌<◌, ◌∙◌, ◌≡◌, arith}
use Rattle.std.proofs.lemmas.List.{drop_more}
use proofs.parsing.ParsedArgs.check_constraints.Goals as goal

fault_found : {A : Type 0} (f : A → Option Fault) (xs : List A) (i : ℕ) (d : A) {v : Option Fault} → i < length xs
    → IsSome v → v ≡ f (get_or xs i d) → first_some (map f (drop i xs)) ≡ v
fault_found = grind (arith, drop_more)

none_found : {A : Type 0} (f : A → Option Fault) (xs : List A) (i : ℕ) (d : A) → i < length xs
    → f (get_or xs i d) ≡ None → first_some (map f (drop i xs)) ≡ first_some (map f (drop (i + 1) xs))
none_found = grind (arith, drop_more)

pub returns-in_err-check_constraint : goal.returns-in_err-check_constraint
returns-in_err-check_constraint g c =
    let (some, is) = c.in_err-check_constraint.ensures in
    on_fault (λ r. CheckPost r (constraints_fault c.args.tool (options_of c.args.self.now))) _ _
    c.from_residual.ensures.1 (
      some,
      sym (c.loop-constraint.invariant
          ∙ fault_found (constraint_fault _) _ _ _ c.loop-constraint-test.true some is),
    )

pub loop-constraint-preserved : goal.loop-constraint-preserved
loop-constraint-preserved g c = grind (arith, none_found, constraint_fault, options_of)
