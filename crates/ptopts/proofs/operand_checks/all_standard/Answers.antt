-- `all_standard`: the check of every operand by the code gives what the definition gives.
use Rattle.ptopts.proofs
use proofs.Common.{Bor, List, YieldsList-from_slice, all_from_yields_List, is_standard, rules, sym, ℕ, ◌∙◌}
use Rattle.std.proofs.lemmas.List.Folds.{list_all-map}
use proofs.operand_checks.all_standard.Goals as goal

pub returns : goal.returns
returns c =
    let all = c.args.operands.now in
    all_from_yields_List (λ (w : Bor (List ℕ)). is_standard w.now) _ _ _ c.all.ensures.ran
    (YieldsList-from_slice all cc) (λ x b q k. search rules)
    ∙ sym (list_all-map is_standard _ all)
