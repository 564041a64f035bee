-- Answers for `CharPlan::read`, if there are two strings: the plan that `of_two` makes, or its fault in the second
-- string, is that of both strings. And the fault of the first string.
use Rattle.ptlangs.proofs
use proofs.Common.{SetFault, ap, arith, in_string, ok_map, plan, result_map_both, sym, tables, ◌∙◌, ◌≡◌}
use proofs.TrArrays.{on_fault}
use proofs.TrPlans.{first_fails, in_string-ok, mapped_ok, plan_two}
use Rattle.std.specs.Option.{option_copied}
use Rattle.ptlangs.specs.declared.faults.SetString.TheVariants as string
use proofs.tr.plan.CharPlan.read.Goals as goal

pub returns : goal.returns
returns c =
    let (firsts, read, first) = mapped_ok _ c.in_ok-first.first
    (in_string-ok _ _ _ c.in_ok-first.ensures ∙ c.read_first.ensures.is) in
    c.in_string-2.ensures ∙ ap (in_string string.Second) (grind arith)
    ∙ plan_two c.args.form c.args.complement c.args.s1.now c.in-Some.s2.now firsts read
    ∙ ap (λ o. result_map_both tables (λ (f : SetFault). f)
    (plan c.args.form c.args.complement c.args.s1.now (option_copied o))) (sym c.in-Some.is)

pub returns-in_err-first : goal.returns-in_err-first
returns-in_err-first c =
    let (_, is) = c.from_residual.ensures in
    on_fault (λ r. r ≡ ok_map tables (plan c.args.form c.args.complement c.args.s1.now (option_copied c.args.s2))) _
    c.in_err-first.field-0.0 is
    (first_fails _ c.args.form c.args.complement c.args.s1.now (option_copied c.args.s2) c.in_err-first.field-0.0
    (ap (in_string string.First) (sym c.read_first.ensures.is) ∙ sym c.in_string.ensures ∙ c.in_err-first.was))
