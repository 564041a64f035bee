-- Answers for `CharPlan::of_one`: its tables are those of the plan, for the form that deletes and for the form that
-- squeezes.
use Rattle.ptlangs.proofs
use proofs.Common.{Contents, Delete, Form, Squeeze, [], ap, plan_of, sym, tables, ◌∙◌}
use proofs.TrArrays.{none_contained}
use proofs.TrPlans.{is_squeeze, tables_are}
use proofs.tr.plan.CharPlan.of_one.Goals as goal

pub returns-in-Delete : goal.returns-in-Delete
returns-in-Delete c = λ bytes e.
    c.new.ensures ∙ tables_are (plan_of Delete bytes []) (ap (λ (q : Contents). q.has) e) (c.identity.ensures [])
    none_contained
    ∙ ap (λ (f : Form). tables (plan_of f bytes [])) (sym c.in-Delete.is)

pub returns-in_default : goal.returns-in_default
returns-in_default c = λ bytes e.
    c.new-in_default.ensures ∙ tables_are (plan_of Squeeze bytes []) none_contained
    (c.identity-in_default.ensures []) (ap (λ (q : Contents). q.has) e)
    ∙ ap (λ (f : Form). tables (plan_of f bytes [])) (sym (is_squeeze _ c.requires c.in_default.not-Delete))
