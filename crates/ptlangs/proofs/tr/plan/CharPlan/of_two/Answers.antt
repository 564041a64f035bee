-- Answers for `CharPlan::of_two`: its tables are those of the plan, for the form that deletes and for those that
-- translate, or the fault is that of the images. The second string is read first without a fill, to find how many
-- bytes a fill has. It has the same segments each time (`seen`), or the same fault.
use Rattle.ptlangs.proofs
use proofs.Common.{List, Segment, [], arith, contents_of, first_array, first_members, member_results, ok_map, rules}
use proofs.Common.{segments_of, tables, ◌∙◌, ◌≡◌}
use proofs.TrArrays.{none_contained, on_fault}
use proofs.TrPlans.{SecondRead, second_fails, second_read}
use Rattle.ptlangs.proofs.tr.plan.CharPlan.of_two.Goals.{Joined-form}
use Rattle.ptlangs.proofs.tr.plan.CharPlan.of_two.Goals.{in-Translate, in_default+in_ok-squeezed-in_default}
use Rattle.ptlangs.proofs.tr.plan.CharPlan.of_two.Goals as goal
use Rattle.ptlangs.specs.TrPlan.{second_plan}

seen : (c : Joined-form) (firsts : List Segment)
    → c.args.first.now ≡ contents_of (first_array c.args.complement firsts)
    → SecondRead c.args.form (first_array c.args.complement firsts) (first_members c.args.complement firsts)
    (member_results c.saturating_sub-fill.result (segments_of c.second_role-role.result c.args.s2.now))
    c.match-form.squeezed (ok_map tables (second_plan c.args.form c.args.complement firsts c.args.s2.now))
seen c firsts f =
    second_read c.args.form c.args.complement firsts c.args.s2.now c.second_role-role.result _ _ _ _
    c.requires.form c.second_role-role.ensures c.in_ok-unfilled.ensures.is c.saturating_sub-fill.ensures f
    (λ ps read. elim c.match-form.branch [
      | in-Translate w ↦ search (rules, none_contained)
      | in_default+in_ok-squeezed-in_default w ↦ grind arith
    ])

pub returns-in-DeleteSqueeze : goal.returns-in-DeleteSqueeze
returns-in-DeleteSqueeze c = λ firsts e f.
    let r = seen (goal.at.returns-in-DeleteSqueeze c).Joined-form firsts f in
    rw (c.new.ensures, f) (r.deletes c.in-DeleteSqueeze.is (c.identity.ensures []))

pub returns-in_err-table : goal.returns-in_err-table
returns-in_err-table c = λ firsts e f.
    let r = seen (goal.at.returns-in_err-table c).Joined-form firsts f in
    let is = r.translates c.in_default-form.not-DeleteSqueeze
    (c.in_err-table.ensures firsts _ e f (c.new-2.ensures.all ∙ r.left)) in
    search (rules, on_fault)

pub returns : goal.returns
returns c = λ firsts e f.
    let r = seen (goal.at.returns c).Joined-form firsts f in
    rw c.new-3.ensures (r.translates c.in_default-form.not-DeleteSqueeze
    (c.in_ok-table.ensures firsts _ e f (c.new-2.ensures.all ∙ r.left)))

pub returns-in_err-unfilled : goal.returns-in_err-unfilled
returns-in_err-unfilled c = λ firsts e f.
    let (_, is) = c.from_residual.ensures in
    on_fault (λ r. r ≡ ok_map tables (second_plan c.args.form c.args.complement firsts c.args.s2.now)) _
    c.in_err-unfilled.field-0.0 is
    (second_fails _ c.args.form c.args.complement firsts c.args.s2.now _ _ c.second_role-role.ensures
    c.in_err-unfilled.ensures.is)

pub returns-in_err-squeezed-in_default : goal.returns-in_err-squeezed-in_default
returns-in_err-squeezed-in_default c = λ firsts e f.
    let (_, is) = c.from_residual-in_err-squeezed-in_default.ensures in
    on_fault (λ r. r ≡ ok_map tables (second_plan c.args.form c.args.complement firsts c.args.s2.now)) _
    c.in_err-squeezed-in_default.field-0.0 is
    (second_fails _ c.args.form c.args.complement firsts c.args.s2.now _ _ c.second_role-role.ensures
    c.in_err-squeezed-in_default.ensures.is)
