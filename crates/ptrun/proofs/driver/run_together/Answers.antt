-- Nothing is read if an operand could not be opened. Otherwise the inputs meet what the call that processes them
-- requires, and the end of the run follows from its result.
use Rattle.ptrun.proofs
use Rattle.ptrun.specs
use proofs.Common.{RunInputsPost, arith, false, false≢true, length-map, positions, sym, usual, words_view, ◌∙◌, ◌≡◌}
use proofs.JointRuns.{joint_post, joint_pre, none_unopened, unopened_run}
use proofs.OperandInputs.{position_in_range}
use proofs.RunEnds.{stored}
use specs.Private.Driver.{JointPre, ReportUnopenedPost, spec_together}
use proofs.driver.run_together.Given as given
use Rattle.ptrun.proofs.driver.run_together.Goals.{After-report_unopened, After-run_on_all-found}
use proofs.driver.run_together.Goals as goal

reported : (g : given.Over) (c : After-report_unopened g)
    → ReportUnopenedPost c.args.name.now (words_view c.args.operands.now.names.items)
    (positions c.args.operands.now.order.items) c.args.inputs.now c.args.messages.now c.report_unopened.new.messages
    c.report_unopened.result
reported g c =
    rw (c.deref-order.ensures.value, c.deref-names.ensures.value) at c.report_unopened.ensures

ready : (g : given.Over) (c : After-report_unopened g) → c.report_unopened.result ≡ false
    → JointPre (g.T.Joint.tool c.args.tool.now) (positions c.args.operands.now.order.items) c.args.inputs.now
    c.args.out.now c.args.store.now
ready g c none =
    let unused = c.requires.unused in
    joint_pre c.args.name.now _ (words_view c.args.operands.now.names.items) _ (reported g c) c.requires.given none
    unused.writable unused.store.not_denied unused.store.empty

processed : (g : given.Over) (c : After-run_on_all-found g)
    → JointPre (g.T.Joint.tool c.args.tool.now) (positions c.args.operands.now.order.items) c.args.inputs.now
    c.args.out.now c.args.store.now
    → RunInputsPost (spec_together c.args.name.now (g.T.Joint.tool c.args.tool.now)
    c.args.operands.now) c.args.inputs.now c.run_on_all-found.new.inputs c.args.out.now c.run_on_all-found.new.out
    c.report_unopened.new.messages c.report_unopened.new.messages c.args.store.now c.run_on_all-found.new.store
    c.run_on_all-found.result
processed g c ready = joint_post _ _ c.report_unopened.new.messages ready
    (rw (c.deref.ensures.0 ∙ c.positions_of.ensures, c.deref-order.ensures.value) at c.run_on_all-found.ensures)

pub positions_of-requires-clause-in_range : goal.positions_of-requires-clause-in_range
positions_of-requires-clause-in_range g c = rw c.deref-order.ensures.value (λ k d within. omega (
  arith,
  position_in_range _ _ c.requires.given.in_range k d within,
))

pub positions_of-requires-clause-few : goal.positions_of-requires-clause-few
positions_of-requires-clause-few g c = grind (arith, length-map)

pub run_on_all-found-requires : goal.run_on_all-found-requires
run_on_all-found-requires g c =
    rw (c.deref.ensures.0 ∙ c.positions_of.ensures, c.deref-order.ensures.value)
    (ready g (goal.at.run_on_all-found-requires g c).After-report_unopened c.if-report_unopened.false)

pub end_run-requires : goal.end_run-requires
end_run-requires g c =
    let at = goal.at.end_run-requires g c in
    let k = processed g at.After-run_on_all-found (ready g at.After-report_unopened c.if-report_unopened.false) in
    let named = c.requires.given.named in
    let names = c.deref-names.ensures.value in
    grind (usual, k.position)

pub returns-then-report_unopened-clause-run : goal.returns-then-report_unopened-clause-run
returns-then-report_unopened-clause-run g c =
    let k = reported g (goal.at.returns-then-report_unopened-clause-run g c).After-report_unopened in
    unopened_run c.args.name.now (g.T.Joint.tool c.args.tool.now) (words_view c.args.operands.now.names.items)
    (positions c.args.operands.now.order.items) k c.requires.given.fresh c.requires.unused c.if-report_unopened.true

pub returns-clause-run : goal.returns-clause-run
returns-clause-run g c =
    let none = c.if-report_unopened.false in
    let at = goal.at.returns-clause-run g c in
    let k = reported g at.After-report_unopened in
    stored (rw (none_unopened _ _ _ _ (sym k.is ∙ none)) at k.has_said)
    (processed g at.After-run_on_all-found (ready g at.After-report_unopened none))
    (rw c.deref-names.ensures.value at c.end_run.ensures) c.requires.given.fresh c.requires.unused
    (λ nothing. false≢true (sym (sym k.is ∙ none) ∙ nothing))

pub report_unopened-requires-clause-in_range : goal.report_unopened-requires-clause-in_range
report_unopened-requires-clause-in_range g c = rw c.deref-order.ensures.value c.requires.given.in_range

pub report_unopened-requires-clause-named : goal.report_unopened-requires-clause-named
report_unopened-requires-clause-named g c = rw c.deref-names.ensures.value c.requires.given.named
