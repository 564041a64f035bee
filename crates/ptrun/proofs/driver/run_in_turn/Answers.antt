-- Each operand in turn is processed, or reported if it could not be opened; its position has a reader and a name. If
-- an operand fails, the run stops there, and the operands after it are unchanged. After the last one, all are done. Then
-- the output is finished and the last message said. No message comes before those about the operands.
use Rattle.ptrun.proofs
use proofs.Common.{arith, false≢true, length, refl, scaled_Fits, sym, ◌∙◌, usual}
use proofs.MessageWrites.{said_nothing}
use proofs.OperandInputs.{OperandStep, operand_step, position_in_range, positions_end}
use proofs.RunEnds.{stored}
use proofs.Sequential.{done_all, done_nothing, done_operand, done_stopped, done_unopened, fault_below}
use proofs.Sequential.{operand_ready}
use Rattle.ptrun.proofs.driver.run_in_turn.Given as given
use Rattle.ptrun.proofs.driver.run_in_turn.Goals.{After-position_of-position, then-is_refused, else-is_refused+in_default}
use Rattle.ptrun.proofs.driver.run_in_turn.Goals as goal

turn : (g : given.Over) (c : After-position_of-position g)
    → OperandStep c.deref-order.result.now c.loop-input.input-index c.position_of-position.result
    (length c.args.inputs.now)
turn g c =
    operand_step _ _ _ (rw c.deref-order.ensures.value c.requires.given.in_range) c.loop-input-test.true
    c.position_of-position.ensures

pub loop-input-init : goal.loop-input-init
loop-input-init g c =
    let unused = c.requires.unused in
    done_nothing c.requires.given.fresh unused.writable unused.store.not_denied unused.store.empty

pub run_on_one-requires : goal.run_on_one-requires
run_on_one-requires g c =
    operand_ready c.requires.given.fresh c.loop-input.invariant
    (turn g (goal.at.run_on_one-requires g c).After-position_of-position).low _ _
    (sym c.is_refused.ensures.refused ∙ c.if-is_refused.false)

pub loop-input-preserved : goal.loop-input-preserved
loop-input-preserved g c =
    let k = c.loop-input.invariant in
    let d = c.index-inputs-position.result in
    let turn = turn g (goal.at.loop-input-preserved g c).After-position_of-position in
    elim c.if-is_refused.branch [
      | then-is_refused w ↦
          simp (w.inputs-is, w.store-is, w.out-is, w.messages-is, w.done-is, turn.next)
          (done_unopened c.requires.given.fresh k turn.low d (sym c.is_refused.ensures.refused ∙ w.if-is_refused.true)
          (rw w.name_at.ensures at w.say_unopened.ensures))
      | else-is_refused+in_default w ↦
          simp (w.inputs-is, w.store-is, w.out-is, w.messages-is, w.done-is, turn.next)
          (done_operand c.requires.given.fresh k turn.low _ _ (sym c.is_refused.ensures.refused ∙ w.if-is_refused.false)
          c.is_refused.ensures.sound refl w.run_on_one.ensures w.in_default.is)
    ]

pub bounds-inputs-position : goal.bounds-inputs-position
bounds-inputs-position g c =
    omega (arith, (turn g (goal.at.bounds-inputs-position g c).After-position_of-position).low)

pub bounds-inputs-position-else-is_refused : goal.bounds-inputs-position-else-is_refused
bounds-inputs-position-else-is_refused g c =
    omega (arith, (turn g (goal.at.bounds-inputs-position-else-is_refused g c).After-position_of-position).low)

pub offset_bounds-inputs-position : goal.offset_bounds-inputs-position
offset_bounds-inputs-position g c =
    search (scaled_Fits, (turn g (goal.at.offset_bounds-inputs-position g c).After-position_of-position).low)

pub offset_bounds-inputs-position-else-is_refused : goal.offset_bounds-inputs-position-else-is_refused
offset_bounds-inputs-position-else-is_refused g c =
    search (scaled_Fits, c.loop-input.long-inputs, (bounds-inputs-position-else-is_refused g c))

pub name_at-requires : goal.name_at-requires
name_at-requires g c =
    let turn = turn g (goal.at.name_at-requires g c).After-position_of-position in
    let named = c.requires.given.named in
    let names = c.deref-names.ensures.value in
    grind (usual, turn.low)

pub position_of-position-requires : goal.position_of-position-requires
position_of-position-requires g c =
    let order = c.deref-order.ensures.value in
    grind (arith, position_in_range)

pub end_run-requires : goal.end_run-requires
end_run-requires g c =
    let turn = turn g (goal.at.end_run-requires g c).After-position_of-position in
    let named = c.requires.given.named in
    let names = c.deref-names.ensures.value in
    rw c.fault_at.ensures (fault_below (grind (usual, turn.low)) _)

pub returns-in-Err-clause-run : goal.returns-in-Err-clause-run
returns-in-Err-clause-run g c =
    let turn = turn g (goal.at.returns-in-Err-clause-run g c).After-position_of-position in
    rw (← c.deref-names.ensures.value, ← c.deref-order.ensures.value)
    (stored (said_nothing c.args.messages.now)
    (done_stopped c.requires.given.fresh c.loop-input.invariant turn.low _ _
    (sym c.is_refused.ensures.refused ∙ c.if-is_refused.false) c.is_refused.ensures.sound refl c.run_on_one.ensures
    (g.met.T.Sequential.decides_all c.args.tool.now) _ turn.split c.in-Err.is)
    (rw c.fault_at.ensures at c.end_run.ensures) c.requires.given.fresh c.requires.unused
    (λ nothing. false≢true nothing))

pub end_run-requires-2 : goal.end_run-requires-2
end_run-requires-2 g c =
    let k = done_all c.requires.given.fresh c.loop-input.invariant (g.met.T.Sequential.decides_all c.args.tool.now)
    (positions_end c.deref-order.result.now c.loop-input.input-index c.loop-input-test.false) in
    let named = c.requires.given.named in
    let names = c.deref-names.ensures.value in
    grind (usual, k.position)

pub returns-clause-run : goal.returns-clause-run
returns-clause-run g c =
    rw (← c.deref-names.ensures.value, ← c.deref-order.ensures.value)
    (stored (said_nothing c.args.messages.now)
    (done_all c.requires.given.fresh c.loop-input.invariant (g.met.T.Sequential.decides_all c.args.tool.now)
    (positions_end c.deref-order.result.now c.loop-input.input-index c.loop-input-test.false))
    c.end_run-2.ensures c.requires.given.fresh c.requires.unused (λ nothing. false≢true nothing))
