-- Each operand whose file could not be opened adds its message to those so far, and every other adds nothing. Each
-- position has a reader and a name. After the last operand, all were reported, and the result says whether there was
-- one.
use Rattle.ptrun.proofs
use proofs.Common.{IsSound, ap, arith, get_or_default, is_reader_unopened, no_reader, positions, reader_at, subst, sym}
use proofs.Common.{take, words_view, ◌∙◌, usual}
use proofs.MessageWrites.{said_nothing}
use proofs.OperandInputs.{any_before, any_now, holds_more, operand_step, position_in_range, positions_end, said_more}
use Rattle.ptrun.proofs.driver.report_unopened.Goals.{else-is_refused, then-is_refused}
use Rattle.ptrun.proofs.driver.report_unopened.Goals as goal

pub loop-input-init : goal.loop-input-init
loop-input-init g c = grind (arith, said_nothing)

pub loop-input-preserved : goal.loop-input-preserved
loop-input-preserved g c =
    let word = c.args.name.now in
    let names = words_view c.args.names.now in
    let inputs = c.args.inputs.now in
    let p = c.position_of-position.result in
    let i = c.loop-input.input-index in
    let done = take i (positions c.args.order.now) in
    let k = c.loop-input.invariant in
    let turn = operand_step c.args.order.now i _ c.requires.in_range
    c.loop-input-test.true c.position_of-position.ensures in
    let here = sym (c.index-inputs-position.is ∙ get_or_default inputs p _ no_reader turn.low) in
    let refused = ap (λ r. r.refused) here ∙ sym c.is_refused.ensures.refused in
    let sound = holds_more (λ q. IsSound (reader_at inputs q)) done p k.sound
    (subst IsSound (sym here) c.is_refused.ensures.sound) in
    elim c.if-is_refused.branch [
      | then-is_refused w ↦ rw (w.messages-is, w.any-is, turn.next) (record {
        message = said_more word names (is_reader_unopened inputs) done p k.message
            (rw (refused ∙ w.if-is_refused.true) (rw w.name_at.ensures at w.say_unopened.ensures));
        any_is = sym (any_now (is_reader_unopened inputs) done p (refused ∙ w.if-is_refused.true));
        sound = sound;
      })
      | else-is_refused w ↦ rw (w.messages-is, w.any-is, turn.next) (record {
        message = said_more word names (is_reader_unopened inputs) done p k.message
            (rw (refused ∙ w.if-is_refused.false) (said_nothing c.loop-input.messages));
        any_is = k.any_is ∙ sym (any_before (is_reader_unopened inputs) done p (refused ∙ w.if-is_refused.false));
        sound = sound;
      })
    ]

pub bounds-inputs-position : goal.bounds-inputs-position
bounds-inputs-position g c =
    (operand_step _ _ _ c.requires.in_range c.loop-input-test.true c.position_of-position.ensures).low

pub offset_bounds-inputs-position : goal.offset_bounds-inputs-position
offset_bounds-inputs-position g c = search ((bounds-inputs-position g c), arith)

pub name_at-requires : goal.name_at-requires
name_at-requires g c =
    let turn = operand_step _ _ _ c.requires.in_range c.loop-input-test.true c.position_of-position.ensures in
    grind usual

pub position_of-position-requires : goal.position_of-position-requires
position_of-position-requires g c = grind (arith, position_in_range)

pub returns : goal.returns
returns g c = grind (arith, positions_end)
