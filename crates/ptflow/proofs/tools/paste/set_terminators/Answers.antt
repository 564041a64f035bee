-- A reader that several columns use is set more than once, with no further effect.
use Rattle.ptflow.proofs
use proofs.Common.{◌≡◌, ◌<◌, Bool, cond, length, get_or, arith, terminator}
use borrow.Author.Rules.{scaled_Fits}
use proofs.PasteLemmas.BufferedRows.Rows.{at_index, set_terminator_more}
use proofs.tools.paste.set_terminators.Goals as goal

ending_is : (zero : Bool) → cond zero 0 10 ≡ terminator zero
ending_is = grind arith

pub loop-input-preserved : goal.loop-input-preserved
loop-input-preserved g c =
    let i = c.loop-input.input-index in
    let now = c.loop-input.readers in
    let within : get_or c.args.cells.now i 0 < length now = omega (arith, c.requires i 0 c.loop-input-test.true) in
    set_terminator_more _ _ i _ now _ c.loop-input-test.true within c.loop-input.invariant
    (rw (at_index now _ _ within, ending_is) at c.set_ending.ensures.set) c.set_ending.ensures.is_sound

pub bounds-readers-input : goal.bounds-readers-input
bounds-readers-input g c =
    let low = c.requires c.loop-input.input-index 0 c.loop-input-test.true in omega arith

pub offset_bounds-cells-input-index : goal.offset_bounds-cells-input-index
offset_bounds-cells-input-index g c = search scaled_Fits

pub offset_bounds-readers-input : goal.offset_bounds-readers-input
offset_bounds-readers-input g c =
    let low = c.requires c.loop-input.input-index 0 c.loop-input-test.true in search scaled_Fits
