-- Answers for `shifts_of`. From byte 255 down: a byte with the shift of the next one extends its stretch, one with
-- another shift starts a new stretch, and one that is its own image is in none. If a fifth stretch is needed, all
-- bytes need more than four. The stretches give the images.
use Rattle.ptlangs.proofs
use proofs.Common.{List, Stretch, ap, arith, drop_all, get_or, length, prepend_shift, shift_of, stretches_from, sym}
use proofs.Common.{◌-◌, usual}
use proofs.TrShifts.{moved_one, no_more_behind, moves_by}
use proofs.tr.shifts.shifts_of.Goals as goal

pub loop-index-init : goal.loop-index-init
loop-index-init c = record {
  within = omega arith;
  stretches = sym (ap (stretches_from 256) (drop_all 256 c.args.images.now (omega arith)));
}

pub returns-then-not-prepend-clause-found : goal.returns-then-not-prepend-clause-found
returns-then-not-prepend-clause-found c =
    let images = c.args.images.now in
    let n = c.loop-index.index in
    let one = moved_one n _ c.loop-index-test.true (omega arith) c.if-by-ne0.true in
    let kept = ap (λ (l : List Stretch). length (prepend_shift (n - 1) (shift_of (n - 1) (get_or images (n - 1) 0)) l))
    c.loop-index.invariant.stretches in
    omega (arith, no_more_behind (n - 1) images, ap length one)

pub returns-clause-moves : goal.returns-clause-moves
returns-clause-moves c = grind (usual, moves_by)

pub loop-index-preserved : goal.loop-index-preserved
loop-index-preserved c = grind usual
