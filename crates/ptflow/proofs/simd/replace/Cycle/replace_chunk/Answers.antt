-- Each iteration replaces the terminator of the lowest bit of the mask by the next byte of the cycle.
use Rattle.ptflow.proofs
use proofs.Common.{rules, ◌≡◌, ◌+◌, ◌<◌, arith, count_ones, chunk, count_by, count_by-le-length, length-chunk}
use proofs.Common.{ones-mask_l, is_byte, refl}
use proofs.PasteLemmas.Replaced.{replace_starts, end_within, replace_next, replace_end}
use proofs.simd.replace.Cycle.replace_chunk.Goals as goal

pub loop-after-init : goal.loop-after-init
loop-after-init c = search (rules, replace_starts)

pub bounds-to-end : goal.bounds-to-end
bounds-to-end c = end_within c.loop-after.invariant c.mask_at-mask.ensures (omega arith)

pub loop-after-preserved : goal.loop-after-preserved
loop-after-preserved c =
    let v = chunk c.args.at 64 c.args.from.now in
    let p = is_byte c.args.self.now.terminator in
    let number = c.args.index + c.loop-after.after in
    let counted : count_ones c.mask_at-mask.result ≡ count_by p v = rw (c.mask_at-mask.ensures, ones-mask_l) in
    let low : number < c.args.self.now.len + 63 =
    omega (arith, count_by-le-length p v, length-chunk _ 64 _ c.requires.room) in
    replace_next c.loop-after.invariant c.mask_at-mask.ensures c.loop-after-test.true
    c.loop-after.auto.mask-fits.fits (c.args.self.now.is_unrolled.at number low) refl refl

pub returns-clause-next : goal.returns-clause-next
returns-clause-next c = rw (c.mask_at-mask.ensures, ones-mask_l) at c.after.ensures

pub returns-clause-replaced : goal.returns-clause-replaced
returns-clause-replaced c = (replace_end c.loop-after.invariant c.mask_at-mask.ensures (omega arith)).1
