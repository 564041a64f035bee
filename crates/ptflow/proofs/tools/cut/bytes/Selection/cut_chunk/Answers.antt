-- A chunk of empty lines is its own output. Otherwise the lowest bit that is left is the next terminator (`next`), and
-- the line up to it is cut. Each set bit has one iteration, so none is left at the end.
use Rattle.ptflow.proofs
use proofs.Common.{◌≡◌, ◌+◌, suc, map, refl, ◌∙◌, ap, arith, count_ones, chunk, length-chunk, take_more_put_chunk}
use proofs.Common.{ones-mask_l, is_byte, cleared, count_chunk}
use lib.Count.{count_trailing_zeros}
use proofs.CutLemmas.CutBytes.{line_cut, terminators_next, cut_next}
use proofs.Vectors.NextTerminator.{NextTerminator, next_terminator}
use proofs.tools.cut.bytes.Selection.cut_chunk.Goals as goal
use Rattle.ptflow.proofs.tools.cut.bytes.Selection.cut_chunk.Goals.{In-loop-end}

pub returns-then-line-eq0-clause-on : goal.returns-then-line-eq0-clause-on
returns-then-line-eq0-clause-on c =
    let end = c.args.self.now.terminator in
    let line = c.args.line in
    record {
      cut = cut_next end _ _ _ _ _ _ _ _ _ _ (λ start bytes so_far. so_far)
          (take_more_put_chunk _ _ _ _ (omega (arith, length-chunk line.start 64 c.args.block.now (omega arith)))
          (omega arith))
          (terminators_next end _ _ (omega arith) c.if-line-from.true c.if-line-eq0.true
          c.requires.ends.is c.if-mask-eq18446744073709551615.true);
      bound = omega arith;
      near = omega arith;
    }

next : (c : In-loop-end) → NextTerminator c.args.self.now.terminator c.args.block.now c.args.from c.loop-end._end
    (count_trailing_zeros 64 c.loop-end.mask) c.loop-end.line.start
next c = next_terminator _ _ c.requires.ends (omega arith) c.loop-end.invariant.bits c.loop-end.invariant.ends

pub overflow_sub-end : goal.overflow_sub-end
overflow_sub-end c = (next (goal.at.overflow_sub-end c).In-loop-end).order

pub loop-end-preserved : goal.loop-end-preserved
loop-end-preserved c =
    let l = c.loop-end in
    let e = next (goal.at.loop-end-preserved c).In-loop-end in
    let turn : suc l._end ≡ l._end + 1 = omega arith in
    record {
      bits = rw (← turn) (cleared l._end (map (is_byte c.args.self.now.terminator)
          (chunk c.args.from 64 c.args.block.now)) l.auto.mask-fits.fits l.invariant.bits);
      within = omega arith;
      ends = e.counted;
      on = line_cut _ l.invariant.on e.first c.copy_line.ensures.copied (omega arith) refl (omega arith);
    }

pub returns-clause-same : goal.returns-clause-same
returns-clause-same c =
    let p = is_byte c.args.self.now.terminator in
    let same = count_chunk p c.args.block.now c.args.from in
    (c.loop-end.invariant.within, omega (arith, same, (ap count_ones c.requires.ends.is ∙ ones-mask_l p _)))
