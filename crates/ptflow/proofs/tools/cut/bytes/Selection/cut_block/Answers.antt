-- The lines that end in a chunk are cut by `cut_chunk`. In a chunk without a terminator the line continues.
use Rattle.ptflow.proofs
use proofs.Common.{[], ap, arith, ◌∙◌, count_ones, ones-mask_l, is_byte, count_chunk}
use proofs.tools.cut.bytes.Selection.cut_block.Goals as goal

pub loop-from-preserved : goal.loop-from-preserved
loop-from-preserved c =
    let p = is_byte c.args.self.now.terminator in
    let loop = c.loop-from in
    elim c.if-mask-ne0.branch [
      | goal.then-mask-ne0 w ↦
          let cut = w.cut_chunk-line.ensures in
          rw (w.into-is, w.line-is) (record {
            within = omega arith;
            same = cut.same;
            cut = cut.on.cut _ _ loop.invariant.cut;
            bound = omega arith;
            near = cut.on.near;
          })
      | goal.else-mask-ne0 w ↦
          let none = ap count_ones w.if-mask-ne0.false ∙ ones-mask_l p [] in
          let counted = ap count_ones c.mask_at-mask.ensures ∙ ones-mask_l p _ in
          rw (w.into-is, w.line-is) (record {
            within = omega arith;
            same = (omega arith, omega (arith, count_chunk p c.args.block.now loop.from));
            cut = loop.invariant.cut;
            bound = loop.invariant.bound;
            near = loop.invariant.near;
          })
    ]
