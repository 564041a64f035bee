-- The loop and the last 8 bytes cover the shorter slice; if all are equal, the lengths decide.
use Rattle.ptlines.proofs
use proofs.Common.{◌∙◌, arith}
use proofs.ByteOrder.{word_8, words_differ, words_same, shorter_prefix_same, cmp_by_length}
use proofs.cmp.compare_tail.Goals as goal

pub returns-then-x-y : goal.returns-then-x-y
returns-then-x-y c =
    c.cmp.ensures ∙ words_differ word_8 _ c.args.a.now c.args.b.now (omega arith)
    c.type_inv.a c.type_inv.b c.loop-at.invariant.same c.read_u64-x.ensures c.read_u64-y.ensures c.if-x-y.true

pub loop-at-preserved : goal.loop-at-preserved
loop-at-preserved c = record {
  within = omega arith;
  same = words_same word_8 _ c.args.a.now c.args.b.now (omega arith)
      c.type_inv.a c.type_inv.b c.loop-at.invariant.same c.read_u64-x.ensures c.read_u64-y.ensures c.if-x-y.false;
}

pub returns-then-x-y-2 : goal.returns-then-x-y-2
returns-then-x-y-2 c =
    let a = c.args.a.now in
    let b = c.args.b.now in
    let same = shorter_prefix_same _ _ a b (omega arith) c.loop-at.invariant.same in
    c.cmp-then-x-y-2.ensures ∙ words_differ word_8 _ a b (omega arith)
    c.type_inv.a c.type_inv.b same c.read_u64-x-2.ensures c.read_u64-y-2.ensures c.if-x-y-2.true

pub returns : goal.returns
returns c =
    let a = c.args.a.now in
    let b = c.args.b.now in
    let same = shorter_prefix_same _ _ a b (omega arith) c.loop-at.invariant.same in
    let all = words_same word_8 _ a b (omega arith)
    c.type_inv.a c.type_inv.b same c.read_u64-x-2.ensures c.read_u64-y-2.ensures c.if-x-y-2.false in
    c.cmp-2.ensures ∙ cmp_by_length _ a b c.min-least.ensures (grind arith)
