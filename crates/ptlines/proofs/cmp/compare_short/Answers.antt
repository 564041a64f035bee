-- The first 4 bytes and the last 4, compared as numbers, cover the shorter slice; if all are equal, the lengths decide.
use Rattle.ptlines.proofs
use proofs.Common.{◌∙◌, refl, arith}
use proofs.ByteOrder.{word_4, words_differ, words_same, shorter_prefix_same, cmp_by_length}
use proofs.cmp.compare_short.Goals as goal

pub returns-then-x-y : goal.returns-then-x-y
returns-then-x-y c =
    c.cmp.ensures ∙ words_differ word_4 0 c.args.a.now c.args.b.now (omega arith)
    c.type_inv.a c.type_inv.b refl c.read_u32-x.ensures c.read_u32-y.ensures c.if-x-y.true

pub returns-then-x-y-2 : goal.returns-then-x-y-2
returns-then-x-y-2 c =
    let a = c.args.a.now in
    let b = c.args.b.now in
    let first = words_same word_4 0 a b (omega arith)
    c.type_inv.a c.type_inv.b refl c.read_u32-x.ensures c.read_u32-y.ensures c.if-x-y.false in
    c.cmp-then-x-y-2.ensures ∙ words_differ word_4 _ a b (omega arith)
    c.type_inv.a c.type_inv.b (shorter_prefix_same _ 4 a b (omega arith) first) c.read_u32-x-2.ensures
    c.read_u32-y-2.ensures c.if-x-y-2.true

pub returns : goal.returns
returns c =
    let a = c.args.a.now in
    let b = c.args.b.now in
    let first = words_same word_4 0 a b (omega arith)
    c.type_inv.a c.type_inv.b refl c.read_u32-x.ensures c.read_u32-y.ensures c.if-x-y.false in
    let all = words_same word_4 _ a b (omega arith)
    c.type_inv.a c.type_inv.b (shorter_prefix_same _ 4 a b (omega arith) first) c.read_u32-x-2.ensures
    c.read_u32-y-2.ensures c.if-x-y-2.false in
    c.cmp-2.ensures ∙ cmp_by_length _ a b c.min-least.ensures (grind arith)
