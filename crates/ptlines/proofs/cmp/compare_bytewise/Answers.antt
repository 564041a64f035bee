-- The first byte that differs decides. If none does, one slice is a prefix of the other, so the lengths decide.
use Rattle.ptlines.proofs
use Rattle.std.proofs.Common.{◌∙◌, arith}
use proofs.ByteOrder.{word_1, byte_at, words_differ, cmp_by_length}
use proofs.cmp.compare_bytewise.Goals as goal

pub returns-then-a-at : goal.returns-then-a-at
returns-then-a-at c =
    let at = c.loop-at.at in
    let a = c.args.a.now in
    let b = c.args.b.now in
    c.cmp.ensures ∙ words_differ word_1 at a b (omega arith)
    c.type_inv.a c.type_inv.b c.loop-at.invariant (byte_at at a) (byte_at at b) c.if-a-at.true

pub returns : goal.returns
returns c = grind (arith, cmp_by_length)
