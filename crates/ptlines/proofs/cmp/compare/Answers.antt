-- `compare`: the first 8 bytes, as numbers, decide if they differ. If not, they are equal, as `compare_tail` requires.
use Rattle.ptlines.proofs
use proofs.Common.{◌∙◌, refl, arith}
use proofs.ByteOrder.{word_8, words_differ, words_same}
use proofs.cmp.compare.Goals as goal

pub returns-then-x-y : goal.returns-then-x-y
returns-then-x-y c =
    c.cmp.ensures ∙ words_differ word_8 0 c.args.a.now c.args.b.now (omega arith)
    c.type_inv.a c.type_inv.b refl c.read_u64-x.ensures c.read_u64-y.ensures c.if-x-y.true

pub compare_tail-requires : goal.compare_tail-requires
compare_tail-requires c = record {
  long = omega arith;
  same = words_same word_8 0 c.args.a.now c.args.b.now (omega arith)
      c.type_inv.a c.type_inv.b refl c.read_u64-x.ensures c.read_u64-y.ensures c.if-x-y.false;
}
