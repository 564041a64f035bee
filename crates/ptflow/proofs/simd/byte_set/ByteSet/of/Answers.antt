-- Each iteration stores the flags of two bytes, which are 128 apart. At the end the tables have all flags.
use Rattle.ptflow.proofs
use proofs.Common.{false, sym, ap, ◌∙◌, arith, from_bool, get_or-drop}
use proofs.Vectors.Lanes.{set_of_nibbles, one_more_flag}
use proofs.simd.byte_set.ByteSet.of.Goals as goal

pub loop-byte-preserved : goal.loop-byte-preserved
loop-byte-preserved c = record {
  low = one_more_flag c.loop-byte.invariant.low (omega arith) c.from.ensures;
  high = one_more_flag c.loop-byte.invariant.high (omega arith)
      (c.from-in-loop-byte.ensures ∙ ap from_bool (sym (get_or-drop 128 c.args.flags.now c.loop-byte.byte false)));
}

pub returns : goal.returns
returns c = set_of_nibbles _ _ _ c.loop-byte-test.false c.loop-byte.invariant.low c.loop-byte.invariant.high
