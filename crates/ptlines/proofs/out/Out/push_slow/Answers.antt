-- `push_slow`: the block, filled with the first of the bytes, is written, and the rest is pushed; or that write failed.
use Rattle.ptlines.proofs
use Rattle.std.proofs.Common.{rules, arith}
use proofs.Push.{push_broken, push_rest}
use proofs.out.Out.push_slow.Goals as goal

pub returns-in_err-write_out_block : goal.returns-in_err-write_out_block
returns-in_err-write_out_block g c = record {
  wrote = push_broken _ _ _ c.split_at.result.0.now c.split_at.result.1.now _ c.requires.unfailed
      (grind arith) c.append_to_block.ensures
      c.in_err-write_out_block.ensures.err;
  clean = search rules;
  fault = search rules;
}

pub returns : goal.returns
returns g c = push_rest _ _ _ _ c.split_at.result.0.now c.split_at.result.1.now _ _ c.requires.unfailed
    (grind arith) c.append_to_block.ensures
    c.in_ok-write_out_block.ensures.ok c.push_to_empty-2.ensures
