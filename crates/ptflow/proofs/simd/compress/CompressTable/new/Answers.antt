-- Each row is what `compress_row` makes of its mask.
use Rattle.ptflow.proofs
use proofs.Common.{[], refl, mask_l}
use proofs.Vectors.Compress.{mask_below}
use proofs.simd.compress.CompressTable.new.Goals as goal

pub invariant_of-result : goal.invariant_of-result
invariant_of-result c = record {
  is_table = λ flags long.
      let made = c.from_fn.ensures.items.at (mask_l flags) [] (mask_below _ long) in
      made.2.met flags long refl;
}
