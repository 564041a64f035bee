-- A row has indices below 16, so the shuffle is defined. It moves the selected lanes to the front of what is stored.
use Rattle.ptflow.proofs
use proofs.Common.{◌∙◌, ◌++◌, [], ap, take, refl, slice_index_or, arith, w8, length-swz_l, SwzOk-from_below}
use proofs.Common.{IsCompressRow}
use proofs.Vectors.Compress.{few_in_row, length-flags_of, row_lanes, row_of_mask, row_selects, selected_stored}
use proofs.simd.compress.CompressTable.compress8.Goals as goal

pub swizzle : goal.swizzle
swizzle c =
    SwzOk-from_below w8 16 1 16 0 _ refl (omega arith)
    (row_lanes _ (row_of_mask _ _ c.args.self.now.is_table (omega arith)).lanes)

pub returns-clause-packed : goal.returns-clause-packed
returns-clause-packed c flags long masked =
    let v = c.args.v in
    let row = slice_index_or c.args.self.now.rows c.from.result [] in
    let is : IsCompressRow flags row = rw (c.from.ensures, masked) (c.args.self.now.is_table flags long) in
    rw c.from-count.ensures (
    selected_stored _ _ _ _
    (length-swz_l w8 16 v 0 row ∙ is.long) (omega (arith, few_in_row _ row is)) (omega arith)
    ∙ ap (λ kept. take c.args.at c.args.into.now ++ kept) (row_selects _ row v c.fits-v.0 long is)
    )

pub returns-clause-end : goal.returns-clause-end
returns-clause-end c =
    let is = row_of_mask c.args.self.now.rows c.from.result c.args.self.now.is_table (omega arith) in
    (omega arith, omega (arith, few_in_row _ _ is, length-flags_of 8 c.from.result))
