-- The indices of a shuffle are below 16, and it selects no more bytes than the piece has.
use Rattle.ptflow.proofs
use proofs.Common.{refl, arith, w8, SwzOk-from_below, piece_at}
use proofs.CutLemmas.CutBytes.{piece_copied, shuffle_few}
use proofs.Vectors.Compress.{row_lanes}
use proofs.tools.cut.bytes.Selection.copy16.Goals as goal

pub swizzle : goal.swizzle
swizzle c =
    let is = c.args.self.now.are_shuffles.pieces c.args.index (omega arith) in
    SwzOk-from_below w8 16 1 16 0 (piece_at _ c.args.index).row refl (omega arith) (row_lanes _ is.lanes)

pub returns-clause-copied : goal.returns-clause-copied
returns-clause-copied c = λ was before.
    let is = c.args.self.now.are_shuffles.pieces c.args.index (omega arith) in
    piece_copied _ _ _ _ _ was _ is c.from.ensures (omega arith) (omega arith) (omega arith) before

pub returns-clause-near : goal.returns-clause-near
returns-clause-near c =
    let is = c.args.self.now.are_shuffles.pieces c.args.index (omega arith) in
    (omega arith, omega (arith, (shuffle_few _ is c.args.count (omega arith))))
