-- A match mask of zero means that the bytes have no match; otherwise its lowest bit is the first one.
use Rattle.ptlines.proofs
use Rattle.std.proofs.Math.Nat.{zero-add}
use proofs.Common.{length, arith, sym, take_all}
use proofs.MatchMasks.{none_if_zero_mask, first_at_lowest_bit}
use proofs.scan.find_few.Goals as goal

pub returns-then-mask-eq0 : goal.returns-then-mask-eq0
returns-then-mask-eq0 g c =
    let bytes = c.args.bytes.now in
    let is = rw (sym (take_all (length bytes) bytes (omega arith))) at c.masks_of-mask.ensures.first in
    simp zero-add at (none_if_zero_mask _ _ 0 _ _ (omega arith) is c.if-mask-eq0.true)

pub returns : goal.returns
returns g c =
    let bytes = c.args.bytes.now in
    let is = rw (sym (take_all (length bytes) bytes (omega arith))) at c.masks_of-mask.ensures.first in
    simp zero-add at (first_at_lowest_bit _ _ 0 _ _ (omega arith) (omega arith) is c.if-mask-eq0.false)
