-- The loop of `CharClass::get`: the byte with the index that is left, among the ranges that are left, is the one
-- that is looked for.
use Rattle.ptlangs.proofs
use proofs.Common.{drop, flat_map, range_bytes, slice_get, ◌≡◌}
use proofs.tr.classes.CharClass.get.Given as goal

abbrev pub invariant-loop-first : goal.invariant-loop-first
invariant-loop-first l =
    slice_get (flat_map range_bytes (drop l.first-index l.ranges)) l.left
    ≡ slice_get (flat_map range_bytes l.ranges) l.index
