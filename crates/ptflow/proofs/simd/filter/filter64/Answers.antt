-- All bytes are kept if none is equal to the one that it is compared with, or none is removed.
use Rattle.ptflow.proofs
use proofs.Common.{rules, usual, ◌+◌, arith, ◌∙◌, ap, ◌++◌, take}
use proofs.Vectors.Compress.{kept_in_four, none_equal_in_four}
use proofs.Vectors.Removal.{first_removed, kept_by, none_removed, one_removed}
use proofs.simd.filter.filter64.Goals as goal

pub returns-then-same_ab-same16-eq0-clause-kept : goal.returns-then-same_ab-same16-eq0-clause-kept
returns-then-same_ab-same16-eq0-clause-kept g c =
    let all = none_equal_in_four (g.T.ByteTest.has c.args.by.now.set) _ _ c.args.pairs.paired c.args.at c.requires.lanes
    (rw (c.same16.ensures, c.same16-2.ensures, c.same16-3.ensures, c.same16-4.ensures) at
    c.if-same_ab-same16-eq0.true) in grind usual

pub overflow_shl-index : goal.overflow_shl-index
overflow_shl-index g c = search (rules, first_removed)

pub returns-then-removed-eq0-clause-kept : goal.returns-then-removed-eq0-clause-kept
returns-then-removed-eq0-clause-kept g c =
    c.copy_chunk-then-removed-eq0.ensures.copied ∙ ap (◌++◌ (take c.args.count c.args.into.now))
    (search (rules, none_removed))

pub returns-then-from-at-ge128-clause-kept : goal.returns-then-from-at-ge128-clause-kept
returns-then-from-at-ge128-clause-kept g c =
    c.copy_all_but.ensures.copied ∙ ap (◌++◌ (take c.args.count c.args.into.now))
    (search (rules, one_removed))

pub returns-clause-kept : goal.returns-clause-kept
returns-clause-kept g c =
    let test = g.T.ByteTest.has c.args.by.now.set in
    let pairs = c.args.pairs in
    let at = c.args.at in
    let part = kept_by test _ _ pairs.paired in
    kept_in_four test pairs.before.now pairs.bytes.now pairs.paired at c.requires.lanes _
    (part at (omega arith) _ _ _ c.removed16-removed_a.ensures.mask c.compress16-first.ensures.packed)
    (part (at + 16) (omega arith) _ _ _ c.removed16-removed_b.ensures.mask c.compress16-second.ensures.packed)
    (part (at + 32) (omega arith) _ _ _ c.removed16-removed_c.ensures.mask c.compress16-third.ensures.packed)
    (part (at + 48) (omega arith) _ _ _ c.removed16-removed_d.ensures.mask c.compress16.ensures.packed)
