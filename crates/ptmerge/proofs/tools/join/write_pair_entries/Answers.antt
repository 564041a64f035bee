-- Each iteration writes the pair with the next line of the group. A write that fails leaves a prefix of the pairs.
use Rattle.ptmerge.proofs
use Rattle.std.proofs.Common.{◌++◌, ◌≤◌, ◌≡◌, [], ◌∷◌, List, ℕ, ap, arith, sym, map, Ok, subst}
use proofs.Common.{lines_of_slots, join_job, pair_entries, unlines, usual}
use Rattle.ptmerge.specs.Private.Write.{WriteBytesPost}
use Rattle.ptlines.specs.declared.out.WriteFault.{WriteFault}
use Rattle.ptmerge.specs.Calls.Cursor.{HasSlots}
use Rattle.ptmerge.specs.Private.JoinGroup.{group_end_slot}
use Rattle.ptmerge.specs.declared.key_order.Side.TheVariants.{Second}
use Rattle.ptmerge.specs.declared.merging.cursor.Sorted.{Sorted}
use proofs.JoinLemmas.Fields.{each_fails, each_more}
use proofs.JoinLemmas.Group.{pair_of, group_from}
use proofs.tools.join.write_pair_entries.Goals as goal

-- The slots of the group exist: those of the lines that were copied, or that of the second input's previous line.
ends_within : {slot count : ℕ} (second : Sorted) (end : ℕ) → slot ≡ group_end_slot second end → HasSlots Second second
    → 4 ≤ count → end ≤ count → slot ≤ count
ends_within = grind arith

pub returns-in_err-write_pair : goal.returns-in_err-write_pair
returns-in_err-write_pair g c =
    let slots = c.slots-slots.ensures in
    let within = ends_within c.args.merge.now.second c.args.group.end slots.last c.requires.valid_cursors.second
    c.requires.valid_cursors.slots c.requires.group.within.1 in
    subst (λ bytes. WriteBytesPost c.args.out.now c.write_pair.new.out bytes c.from_residual.result)
    (λ i. unlines c.args.terminator (pair_entries (join_job c.args.job.now) (c.key-key.ensures i)
    (c.head-one.ensures i ∷ []) (lines_of_slots c.args.store.now (slots.first i) (slots.last i))))
    (each_fails (λ (l : List ℕ). l ++ c.args.terminator ∷ [])
    (ap (map (pair_of (join_job c.args.job.now) c.key-key.result.now c.head-one.result.now))
    (group_from c.args.store.now _ _ within c.loop-slot-test.true))
    c.loop-slot.invariant.amid
    (rw (sym c.line.ensures) c.write_pair.ensures.wrote) c.in_err-write_pair.ensures.fault _
    c.from_residual.ensures.1)

pub loop-slot-preserved : goal.loop-slot-preserved
loop-slot-preserved g c =
    let within = ends_within c.args.merge.now.second c.args.group.end c.slots-slots.ensures.last
    c.requires.valid_cursors.second c.requires.valid_cursors.slots c.requires.group.within.1 in
    record {
      amid = each_more (λ (l : List ℕ). l ++ c.args.terminator ∷ [])
          (ap (map (pair_of (join_job c.args.job.now) c.key-key.result.now c.head-one.result.now))
          (group_from c.args.store.now _ _ within c.loop-slot-test.true))
          c.loop-slot.invariant.amid
          (rw (sym c.line.ensures) c.write_pair.ensures.wrote) c.in_ok-write_pair.ensures.clean;
      from = omega arith;
    }

pub returns : goal.returns
returns g c =
    let slots = c.slots-slots.ensures in
    subst (λ bytes. WriteBytesPost {E = WriteFault} c.args.out.now c.loop-slot.out bytes (Ok tt))
    (λ i. unlines c.args.terminator (pair_entries (join_job c.args.job.now) (c.key-key.ensures i)
    (c.head-one.ensures i ∷ []) (lines_of_slots c.args.store.now (slots.first i) (slots.last i))))
    (grind usual)
