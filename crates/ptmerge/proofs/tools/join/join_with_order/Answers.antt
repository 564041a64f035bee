-- The loops of `join`: a lemma of `JoinLemmas` or `MergeLemmas` for each iteration and exit.
use Rattle.ptmerge.proofs
use Rattle.ptmerge.specs
use proofs.Common.{refl, sym, ◌∙◌, both, join_job, merge_state, Ok}
use proofs.JoinLemmas.{BetweenGroups, LoopOfJoin, alone_continues, alone_fails, join_opens, write_pre, group_opens}
use proofs.JoinLemmas.{read_group_less, write_pairs_less, read_group_continues, read_group_fails, write_pairs_next}
use proofs.JoinLemmas.{write_pairs_group, write_pairs_continues, pair_fails, group_there, group_closed}
use proofs.JoinLemmas.Group.{end_in}
use proofs.MergeLemmas.{advance_pre, fails_by, start_fault, start_ok, ends_well, ends_fallen, kept_order, fails, ends}
use proofs.MergeLemmas.{reads_less}
use proofs.PassedLemmas.{blocks_fail, blocks_pre, blocks_read, reads_once, reads_twice}
use Rattle.std.proofs.Math.Nat.{le_of_lt, le_refl}
use proofs.PairLemmas.{blocks_joined, joined_by_blocks}
use specs.declared.key_order.Side.TheVariants as sides
use specs.Calls.Join.{join_with}
use specs.Private.Passed.{BlocksPost}
use proofs.tools.join.join_with_order.Given as given
use Rattle.ptmerge.proofs.tools.join.join_with_order.Goals.{After-step}
use proofs.tools.join.join_with_order.Goals as goal

module _ (g : given.Over) (c : After-step g) where
  -- the lines of both blocks are merged, or nothing happened
  by_blocks : let was = c.steps in
      let is = c.merge_in_blocks.new in
      BlocksPost (join_with (join_job c.args.job.now) (g.K.KeyOrder.order was.merge.order)
      (g.K.KeyOrder.key_of was.merge.order))
      (both was.merge.first was.merge.second) (both is.merge.first is.merge.second)
      (merge_state was.first was.second was.out was.store) (merge_state is.first is.second is.out is.store) (Ok tt)
  by_blocks = blocks_joined (join_job c.args.job.now) c.steps.invariant.iteration.keys
      c.in_ok-merge_in_blocks.ensures.merges

  on_by_blocks : let is = c.merge_in_blocks.new in
      LoopOfJoin (join_job c.args.job.now) g.K.KeyOrder.order g.K.KeyOrder.key_of
      (merge_state c.args.first.now c.args.second.now c.args.out.now c.args.store.now) BetweenGroups
      (merge_state is.first is.second is.out is.store) is.merge.first is.merge.second is.merge.order c.args.order
  on_by_blocks = joined_by_blocks _ _ c.steps.invariant by_blocks
      c.merge_in_blocks.ensures.order c.in_ok-merge_in_blocks.ensures.valid_cursors

pub returns-in_err-merge : goal.returns-in_err-merge
returns-in_err-merge g c =
    let w = join_opens (join_job c.args.job.now) _ _
    (record { total = g.met.K.KeyOrder.total _; exact = g.met.K.KeyOrder.exact _ }) c.requires.begins in
    fails_by c.from_residual.ensures.1 (start_fault w c.in_err-merge.ensures.fails)

pub steps-init : goal.steps-init
steps-init g c =
    let w = join_opens (join_job c.args.job.now) _ _
    (record { total = g.met.K.KeyOrder.total _; exact = g.met.K.KeyOrder.exact _ }) c.requires.begins in
    let e = c.in_ok-merge.ensures in
    kept_order e.order refl (record {
      w = w;
      keys = c.requires.keys;
      here = start_ok w e.starts;
      between = record {
        valid_cursors = rw e.order at e.valid_cursors;
        own_reader = elim [ sides.First ↦ e.own_reader.0 | sides.Second ↦ e.own_reader.1 ];
        clean = c.requires.begins.writable;
      };
    })

pub merge_in_blocks-requires-clause-blocks : goal.merge_in_blocks-requires-clause-blocks
merge_in_blocks-requires-clause-blocks g c =
    let t = c.steps.invariant.iteration in
    blocks_pre t.here t.between _ refl t.w.alone t.keys

pub merge_in_blocks-requires-clause-clean : goal.merge_in_blocks-requires-clause-clean
merge_in_blocks-requires-clause-clean g c = c.steps.invariant.iteration.clean

pub returns-in_err-merge_in_blocks : goal.returns-in_err-merge_in_blocks
returns-in_err-merge_in_blocks g c =
    let i = c.steps.invariant in
    fails i c.from_residual-in_err-merge_in_blocks.ensures.1
    (blocks_fail i.iteration.here i.iteration.between
    (blocks_joined (join_job c.args.job.now) i.iteration.keys c.in_err-merge_in_blocks.ensures.merges))

pub step-requires : goal.step-requires
step-requires g c = c.in_ok-merge_in_blocks.ensures.valid_cursors

pub pass_line-requires-clause-writes : goal.pass_line-requires-clause-writes
pass_line-requires-clause-writes g c =
    let i = on_by_blocks g (goal.at.pass_line-requires-clause-writes g c).After-step in
    write_pre i.iteration sides.First c.in-First.ensures.status_is

pub pass_line-requires-in-Second-clause-writes : goal.pass_line-requires-in-Second-clause-writes
pass_line-requires-in-Second-clause-writes g c =
    let i = on_by_blocks g (goal.at.pass_line-requires-in-Second-clause-writes g c).After-step in
    write_pre i.iteration _ c.in-Second.ensures.status_is

pub pass_line-requires-clause-clean : goal.pass_line-requires-clause-clean
pass_line-requires-clause-clean g c =
    (on_by_blocks g (goal.at.pass_line-requires-clause-clean g c).After-step).iteration.clean

pub pass_line-requires-in-Second-clause-clean : goal.pass_line-requires-in-Second-clause-clean
pass_line-requires-in-Second-clause-clean g c =
    (on_by_blocks g (goal.at.pass_line-requires-in-Second-clause-clean g c).After-step).iteration.clean

pub steps-preserved-in-Continue-branch-3 : goal.steps-preserved-in-Continue-branch-3
steps-preserved-in-Continue-branch-3 g c =
    let i = on_by_blocks g (goal.at.steps-preserved-in-Continue-branch-3 g c).After-step in
    let p = c.pass_line.ensures in
    kept_order p.order i.order (alone_continues i.iteration
    c.in-First.ensures p.wrote c.in_ok-pass_line-in-First.ensures.advances)

pub steps-preserved-in-Continue-branch-4 : goal.steps-preserved-in-Continue-branch-4
steps-preserved-in-Continue-branch-4 g c =
    let i = on_by_blocks g (goal.at.steps-preserved-in-Continue-branch-4 g c).After-step in
    let p = c.pass_line-in-Second.ensures in
    kept_order p.order i.order (alone_continues i.iteration
    c.in-Second.ensures p.wrote c.in_ok-pass_line-in-Second.ensures.advances)

pub steps-smaller-in-Continue-branch-3 : goal.steps-smaller-in-Continue-branch-3
steps-smaller-in-Continue-branch-3 g c =
    let a = (goal.at.steps-smaller-in-Continue-branch-3 g c).After-step in
    let h = c.in_ok-pass_line-in-First.ensures.advances in
    let t = c.steps.invariant.iteration in
    reads_once (reads_less (on_by_blocks g a).iteration.between _ h.continues c.in-First.ensures.status_is h.came)
    (blocks_read t.here t.between (by_blocks g a))

pub steps-smaller-in-Continue-branch-4 : goal.steps-smaller-in-Continue-branch-4
steps-smaller-in-Continue-branch-4 g c =
    let a = (goal.at.steps-smaller-in-Continue-branch-4 g c).After-step in
    let h = c.in_ok-pass_line-in-Second.ensures.advances in
    let t = c.steps.invariant.iteration in
    reads_once (reads_less (on_by_blocks g a).iteration.between _ h.continues c.in-Second.ensures.status_is h.came)
    (blocks_read t.here t.between (by_blocks g a))

pub returns-in_err-pass_line-in-First : goal.returns-in_err-pass_line-in-First
returns-in_err-pass_line-in-First g c =
    let i = on_by_blocks g (goal.at.returns-in_err-pass_line-in-First g c).After-step in
    fails i c.from_residual-in_err-pass_line-in-First.ensures.1
    (alone_fails i.iteration c.in-First.ensures c.pass_line.ensures.wrote
    _ _ _ c.in_err-pass_line-in-First.ensures.advances)

pub returns-in_err-pass_line-in-Second : goal.returns-in_err-pass_line-in-Second
returns-in_err-pass_line-in-Second g c =
    let i = on_by_blocks g (goal.at.returns-in_err-pass_line-in-Second g c).After-step in
    fails i c.from_residual-in_err-pass_line-in-Second.ensures.1
    (alone_fails i.iteration c.in-Second.ensures
    c.pass_line-in-Second.ensures.wrote
    _ _ _ c.in_err-pass_line-in-Second.ensures.advances)

pub returns-in-End : goal.returns-in-End
returns-in-End g c =
    let i = on_by_blocks g (goal.at.returns-in-End g c).After-step in
    ends i (ends_well i.iteration.here i.iteration.clean c.clear_four_slots.ensures c.in-End.ensures)

pub returns-in-Stop : goal.returns-in-Stop
returns-in-Stop g c =
    let i = on_by_blocks g (goal.at.returns-in-Stop g c).After-step in
    ends i (ends_fallen i.iteration.here i.iteration.clean c.clear_four_slots-in-Stop.ensures c.in-Stop.ensures)

pub clear_four_slots-requires-in-Stop : goal.clear_four_slots-requires-in-Stop
clear_four_slots-requires-in-Stop g c = c.in_ok-merge_in_blocks.ensures.valid_cursors.slots

pub lines-init : goal.lines-init
lines-init g c =
    let i = on_by_blocks g (goal.at.lines-init g c).After-step in
    record {
      kept = kept_order refl i.order (group_opens i.iteration c.in-Both.ensures c.new-group.ensures);
      fewer = le_refl _;
    }

pub read_line-requires-clause-status_is : goal.read_line-requires-clause-status_is
read_line-requires-clause-status_is g c =
    let t = c.lines.invariant.kept.iteration in advance_pre t.between _ (t.here.heads sides.Second).head

pub read_line-requires-clause-group : goal.read_line-requires-clause-group
read_line-requires-clause-group g c = end_in c.lines.invariant.kept.iteration.here.q

pub returns-in_err-read_line-in-Both : goal.returns-in_err-read_line-in-Both
returns-in_err-read_line-in-Both g c =
    let i = c.lines.invariant.kept in
    fails i c.from_residual-in_err-read_line-in-Both.ensures.1
    (read_group_fails i.iteration c.read_line.ensures.written_out c.in_err-read_line-in-Both.ensures.reads_line)

pub lines-smaller : goal.lines-smaller
lines-smaller g c =
    let ok = c.in_ok-read_line-in-Both.ensures in
    read_group_less c.lines.invariant.kept.iteration ok.reads_line.1.came ok.continues

pub lines-preserved : goal.lines-preserved
lines-preserved g c =
    let k = c.lines.invariant.kept in
    let p = c.read_line.ensures in
    let ok = c.in_ok-read_line-in-Both.ensures in
    record {
      kept = kept_order p.order k.order (read_group_continues k.iteration p.written_out ok.reads_line.1 ok.continues
          (sym ok.reads_line.0 ∙ c.if-branch.true));
      fewer = le_of_lt (reads_once (read_group_less k.iteration ok.reads_line.1.came ok.continues)
          c.lines.invariant.fewer);
    }

pub pairs-init : goal.pairs-init
pairs-init g c =
    let i = c.lines.invariant.kept in
    let p = c.read_line.ensures in
    let ok = c.in_ok-read_line-in-Both.ensures in
    record {
      kept = kept_order p.order i.order (write_pairs_next i.iteration p.written_out ok.reads_line.1 ok.continues
          (sym ok.reads_line.0 ∙ c.if-branch.false));
      fewer = le_refl _;
    }

pub write_pairs-requires-clause-writes : goal.write_pairs-requires-clause-writes
write_pairs-requires-clause-writes g c =
    let t = c.pairs.invariant.kept.iteration in write_pre t _ t.here.head.head

pub write_pairs-requires-clause-clean : goal.write_pairs-requires-clause-clean
write_pairs-requires-clause-clean g c = c.pairs.invariant.kept.iteration.clean

pub write_pairs-requires-clause-group : goal.write_pairs-requires-clause-group
write_pairs-requires-clause-group g c = write_pairs_group c.pairs.invariant.kept.iteration

pub returns-in_err-write_pairs-in-Both : goal.returns-in_err-write_pairs-in-Both
returns-in_err-write_pairs-in-Both g c =
    let i = c.pairs.invariant.kept in
    fails i c.from_residual-in_err-write_pairs-in-Both.ensures.1
    (pair_fails i.iteration c.write_pairs.ensures.wrote _ _ _ c.in_err-write_pairs-in-Both.ensures.fails)

pub pairs-smaller : goal.pairs-smaller
pairs-smaller g c = write_pairs_less c.pairs.invariant.kept.iteration c.in_ok-write_pairs-in-Both.ensures.advances

pub pairs-preserved : goal.pairs-preserved
pairs-preserved g c =
    let k = c.pairs.invariant.kept in
    let p = c.write_pairs.ensures in
    let ok = c.in_ok-write_pairs-in-Both.ensures in
    let h = ok.advances in
    record {
      kept = kept_order p.order k.order (write_pairs_continues k.iteration p.wrote h
          (sym ok.has_more ∙ c.if-branch-2.true));
      fewer = le_of_lt (reads_once (write_pairs_less k.iteration h) c.pairs.invariant.fewer);
    }

pub clear-requires : goal.clear-requires
clear-requires g c = group_there c.pairs.invariant.kept.iteration c.write_pairs.ensures.wrote
    c.in_ok-write_pairs-in-Both.ensures.advances

pub steps-preserved : goal.steps-preserved
steps-preserved g c =
    let i = c.pairs.invariant.kept in
    let p = c.write_pairs.ensures in
    let ok = c.in_ok-write_pairs-in-Both.ensures in
    kept_order p.order i.order (group_closed i.iteration p.wrote ok.advances c.clear.ensures
    (sym ok.has_more ∙ c.if-branch-2.false))

pub steps-smaller : goal.steps-smaller
steps-smaller g c =
    let line = c.in_ok-read_line-in-Both.ensures in
    let pairs = c.pairs.invariant in
    let lines = c.lines.invariant in
    let t = c.steps.invariant.iteration in
    -- each loop of a group reads at least one line
    reads_twice
    (reads_once (write_pairs_less pairs.kept.iteration c.in_ok-write_pairs-in-Both.ensures.advances) pairs.fewer)
    (reads_once (read_group_less lines.kept.iteration line.reads_line.1.came line.continues) lines.fewer)
    (blocks_read t.here t.between (by_blocks g (goal.at.steps-smaller g c).After-step))
