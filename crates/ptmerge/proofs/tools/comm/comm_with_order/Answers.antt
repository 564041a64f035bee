-- The loop of `comm`: a lemma for each iteration and exit, after the lines of the blocks are merged (`on_by_blocks`).
use Rattle.ptmerge.proofs
use proofs.Common.{◌≤◌, ℕ, List, refl, sym, ◌∙◌, inl, First, Second, both, comm_job, line, merge_state, unlines}
use proofs.Common.{MergeState, PushEffect}
use proofs.MergeLemmas.{advance_pre, fails_by, start_fault, start_ok, reads_ahead, reads_less, between_next, ends_well}
use proofs.MergeLemmas.{ends_fallen, kept_order, fails, ends, wrote_and_sent}
use proofs.CommLemmas.{LoopOfComm, alone_continues, alone_fails, comm_opens, pair_continues, pair_fails, same_line}
use proofs.CommLemmas.{second_advance_pre, second_fails, write_pre}
use proofs.PassedLemmas.{kept_by_blocks, blocks_fail, blocks_pre, blocks_read, reads_once, reads_twice}
use Rattle.ptmerge.specs.Comm.{entries}
use proofs.tools.comm.comm_with_order.Given as given
use Rattle.ptmerge.proofs.tools.comm.comm_with_order.Goals.{After-step, After-write_both}
use proofs.tools.comm.comm_with_order.Goals as goal

module _ (g : given.Over) (c : After-step g) where
  on_by_blocks : let is = c.merge_in_blocks.new in
      LoopOfComm (comm_job c.args.job) g.K.KeyOrder.order g.K.KeyOrder.key_of
      (merge_state c.args.first.now c.args.second.now c.args.out.now c.args.store.now)
      (merge_state is.first is.second is.out is.store) is.merge.first is.merge.second is.merge.order c.args.order
  on_by_blocks = kept_by_blocks _ _ c.steps.invariant c.in_ok-merge_in_blocks.ensures.merges
      c.merge_in_blocks.ensures.order c.in_ok-merge_in_blocks.ensures.valid_cursors

  read_by_blocks : let is = c.merge_in_blocks.new in
      reads_ahead (both is.first is.second) is.merge.first is.merge.second
      ≤ reads_ahead (both c.steps.first c.steps.second) c.steps.merge.first c.steps.merge.second
  read_by_blocks = blocks_read c.steps.invariant.iteration.loop_invariant c.steps.invariant.iteration.between
      c.in_ok-merge_in_blocks.ensures.merges

module _ (g : given.Over) (c : After-write_both g) where
  abbrev now : MergeState
  now = let is = c.merge_in_blocks.new in merge_state is.first is.second is.out is.store

  abbrev head : List ℕ
  head = line now.store c.merge_in_blocks.new.merge.first.current_slot

  written : PushEffect now.out c.write_both.new.out
      (unlines (now.reader First).terminator (entries (comm_job c.args.job) head 1 1))
  written = rw (c.terminator.ensures, c.head-one.ensures) at c.write_both.ensures.wrote

pub returns-in_err-merge : goal.returns-in_err-merge
returns-in_err-merge g c =
    let w = comm_opens (comm_job c.args.job) _ _
    (record { total = g.met.K.KeyOrder.total _; exact = g.met.K.KeyOrder.exact _ }) c.requires.begins in
    fails_by c.from_residual.ensures.1 (start_fault w c.in_err-merge.ensures.fails)

pub steps-init : goal.steps-init
steps-init g c =
    let p = c.in_ok-merge.ensures in
    let w = comm_opens (comm_job c.args.job) _ _
    (record { total = g.met.K.KeyOrder.total _; exact = g.met.K.KeyOrder.exact _ }) c.requires.begins in
    kept_order p.order refl (record {
      w = w;
      whole_line_keys = c.requires.whole_line_keys;
      loop_invariant = start_ok w p.starts;
      between = record {
        valid_cursors = rw p.order at p.valid_cursors;
        own_reader = elim [ First ↦ p.own_reader.0 | Second ↦ p.own_reader.1 ];
        clean = c.requires.begins.writable;
      };
    })

pub merge_in_blocks-requires-clause-blocks : goal.merge_in_blocks-requires-clause-blocks
merge_in_blocks-requires-clause-blocks g c =
    let t = c.steps.invariant.iteration in
    blocks_pre t.loop_invariant t.between _ refl t.w.alone t.whole_line_keys

pub merge_in_blocks-requires-clause-clean : goal.merge_in_blocks-requires-clause-clean
merge_in_blocks-requires-clause-clean g c = c.steps.invariant.iteration.between.clean

pub returns-in_err-merge_in_blocks : goal.returns-in_err-merge_in_blocks
returns-in_err-merge_in_blocks g c =
    let i = c.steps.invariant in
    fails i c.from_residual-in_err-merge_in_blocks.ensures.1
    (blocks_fail i.iteration.loop_invariant i.iteration.between c.in_err-merge_in_blocks.ensures.merges)

-- ---- a line of one input

pub pass_line-requires-clause-writes : goal.pass_line-requires-clause-writes
pass_line-requires-clause-writes g c =
    let i = on_by_blocks g (goal.at.pass_line-requires-clause-writes g c).After-step in
    write_pre i.iteration First c.in-First.ensures.status_is

pub pass_line-requires-in-Second-clause-writes : goal.pass_line-requires-in-Second-clause-writes
pass_line-requires-in-Second-clause-writes g c =
    write_pre (on_by_blocks g (goal.at.pass_line-requires-in-Second-clause-writes g c).After-step).iteration Second
    c.in-Second.ensures.status_is

pub pass_line-requires-clause-clean : goal.pass_line-requires-clause-clean
pass_line-requires-clause-clean g c =
    (on_by_blocks g (goal.at.pass_line-requires-clause-clean g c).After-step).iteration.between.clean

pub pass_line-requires-in-Second-clause-clean : goal.pass_line-requires-in-Second-clause-clean
pass_line-requires-in-Second-clause-clean g c =
    (on_by_blocks g (goal.at.pass_line-requires-in-Second-clause-clean g c).After-step).iteration.between.clean

pub steps-preserved-in-Continue-branch-3 : goal.steps-preserved-in-Continue-branch-3
steps-preserved-in-Continue-branch-3 g c =
    let i = on_by_blocks g (goal.at.steps-preserved-in-Continue-branch-3 g c).After-step in
    let p = c.pass_line.ensures in
    kept_order p.order i.order (alone_continues i.iteration c.in-First.ensures p.wrote
    c.in_ok-pass_line-in-First.ensures.advances)

pub steps-preserved-in-Continue-branch-4 : goal.steps-preserved-in-Continue-branch-4
steps-preserved-in-Continue-branch-4 g c =
    let i = on_by_blocks g (goal.at.steps-preserved-in-Continue-branch-4 g c).After-step in
    let p = c.pass_line-in-Second.ensures in
    kept_order p.order i.order (alone_continues i.iteration c.in-Second.ensures p.wrote
    c.in_ok-pass_line-in-Second.ensures.advances)

pub steps-smaller-in-Continue-branch-3 : goal.steps-smaller-in-Continue-branch-3
steps-smaller-in-Continue-branch-3 g c =
    let a = (goal.at.steps-smaller-in-Continue-branch-3 g c).After-step in
    let h = c.in_ok-pass_line-in-First.ensures.advances in
    reads_once (reads_less (on_by_blocks g a).iteration.between First h.continues c.in-First.ensures.status_is h.came)
    (read_by_blocks g a)

pub steps-smaller-in-Continue-branch-4 : goal.steps-smaller-in-Continue-branch-4
steps-smaller-in-Continue-branch-4 g c =
    let a = (goal.at.steps-smaller-in-Continue-branch-4 g c).After-step in
    let h = c.in_ok-pass_line-in-Second.ensures.advances in
    reads_once (reads_less (on_by_blocks g a).iteration.between Second h.continues c.in-Second.ensures.status_is h.came)
    (read_by_blocks g a)

pub returns-in_err-pass_line-in-First : goal.returns-in_err-pass_line-in-First
returns-in_err-pass_line-in-First g c =
    let i = on_by_blocks g (goal.at.returns-in_err-pass_line-in-First g c).After-step in
    fails i c.from_residual-in_err-pass_line-in-First.ensures.1
    (alone_fails i.iteration c.in-First.ensures c.pass_line.ensures.wrote
    _ _ _ c.in_err-pass_line-in-First.ensures.advances)

pub returns-in_err-pass_line-in-Second : goal.returns-in_err-pass_line-in-Second
returns-in_err-pass_line-in-Second g c =
    let i = on_by_blocks g (goal.at.returns-in_err-pass_line-in-Second g c).After-step in
    fails i c.from_residual-in_err-pass_line-in-Second.ensures.1
    (alone_fails i.iteration c.in-Second.ensures c.pass_line-in-Second.ensures.wrote
    _ _ _ c.in_err-pass_line-in-Second.ensures.advances)

-- ---- a line of both inputs

pub write_both-requires-clause-two : goal.write_both-requires-clause-two
write_both-requires-clause-two g c =
    let i = on_by_blocks g (goal.at.write_both-requires-clause-two g c).After-step in
    c.head-two.ensures ∙ same_line i.iteration c.in-Both.ensures ∙ sym c.head-one.ensures

pub write_both-requires-clause-clean : goal.write_both-requires-clause-clean
write_both-requires-clause-clean g c =
    (on_by_blocks g (goal.at.write_both-requires-clause-clean g c).After-step).iteration.between.clean

pub returns-in_err-write_both-in-Both : goal.returns-in_err-write_both-in-Both
returns-in_err-write_both-in-Both g c =
    let a = goal.at.returns-in_err-write_both-in-Both g c in
    let i = on_by_blocks g a.After-step in
    fails i c.from_residual-in_err-write_both-in-Both.ensures.1
    (pair_fails i.iteration c.in-Both.ensures (written g a.After-write_both) _ _ _ (inl (
      refl,
      record { write_failed = c.in_err-write_both-in-Both.ensures.fault; unread = refl; store = refl },
    )))

pub write_out_and_advance-requires-clause-status_is : goal.write_out_and_advance-requires-clause-status_is
write_out_and_advance-requires-clause-status_is g c =
    let i = on_by_blocks g (goal.at.write_out_and_advance-requires-clause-status_is g c).After-step in
    advance_pre i.iteration.between First c.in-Both.ensures.first

pub write_out_and_advance-requires-clause-clean : goal.write_out_and_advance-requires-clause-clean
write_out_and_advance-requires-clause-clean g c =
    let i = on_by_blocks g (goal.at.write_out_and_advance-requires-clause-clean g c).After-step in
    c.in_ok-write_both-in-Both.ensures.clean i.iteration.between.clean

pub returns-in_err-write_out_and_advance-in-Both : goal.returns-in_err-write_out_and_advance-in-Both
returns-in_err-write_out_and_advance-in-Both g c =
    let a = goal.at.returns-in_err-write_out_and_advance-in-Both g c in
    let i = on_by_blocks g a.After-step in
    let sent = wrote_and_sent _ _ _ _ (c.in_ok-write_both-in-Both.ensures.clean i.iteration.between.clean)
    (written g a.After-write_both) c.write_out_and_advance.ensures.written_out in
    fails i c.from_residual-in_err-write_out_and_advance-in-Both.ensures.1
    (pair_fails i.iteration c.in-Both.ensures sent _ _ _ c.in_err-write_out_and_advance-in-Both.ensures.advances)

pub write_out_and_advance-requires-in-Both-clause-status_is :
    goal.write_out_and_advance-requires-in-Both-clause-status_is
write_out_and_advance-requires-in-Both-clause-status_is g c =
    let i = on_by_blocks g (goal.at.write_out_and_advance-requires-in-Both-clause-status_is g c).After-step in
    rw c.write_out_and_advance.ensures.order
    (second_advance_pre i.iteration c.in-Both.ensures c.in_ok-write_out_and_advance-in-Both.ensures.advances)

pub returns-in_err-write_out_and_advance-in-Both-2 : goal.returns-in_err-write_out_and_advance-in-Both-2
returns-in_err-write_out_and_advance-in-Both-2 g c =
    let a = goal.at.returns-in_err-write_out_and_advance-in-Both-2 g c in
    let i = on_by_blocks g a.After-step in
    let sent = wrote_and_sent _ _ _ _ (c.in_ok-write_both-in-Both.ensures.clean i.iteration.between.clean)
    (written g a.After-write_both) c.write_out_and_advance.ensures.written_out in
    fails i c.from_residual-in_err-write_out_and_advance-in-Both-2.ensures.1
    (second_fails i.iteration c.in-Both.ensures sent c.in_ok-write_out_and_advance-in-Both.ensures.advances
    c.write_out_and_advance-in-Both.ensures.written_out
    _ _ _ c.in_err-write_out_and_advance-in-Both-2.ensures.advances)

pub steps-preserved : goal.steps-preserved
steps-preserved g c =
    let a = goal.at.steps-preserved g c in
    let i = on_by_blocks g a.After-step in
    let sent = wrote_and_sent _ _ _ _ (c.in_ok-write_both-in-Both.ensures.clean i.iteration.between.clean)
    (written g a.After-write_both) c.write_out_and_advance.ensures.written_out in
    let p = c.write_out_and_advance.ensures in
    let q = c.write_out_and_advance-in-Both.ensures in
    kept_order (q.order ∙ p.order) i.order (pair_continues i.iteration c.in-Both.ensures sent
    c.in_ok-write_out_and_advance-in-Both.ensures.advances q.written_out
    (rw p.order at c.in_ok-write_out_and_advance-in-Both-2.ensures.advances))

pub steps-smaller : goal.steps-smaller
steps-smaller g c =
    let a = (goal.at.steps-smaller g c).After-step in
    let between = (on_by_blocks g a).iteration.between in
    let h = c.in_ok-write_out_and_advance-in-Both.ensures.advances in
    let k = rw c.write_out_and_advance.ensures.order at c.in_ok-write_out_and_advance-in-Both-2.ensures.advances in
    reads_twice (reads_less (between_next between First h.continues) Second k.continues
    (rw h.continues.others c.in-Both.ensures.second) k.came)
    (reads_less between First h.continues c.in-Both.ensures.first h.came) (read_by_blocks g a)

-- ---- the end

pub returns-in-End : goal.returns-in-End
returns-in-End g c =
    let i = on_by_blocks g (goal.at.returns-in-End g c).After-step in
    ends i
    (ends_well i.iteration.loop_invariant i.iteration.between.clean c.clear_four_slots.ensures c.in-End.ensures)

pub returns-in-Stop : goal.returns-in-Stop
returns-in-Stop g c =
    let i = on_by_blocks g (goal.at.returns-in-Stop g c).After-step in
    ends i (ends_fallen i.iteration.loop_invariant i.iteration.between.clean c.clear_four_slots-in-Stop.ensures
    c.in-Stop.ensures)
