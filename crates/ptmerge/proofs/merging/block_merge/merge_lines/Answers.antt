-- Each arm of the loop passes one line, or one of each input, or all lines of a key.
use Rattle.ptmerge.proofs
use proofs.Common.{sym, ◌∙◌, ap, arith, [], ◌∷◌, inr, is_gt, First, Second, both}
use proofs.MergeLemmas.{less_flips, IsKeyOrder}
use Rattle.std.proofs.Math.Nat.{add-lt-add_of_le_of_lt, add-lt-add_of_lt_of_le, le_of_lt, le_refl}
use proofs.BlockLemmas.{alone_passes, fewer_left, have_keys, merge_starts, one_in_key, one_moved, pair_passes}
use proofs.BlockLemmas.{pairs_or_new, run_failed, step_on}
use Rattle.ptmerge.specs.Private.BlockLines.{IsStep, further_lines, in_order, key_lines}
use proofs.merging.block_merge.merge_lines.Given as given
use Rattle.ptmerge.proofs.merging.block_merge.merge_lines.Goals.{After-write_both, After-write_rows}
use proofs.merging.block_merge.merge_lines.Goals as goal

module _ (g : given.Over) where
  key_order : (order : g.row.K.Denot) → IsKeyOrder (g.K.KeyOrder.order order)
  key_order order = record { total = g.met.K.KeyOrder.total order; exact = g.met.K.KeyOrder.exact order }

  both_pass : (c : After-write_both g) → IsStep (in_order (g.T.MergeWriter.tool c.args.tool)
      (g.K.KeyOrder.order c.args.order.now) (g.K.KeyOrder.key_of c.args.order.now)) (both c.lines.one c.lines.two)
      (both c.in-Some-next-2.next1 c.in-Some-next-3.next2) c.lines.out c.write_both.new.out
  both_pass c =
      let i = c.lines.invariant in
      pair_passes _ _ _ (key_order _) c.requires.tool i c.requires.ends {f = c.lines.one.head.now ∷ []}
      {g = c.lines.two.head.now ∷ []} (sym c.in-Equal.ensures) c.write_both.ensures.wrote
      (elim [
        | First ↦ one_in_key _ _ c.in-Some-next-2.ensures (i.in_block First)
        | Second ↦ one_in_key _ _ c.in-Some-next-3.ensures (i.in_block Second)
      ])
      (pairs_or_new c.is_pair_by_pair-by_pairs.result (both c.in-Some-next-2.next1 c.in-Some-next-3.next2)
      (λ t k q r. c.is_pair_by_pair-by_pairs.ensures.by_pairs t k _ _ q r) (λ none. (grind arith, grind arith)))

  rows_pass : (c : After-write_rows g) → IsStep (in_order (g.T.MergeWriter.tool c.args.tool)
      (g.K.KeyOrder.order c.args.order.now) (g.K.KeyOrder.key_of c.args.order.now)) (both c.lines.one c.lines.two)
      (both c.in-Some-whole_key.firsts.after c.in-Some-whole_key-2.seconds.after) c.lines.out c.write_rows.new.out
  rows_pass c =
      let end = c.args.terminator in
      let one = c.in-Some-whole_key.firsts.lines in
      let two = c.in-Some-whole_key-2.seconds.lines in
      pair_passes _ _ _ (key_order _) c.requires.tool c.lines.invariant c.requires.ends {f = key_lines end one}
      {g = key_lines end two} (sym c.in-Equal.ensures)
      (rw (c.is_pair_by_pair-by_pairs.ensures.by_rows (grind arith) c.lines.one.key.now one.line.now two.line.now
      (further_lines end one) (further_lines end two)) c.write_rows.ensures.wrote)
      (elim [ First ↦ c.in-Some-whole_key.ensures.passed | Second ↦ c.in-Some-whole_key-2.ensures.passed ])
      (inr (elim [ First ↦ c.in-Some-whole_key.ensures.new | Second ↦ c.in-Some-whole_key-2.ensures.new ]))

pub lines-init : goal.lines-init
lines-init g c = merge_starts _ (key_order g _) c.requires.begins c.requires.clean

pub next-requires-clause-passed : goal.next-requires-clause-passed
next-requires-clause-passed g c = c.lines.invariant.in_block First

pub next-requires-clause-key : goal.next-requires-clause-key
next-requires-clause-key g c = c.lines.invariant.key_is First

pub next-requires-in-Greater-clause-passed : goal.next-requires-in-Greater-clause-passed
next-requires-in-Greater-clause-passed g c = c.lines.invariant.in_block Second

pub next-requires-in-Greater-clause-key : goal.next-requires-in-Greater-clause-key
next-requires-in-Greater-clause-key g c = c.lines.invariant.key_is Second

pub next-requires-in-Equal-clause-passed : goal.next-requires-in-Equal-clause-passed
next-requires-in-Equal-clause-passed g c = c.lines.invariant.in_block First

pub next-requires-in-Equal-clause-key : goal.next-requires-in-Equal-clause-key
next-requires-in-Equal-clause-key g c = c.lines.invariant.key_is First

pub next-requires-in-Equal-2-clause-passed : goal.next-requires-in-Equal-2-clause-passed
next-requires-in-Equal-2-clause-passed g c = c.lines.invariant.in_block Second

pub next-requires-in-Equal-2-clause-key : goal.next-requires-in-Equal-2-clause-key
next-requires-in-Equal-2-clause-key g c = c.lines.invariant.key_is Second

pub write_alone-requires-clause-key : goal.write_alone-requires-clause-key
write_alone-requires-clause-key g c = sym (c.lines.invariant.key_is First ∙ c.requires.tool.keys First _)

pub write_alone-requires-in-Greater-clause-key : goal.write_alone-requires-in-Greater-clause-key
write_alone-requires-in-Greater-clause-key g c = sym (c.lines.invariant.key_is Second ∙ c.requires.tool.keys Second _)

pub write_both-requires-clause-one : goal.write_both-requires-clause-one
write_both-requires-clause-one g c = sym (c.lines.invariant.key_is First ∙ c.requires.tool.keys First _)

pub write_both-requires-clause-two : goal.write_both-requires-clause-two
write_both-requires-clause-two g c =
    sym (g.met.K.KeyOrder.exact c.args.order.now _ _ (sym c.in-Equal.ensures) ∙ c.lines.invariant.key_is Second
    ∙ c.requires.tool.keys Second _)

pub lines-preserved-in-Less : goal.lines-preserved-in-Less
lines-preserved-in-Less g c =
    let i = c.lines.invariant in
    step_on _ (key_order g _) c.requires.tool.alone.none
    (alone_passes _ _ _ (key_order g _) c.requires.tool i c.requires.ends First
    (ap is_gt (less_flips _ (key_order g _) _ _ (sym c.in-Less.ensures))) c.write_alone.ensures.wrote c.in-Some.ensures)
    i (c.in_ok-write_alone-in-Less.ensures.clean i.clean)

pub returns-in_err-write_alone-in-Less-clause-failed : goal.returns-in_err-write_alone-in-Less-clause-failed
returns-in_err-write_alone-in-Less-clause-failed g c =
    let i = c.lines.invariant in
    run_failed _ i
    (alone_passes _ _ _ (key_order g _) c.requires.tool i c.requires.ends First
    (ap is_gt (less_flips _ (key_order g _) _ _ (sym c.in-Less.ensures))) c.write_alone.ensures.wrote c.in-Some.ensures)
    c.in_err-write_alone-in-Less.ensures.fault

pub lines-preserved-in-Greater : goal.lines-preserved-in-Greater
lines-preserved-in-Greater g c =
    let i = c.lines.invariant in
    step_on _ (key_order g _) c.requires.tool.alone.none
    (alone_passes _ _ _ (key_order g _) c.requires.tool i c.requires.ends Second (ap is_gt (sym c.in-Greater.ensures))
    c.write_alone-in-Greater.ensures.wrote c.in-Some-next.ensures)
    i (c.in_ok-write_alone-in-Greater.ensures.clean i.clean)

pub returns-in_err-write_alone-in-Greater-clause-failed : goal.returns-in_err-write_alone-in-Greater-clause-failed
returns-in_err-write_alone-in-Greater-clause-failed g c =
    let i = c.lines.invariant in
    run_failed _ i
    (alone_passes _ _ _ (key_order g _) c.requires.tool i c.requires.ends Second (ap is_gt (sym c.in-Greater.ensures))
    c.write_alone-in-Greater.ensures.wrote c.in-Some-next.ensures)
    c.in_err-write_alone-in-Greater.ensures.fault

pub whole_key-requires-clause-passed : goal.whole_key-requires-clause-passed
whole_key-requires-clause-passed g c = c.lines.invariant.in_block First

pub whole_key-requires-in-Equal-clause-passed : goal.whole_key-requires-in-Equal-clause-passed
whole_key-requires-in-Equal-clause-passed g c = c.lines.invariant.in_block Second

pub write_rows-requires-clause-one : goal.write_rows-requires-clause-one
write_rows-requires-clause-one g c =
    have_keys {l = c.lines.one.key.now} (key_lines c.args.terminator c.in-Some-whole_key.firsts.lines)
    c.in-Some-whole_key.ensures.passed.own (c.requires.tool.keys First) (sym (c.lines.invariant.key_is First))

pub write_rows-requires-clause-two : goal.write_rows-requires-clause-two
write_rows-requires-clause-two g c =
    have_keys {l = c.lines.one.key.now} (key_lines c.args.terminator c.in-Some-whole_key-2.seconds.lines)
    c.in-Some-whole_key-2.ensures.passed.own (c.requires.tool.keys Second)
    (sym (g.met.K.KeyOrder.exact c.args.order.now _ _ (sym c.in-Equal.ensures) ∙ c.lines.invariant.key_is Second))

pub lines-smaller-in-Less : goal.lines-smaller-in-Less
lines-smaller-in-Less g c = add-lt-add_of_lt_of_le (fewer_left (one_moved _ _ c.in-Some.ensures)) (le_refl _)

pub lines-smaller-in-Greater : goal.lines-smaller-in-Greater
lines-smaller-in-Greater g c =
    add-lt-add_of_le_of_lt (le_refl _) (fewer_left (one_moved _ _ c.in-Some-next.ensures))

pub lines-smaller-then-by_pairs : goal.lines-smaller-then-by_pairs
lines-smaller-then-by_pairs g c =
    add-lt-add_of_lt_of_le (fewer_left (one_moved _ _ c.in-Some-next-2.ensures))
    (le_of_lt (fewer_left (one_moved _ _ c.in-Some-next-3.ensures)))

pub lines-smaller : goal.lines-smaller
lines-smaller g c =
    add-lt-add_of_lt_of_le (fewer_left c.in-Some-whole_key.ensures.passed.passed)
    (le_of_lt (fewer_left c.in-Some-whole_key-2.ensures.passed.passed))

pub lines-preserved : goal.lines-preserved
lines-preserved g c =
    step_on _ (key_order g _) c.requires.tool.alone.none (rows_pass g (goal.at.lines-preserved g c).After-write_rows)
    c.lines.invariant (c.in_ok-write_rows-in-Equal.ensures.clean c.lines.invariant.clean)

pub returns-in_err-write_rows-in-Equal-clause-failed : goal.returns-in_err-write_rows-in-Equal-clause-failed
returns-in_err-write_rows-in-Equal-clause-failed g c =
    run_failed _ c.lines.invariant
    (rows_pass g (goal.at.returns-in_err-write_rows-in-Equal-clause-failed g c).After-write_rows)
    c.in_err-write_rows-in-Equal.ensures.fault

pub lines-preserved-then-by_pairs : goal.lines-preserved-then-by_pairs
lines-preserved-then-by_pairs g c =
    step_on _ (key_order g _) c.requires.tool.alone.none
    (both_pass g (goal.at.lines-preserved-then-by_pairs g c).After-write_both)
    c.lines.invariant (c.in_ok-write_both-in-Equal.ensures.clean c.lines.invariant.clean)

pub returns-in_err-write_both-in-Equal-clause-failed : goal.returns-in_err-write_both-in-Equal-clause-failed
returns-in_err-write_both-in-Equal-clause-failed g c =
    run_failed _ c.lines.invariant
    (both_pass g (goal.at.returns-in_err-write_both-in-Equal-clause-failed g c).After-write_both)
    c.in_err-write_both-in-Equal.ensures.fault

pub returns-clause-merged : goal.returns-clause-merged
returns-clause-merged g c = record {
  now = both c.lines.one c.lines.two;
  reached = elim [ First ↦ c.reached.ensures | Second ↦ c.reached-2.ensures ];
  merged = c.lines.invariant;
}
