-- The lines of one input that are passed in its block, after the end of the other input: they come first in the merge,
-- and the loop over them keeps its invariant.
use Rattle.ptmerge.proofs
use Rattle.ptmerge.specs
use proofs.Common.{◌≡◌, inl, ℕ, List, [], ◌∷◌, ◌++◌, Bool, refl, sym, ◌∙◌, ap, arith, false, subst, other, Lines}
use proofs.Common.{MergeTool, Output, PushEffect, Side, entries_by_key, lines_with_key, push_nothing, with_side}
use proofs.MergeLemmas.{AtLeast, AtMost, Bound, Each-all, IsKeyOrder, IsLineByLine, MergeInvariant, NothingMore}
use proofs.MergeLemmas.{Written, alone, output_of, put_other, put_same, side_case, write_least_run}
use proofs.BlockLemmas.{alone_splits, in_block_next, leads_nowhere, leads_on, line_run, lines_after, passed_one}
use specs.Private.BlockLines.{ArePassedAlone, CanMerge, IsNextLine, only}
use specs.declared.merging.block_lines.BlockLine.{BlockLine}

-- nothing follows in the other input
abbrev pub at_line : MergeTool → Side → BlockLine → Side → Bound
at_line tool s now = with_side s (AtLeast (tool.key s now.head.now)) (λ side. NothingMore)

module _ (s : Side) where
  pub only_push : (q r : Lines) → (λ (side : Side). only s q side ++ only s r side) ≡ only s (q ++ r)
  only_push q r =
      λ i side. side_case (λ t. only s q t ++ only s r t ≡ only s (q ++ r) t) s (simp put_same refl)
      (simp put_other refl) side i

  is_only : (r : Side → Lines) → r (other s) ≡ [] → only s (r s) ≡ r
  is_only r none = λ i side. side_case (λ t. only s (r s) t ≡ r t) s (put_same s _ _) (rw none (put_other s _ _)) side i

  none_written : (tool : MergeTool) (w : List ℕ → Bool) → entries_by_key tool w (only s []) ≡ []
  none_written = grind arith

module _ (tool : MergeTool) (o : IsKeyOrder tool.cmp) (s : Side) where
  open tool use {cmp, key, terminator}

  as_merged : {old now : BlockLine} {was is : Output} → (m : ArePassedAlone tool s old now was is)
      → MergeInvariant tool (at_line tool s now) (only s m.q) was is
  as_merged m = record {
    splits = λ w r c. subst (λ (l : Side → Lines). entries_by_key tool w (λ side. only s m.q side ++ l side)
        ≡ entries_by_key tool w (only s m.q) ++ entries_by_key tool w l) (is_only s r (rw put_other at (c (other s))))
        (ap (entries_by_key tool w) (only_push s m.q (r s)) ∙ m.first w (r s) (rw put_same at (c s)));
    under = side_case _ s (simp put_same (side_case _ s (simp put_same m.under) (simp put_other tt)))
        (simp put_other (λ side. Each-all _ (λ k. tt) _));
    wrote = m.wrote;
  }

  pub passing_starts : {old : BlockLine} {was : Output} → CanMerge (key s) old → was.write_failed ≡ false
      → ArePassedAlone tool s old old was was
  passing_starts {was = was} can clean = record {
    q = [];
    passed = (can.passed, inl (record { none = refl; same = refl }));
    first = λ w r c. rw (none_written s _ w) refl;
    under = tt;
    wrote = rw (none_written s _ _) (push_nothing was);
    clean = clean;
    in_block = can.in_block;
    key_is = can.key_is;
  }

  -- the lines `p` were processed before
  pub passed_on : {b : Side → Bound} {p : Side → Lines} {old now : BlockLine} {start was mid : Output}
      → MergeInvariant tool b p start was → b s ≡ AtLeast (key s old.head.now) → b (other s) ≡ NothingMore
      → was.write_failed ≡ false → (a : ArePassedAlone tool s old now was mid)
      → MergeInvariant tool (at_line tool s now) (λ side. p side ++ only s a.q side) start mid
  passed_on m at none clean a =
      lines_after m clean (as_merged a)
      (side_case _ s (simp put_same (rw at (leads_on o (key s) a.passed))) (simp put_other (rw none leads_nowhere)))

  module _ (by_line : IsLineByLine tool.entries) where
    pub line_written : (now next : BlockLine) {p : Side → Lines} {start mid is : Output}
        → AtMost cmp (key s now.head.now) (key s next.head.now) → mid.write_failed ≡ false
        → MergeInvariant tool (at_line tool s now) p start mid
        → PushEffect mid is (output_of tool (alone s now.head.now))
        → Written tool (at_line tool s next) (λ side. p side ++ alone s now.head.now side) start is
    line_written now next more clean m wrote =
        let k = key s now.head.now in
        write_least_run o k _ (alone s now.head.now)
        (side_case _ s (simp put_same (line_run tool o s _ _ (refl, tt) refl more)) (simp put_other (grind arith)))
        (λ side. refl) (by_line.none k)
        (λ r c. alone_splits by_line s _ _ (λ side. lines_with_key (key side) (r side) k)
        (ap (λ l. lines_with_key (key (other s)) l k) (rw put_other at (c (other s)))))
        clean m wrote

    pub passes_on : {old now next : BlockLine} {was mid is : Output} → ArePassedAlone tool s old now was mid
        → IsNextLine terminator cmp (key s) now next → PushEffect mid is (output_of tool (alone s now.head.now))
        → is.write_failed ≡ false → ArePassedAlone tool s old next was is
    passes_on {now = now} {next} {was = was} {is = is} m n wrote clean =
        let mi = subst (λ l. MergeInvariant tool (at_line tool s next) l was is) (only_push s m.q (now.head.now ∷ []))
        (line_written now next n.ordered m.clean (as_merged m) wrote).0 in
        record {
          q = m.q ++ now.head.now ∷ [];
          passed = passed_one cmp (key s) m.passed n;
          first = λ w r c. sym (ap (entries_by_key tool w) (only_push s _ r))
              ∙ mi.splits w (only s r) (side_case _ s (simp put_same c) (simp put_other refl));
          under = simp put_same at (mi.under s s);
          wrote = mi.wrote;
          clean = clean;
          in_block = in_block_next cmp (key s) n m.in_block;
          key_is = n.key_is;
        }
