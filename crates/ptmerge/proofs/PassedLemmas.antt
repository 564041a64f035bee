-- The inputs of a merge after lines that were passed in their blocks: the invariants of one input, of its cursor and
-- of the store hold again. So the merge of two blocks keeps the loop invariant of a merge and that of `comm`, and
-- never adds to the reads that are left; or a write has failed, and the call ends.
use Rattle.ptmerge.proofs
use proofs.Common.{◌≡◌, ℕ, ◌-◌, false, List, [], ◌∷◌, ◌++◌, refl, sym, ◌∙◌, ap, subst, arith, length, drop, Some}
use proofs.Common.{unlines, IsLine, AreLines, Lines, Cmp, Key, Reader, length-append, length_push, advance_ok_trans}
use proofs.Common.{append_assoc, usual, push_nothing, ◌<◌, Side, MergeTool, Sorted, Slots, Head, line, inr}
use proofs.Common.{line_of_with_line, ◌≤◌, HasSlots, with_side, budget, length-drop, other, MergeState, both, Comm}
use proofs.Common.{First, Second, Result, Err, MergeFault, MergePost, Memory, Write, true, ⊎_elim, append-nil, Output}
use proofs.Common.{Ok}
use proofs.MergeLemmas.{IsSortedUpTo, IsSortedFrom, LinesRead, is_disordered, Bound, AtLeast, SideInvariant}
use proofs.MergeLemmas.{IsAtCurrentLine, at_current_line, reads_nothing, after_from, GroupStore, Extends}
use proofs.MergeLemmas.{group_store_line, side_extends, NothingMore, put_same, ReadFacts, HasBegun, extends_itself}
use proofs.MergeLemmas.{extends_on, extends, AllExtend, FitsIn, CursorsInvariant, IsOpenMerge, side_case, put_other}
use proofs.MergeLemmas.{slots_apart, line_other, max_length-append, MergeInvariant, bounds_change, same_bound}
use proofs.MergeLemmas.{reads_ahead, none_failed, exit_behind, IsFaultBehind, state_by_side, kept_order, LoopInvariant}
use proofs.MergeLemmas.{BetweenSteps, LagInvariant, AllWritten, IsLineByLine, lag_invariant_starts}
use Rattle.ptlines.specs.Calls.Readers.{IsSound}
use Rattle.ptlines.specs.Readers.{IsDone}
use Rattle.ptmerge.specs.Calls.MergeSteps.{AreValidCursors, IsReaderOf}
use Rattle.ptmerge.specs.Private.BlockLines.{AreMerged, ArePassed, IsMoved, IsUnmoved, IsReached, HasFailed}
use Rattle.ptmerge.specs.Private.BlockLines.{ArePassedAlone, HasFailedAlone, only, BlockRunPost, LineRunPost}
use Rattle.ptmerge.specs.Private.Passed.{IsPassed, IsResumed, AreBlocksMerged, BlocksPost, BlocksPre, IsOtherPassed}
use Rattle.ptmerge.specs.Private.Passed.{IsNotResumed, NoneResumed}
use Rattle.ptmerge.specs.declared.merging.cursor.Reached.{Reached}
use Rattle.ptmerge.specs.Calls.Comm.{comm_with}
use Rattle.std.specs.List.{slice_range}
use proofs.BlockLemmas.{within_block, at_heads, merged_on, step_written, passed_more, passed_one}
use proofs.AloneLemmas.{at_line, line_written, only_push, passed_on}
use proofs.CommLemmas.{LoopOfComm}
use Rattle.ptmerge.specs.declared.merging.block_lines.BlockLine.{BlockLine}
use Rattle.ptmerge.specs.declared.merging.block_lines.BlockRun.{BlockRun}
use Rattle.std.specs.Prelude.{take}
use Rattle.ptlines.proofs.LineSearch.{advance_ok_take}
use Rattle.ptlines.proofs.TextLaws.{AreLines_push}

module _ (cmp : Cmp) (key : Key) where
  sorted_one : {q : Lines} {k : List ℕ} (x : List ℕ) → IsSortedUpTo cmp key q (Some k)
      → is_disordered cmp (Some k) (key x) ≡ false → IsSortedUpTo cmp key (q ++ x ∷ []) (Some (key x))
  sorted_one = grind (arith, append_assoc, length_push)

  sorted_on : (q : Lines) (k : List ℕ) (xs : Lines) (x : List ℕ) → IsSortedUpTo cmp key q (Some k)
      → IsSortedFrom cmp key (Some k) (xs ++ x ∷ []) → IsSortedUpTo cmp key (q ++ (xs ++ x ∷ [])) (Some (key x))
  sorted_on q k [] x s (h, _) = sorted_one x s h
  sorted_on q k (y ∷ xs) x s (h, more) =
      subst (λ l. IsSortedUpTo cmp key l (Some (key x))) (append_assoc q (y ∷ []) (xs ++ x ∷ []))
      (sorted_on (q ++ y ∷ []) (key y) xs x (sorted_one y s h) more)

front_of_two : (a rest : List ℕ) → take (length (a ++ rest) - length rest) (a ++ rest) ≡ a
front_of_two = grind usual

lines_passed : {end : ℕ} {old was is : Reader} {ls : Lines} (middle : Lines) (head rest : List ℕ)
    → LinesRead end old was ls → was.buffered ≡ unlines end middle ++ (head ++ (end ∷ rest)) → AreLines end middle
    → IsLine end head → is ≡ record was { buffered = drop (length was.buffered - length rest) was.buffered }
    → LinesRead end old is (ls ++ (middle ++ head ∷ []))
lines_passed {end} {old} {was} {is} {ls} middle head rest c bytes free whole reader = record {
  given = c.given ++ take (length was.buffered - length rest) was.buffered;
  so_far =
      grind (usual, front_of_two (unlines end (middle ++ head ∷ [])) rest, AreLines_push end _ _ free whole, bytes);
  advance_ok = advance_ok_trans old was is _ _ c.advance_ok
      (advance_ok_take was is _ c.advance_ok.fault (omega arith) reader);
  terminator = grind arith;
}

-- the reader after the bytes up to the terminator of the current line
abbrev consumed : Reader → BlockLine → Reader
consumed was now = record was { buffered = drop (length was.buffered - length now.rest.now) was.buffered }

sound_consumed : (was : Reader) (now : BlockLine) → IsSound was → IsSound (consumed was now)
sound_consumed was now sound =
    grind (arith, length-drop (length was.buffered - length now.rest.now) was.buffered)

-- the slots in the order in which the next line is read: the one of the current line is replaced
abbrev exchange : Sorted → Sorted
exchange cursor = record cursor { current_slot = cursor.previous_slot; previous_slot = cursor.current_slot }

exchanged : (s : Side) (cursor : Sorted) → HasSlots s cursor → HasSlots s (exchange cursor)
exchanged = grind arith

put_back : {X : Type 0} (s : Side) (f : Side → X) (side : Side) → f side ≡ with_side s (f s) f side
put_back s f = side_case _ s (sym (put_same s _ f)) (sym (put_other s _ f))

head_of_block : (end : ℕ) (bytes front head rest : List ℕ) → bytes ≡ front ++ (head ++ (end ∷ rest))
    → slice_range bytes (length bytes - length rest - 1 - length head) (length bytes - length rest - 1) ≡ head
head_of_block = grind usual

nothing_used : (r is : Reader) (left : ℕ) → left ≡ length r.buffered
    → is ≡ record r { buffered = drop (length r.buffered - left) r.buffered } → is ≡ r
nothing_used = grind usual

-- The lines `p` of one input are processed, and the reader `virtual` has consumed them and the line after them. For the
-- real reader these bytes may still be buffered.
record IsAhead (tool : MergeTool) (old : MergeState) (s : Side) (real virtual : Reader) (ls p : Lines) (b : Bound)
    : Type 0 where
  now_ls : Lines
  facts : ReadFacts tool s (old.reader s) virtual virtual [] now_ls p b
  begun : HasBegun virtual now_ls
  up : Extends ls now_ls
  back : virtual ≡ record real { buffered = virtual.buffered }

stays_ahead : {tool : MergeTool} {old : MergeState} {s : Side} {reader : Reader} {cursor : Sorted} {store : Slots}
    {ls p : Lines} {b : Bound} → SideInvariant tool s (old.reader s) reader cursor store ls p b
    → IsAhead tool old s reader reader ls p b
stays_ahead {ls = ls} i =
    record { now_ls = ls; facts = i.facts; begun = i.begun; up = extends_itself ls; back = refl }

module _ {tool : MergeTool} {old : MergeState} {w : IsOpenMerge tool old} {reader : Side → Reader}
    {cursor : Side → Sorted} {store : Slots} {ls p : Side → Lines} {b : Side → Bound}
    (a : CursorsInvariant w reader cursor store ls p b) (s : Side) where
  -- the input is at the line reached, and the other one stays where it was
  record HasPassed (next : Sorted) (is : Reader) (after : Slots) (now : BlockLine) (q : Lines) : Type 0 where
    now_ls : Lines
    side : SideInvariant tool s (old.reader s) is next after now_ls (p s ++ q) (AtLeast (tool.key s now.head.now))
    status_is : next.status ≡ Head
    current : line after (cursor (other s)).current_slot ≡ line store (cursor (other s)).current_slot
    previous : line after (cursor (other s)).previous_slot ≡ line store (cursor (other s)).previous_slot
    keeps : GroupStore tool old.store after (with_side s now_ls ls) []
    reads : budget is ≤ budget (reader s)

  module _ {next : Sorted} {is : Reader} {after : Slots} {now : BlockLine} {q : Lines}
      (n : HasPassed next is after now q) where
    other_stays : SideInvariant tool (other s) (old.reader (other s)) (reader (other s)) (cursor (other s)) after
        (ls (other s)) (p (other s)) (b (other s))
    other_stays = grind (arith, n.current, n.previous, n.side.four)

    cursors_on : CursorsInvariant w (with_side s is reader) (with_side s next cursor) after (with_side s n.now_ls ls)
        (with_side s (p s ++ q) p) (with_side s (AtLeast (tool.key s now.head.now)) b)
    cursors_on =
        record { sides = side_case _ s (simp put_same n.side) (simp put_other other_stays); keeps = n.keeps }

  module _ (head : (cursor s).status ≡ Head) {first now : BlockLine} {q : Lines}
      (at_head : first.head.now ≡ line store (cursor s).current_slot) (at_rest : first.rest.now ≡ (reader s).buffered)
      (passed : ArePassed tool.terminator tool.cmp (tool.key s) first now q) where
    h : IsAtCurrentLine tool.cmp (tool.key s) (cursor s).number (line store (cursor s).current_slot) (ls s) (p s) (b s)
    h = at_current_line (a.sides s) head

    module _ (u : IsUnmoved first now q) where
      all_left : length now.rest.now ≡ length (reader s).buffered
      all_left = ap (λ l. length l.rest.now) u.same ∙ ap length at_rest

      side_stays : SideInvariant tool s (old.reader s) (reader s) (cursor s) store (ls s) (p s ++ q)
          (AtLeast (tool.key s now.head.now))
      side_stays = rw (u.none, append-nil (p s), ap (λ l. l.head.now) u.same ∙ at_head, ← h.bound) (a.sides s)

    module _ (m : IsMoved tool.terminator tool.cmp (tool.key s) first now q) where
      abbrev here : Lines
      here = (p s ++ q) ++ now.head.now ∷ []

      all_lines : ls s ++ (m.middle ++ now.head.now ∷ []) ≡ here
      all_lines = rw (h.all, m.lines, at_head) (simp append_assoc)

      up : Extends (ls s) here
      up = record { more = m.middle ++ now.head.now ∷ []; is = sym all_lines }

      sorted_here : IsSortedUpTo tool.cmp (tool.key s) here (Some (tool.key s now.head.now))
      sorted_here =
          rw all_lines at (sorted_on tool.cmp (tool.key s) _ _ _ _ h.sorted_up_to (rw at_head at m.ordered))

      facts_moved : {is : Reader} → is ≡ consumed (reader s) now → IsSound is
          → ReadFacts tool s (old.reader s) is is [] here (p s ++ q) (AtLeast (tool.key s now.head.now))
      facts_moved {is} used sound = record {
        lines_read = rw all_lines at (lines_passed _ _ _ (a.sides s).lines_read (sym at_rest ∙ m.bytes) m.whole.0
            m.whole.1 used);
        reads = reads_nothing is;
        line = tt;
        sound = sound;
        processed_nearly = inr (now.head.now, refl, refl);
        processed_prefix = grind (arith, append_assoc, after_from, sorted_here);
        nothing_follows = grind arith;
      }

      begun_here : {is : Reader} → HasBegun is here
      begun_here = inr (omega (arith, length_push (p s ++ q) now.head.now))

    goes_ahead : IsAhead tool old s (reader s) (consumed (reader s) now) (ls s) (p s ++ q)
        (AtLeast (tool.key s now.head.now))
    goes_ahead = ⊎_elim
        (λ u. rw (nothing_used (reader s) _ (length now.rest.now) (all_left u) refl) (stays_ahead (side_stays u)))
        (λ m. record {
          now_ls = here m;
          facts = facts_moved m refl (sound_consumed _ now (a.sides s).sound);
          begun = begun_here m;
          up = up m;
          back = refl;
        })
        passed.1

    module _ {reached : Reached} {next : Sorted} {is : Reader} {after : Slots} (reached_is : IsReached now reached)
        (resumed : IsResumed reached (cursor s) next (reader s) is store after) where
      by_unmoved : IsUnmoved first now q → HasPassed next is after now q
      by_unmoved u =
          let same = nothing_used (reader s) is reached.left (reached_is.left ∙ all_left u) resumed.reader in
          let (cursor_is, store_is) =
          resumed.unmoved (reached_is.passed ∙ ap (λ l. l.passed) u.same ∙ passed.0) in
          rw (same, cursor_is, store_is) (record {
            now_ls = ls s;
            side = side_stays u;
            status_is = head;
            current = refl;
            previous = refl;
            keeps = subst (λ l. GroupStore tool old.store store l []) (λ i side. put_back s ls side i) a.keeps;
            reads = omega arith;
          })

      by_moved : IsMoved tool.terminator tool.cmp (tool.key s) first now q → HasPassed next is after now q
      by_moved m =
          let x = now.head.now in
          let slots = (a.sides s).slots in
          let four = (a.sides s).four in
          let on : IsPassed now.passed x (cursor s) next store after =
          rw (reached_is.left, reached_is.size, reached_is.passed, head_of_block _ _ _ _ _ (sym at_rest ∙ m.bytes)) at
          (resumed.moved (omega (arith, m.passed))) in
          let apart = slots_apart s (exchange (cursor s)) (cursor (other s)) (exchanged s (cursor s) slots)
          (a.sides (other s)).slots in
          let used = rw reached_is.left at resumed.reader in
          record {
            now_ls = here m;
            side = record {
              facts = facts_moved m used resumed.sound;
              begun = begun_here m;
              number = omega (
                arith,
                ap (λ c. c.number) on.cursor,
                passed.0,
                (a.sides s).number,
                ap length (all_lines m),
                length-append (ls s) (m.middle ++ x ∷ []),
                length_push m.middle x,
              );
              status_is = grind (arith, line_of_with_line, four, on, sorted_here m, length_push);
              slots = grind (arith, on);
              four = grind (arith, on, four);
            };
            status_is = ap (λ c. c.status) on.cursor ∙ head;
            current = rw on.store (line_other store _ _ x apart.0);
            previous = rw on.store (line_other store _ _ x apart.1);
            keeps = group_store_line s (exchange (cursor s)) (exchanged s (cursor s) slots) x a.keeps
                (side_extends s ls (up m)) (rw put_same (omega (arith, max_length-append (p s ++ q) (x ∷ []))))
                on.store;
            reads = rw used (omega (
              arith,
              length-drop (length (reader s).buffered - length now.rest.now)
                  (reader s).buffered,
            ));
          }

      has_passed : HasPassed next is after now q
      has_passed = ⊎_elim by_unmoved by_moved passed.1

-- ---- faults

-- the line reached is still buffered
still_there : {end : ℕ} {cmp : Cmp} {key : Key} {old now : BlockLine} {q : Lines} {reached : Reached} {reader : Reader}
    → old.rest.now ≡ reader.buffered → ArePassed end cmp key old now q → IsReached now reached → 0 < reached.passed
    → IsDone reader → ⊥
still_there rest passed at some done =
    absurd (omega (arith, (within_block rest passed at).1 some, ap length done.buffered))

-- A call fails while processed lines are still buffered.
module _ {tool : MergeTool} {old : MergeState} {w : IsOpenMerge tool old} {reader : Side → Reader}
    {cursor : Side → Sorted} {store : Slots} {ls p q : Side → Lines} {b d : Side → Bound}
    (a : CursorsInvariant w reader cursor store ls p b) {out : Output} {done : Lines}
    (lag : LagInvariant tool d q old.out out done) {virtual : Side → Reader}
    (ahead : (side : Side) → IsAhead tool old side (reader side) (virtual side) (ls side) (q side) (d side)) where
  unfailed : (side : Side) → (reader side).failed ≡ false
  unfailed side = none_failed a side ∙ w.unfailed side

  fails_behind : {after : Slots} → ((all : Side → Lines) → AllExtend ls all → FitsIn tool old.store after all)
      → (fault : MergeFault) → IsFaultBehind reader out after fault
      → MergePost tool old (state_by_side reader out after) (Err fault)
  fails_behind {after} fits fault ends =
      exit_behind w (state_by_side virtual out after) (λ side. (ahead side).facts) lag
      (λ all holds. fits all (λ side. extends_on (ahead side).up (extends (holds side))))
      (λ side. (ahead side).begun) _ (λ side. (ahead side).back) fault ends

  write_fails : out.write_failed ≡ true → MergePost tool old (state_by_side reader out store) (Err Write)
  write_fails failed = fails_behind a.keeps.fits Write
      (record { write_failed = failed; unfailed = unfailed; not_denied = a.keeps.denied })

  -- the line reached could not be stored: the slot of the current line is emptied
  not_resumed : out.write_failed ≡ false → (s : Side) → (IsDone (reader s) → ⊥) → {at : Reached} {is : Side → Reader}
      {after : Slots} → IsNotResumed at (cursor s) (reader s) (is s) store after → is (other s) ≡ reader (other s)
      → MergePost tool old (state_by_side is out after) (Err Memory)
  not_resumed clean s left {is = is} {after} r others =
      subst (λ f. MergePost tool old (state_by_side f out after) (Err Memory))
      (λ i side. side_case (λ t. reader t ≡ is t) s (sym r.unread) (sym others) side i)
      (rw r.store (fails_behind
      (group_store_line s (exchange (cursor s)) (exchanged s (cursor s) (a.sides s).slots) [] a.keeps
      (λ side. extends_itself _) (omega arith) refl).fits Memory
      (record { denied = refl; unfailed = unfailed; clean = clean; side = s; left = left })))

-- ---- both inputs go on

-- the loop goes on, and no reads were added to those that are left
record GoesOn {tool : MergeTool} {old was : MergeState} {cursor : Side → Sorted} {w : IsOpenMerge tool old}
    (loop : LoopInvariant w was cursor) (is : MergeState) (next : Side → Sorted) : Type 0 where
  loop_invariant : LoopInvariant w is next
  own_reader : (side : Side) → IsReaderOf (next side) (is.reader side)
  clean : is.out.write_failed ≡ false
  reads : reads_ahead is.reader (next First) (next Second) ≤ reads_ahead was.reader (cursor First) (cursor Second)

fewer : (f g : Side → Reader) (c d : Side → Sorted)
    → ((side : Side) → ((d side).status ≡ (c side).status) × (budget (g side) ≤ budget (f side)))
    → reads_ahead g (d First) (d Second) ≤ reads_ahead f (c First) (c Second)
fewer f g c d less = rw ((less First).0, (less Second).0) (omega (arith, (less First).1, (less Second).1))

module _ {tool : MergeTool} {old was : MergeState} {one two : Sorted} {w : IsOpenMerge tool old}
    (loop : LoopInvariant w was (both one two)) (between : BetweenSteps tool.key was one two)
    {is : MergeState} {one2 two2 : Sorted} where
  open tool use {cmp, key, terminator}
  open loop use {ls, p, b, sides, merge_invariant, cursors as before}

  module _ {result : Result (Unit {0}) MergeFault}
      (m : AreBlocksMerged tool (both one two) (both one2 two2) was is result) where
    merged_all : {at : Side → BlockLine} {mid : Output} → (a : AreMerged tool m.old at was.out mid)
        → MergeInvariant tool (at_heads tool at) (λ side. p side ++ a.q side) old.out mid
    merged_all = merged_on w.o (bounds_change
        (λ side. rw ((at_current_line (sides side) (m.head side)).bound, m.head_is side) same_bound) merge_invariant)
        between.clean

    ahead : {now : Side → BlockLine} {q : Side → Lines}
        → ((side : Side) → ArePassed terminator cmp (key side) (m.old side) (now side) (q side)) → (side : Side)
        → IsAhead tool old side (was.reader side) (consumed (was.reader side) (now side)) (ls side) (p side ++ q side)
        (AtLeast (key side (now side).head.now))
    ahead passed side = goes_ahead before side (m.head side) (m.head_is side) (m.rest_is side) (passed side)

    merge_fails : HasFailed tool m.old was.out is.out
        → MergePost tool old (state_by_side was.reader is.out was.store) (Err Write)
    merge_fails f = write_fails before
        (subst (λ (l : Side → Lines). AllWritten tool (at_heads tool f.now) l old.out is.out)
        (λ i side. append_assoc (p side) (f.merged.q side) (f.step.f side) i)
        (step_written tool w.o w.alone.none f.step f.merged.clean (merged_all f.merged)).1)
        (ahead (passed_more f.step f.merged.passed)) f.failed

    module _ {run : BlockRun} (post : BlockRunPost tool m.old run was.out is.out) where
      open post use {now, merged, merged.{q}}

      written : AllWritten tool (at_heads tool now) (λ side. p side ++ q side) old.out is.out
      written = lag_invariant_starts w.o (merged_all merged) merged.clean (push_nothing _)

      left : {side : Side} → 0 < (both run.first run.second side).passed → IsDone (was.reader side) → ⊥
      left {side} some = still_there (m.rest_is side) (merged.passed side) (post.reached side) some

      none_resumed : NoneResumed run (both one two) was.reader is.reader was.store is.store
          → MergePost tool old is (Err Memory)
      none_resumed r =
          not_resumed before written (ahead merged.passed) merged.clean First (left r.first.some) r.first r.second

      module _ {next : Sorted} {mid : Slots}
          (on : IsResumed run.first one next (was.reader First) (is.reader First) was.store mid) where
        step1 : HasPassed before First next (is.reader First) mid (now First) (q First)
        step1 = has_passed before First (m.head First) (m.head_is First) (m.rest_is First) (merged.passed First)
            (post.reached First) on

        second_not_resumed : IsNotResumed run.second two (was.reader Second) (is.reader Second) mid is.store
            → MergePost tool old is (Err Memory)
        second_not_resumed r =
            not_resumed (cursors_on before First step1) written
            {virtual = both (is.reader First) (consumed (was.reader Second) (now Second))}
            (elim [ First ↦ stays_ahead step1.side | Second ↦ ahead merged.passed Second ])
            merged.clean Second (left r.some) r refl

        merged_goes_on : IsResumed run.second two two2 (was.reader Second) (is.reader Second) mid is.store
            → GoesOn loop is (both next two2)
        merged_goes_on on2 =
            let half = cursors_on before First step1 in
            let step2 = has_passed half Second (m.head Second) (m.head_is Second ∙ sym step1.current) (m.rest_is Second)
            (merged.passed Second) (post.reached Second) on2 in
            let c = cursors_on half Second step2 in
            record {
              loop_invariant = record {
                ls = both step1.now_ls step2.now_ls;
                p = λ side. p side ++ q side;
                b = at_heads tool now;
                cursors = record {
                  sides = elim [ First ↦ c.sides First | Second ↦ c.sides Second ];
                  keeps = c.keeps;
                };
                merge_invariant = merged_all merged;
              };
              own_reader = elim [ First ↦ on.own_reader | Second ↦ on2.own_reader ];
              clean = merged.clean;
              reads = fewer was.reader is.reader (both one two) (both next two2) (elim [
                | First ↦ (step1.status_is ∙ sym (m.head First), step1.reads)
                | Second ↦ (step2.status_is ∙ sym (m.head Second), step2.reads)
              ]);
            }

  -- the other input has ended
  module _ {result : Result (Unit {0}) MergeFault}
      (m : IsOtherPassed tool (both one two) (both one2 two2) was is result) where
    open m use {s, passed}
    open passed use {head}

    no_more : b (other s) ≡ NothingMore
    no_more = (rw m.ended at (sides (other s)).status_is).0

    ahead_alone : {now : BlockLine} {q : Lines} → ArePassed terminator cmp (key s) passed.old now q → (side : Side)
        → IsAhead tool old side (was.reader side) (with_side s (consumed (was.reader s) now) was.reader side) (ls side)
        (p side ++ only s q side) (at_line tool s now side)
    ahead_alone by = side_case _ s
        (simp put_same (goes_ahead before s head passed.head_is passed.rest_is by))
        (simp (put_other, append-nil) (rw no_more at (stays_ahead {old = old} (sides (other s)))))

    passed_all : {at : BlockLine} {mid : Output} → (a : ArePassedAlone tool s passed.old at was.out mid)
        → MergeInvariant tool (at_line tool s at) (λ side. p side ++ only s a.q side) old.out mid
    passed_all = passed_on tool w.o s merge_invariant
        ((at_current_line (sides s) head).bound ∙ ap (λ x. AtLeast (key s x)) (sym passed.head_is)) no_more
        between.clean

    alone_fails : HasFailedAlone tool s passed.old was.out is.out
        → MergePost tool old (state_by_side was.reader is.out was.store) (Err Write)
    alone_fails f =
        let x = f.before.head.now ∷ [] in
        write_fails before
        (subst (λ (l : Side → Lines). AllWritten tool (at_line tool s f.now) l old.out is.out)
        (λ i side. (append_assoc (p side) (only s f.merged.q side) (only s x side)
        ∙ ap (λ (l : Side → Lines). p side ++ l side) (only_push s f.merged.q x)) i)
        (line_written tool w.o s w.alone f.before f.now f.next.ordered f.merged.clean (passed_all f.merged) f.wrote).1)
        (ahead_alone (passed_one cmp (key s) f.merged.passed f.next)) f.failed

    module _ {at : Reached} (post : LineRunPost tool s passed.old at was.out is.out) where
      open post use {now, passed as a, reached}

      alone_not_resumed : IsNotResumed at (both one two s) (was.reader s) (is.reader s) was.store is.store
          → MergePost tool old is (Err Memory)
      alone_not_resumed r =
          not_resumed before (lag_invariant_starts w.o (passed_all a) a.clean (push_nothing _))
          (ahead_alone a.passed) a.clean s (still_there passed.rest_is a.passed reached r.some) r m.reader

      alone_goes_on : IsResumed at (both one two s) (both one2 two2 s) (was.reader s) (is.reader s) was.store
          is.store → GoesOn loop is (both one2 two2)
      alone_goes_on on =
          let n = has_passed before s head passed.head_is passed.rest_is a.passed reached on in
          record {
            loop_invariant = record {
              ls = with_side s n.now_ls ls;
              p = λ side. p side ++ only s a.q side;
              b = at_line tool s now;
              cursors = record {
                sides = side_case _ s (simp put_same n.side)
                    (simp (put_other, append-nil) (rw (m.reader, m.others) (rw no_more at (other_stays before s n))));
                keeps = n.keeps;
              };
              merge_invariant = passed_all a;
            };
            own_reader = side_case _ s on.own_reader (rw (m.reader, m.others) (between.own_reader (other s)));
            clean = a.clean;
            reads = fewer was.reader is.reader (both one two) (both one2 two2)
                (side_case _ s (n.status_is ∙ sym head, n.reads) (rw (m.reader, m.others) (refl, omega arith)));
          }

  goes_on : {u : Unit {0}} → BlocksPost tool (both one two) (both one2 two2) was is (Ok u)
      → GoesOn loop is (both one2 two2)
  goes_on {u} post =
      ⊎_elim
      (λ e. subst (λ c. GoesOn loop is c) (sym e.0) (subst (λ now. GoesOn loop now (both one two)) (sym e.1)
      (record { loop_invariant = loop; own_reader = between.own_reader; clean = between.clean; reads = omega arith })))
      (⊎_elim
      (λ m. ⊎_elim (λ f. (let never = f.1.fault in cc))
      (λ h. merged_goes_on m h.post h.resumed.first h.resumed.second) m.ends)
      (λ m. ⊎_elim (λ f. cc) (λ h. alone_goes_on m h.post h.resumed)
      m.passed.ends))
      post

  pub blocks_on : {u : Unit {0}} → BlocksPost tool (both one two) (both one2 two2) was is (Ok u)
      → AreValidCursors key one2 two2 is.store → LoopInvariant w is (both one2 two2) × BetweenSteps key is one2 two2
  blocks_on post valid =
      let on = goes_on post in
      (on.loop_invariant, record { valid_cursors = valid; own_reader = on.own_reader; clean = on.clean })

  pub blocks_read : {u : Unit {0}} → BlocksPost tool (both one two) (both one2 two2) was is (Ok u)
      → reads_ahead is.reader one2 two2 ≤ reads_ahead was.reader one two
  blocks_read post = (goes_on post).reads

  pub blocks_fail : {fault : MergeFault} → BlocksPost tool (both one two) (both one2 two2) was is (Err fault)
      → MergePost tool old is (Err fault)
  blocks_fail {fault} post =
      ⊎_elim
      (λ e. cc)
      (⊎_elim
      (λ m. ⊎_elim
      (λ f. subst (λ reader. MergePost tool old (state_by_side reader is.out is.store) (Err fault)) (sym f.1.reader)
      (rw (f.1.fault, f.1.store) (merge_fails m f.0)))
      (λ h. rw h.resumed.0 (⊎_elim (none_resumed m h.post) (λ r. second_not_resumed m h.post r.first r.second)
      h.resumed.1))
      m.ends)
      (λ m. ⊎_elim
      (λ f. subst (λ reader. MergePost tool old (state_by_side reader is.out is.store) (Err fault))
      (λ i side. side_case (λ t. was.reader t ≡ is.reader t) m.s (sym f.2) (sym m.reader) side i)
      (rw (f.1, f.3) (alone_fails m f.0)))
      (λ h. rw h.resumed.0 (alone_not_resumed m h.post h.resumed.1)) m.passed.ends))
      post

module _ {tool : MergeTool} {old was : MergeState} {one two : Sorted} {w : IsOpenMerge tool old}
    (loop : LoopInvariant w was (both one two)) (between : BetweenSteps tool.key was one two) where
  -- `own` is the tool in its own order
  pub blocks_pre : (own : MergeTool) → tool.terminator ≡ own.terminator → IsLineByLine own.entries
      → ((side : Side) (x : List ℕ) → tool.key side x ≡ own.key side x) → BlocksPre own tool.key one two was
  blocks_pre own same alone keys = record {
    tool_is = record { keys = keys; alone = alone };
    valid_cursors = between.valid_cursors;
    own_reader = between.own_reader;
    terminator = λ side. (loop.sides side).lines_read.terminator ∙ same;
  }

-- the invariant of the loop of `comm`, in whatever order
pub kept_by_blocks : {O : Type 0} (cmp : O → Cmp) (key : O → Side → Key) {job : Comm} {old was : MergeState}
    {one two : Sorted} {a b start : O} → LoopOfComm job cmp key old was one two a start
    → {is : MergeState} {one2 two2 : Sorted} {u : Unit {0}}
    → BlocksPost (comm_with job (cmp a) (key a)) (both one two) (both one2 two2) was is (Ok u) → b ≡ a
    → AreValidCursors (key b) one2 two2 is.store → LoopOfComm job cmp key old is one2 two2 b start
kept_by_blocks cmp key k post same valid =
    let t = k.iteration in
    let (loop, between) = blocks_on t.loop_invariant t.between post (rw same at valid) in
    kept_order same k.order
    (record { w = t.w; whole_line_keys = t.whole_line_keys; loop_invariant = loop; between = between })

-- the remaining work of the loop decreases
pub reads_once : {a b c : ℕ} → a < b → b ≤ c → a < c
reads_once = omega arith

pub reads_twice : {a b c d : ℕ} → a < b → b < c → c ≤ d → a < d
reads_twice = omega arith
