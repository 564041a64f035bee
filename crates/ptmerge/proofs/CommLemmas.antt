-- Proofs for `comm`. A line adds one output line if one input has it alone, and one common output line if both have it:
-- each step of the merge extends the output by the entries of its key, so the loop invariant of the merge carries over.
use Rattle.ptmerge.proofs
use proofs.Common.{◌≡◌, ℕ, List, [], ◌∷◌, ◌++◌, refl, sym, ◌∙◌, arith, Comm, Output, PushEffect, Reader, Slots, line}
use proofs.Common.{rules, unlines, Side, First, Second, Sorted, Lines, MergeTool, AdvanceOkPost, AdvancePre}
use proofs.Common.{MergeRunPre, MergeState, merge_state, Cmp, Key, both, with_side, HaveEqualKeys, HasOnlyLeastKey, suc}
use proofs.Common.{append-nil, Bool, Head}
use proofs.MergeLemmas.{BetweenSteps, between_next, advance_pre, EndsIfFails, LoopInvariant, advance_ok, goes_merging}
use proofs.MergeLemmas.{passing_now, runs_on, read_facts_current, iteration_fails, wrote_alone, alone_breaks, place_is}
use proofs.MergeLemmas.{wrote_and_sent, IsKeyOrder, Written, line_is_least_run, lag_invariant_starts, write_least_run}
use proofs.MergeLemmas.{at_current_line, state_by_side, IsOpenMerge, Kept, entries_of_pair, open_merge}
use Rattle.ptmerge.specs.Calls.Comm.{comm_tool, comm_with}
use Rattle.ptmerge.specs.Comm.{entries, column_entries}
use Rattle.ptmerge.specs.Private.BlockLines.{entries_alone}
use Rattle.ptmerge.specs.Private.WriteAndAdvance.{WriteThenAdvancePre}

-- ---- each line adds one entry

pub no_entries : (hidden : Bool) (tabs line : List ℕ) → column_entries hidden tabs 0 line ≡ []
no_entries = grind arith

pub entries_both : (job : Comm) (x : List ℕ) (n k : ℕ)
    → entries job x (suc n) (suc k) ≡ entries job x 1 1 ++ entries job x n k
entries_both = grind arith

pub comm_opens : (job : Comm) (cmp : Cmp) (key : Side → Key) {first second : Reader} {out : Output} {store : Slots}
    → IsKeyOrder cmp → MergeRunPre job.terminator first second out store
    → IsOpenMerge (comm_with job cmp key) (merge_state first second out store)
comm_opens job cmp key o begins = open_merge o (grind (arith, append-nil)) (λ ls. omega arith) begins

-- ---- the loop invariant

pub record IterationInvariant (job : Comm) (cmp : Cmp) (key : Side → Key) (old now : MergeState)
    (one two : Sorted) : Type 0 where
  pub w : IsOpenMerge (comm_with job cmp key) old
  pub whole_line_keys : (side : Side) (x : List ℕ) → key side x ≡ x
  pub loop_invariant : LoopInvariant w now (both one two)
  pub between : BetweenSteps key now one two

-- the same for the current order of lines, which is the one at the start
abbrev pub LoopOfComm : Comm → {O : Type 0} → (O → Cmp) → (O → Side → Key) → MergeState → MergeState → Sorted → Sorted
    → O → O → Type 0
LoopOfComm job cmp key old now one two order start = Kept (λ o. comm_with job (cmp o) (key o))
    (λ o. IterationInvariant job (cmp o) (key o) old now one two) order start

-- ---- a step

module _ {job : Comm} {cmp : Cmp} {key : Side → Key} {old now : MergeState} {one two : Sorted}
    (t : IterationInvariant job cmp key old now one two) where
  open t use {
    w,
    whole_line_keys,
    loop_invariant,
    loop_invariant.{ls, p, b, sides, merge_invariant, cursors as lines_before},
    between,
  }

  abbrev tool : MergeTool
  tool = comm_with job cmp key

  abbrev head : Side → List ℕ
  head s = line now.store (both one two s).current_slot

  abbrev Advances : Side → Sorted → Sorted → Reader → Slots → Output → Type 0
  Advances s one2 two2 reader after new =
      AdvanceOkPost key cmp s one two one2 two2 (now.reader s) reader now.store after new

  pub write_pre : (s : Side) → (both one two s).status ≡ Head
      → WriteThenAdvancePre (comm_tool job) key s one two (now.reader s) now.store
  write_pre s head = record { advance = advance_pre between s head; keys = whole_line_keys }

  module _ {s : Side} (step : HasOnlyLeastKey cmp key (both one two) now.store s) {new : Output}
      (wrote : PushEffect now.out new (unlines (now.reader s).terminator
      (entries_alone tool.entries s (key s (head s)) (head s)))) where
    pub alone_continues : {one2 two2 : Sorted} {reader : Reader} {after : Slots} → Advances s one2 two2 reader after new
        → IterationInvariant job cmp key old (state_by_side (with_side s reader now.reader) new after) one2 two2
    alone_continues {one2} {two2} h = record {
      w = w;
      whole_line_keys = whole_line_keys;
      loop_invariant = rw (← place_is s one two _ _ h.continues.others)
          (runs_on lines_before s step.status_is h.came (wrote_alone loop_invariant between.clean step wrote).0);
      between = between_next between s h.continues;
    }

    pub alone_fails : EndsIfFails tool old now s (both one two s) new
    alone_fails = alone_breaks loop_invariant between.clean step wrote

  module _ (step : HaveEqualKeys cmp key (both one two) now.store) where
    pub same_line : head Second ≡ head First
    same_line = sym (whole_line_keys Second _) ∙ sym step.same ∙ whole_line_keys First _

    -- the first input advanced: the second one is still at the line
    module _ {one2 two2 : Sorted} {reader : Reader} {after : Slots} {mid : Output}
        (h : Advances First one2 two2 reader after mid) where
      pub second_advance_pre : AdvancePre key Second one2 two2 (now.reader Second) after
      second_advance_pre =
          advance_pre (between_next between First h.continues) _ (rw h.continues.others step.second)

    abbrev both_written : Side → Lines
    both_written = both (ls First) (ls Second)

    wrote_both : {new : Output} → PushEffect now.out new (unlines (now.reader First).terminator
        (tool.entries (head First) (head First ∷ []) (head Second ∷ []))) → Written tool b both_written old.out new
    wrote_both wrote =
        let h1 = at_current_line (sides First) step.first in
        let h2 = at_current_line (sides Second) step.second in
        let x = head First in
        write_least_run w.o (key First x) both_written (both (x ∷ []) (head Second ∷ []))
        (elim [
          | First ↦ line_is_least_run w.o h1.bound refl
          | Second ↦ line_is_least_run w.o h2.bound (sym step.same)
        ])
        (elim [ First ↦ h1.all | Second ↦ h2.all ]) (w.alone.none (key First x)) (λ r c. entries_both job _ _ _)
        between.clean merge_invariant
        (rw (entries_of_pair tool w.o _ _ (sym step.same), whole_line_keys First x)
        (rw (sides First).lines_read.terminator at wrote))

    module _ {mid : Output} (wrote : PushEffect now.out mid (unlines (now.reader First).terminator
        (tool.entries (head First) (head First ∷ []) (head Second ∷ [])))) where
      pub pair_fails : EndsIfFails tool old now First one mid
      pair_fails = iteration_fails lines_before First step.first (wrote_both wrote).1 refl
          (passing_now lines_before Second step.second)

      module _ {one2 two2 : Sorted} {reader : Reader} {after : Slots}
          (h : Advances First one2 two2 reader after mid) {new : Output} (written_out : PushEffect mid new []) where
        pub second_fails : EndsIfFails tool old (state_by_side (both reader (now.reader Second)) new after) Second two2
            new
        second_fails _ _ _ k =
            let g = advance_ok lines_before First step.first h.came in
            let before = goes_merging lines_before First step.first h.came (wrote_both wrote).0 in
            iteration_fails g Second step.second (lag_invariant_starts w.o before h.continues.clean written_out) refl
            (read_facts_current g _) _ _ _ (rw h.continues.others at k)

        pub pair_continues : {one3 two3 : Sorted} {reader2 : Reader} {last : Slots}
            → AdvanceOkPost key cmp Second one2 two2 one3 two3 (now.reader Second) reader2 after last new
            → IterationInvariant job cmp key old (state_by_side (both reader reader2) new last) one3 two3
        pair_continues k =
            record {
              w = w;
              whole_line_keys = whole_line_keys;
              loop_invariant = rw k.continues.others (runs_on (advance_ok lines_before First step.first h.came) Second
                  step.second (rw h.continues.others at k.came) (search (
                    rules,
                    goes_merging,
                    (wrote_both (wrote_and_sent _ _ _ _ h.continues.clean wrote written_out)).0,
                  )));
              between = between_next (between_next between First h.continues) Second k.continues;
            }
