-- The loops of `join`. Between groups the invariant is that of the merge; an iteration there writes an unpaired line,
-- ends the loop, or runs the loops of a group: one reads the second input's lines of the key, and one writes the pairs
-- of the first input's lines.
pub mod Group
pub mod Fields
pub mod FieldMasks
use Rattle.ptmerge.proofs
use Rattle.ptmerge.specs
use proofs.Common.{cond, Err, flat_map-append, Cmp, MergeFault, IsReadyToContinue, AdvanceOkPost, MergePost}
use proofs.Common.{MergeRunPre, merge_state, both, lines_of, Memory, HaveEqualKeys, HasOnlyLeastKey, ◌⊎◌, push_nothing}
use proofs.Common.{inl, inr, ◌==◌, length_push, nil_from_length}
use specs.Private.JoinGroup.{IsInItsSlot, IsCopiedToGroup, ReadGroupLineOkPost, ReadGroupLinePost, IsGroup, group_lines}
use specs.Private.WriteAndAdvance.{WriteThenAdvancePre}
use proofs.MergeLemmas.{BetweenSteps, between_next, advance_pre, wrote_alone, alone_breaks, place_is, LoopInvariant}
use proofs.MergeLemmas.{Extends, input_split_of, extends, extends_on, runs_on, valid_cursors_kept, wrote_and_sent}
use proofs.MergeLemmas.{others_stay, open_merge, IsKeyOrder, IsOpenMerge, exit_is_merge_post, continues, same_bound}
use proofs.MergeLemmas.{bounds_change, EachKey-at, Kept, reads_ahead, reads_less}
use specs.Join.{unpaired_entries1, join_entries}
use specs.Private.BlockLines as lines
use specs.Calls.Join.{join_with, join_key, join_tool}
use Group.*

cond_of_empty : (t : Bool) → cond {A = Lines} t [] [] ≡ []
cond_of_empty = grind arith

module _ (job : Join) (cmp : Cmp) (key : Side → Key) where
  first_alone : (k : List ℕ) (g : Lines) → join_entries job k g [] ≡ unpaired_entries1 job k g
  first_alone = grind arith

  pub join_opens : {first second : Reader} {out : Output} {store : Slots} → IsKeyOrder cmp
      → MergeRunPre job.terminator first second out store
      → IsOpenMerge (join_with job cmp key) (merge_state first second out store)
  join_opens o begins = open_merge o (grind (arith, first_alone)) (λ ls. omega arith) begins

  some_pairs : job.pairs ≡ true → (k : List ℕ) (f g : Lines) → 0 < length f → 0 < length g
      → 0 < length (pair_entries job k f g)
  some_pairs keeps k (a ∷ f) (b ∷ g) some1 some2 = rw keeps (omega arith)
  some_pairs keeps k f g some1 some2 = absurd (omega arith)

  pub join_pairs : IsPairTool (join_with job cmp key) (pair_entries job)
  join_pairs = grind (arith, flat_map-append, some_pairs)

-- ---- in a group

-- both inputs are at a line with the key `k`, and the second input's lines with it are being read
pub record ReadGroup (end : ℕ) (call : JoinCall) (now : MergeState) (cursor : Side → Sorted) : Type 0 where
  pub k : List ℕ
  pub g : Lines
  pub kept : Lines
  pub q : GroupState call now cursor end k (both [] g) kept
  pub copied : kept ≡ cond call.keeps_groups g []
  pub heads : (side : Side) → IsAtGroupLine q side

-- no line of the group is copied, and `last`, the previous line of the second input, stands for all: it is the only
-- one, or no pairs are written
pub record IsOneForAll (call : JoinCall) (k last : List ℕ) (kept g : Lines) : Type 0 where
  pub none : kept ≡ []
  pub own : call.key Second last ≡ k
  pub same_pairs : (f : Lines) → call.pairs k f (last ∷ []) ≡ call.pairs k f g

-- the lines of the group are copied, or its last line stands for all
abbrev pub IsGroupIn : JoinCall → List ℕ → List ℕ → Lines → Lines → Type 0
IsGroupIn call k last kept g = (kept ≡ g) ⊎ IsOneForAll call k last kept g

-- the group is read, and the first input is at a line with its key
pub record WritePairs (end : ℕ) (call : JoinCall) (now : MergeState) (cursor : Side → Sorted) : Type 0 where
  pub k : List ℕ
  pub g : Side → Lines
  pub kept : Lines
  pub q : GroupState call now cursor end k g kept
  pub lines_in : IsGroupIn call k (line now.store (cursor Second).previous_slot) kept (g Second)
  pub some : 0 < length (g Second)
  pub above : IsAbove call.cmp (call.key Second) k (q.d Second)
  pub head : IsAtGroupLine q First

abbrev pub BetweenGroups : JoinCall → MergeState → (Side → Sorted) → Type 0
BetweenGroups call now cursor = LoopInvariant call.w now cursor

abbrev pub join_call : (job : Join) (cmp : Cmp) (key : Side → Key) {old : MergeState}
    → IsOpenMerge (join_with job cmp key) old → JoinCall
join_call job cmp key {old} w =
    record { tool = join_with job cmp key; pairs = pair_entries job; laws = join_pairs job cmp key; old = old; w = w }

-- `Here` is the part of the invariant in which the loops differ
pub record IterationInvariant (job : Join) (cmp : Cmp) (key : Side → Key) (old : MergeState)
    (Here : JoinCall → MergeState → (Side → Sorted) → Type 0) (now : MergeState) (one two : Sorted) : Type 0 where
  pub w : IsOpenMerge (join_with job cmp key) old
  pub keys : (side : Side) (x : List ℕ) → key side x ≡ join_key job side x
  pub here : Here (join_call job cmp key w) now (both one two)
  pub between : BetweenSteps key now one two
  pub open between use *

module _ {job : Join} {cmp : Cmp} {key : Side → Key} {old : MergeState}
    {Here : JoinCall → MergeState → (Side → Sorted) → Type 0} {now : MergeState} {one two : Sorted}
    (t : IterationInvariant job cmp key old Here now one two) where
  iteration_continues : {Next : JoinCall → MergeState → (Side → Sorted) → Type 0} (s : Side) {one2 two2 : Sorted}
      {reader : Reader} {after : Slots} {new : Output} → IsReadyToContinue key s one two one2 two2 reader after new
      → Next (join_call job cmp key t.w) (state_after_read now s reader new after)
      (with_side s (both one2 two2 s) (both one two))
      → IterationInvariant job cmp key old Next (state_after_read now s reader new after) one2 two2
  iteration_continues s {one2} {two2} continues here = record {
    w = t.w;
    keys = t.keys;
    here = rw (← place_is s one two _ _ continues.others) here;
    between = between_next t.between s continues;
  }

  pub write_pre : (s : Side) → (both one two s).status ≡ Head
      → WriteThenAdvancePre (join_tool job) key s one two (now.reader s) now.store
  write_pre s head = record { advance = advance_pre t.between s head; keys = t.keys }

-- the same for the current order of keys, which is the one at the start
abbrev pub LoopOfJoin : Join → {O : Type 0} → (O → Cmp) → (O → Side → Key) → MergeState
    → (JoinCall → MergeState → (Side → Sorted) → Type 0) → MergeState → Sorted → Sorted → O → O → Type 0
LoopOfJoin job cmp key old Here now one two order start = Kept (λ o. join_with job (cmp o) (key o))
    (λ o. IterationInvariant job (cmp o) (key o) old Here now one two) order start

-- ---- between groups

module _ {job : Join} {cmp : Cmp} {key : Side → Key} {old now : MergeState} {one two : Sorted}
    (t : IterationInvariant job cmp key old BetweenGroups now one two) where
  open t.here use {cursors as lines_before, ls, p, b, sides, merge_invariant}

  module _ {s : Side} (step : HasOnlyLeastKey cmp key (both one two) now.store s) {new : Output}
      (wrote : PushEffect now.out new (unlines (now.reader s).terminator
      (lines.entries_alone (join_entries job) s (key s (head_of now (both one two) s))
      (head_of now (both one two) s)))) where
    pub alone_continues : {one2 two2 : Sorted} {reader : Reader} {after : Slots}
        → AdvanceOkPost key cmp s one two one2 two2 (now.reader s) reader now.store after new
        → IterationInvariant job cmp key old BetweenGroups (state_after_read now s reader new after) one2 two2
    alone_continues h =
        let (m, _) = wrote_alone t.here t.clean step wrote in
        iteration_continues t s h.continues (runs_on lines_before s step.status_is h.came m)

    pub alone_fails : EndsIfFails (join_with job cmp key) old now s (both one two s) new
    alone_fails = alone_breaks t.here t.clean step wrote

  pub group_opens : HaveEqualKeys cmp key (both one two) now.store
      → {end : ℕ} → end ≡ 4 → IterationInvariant job cmp key old (ReadGroup end) now one two
  group_opens step at =
      let k = key First (head_of now (both one two) First) in
      let bounds : (side : Side) → b side ≡ AtLeast
      k = elim [
        | First ↦ (at_current_line (sides First) step.first).bound
        | Second ↦ rw step.same (at_current_line (sides Second) step.second).bound
      ] in
      let none : (side : Side) → p side ≡ p side ++ both [] []
      side = search rules in
      record {
        w = t.w;
        keys = t.keys;
        here = record {
          k = k;
          g = [];
          kept = [];
          copied = sym (cond_of_empty _);
          q = record {
            ls = ls;
            p = p;
            d = b;
            mid = now.out;
            sides = λ side. rw (← none side) (sides side);
            within = record {
              merge_invariant = bounds_change (λ side. rw (bounds side) same_bound) merge_invariant;
              clean = t.clean;
              own = search rules;
              later = λ side. rw (bounds side) same_bound;
            };
            keeps = lines_before.keeps;
            wrote = rw ((join_pairs job cmp key).none k []) (push_nothing _);
            at = at;
          };
          heads = elim [
            | First ↦ record { head = step.first; is = refl }
            | Second ↦ record { head = step.second; is = sym step.same }
          ];
        };
        between = t.between;
      }

-- ---- reading the group

module _ {job : Join} {cmp : Cmp} {key : Side → Key} {old now : MergeState} {one two : Sorted} {end : ℕ}
    (t : IterationInvariant job cmp key old (ReadGroup end) now one two) where
  open t.w use {o}
  open t use {here as a}

  abbrev call : JoinCall
  call = join_call job cmp key t.w

  pub read_group_less : {one2 two2 : Sorted} {reader : Reader} {made after : Slots} {out : Output}
      → NextOkPost (key Second) cmp two two2 (now.reader Second) reader now.store made
      → IsReadyToContinue key Second one two one2 two2 reader after out
      → reads_ahead (with_side Second reader now.reader) one2 two2 < reads_ahead now.reader one two
  read_group_less came continues = reads_less t.between Second continues (a.heads Second).head came

  all_copied : call.keeps_groups ≡ true → a.kept ≡ a.g
  all_copied = grind arith

  abbrev y : List ℕ
  y = line now.store two.current_slot

  abbrev grown : Lines
  grown = a.g ++ y ∷ []

  module _ {out : Output} (written_out : PushEffect now.out out []) where
    wrote_none : PushEffect a.q.mid out []
    wrote_none = wrote_and_sent _ _ _ _ t.clean (rw (call.laws.none a.k a.g) at a.q.wrote) written_out

    module _ {reader : Reader} {two2 : Sorted} {made : Slots}
        (comes : NextOkPost (key Second) cmp two two2 (now.reader Second) reader now.store made) where
      on_second : AdvancedGroup (a.heads Second) comes out
      on_second = advanced_group _ _ (rw (call.laws.none a.k grown) wrote_none)

      inside : {l : Lines} → Extends (on_second.group.ls Second) l → InLargest (key Second) grown l
      inside {l} more =
          let on = extends_on (on_second.more Second) more in
          let is : l ≡ (a.q.p Second ++ grown) ++ on.more = cc (with_head (a.heads Second)) in
          rw is (group_in (key Second) a.k (a.q.p Second) grown on.more
          (own_more (a.heads Second) Second) (omega (arith, length_push a.g y)))

      module _ (after : Slots) (same : (i : ℕ) → i < 4 → line after i ≡ line made i) where
        key1_on : key First (line after one.current_slot) ≡ a.k
        key1_on = rw (
          same one.current_slot (low_slot First one (a.q.sides First).slots).current,
          (others_stay o a.q.sides Second (a.heads Second).head comes).0,
        ) (a.heads First).is

        stays : line after two2.current_slot ≡ line made two2.current_slot
        stays = same _ (low_slot Second two2 (on_second.group.sides Second).slots).current

      record GrownGroup (after : Slots) (to : ℕ) : Type 0 where
        kept : Lines
        q : GroupState call (state_after_read now Second reader out after) (with_side Second two2 (both one two)) to
            a.k (both [] grown) kept
        same : (i : ℕ) → i < 4 → line after i ≡ line made i
        copied : two2.same ≡ true → kept ≡ cond call.keeps_groups grown []
        lines_in : IsGroupIn call a.k (line after two2.previous_slot) kept grown

      grown_group : {after : Slots} {to : ℕ} → IsInItsSlot call.keeps_groups two2 made after end to
          ⊎ IsCopiedToGroup call.keeps_groups two2 made after end to → GrownGroup after to
      grown_group (inl e) =
          let none = ⊎_elim (λ without. a.copied ∙ (λ i. cond (without i) a.g []))
          (λ (_, four). nil_from_length a.kept (omega arith)) e.stays in
          rw (e.end_is, e.store_is) (record {
            kept = a.kept;
            q = on_second.group;
            same = λ i low. refl;
            copied = λ s. none ∙ ⊎_elim (λ without i. cond ((sym without) i) grown []) (λ (left, _). cc) e.stays;
            lines_in = inr (record {
              none = none;
              own = rw (last_stays (a.heads Second) comes) (a.heads Second).is;
              same_pairs = search (rules, a);
            });
          })
      grown_group {after} (inr e) =
          let all : a.kept ++ y ∷ [] ≡ grown = cc (all_copied e.keeps) in
          let new : CopiedLine on_second.group.keeps after y = group_store_copied _ on_second.group.at
          (low_slot Second two2 (on_second.group.sides Second).slots).previous e.copied
          (last_stays (a.heads Second) comes)
          (λ all more. rw (all_copied e.keeps) (call.laws.largest e.keeps _ all (inside (more Second)))) in
          rw e.end_is (record {
            kept = a.kept ++ y ∷ [];
            q = group_kept on_second.group new.same new.store_holds (omega (arith, length_push a.kept y));
            same = new.same;
            copied = λ s i. cond ((sym e.keeps) i) (all i) [];
            lines_in = inl all;
          })

    module _ {one2 two2 : Sorted} {reader : Reader} {after : Slots} {to : ℕ}
        (h : ReadGroupLineOkPost call.keeps_groups (key Second) cmp two two2 (now.reader Second) reader now.store
        after end to) (continues : IsReadyToContinue key Second one two one2 two2 reader after out) where
      pub read_group_continues : two2.same ≡ true
          → IterationInvariant job cmp key old (ReadGroup to) (state_after_read now Second reader out after) one2 two2
      read_group_continues same =
          let r = grown_group h.came h.kept in
          let (head, has_key) = continues_key (a.heads Second) h.came same in
          iteration_continues t _ continues (record {
            k = a.k;
            g = grown;
            kept = r.kept;
            q = r.q;
            copied = r.copied same;
            heads = elim [
              | First ↦ record { head = (a.heads First).head; is = key1_on h.came after r.same }
              | Second ↦ record { head = head; is = rw (stays h.came after r.same) has_key }
            ];
          })

      pub write_pairs_next : two2.same ≡ false → IterationInvariant job cmp key old (WritePairs to)
          (state_after_read now Second reader out after) one2 two2
      write_pairs_next same =
          let r = grown_group h.came h.kept in
          iteration_continues t _ continues (record {
            k = a.k;
            g = both [] grown;
            kept = r.kept;
            q = r.q;
            lines_in = r.lines_in;
            some = omega (arith, length_push a.g y);
            above = is_past r.q _
                (λ e has. leaves_key (a.heads Second) h.came same e (rw (stays h.came after r.same) at has));
            head = record { head = (a.heads First).head; is = key1_on h.came after r.same };
          })

    read_fails : EndsIfFails call.tool old now Second two out
    read_fails = group_breaks (a.heads Second) (starts_none call (within_more (a.heads Second))) wrote_none

    pub read_group_fails : {two2 : Sorted} {reader : Reader} {after : Slots} {fault : MergeFault}
        → ReadGroupLinePost call.keeps_groups (key Second) cmp two two2 (now.reader Second) reader now.store after out
        end end (Err fault) → MergePost (join_with job cmp key) old (state_after_read now Second reader out after)
        (Err fault)
    read_group_fails (inl e) = read_fails _ _ _ (inl e)
    read_group_fails (inr (fine, inr e)) = read_fails _ _ _ (inr (fine, e))
    read_group_fails {reader = reader} {after} (inr (fine, inl e)) =
        let q = (on_second e.came).group in
        let new = state_after_read now Second reader out after in
        let lag = group_written call.w q.within (starts_none call q.within)
        (rw (call.laws.none a.k grown) at q.wrote) in
        rw e.memory (exit_is_merge_post call.w new (group_read_facts q) lag (λ all more.
        let up = λ (side : Side). extends (more side) in
        let room = call.laws.largest e.keeps _ all (inside e.came (up Second)) in
        omega (
          arith,
          ap length (all_copied e.keeps),
          q.keeps.fits all up,
          total_within call.tool a.kept _ q.keeps.lines up (q.keeps.room all up),
          length_push a.g y,
        ))
        (both_begun (λ side. (q.sides side).begun))
        (λ side fail. cc ((q.sides side).lines_read.advance_ok.failed, call.w.unfailed side)) (Err Memory) (record {
          denied = e.copy_failed.denied;
          unfailed = λ side read. (q.sides side).lines_read.advance_ok.failed;
          clean = fine;
          -- the pairs of the first input's current line and the group are not written yet
          left = λ four. inr (
            e.keeps,
            λ texts agree.
                let first : IsAtGroupLine q First =
                record { head = (a.heads First).head; is = key1_on e.came e.made (λ i low. refl) } in
                front_is_not_all call (within_more first) e.keeps
                (elim [ First ↦ omega arith | Second ↦ omega (arith, length_push a.g y) ])
                (lines_of call.tool texts) (input_split_of call.w new (passing_now first) _
                (continues call.w new (group_read_facts q) texts agree)),
          );
        }))

-- ---- writing pairs

module _ {job : Join} {cmp : Cmp} {key : Side → Key} {old now : MergeState} {one two : Sorted} {end : ℕ}
    (t : IterationInvariant job cmp key old (WritePairs end) now one two) where
  open t.w use {o}
  open t use {here as state}

  abbrev writing : JoinCall
  writing = join_call job cmp key t.w

  pub write_pairs_less : {one2 two2 : Sorted} {reader : Reader} {after : Slots} {new : Output}
      → AdvanceOkPost key cmp First one two one2 two2 (now.reader First) reader now.store after new
      → reads_ahead (with_side First reader now.reader) one2 two2 < reads_ahead now.reader one two
  write_pairs_less h = reads_less t.between First h.continues state.head.head h.came

  is_kept : state.kept ≡ state.g Second → (end == 4) ≡ false
  is_kept same = rw (state.q.at, same) (grind arith)

  is_alone : state.kept ≡ [] → (end == 4) ≡ true
  is_alone none = rw (state.q.at, none)

  abbrev in_slots : Lines
  in_slots = group_lines two now.store end

  group_pairs_are : (f : Lines) → pair_entries job state.k f in_slots ≡ pair_entries job state.k f (state.g Second)
  group_pairs_are f = ⊎_elim (λ same. rw (is_kept same, group_is state.q.keeps state.q.at, same)) (λ h. rw (
    is_alone h.none,
    group_one now.store two.previous_slot (omega arith),
  ) (h.same_pairs f))
      state.lines_in

  pub write_pairs_group : IsGroup (join_key job Second) two now.store end
      (key First (line now.store one.current_slot))
  write_pairs_group = record {
    within = end_in state.q;
    keyed = λ slot from low. sym (t.keys Second (line now.store slot)) ∙ ⊎_elim (λ same.
        let first = rw (is_kept same) at from in
        let last = rw (is_kept same) at low in
        rw (kept_line state.q.keeps _ first (omega arith)) (EachKey-at _ _
        _ _ (omega arith) (rw (← same) at (state.q.within.own Second))))
        (λ h. let is : slot ≡ two.previous_slot = omega
        (arith, rw (is_alone h.none) at from, rw (is_alone h.none) at low) in rw is h.own) state.lines_in
        ∙ sym state.head.is;
  }

  abbrev z : Lines
  z = line now.store one.current_slot ∷ []

  module _ {new : Output} (pushed : PushEffect now.out new (unlines (now.reader First).terminator
      (pair_entries job (key First (line now.store one.current_slot)) z in_slots))) where
    wrote_more : PushEffect state.q.mid new
        (unlines job.terminator (pair_entries job state.k (state.g First ++ z) (state.g Second)))
    wrote_more = rw (
      writing.laws.more state.k (state.g First) z (state.g Second),
      unlines-append job.terminator
          (pair_entries job state.k (state.g First) (state.g Second)) (pair_entries job state.k z (state.g Second)),
    ) (push_trans _ _ _ _ _ t.clean state.q.wrote
        (rw ((state.q.sides First).lines_read.terminator, state.head.is, group_pairs_are z) at pushed))

    pub pair_fails : EndsIfFails (join_with job cmp key) old now First one new
    pair_fails = group_breaks state.head (starts writing (within_more state.head) state.some state.above) wrote_more

    module _ {one2 two2 : Sorted} {reader : Reader} {after : Slots}
        (h : AdvanceOkPost key cmp First one two one2 two2 (now.reader First) reader now.store after new) where
      on_first : AdvancedGroup state.head h.came new
      on_first = advanced_group _ _ wrote_more

      above_on : IsAbove cmp (key Second) state.k (on_first.group.d Second)
      above_on = rw on_first.bound state.above

      pub group_there : (4 ≤ end) × (end ≤ length after.lines)
      group_there = end_in on_first.group

      pub write_pairs_continues : one2.same ≡ true
          → IterationInvariant job cmp key old (WritePairs end) (state_after_read now First reader new after) one2 two2
      write_pairs_continues same = iteration_continues t _ h.continues (record {
        k = state.k;
        g = with_added_line now (both one two) First state.g;
        kept = state.kept;
        q = on_first.group;
        lines_in = rw (others_stay o state.q.sides First state.head.head h.came).1 state.lines_in;
        some = state.some;
        above = above_on;
        head = assumption (continues_key state.head h.came same);
      })

      pub group_closed : {cleared : Slots} → ClearGroupPost after cleared end → one2.same ≡ false
          → IterationInvariant job cmp key old BetweenGroups (state_after_read now First reader new cleared) one2
          two2
      group_closed {cleared} clear same =
          let q = on_first.group in
          let valid_cursors = valid_cursors_kept key one2 two2 after cleared h.continues.valid_cursors
          (omega arith) (λ i low. clear.others i (inl low)) in
          iteration_continues t First (assumption (h.continues, valid_cursors)) (record {
            ls = q.ls;
            p = λ side. q.p side ++ with_added_line now (both one two) First state.g side;
            b = q.d;
            cursors = record {
              sides = same_cursors writing.tool q.sides (omega arith)
                  (λ i low. clear.others i (inl low));
              keeps = group_store_cleared q.keeps q.at clear;
            };
            merge_invariant = closes writing q.within (elim [
              | First ↦ omega (arith, length_push (state.g First) (line now.store one.current_slot))
              | Second ↦ state.some
            ]) (elim [ First ↦ is_past q First (leaves_key state.head h.came same) | Second ↦ above_on ]) q.wrote;
          })
