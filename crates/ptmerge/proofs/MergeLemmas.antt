-- The loop of a merge. A line that precedes everything in the other input is processed, and its input advances; the
-- next line has no lesser key, so the invariant holds again. A fault ends the loop with a prefix of the output.
pub mod Exits
use Rattle.ptmerge.proofs
use Rattle.ptmerge.specs
use proofs.Common.{AdvancePre, IsReadyToContinue, PrecedesInput, MergeRunPre, WriteFaultPost, budget, CopyToGroupPost}
use proofs.Common.{Ok, IsErrAnd, HasOnlyLeastKey}
use specs.declared.faults.MergeFault.TheVariants as faults
use specs.Calls.Cursor.{NextErrPost, NextLinePost, HasDistinctSlots, initial_cursor, base_slot}
use specs.Calls.MergeSteps.{StartErrPost, StartFirstPost, MergeInputs, IsReaderOf, IsReportable, AreValidCursors}
use specs.Calls.MergeSteps.{StartOkPost, merge_inputs, IsDisorderDecided, current_key, previous_key}
use specs.Private.BlockLines.{entries_alone}
use Rattle.ptlines.specs.Calls.Engines.{AllPushed}
pub use Exits.*

abbrev pub IsAbove : Cmp → Key → List ℕ → Bound → Type 0
IsAbove cmp key x b = (r : Lines) → MayFollow cmp key b r → EachKey (Above cmp x) key r

-- a key that precedes the current line of an input precedes all lines that may follow
pub current_key_is_above : (cmp : Cmp) (o : IsKeyOrder cmp) (key : Key) (x : List ℕ) (status : CursorStatus)
    (cursor : Sorted) (store : Slots) (now : Reader) (ls p : Lines) (b : Bound)
    → PrecedesInput cmp x status (key (line store cursor.current_slot)) (key (line store cursor.previous_slot))
    → MatchesStatus cmp key status cursor store now ls p b → IsAbove cmp key x b × IsLater cmp key (AtLeast x) b
current_key_is_above cmp o key x Head cursor store now ls p b before line_is =
    let above = is_greater _ before in
    rw line_is.bound (search (rules, Each-weaker, at_most_trans, less_flips cmp o))
current_key_is_above cmp o key x Ended cursor store now ls p b before (bound, _) = grind arith
current_key_is_above cmp o key x _ _ _ now ls p b before st = grind arith

abbrev pub alone : Side → List ℕ → Side → Lines
alone s x = with_side s (x ∷ []) (λ side. [])

module _ (tool : MergeTool) where
  pub entries_of_line : (s : Side) (x : List ℕ)
      → entries_by_key tool all_keys (alone s x) ≡ entries_alone tool.entries s (tool.key s x) x
  entries_of_line = grind (arith, same_bytes, append-nil)

  pub entries_of_pair : IsKeyOrder tool.cmp → (x y : List ℕ) → tool.key Second y ≡ tool.key First x
      → entries_by_key tool all_keys (both (x ∷ []) (y ∷ [])) ≡ tool.entries (tool.key First x) (x ∷ []) (y ∷ [])
  entries_of_pair = grind (arith, same_bytes, append-nil)

-- ---- the invariant of both inputs

abbrev pub SidesInvariant : MergeTool → (Side → Reader) → (Side → Reader) → (Side → Sorted) → Slots → (Side → Lines)
    → (Side → Lines) → (Side → Bound) → Type 0
SidesInvariant tool old now cursor store ls p b =
    (side : Side) → SideInvariant tool side (old side) (now side) (cursor side) store (ls side) (p side) (b side)

module _ {tool : MergeTool} (o : IsKeyOrder tool.cmp) {old now : Side → Reader} {cursor : Side → Sorted} {store : Slots}
    {ls p : Side → Lines} {b : Side → Bound} (sides : SidesInvariant tool old now cursor store ls p b) (s : Side)
    (head : (cursor s).status ≡ Head) {new : Reader} {next : Sorted} {after : Slots}
    (comes : NextOkPost (tool.key s) tool.cmp (cursor s) next (now s) new store after) where
  pub next_at : SideAfterNext tool s (old s) new next (cursor s).previous_slot store after (ls s)
      (Some (tool.key s (line store (cursor s).current_slot)))
  next_at = let h = at_current_line (sides s) head in
      next_invariant tool o s _ _ _ _ _ _ _ _ (sides s).slots (sides s).four (sides s).lines_read (sides s).number
      h.sorted_up_to (h.some, refl) comes

  pub others_stay : (line after (cursor (other s)).current_slot ≡ line store (cursor (other s)).current_slot)
      × (line after (cursor (other s)).previous_slot ≡ line store (cursor (other s)).previous_slot)
  others_stay = let apart = slots_apart s (cursor s) (cursor (other s)) (sides s).slots (sides (other s)).slots in
      rw next_at.stored (line_other store _ _ _ apart.0, line_other store _ _ _ apart.1)

  pub sides_next : SidesInvariant tool old (with_side s new now) (with_side s next cursor) after
      (with_side s next_at.now_ls ls) (with_side s (ls s) p) (with_side s next_at.bound b)
  sides_next = side_case _ s (simp put_same next_at.side_invariant)
      (simp put_other (grind (arith, others_stay.0, others_stay.1, next_at.side_invariant.four)))

-- a disorder of the other input is not the one to report
named_is : (cmp : Cmp) → IsKeyOrder cmp → (key : Key) (s : Side) (d : FirstDisorder) (status : CursorStatus)
    (cursor : Sorted) (store : Slots) (now : Reader) (ls p : Lines) (b : Bound)
    → IsReportable cmp s d.last_key status (key (line store cursor.current_slot))
    (key (line store cursor.previous_slot))
    → MatchesStatus cmp key status cursor store now ls p b → (f : Side → Option FirstDisorder) → f s ≡ Some d
    → MayDisorder cmp b (f (other s))
    → earlier_disorder cmp (f First) (f Second) ≡ Some (record { file = s; first_disorder = d })
named_is = grind arith

-- ---- a failed read

abbrev pub AdvanceErrPost : Side → Sorted → Reader → Reader → Slots → Slots → Output → MergeFault → Type 0
AdvanceErrPost s cursor was is before after out fault = ((fault ≡ Write) × WriteFaultPost was is before after out)
    ⊎ ((out.write_failed ≡ false) × NextErrPost s cursor was is before after fault)

abbrev pub EndsIfFails : MergeTool → MergeState → MergeState → Side → Sorted → Output → Type 0
EndsIfFails tool old now s cursor out = (new : Reader) (after : Slots) (fault : MergeFault)
    → AdvanceErrPost s cursor (now.reader s) new now.store after out fault
    → MergePost tool old (state_by_side (with_side s new now.reader) out after) (Err fault)

-- The write or the read failed: a piece of the next line was read, and is in the store.
record FailedAdvance (cursor : Sorted) (was is : Reader) (before after : Slots) : Type 0 where
  pub piece : List ℕ
  pub reads : ReaderAdvance was is piece
  pub line : IsLine was.terminator piece
  pub sound : IsSound is
  pub peak : after.peak ≤ (with_line before cursor.previous_slot piece).peak
  pub count : length after.lines ≡ length (with_line before cursor.previous_slot piece).lines
  pub failed : is.failed ≡ true → was.failed ≡ false → (is.buffered ≡ []) × (is.eof ≡ false)

failed_advance : (s : Side) (cursor : Sorted) (was is : Reader) (before after : Slots) (out : Output)
    (fault : MergeFault) → IsSound was → AdvanceErrPost s cursor was is before after out fault
    → FailedAdvance cursor was is before after
failed_advance = search rules

module _ {tool : MergeTool} {old : MergeState} (w : IsOpenMerge tool old) (now : MergeState) {s : Side}
    (cursor : Sorted) {ls p : Side → Lines} {b : Side → Bound}
    (facts : (side : Side) → ReadFactsOf tool old now.reader ls p b side (now.reader side) []) (all : p s ≡ ls s)
    (order : (r : Reader) (piece : List ℕ) → IsLine (now.reader s).terminator piece
    → FirstReads tool.terminator old.reader now.reader (with_side s r now.reader) ls (with_side s piece (λ side. [])))
    {kept : Lines} (keeps : GroupStore tool old.store now.store ls kept) (slots : HasSlots s cursor) where
  pub advance_fails : {out : Output} {done : Lines} → LagInvariant tool b p old.out out done
      → EndsIfFails tool old now s cursor out
  advance_fails {out} lag new after fault e =
      let f = failed_advance s cursor (now.reader s) new _ after out fault (facts s).sound e in
      let ends = put_both (ReadFactsOf tool old now.reader ls p b) s new _ f.piece (λ side. [])
      (grind arith) (facts (other s)) in
      exit_is_merge_post w (state_by_side (with_side s new now.reader) out after) ends lag
      (λ all holds.
      let longest = rw (put_same s _ _) at (holds s).longest in
      let next = group_store_line s cursor slots f.piece keeps (λ side. extends (holds side)) (omega arith) refl in
      omega (arith, next.fits all (λ side. extends_itself _))) (order new f.piece f.line)
      (put_each (λ side (r : Reader). r.failed ≡ true → IsFailedRead r (ls side) (p side)) s new _
      (grind (arith, f)) (λ side fail. cc ((facts side).lines_read.advance_ok.failed, w.unfailed side)))
      _ (grind (arith, put_same, side_case, put_other, e))

-- ---- between two steps

pub open_merge : {tool : MergeTool} {first second : Reader} {out : Output} {store : Slots} → IsKeyOrder tool.cmp
    → IsLineByLine tool.entries → ((ls : Side → Lines) → HasRoom tool [] ls)
    → MergeRunPre tool.terminator first second out store → IsOpenMerge tool (merge_state first second out store)
open_merge = grind arith

pub record CursorsInvariant {tool : MergeTool} {old : MergeState} (w : IsOpenMerge tool old) (reader : Side → Reader)
    (cursor : Side → Sorted) (store : Slots) (ls p : Side → Lines) (b : Side → Bound) : Type 0 where
  pub sides : SidesInvariant tool old.reader reader cursor store ls p b
  pub keeps : GroupStore tool old.store store ls []

pub record LoopInvariant {tool : MergeTool} {old : MergeState} (w : IsOpenMerge tool old) (now : MergeState)
    (cursor : Side → Sorted) : Type 0 where
  pub ls : Side → Lines
  pub p : Side → Lines
  pub b : Side → Bound
  pub cursors : CursorsInvariant w now.reader cursor now.store ls p b
  pub open cursors use {sides}
  pub merge_invariant : MergeInvariant tool b p old.out now.out

module _ {tool : MergeTool} {old : MergeState} {w : IsOpenMerge tool old} {reader : Side → Reader}
    {cursor : Side → Sorted} {store : Slots} {ls p : Side → Lines} {b : Side → Bound}
    (a : CursorsInvariant w reader cursor store ls p b) where
  open tool use {cmp, key}

  pub none_failed : (side : Side) → (reader side).failed ≡ (old.reader side).failed
  none_failed side = (a.sides side).lines_read.advance_ok.failed

  begun : (side : Side) → HasBegun (reader side) (ls side)
  begun side = (a.sides side).begun

  abbrev ReadFactsBy : Side → Lines → Type 0
  ReadFactsBy side q = ReadFactsOf tool old reader ls (λ t. q) b side (reader side) []

  pub read_facts_current : (side : Side) → ReadFactsBy side (p side)
  read_facts_current side = (a.sides side).facts

  pub passing_now : (s : Side) → (cursor s).status ≡ Head → ReadFactsBy s (ls s)
  passing_now s head = read_facts_after_line (a.sides s) w.o head

  pub iteration_fails : (s : Side) → (cursor s).status ≡ Head → {q : Side → Lines} {out : Output}
      → AllWritten tool b q old.out out → q s ≡ ls s
      → ReadFactsBy (other s) (q (other s)) → EndsIfFails tool old (state_by_side reader out store) s (cursor s) out
  iteration_fails s head {q} {out} lag same rest =
      advance_fails w (state_by_side reader out store) (cursor s) {p = q}
      (side_case _ s (rw same (passing_now s head)) rest) same (λ r piece free. both_begun begun) a.keeps
      (a.sides s).slots lag

  module _ (s : Side) (head : (cursor s).status ≡ Head) {next : Sorted} {new : Reader} {after : Slots}
      (comes : NextOkPost (key s) cmp (cursor s) next (reader s) new store after) where
    abbrev pub n : SideAfterNext tool s (old.reader s) new next (cursor s).previous_slot store after (ls s)
        (Some (key s (line store (cursor s).current_slot)))
    n = next_at w.o a.sides s head comes

    pub advance_ok : CursorsInvariant w (with_side s new reader) (with_side s next cursor) after
        (with_side s n.now_ls ls) (with_side s (ls s) p) (with_side s n.bound b)
    advance_ok = record {
      sides = sides_next w.o a.sides s head comes;
      keeps = group_store_next s (cursor s) (a.sides s).slots a.keeps n;
    }

    pub goes_merging : {q : Side → Lines} {out : Output} → MergeInvariant tool b q old.out out
        → MergeInvariant tool (with_side s n.bound b) q old.out out
    goes_merging m = bound_changes s m (rw (at_current_line (a.sides s) head).bound n.later)

    pub runs_on : {out : Output} → MergeInvariant tool b (with_side s (ls s) p) old.out out
        → LoopInvariant w (state_by_side (with_side s new reader) out after) (with_side s next cursor)
    runs_on = search (rules, advance_ok, goes_merging)

module _ {tool : MergeTool} {old : MergeState} {w : IsOpenMerge tool old} {now : MergeState} {cursor : Side → Sorted}
    (loop : LoopInvariant w now cursor) (clean : now.out.write_failed ≡ false) where
  open tool use {cmp, key}
  open loop use {ls, p, b, cursors as a, sides, merge_invariant as m}

  module _ {s : Side} (step : HasOnlyLeastKey cmp key cursor now.store s) {new : Output}
      (wrote : PushEffect now.out new (unlines (now.reader s).terminator (entries_alone tool.entries s
      (current_key key cursor now.store s) (line now.store (cursor s).current_slot)))) where
    pub wrote_alone : Written tool b (with_side s (ls s) p) old.out new
    wrote_alone =
        let x = line now.store (cursor s).current_slot in
        let h = at_current_line (sides s) step.status_is in
        let (above, later) = current_key_is_above _ w.o _ _ _ _ _ _ _ _ _ step.before (sides (other s)).status_is in
        let none = lines_with_key-above tool w.o (key (other s)) (key s x) in
        write_least_run w.o (key s x) (with_side s (ls s) p) (alone s x)
        (side_case _ s (simp put_same (line_is_least_run w.o h.bound refl)) (simp put_other
        -- no line of the other input has the key, and only greater keys follow
        (search (rules, later))))
        (side_case _ s (simp put_same h.all) (simp (put_other, append-nil))) (w.alone.none (key s x))
        (λ r c. grind arith) clean m
        (rw (entries_of_line tool s x) (rw (sides s).lines_read.terminator at wrote))

    pub alone_breaks : EndsIfFails tool old now s (cursor s) new
    alone_breaks = iteration_fails a s step.status_is wrote_alone.1 (put_same s _ p)
        (rw (put_other s _ p) (read_facts_current a _))

  -- no key that may follow is up to the last key of the input that is out of order
  stops_at : {s : Side} {n : ℕ} → IsDisorderDecided cmp key cursor now.store s n → IsExactStop tool b (Some (s, n))
  stops_at {s} {n} dec l r c f =
      let d : FirstDisorder = record { last_key = previous_key key cursor now.store s; line = n } in
      let disordered : b s ≡ AfterDisorder d = rw dec.status_is at (sides s).status_is in
      let st = (sides (other s)).status_is in
      let (above, _) = current_key_is_above _ w.o _ _ _ _ _ _ _ _ _ (grind (arith, dec.named)) st in
      rw (named_is _ w.o _ s d _ _ _ _ _ _ _ dec.named st (λ side. first_disorder cmp (key side) (l side))
      (rw disordered at (f s)) (f (other s))) (
        none_wanted tool _ r (side_case _ s (rw (rw disordered at (c s)) tt)
            (Each-weaker _ _ (λ k h. ap is_le h) _ (above _ (c (other s))))),
        refl,
      )

  module _ {after : Slots} (clear : ClearFourSlotsPost now.store after) where
    abbrev last : MergeState
    last = record now { store = after }

    pushed_all : {found : Option (Side × ℕ)} → (found ≡ None → (side : Side) → IsDone (now.reader side))
        → IsExactStop tool b found → AllPushed both_sides (merge_engine tool) old last
        (given w last (read_facts_current a)) (output_of tool p) found
    pushed_all ended stop =
        let exact = exact_output w last (read_facts_current a) m stop in
        let ok = λ (side : Side). (sides side).lines_read.advance_ok in
        record {
          out = λ texts agree. (exact texts agree).0;
          disorder = λ texts agree. (exact texts agree).1;
          ended = λ none side read. ended none side;
          fault = λ side read. (ok side).fault;
          short = λ side read. (sides side).sound.long (ok side).fault;
          unfailed = λ side read. (ok side).failed;
          clean = clean;
          not_denied = clear.denied ∙ a.keeps.denied;
          empty = omega (arith, (has_lines_total now.store.lines (λ side. max_length (ls side)) 0 a.keeps.lines).is);
        }

    concludes : (result : Result (Unit {0}) MergeFault) → CallOutcome both_sides (merge_engine tool) old last
        (given w last (read_facts_current a)) (output_of tool p) (merge_end result) → MergePost tool old last result
    concludes result ends = exit_is_merge_post w _ (read_facts_current a)
        (lag_invariant_starts w.o m clean (push_nothing now.out)) (fits_emptied a.keeps after clear.peak clear.slots)
        (both_begun (begun a)) (λ side fail. search (rules, w.unfailed side)) result ends

    pub ends_well : ((side : Side) → (cursor side).status ≡ Ended) → MergePost tool old last (Ok tt)
    ends_well step =
        let e : (side : Side) → (b side ≡ NothingMore) × IsDone (now.reader side) =
        λ side. rw (step side) at (sides side).status_is in
        concludes _ (pushed_all (λ none side. (e side).1) (grind arith))

    pub ends_fallen : {s : Side} {n : ℕ} → IsDisorderDecided cmp key cursor now.store s n
        → MergePost tool old last (Err (faults.Disorder s n))
    ends_fallen step = concludes _ (record { named = refl; pushed_all = pushed_all (λ none. cc) (stops_at step) })

pub fails_by : {tool : MergeTool} {old now : MergeState} {r : Result (Unit {0}) MergeFault} {fault : MergeFault}
    → IsErrAnd r (λ y. y ≡ fault) → MergePost tool old now (Err fault) → MergePost tool old now r
fails_by {r = Ok u} is post = elim is [ ]
fails_by {r = Err given} is post = rw is post

-- an invariant for the current order of keys, which is the one at the start, since calls keep it
pub record Kept {O : Type 0} (tool : O → MergeTool) (I : O → Type 0) (now start : O) : Type 0 where
  pub iteration : I now
  pub order : now ≡ start

module _ {O : Type 0} {tool : O → MergeTool} {I : O → Type 0} {a b : O} where
  pub kept_order : {c : O} → a ≡ b → b ≡ c → I b → Kept tool I a c
  kept_order same is t = record { iteration = rw same t; order = same ∙ is }

  module _ (k : Kept tool I a b) {old now : MergeState} {r : Result (Unit {0}) MergeFault} where
    pub ends : MergePost (tool a) old now r → MergePost (tool b) old now r
    ends post = rw (← k.order) post

    pub fails : {fault : MergeFault} → IsErrAnd r (λ y. y ≡ fault) → MergePost (tool a) old now (Err fault)
        → MergePost (tool b) old now r
    fails is post = ends (fails_by is post)

-- the remaining work
abbrev pub reads_ahead : (Side → Reader) → Sorted → Sorted → ℕ
reads_ahead reader one two =
    (budget (reader First) + reads_left one.status) + (budget (reader Second) + reads_left two.status)

pub place_is : (s : Side) (one two one2 two2 : Sorted) → both one2 two2 (other s) ≡ both one two (other s)
    → with_side s (both one2 two2 s) (both one two) ≡ both one2 two2
place_is s one two _ _ same = grind arith

pub record BetweenSteps (key : Side → Key) (now : MergeState) (one two : Sorted) : Type 0 where
  pub valid_cursors : AreValidCursors key one two now.store
  pub own_reader : (side : Side) → IsReaderOf (both one two side) (now.reader side)
  pub clean : now.out.write_failed ≡ false

module _ {key : Side → Key} {now : MergeState} {one two : Sorted} (t : BetweenSteps key now one two) where
  pub advance_pre : (s : Side) → (both one two s).status ≡ Head → AdvancePre key s one two (now.reader s) now.store
  advance_pre = search rules

  module _ (s : Side) {one2 two2 : Sorted} {reader : Reader} {after : Slots} {new : Output}
      (continues : IsReadyToContinue key s one two one2 two2 reader after new) where
    pub between_next : BetweenSteps key (state_by_side (with_side s reader now.reader) new after) one2 two2
    between_next = grind (arith, put_same)

    pub reads_less : {cmp : Cmp} {made : Slots} → (both one two s).status ≡ Head
        → NextOkPost (key s) cmp (both one two s) (both one2 two2 s) (now.reader s) reader now.store made
        → reads_ahead (with_side s reader now.reader) one2 two2 < reads_ahead now.reader one two
    reads_less head came = grind arith

pub wrote_and_sent : (was mid is : Output) (pushed : List ℕ) → mid.write_failed ≡ false → PushEffect was mid pushed
    → PushEffect mid is [] → PushEffect was is pushed
wrote_and_sent was mid is _ clean wrote written_out =
    rw append-nil at (push_trans was mid is _ [] clean wrote written_out)

later_status : (key : Key) (cmp : Cmp) (number : ℕ) (last next : List ℕ) (r : Ordering) → 0 < number
    → r ≡ cmp (key last) (key next) → (cond (is_gt r) (Disorder (number + 1)) Head ≡ status_at key cmp number last next)
    × (is_eq r ≡ same_key_at key cmp number last next)
later_status = grind arith

-- The slots were swapped before the line was read, so the keys that are compared are those of both lines.
pub line_moves : {key : Key} {cmp : Cmp} {old new : Sorted} {was is : Reader} {before after : Slots}
    {last head key1 key2 : List ℕ} {r : Ordering} → HasDistinctSlots old before → 0 < old.number
    → new.current_slot ≡ old.previous_slot → new.previous_slot ≡ old.current_slot → new.number ≡ old.number + 1
    → FillLine was is before after new.current_slot → IsSound is → last ≡ line after new.previous_slot
    → key1 ≡ key last → head ≡ line after new.current_slot → key2 ≡ key head → r ≡ cmp key1 key2
    → new.status ≡ cond (is_gt r) (Disorder (old.number + 1)) Head → new.same ≡ is_eq r
    → NextLinePost key cmp old new was is before after
line_moves {key} {cmp} {old} {new} {before = before} {after} slots some at stays count fill sound last_of last_key
    head_of head_key is status same =
    let e = rw at at fill in
    let last_is : line after new.previous_slot ≡ line before old.current_slot = rw (stays, e.stored)
    (line_other before _ _ e.line (λ is. slots.apart (sym is))) in
    let head_is : line after new.current_slot ≡ e.line = rw (at, e.stored)
    (line_of_with_line before _ e.line slots.previous_slot) in
    let step = later_status key cmp old.number (line before old.current_slot) e.line _ some cc in
    record {
      next_line = e;
      cursor = λ i. record {
        current_slot = at i;
        previous_slot = stays i;
        number = count i;
        status = (status ∙ step.0) i;
        same = (same ∙ step.1) i;
        key = new.key;
      };
      sound = sound;
    }

pub valid_cursors_kept : (key : Side → Key) (one two : Sorted) (before after : Slots)
    → AreValidCursors key one two before → length before.lines ≤ length after.lines
    → ((slot : ℕ) → slot < 4 → line after slot ≡ line before slot) → AreValidCursors key one two after
valid_cursors_kept = grind arith

pub kept_line : (before after : Slots) (from to slot : ℕ) → slot < to → CopyToGroupPost before after from to
    → line after slot ≡ line before slot
kept_line = grind (arith, line_added, line_other)

-- ---- the start

-- Slots are added and the first line of each input is read; nothing is processed yet, and the output is empty.

fresh_slots : (s : Side) → HasSlots s (initial_cursor s)
fresh_slots s = inr (refl, refl)

module _ {tool : MergeTool} {old : MergeState} (w : IsOpenMerge tool old) where
  open tool use {cmp, key, terminator}

  abbrev unstarted : MergeInputs
  unstarted = record { reader = old.reader; store = old.store }

  none_read : (side : Side) → LinesRead terminator (old.reader side) (old.reader side) []
  none_read side = grind arith

  first_line : (side : Side) {new : Reader} {cursor : Sorted} {before after : Slots} → 4 ≤ length before.lines
      → NextOkPost (key side) cmp (initial_cursor side) cursor (old.reader side) new before after
      → SideAfterNext tool side (old.reader side) new cursor (base_slot side) before after [] None
  first_line side four comes = next_invariant tool w.o side _ _ _ _ _ _ _ _ (fresh_slots _) four (none_read _)
      refl (grind (arith, sorted_prefix_is, first_disorder_is)) refl comes

  abbrev no_lines : Side → Lines
  no_lines side = []

  module _ {first : Sorted} {new : MergeInputs} {Then : Slots → Type 0}
      (s : StartFirstPost key cmp first unstarted new Then) where
    began : SideAfterNext tool First (old.reader First) (new.reader First) first (base_slot First) s.made s.mid [] None
    began = first_line _ (omega arith) s.came

    half_store : GroupStore tool old.store s.mid (both began.now_ls []) []
    half_store = group_store_next First (initial_cursor First) (fresh_slots First)
        (store_starts w.fits s.four w.allowed w.empty) began

    half_invariant : MergeInvariant tool (both began.bound NoBound) no_lines old.out old.out
    half_invariant = search (rules, began)

  pub start_ok : {first second : Reader} {store : Slots} {one two : Sorted}
      → StartOkPost key cmp (both one two) unstarted (merge_inputs first second store)
      → LoopInvariant w (merge_state first second old.out store) (both one two)
  start_ok {one = one} s =
      let f = began s in
      let k = first_line Second f.side_invariant.four s.later in
      record {
        ls = both f.now_ls k.now_ls;
        p = no_lines;
        b = both f.bound k.bound;
        cursors = record {
          sides = elim [ First ↦ grind (arith, line_other) | Second ↦ k.side_invariant ];
          keeps = group_store_next Second (initial_cursor Second) (fresh_slots Second) (half_store s) k;
        };
        merge_invariant = bound_changes _ (half_invariant s) k.later;
      }

  unread : (side : Side) → ReadFactsOf tool old old.reader no_lines no_lines (λ t. NoBound) side (old.reader side) []
  unread side = grind (arith, none_read, w.sound side)

  abbrev StartErr : Reader → Reader → Slots → MergeFault → Type 0
  StartErr new1 new2 after fault =
      StartErrPost key cmp unstarted (record { reader = both new1 new2; store = after }) fault

  module _ {new1 new2 : Reader} {after : Slots} {fault : MergeFault} where
    pub start_fault : StartErr new1 new2 after fault
        → MergePost tool old (state_by_side (both new1 new2) old.out after) (Err fault)
    start_fault (inl u) = rw u.memory (merge_without_slots w refl u.unread u.slots)
    start_fault (inr (inl f)) =
        rw f.unread (advance_fails w (state_by_side old.reader old.out f.made) (initial_cursor First)
        unread refl (λ r piece free. grind (arith, one_line_at_most))
        (store_starts w.fits f.four w.allowed w.empty) (fresh_slots First)
        (lag_invariant_starts w.o (merge_invariant_starts tool _) w.writable (push_nothing _)) _ _ _
        (inr (w.writable, f.fails)))
    start_fault (inr (inr f)) =
        let s = f.begins in
        advance_fails w (state_by_side (both new1 (old.reader Second)) old.out s.mid) {s = Second}
        (initial_cursor Second) (elim [ First ↦ (began s).side_invariant.facts | Second ↦ unread Second ]) refl
        (λ r piece free. grind arith) (half_store s) (fresh_slots Second)
        (lag_invariant_starts w.o (half_invariant s) w.writable (push_nothing _)) _ _ _ (inr (w.writable, s.later))
