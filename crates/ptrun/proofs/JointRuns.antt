-- Tools that read all their operands together. A call over named inputs is one over the inputs at the positions of
-- these names: with one operand, the pass over its reader; in `paste`, each operand is a column; in a merge, only the
-- two readers change. If an operand could not be opened, nothing but messages is required.
use Rattle.ptrun.proofs
use Rattle.ptrun.specs
use proofs.Common.{All, AllPushed, AllWritten, AreInputsConsistent, AreReadToEnd, Bool, BoundedLag, CallOutcome}
use proofs.Common.{Completion, Disordered, Err, FlowFault, HasIndexBelow, HasReadFailed, HaveReceived}
use proofs.Common.{InputBytes, InputsPre, IsDone, IsRun, IsTooLong, List, Memory, None, Ok, Option, Output, PassPost}
use proofs.Common.{Paste, Read, Reader, Received, ReceivedInputs, Result, RunInputsEnd, RunInputsPost, SinkState, Slots}
use proofs.Common.{Some, ToolSpec, Write, [], ap, append-nil, arith, call_state, cases_eq, usual, cond, drop}
use proofs.Common.{ended_operands, eqb-true, eqb_tells, false, false≢true, get_or, get_or_default, inl, inr, is_in}
use proofs.Common.{is_reader_unopened, is_unopened, length, length-set, list_any, list_any-append, no_reader}
use proofs.Common.{only_input, option_map, pass_end, pass_engine, positions, reader_at, refl, rules, set, sinks}
use proofs.Common.{slice_get, subst, suc, sym, take, take-append-drop, total_bytes, true, unopened_messages, zero, ℕ}
use proofs.Common.{⊎_elim, ◌++◌, ◌+◌, ◌<◌, ◌==◌, ◌∙◌, ◌∷◌, ◌≡◌, ◌≤◌, ◌⊎◌, ◌||◌}
use proofs.MessageWrites.{said_nothing}
use proofs.OperandInputs.{any_same, at_set, each_listed, fresh_all, is_in-same, lagged_output, none_passes}
use proofs.OperandInputs.{none_received, nothing_read, opened_set, put_here, put_other, received_of, same_here}
use proofs.OperandInputs.{some_same, unopened_agrees}
use proofs.RunEnds.{exact_of_run, unread as unread_run}
use Rattle.ptflow.proofs.PasteLemmas.BufferedRows.Rows.Grid.{cell_in, decided_same}
use Rattle.ptflow.specs.Calls.PasteCall.{PastePost, paste_end}
use Rattle.ptflow.specs.PasteCall.{paste_engine}
use Rattle.ptflow.specs.Private.PasteCall.{update_at}
use Rattle.ptlines.specs.Calls.Engines.{AreAllConsistent, CallEnd, CallPost, Complete, InputNames, IsCallUnfinished}
use Rattle.ptlines.specs.Engines.{EngineSpec}
use Rattle.ptlines.specs.Calls.Engines.{MemoryFault, NoReadFailed, OutOfOrder, ReadFault, WriteFault, inputs_at}
use Rattle.ptlines.specs.Calls.Engines.{with_input}
use Rattle.ptmerge.specs.Calls.MergeCall.{MergePost, both_sides, is_same_side, merge_end, merge_state}
use Rattle.ptmerge.specs.Calls.MergeSpec.{merge_engine}
use Rattle.ptmerge.specs.Calls.Sides.{both}
use Rattle.ptmerge.specs.declared.faults.MergeFault.{MergeFault}
use Rattle.ptmerge.specs.declared.key_order.Side.{Side}
use specs.Calls.Runs.{RunPre, RunWithStorePost, outcome_of, sink_of}
use specs.Private.Driver.{JointPost, JointPre, ReportUnopenedPost, fault_at, merge_found}
use specs.Private.Driver.{result_of_end, result_status, run_state}
use specs.Private.Engines.{at_positions, line_at}
use specs.Private.Engines.{end_at, in_run}
use specs.Files.{IsNew, IsNewOrUnopened, at}
use Rattle.std.proofs.Math.Seq.{take-length}
use Rattle.std.proofs.lemmas.List.{get_or-set_other, get_or-set_same, set-append_left, set-append_right}
use specs.Decided.{has_unopened, operand, received_in}
use specs.Private.Operands.{bytes_of}
use specs.Private.Joint.{JointTool, joint_spec, one_input_tool, paste_rows_tool, two_input_tool}
use Rattle.ptmerge.specs.declared.key_order.Side.TheVariants.{First, Second}
use Rattle.ptmerge.specs.Calls.MergeSpec.{MergeTool}

-- The names that are read are those of the positions in a list, one for each.
pub record Placement {I : Type 0} (names : InputNames I) (position : I → ℕ) (positions : List ℕ) : Type 0 where
  pub listed : (i : I) → names.is_read i ≡ true → is_in positions (position i) ≡ true
  pub name_at : (q : ℕ) → is_in positions q ≡ true → (i : I) × (names.is_read i ≡ true) × (position i ≡ q)
  pub same : (i j : I) → (position i == position j) ≡ names.is_same i j
  -- a function of names as one of positions
  pub placed : (I → Received) → ℕ → Received
  pub placed_at : (f : I → Received) (i : I) → placed f (position i) ≡ f i

module _ {I : Type 0} {names : InputNames I} {position : I → ℕ} {positions : List ℕ}
    (by : Placement names position positions) where
  each : (P : ℕ → Type 0) → ((i : I) → names.is_read i ≡ true → P (position i)) → (q : ℕ) → is_in positions q ≡ true
      → P q
  each P all q named = search rules

module _ {I : Type 0} {names : InputNames I} (engine : EngineSpec I) (position : I → ℕ) {positions : List ℕ}
    (by : Placement names position positions) (old new : List Reader) {was is : Output} {before store : Slots}
    {end : CallEnd I} (others : (q : ℕ) → is_in positions q ≡ false → reader_at new q ≡ reader_at old q)
    (clean : was.write_failed ≡ false)
    (unread_input : length store.lines < engine.first_slots
    → (i : I) × (names.is_read i ≡ true) × ((reader_at old (position i)).eof ≡ false))
    (call : CallPost names engine (call_state (λ i. reader_at old (position i)) was before)
    (call_state (λ i. reader_at new (position i)) is store) end) where
  abbrev given : ℕ → Received
  given = by.placed call.given

  given_is : (λ i. given (position i)) ≡ call.given
  given_is = λ k i. by.placed_at call.given i k

  placed_pushed : (found : Option (I × ℕ))
      → AllPushed names engine (call_state (λ i. reader_at old (position i)) was before)
      (call_state (λ i. reader_at new (position i)) is store) call.given call.pushed found
      → AllPushed (inputs_at positions) (in_run (at_positions engine position)) (run_state old was before)
      (run_state new is store) given call.pushed (option_map (line_at position) found)
  placed_pushed found e = grind (arith, each)

  -- without its first slots the call has read nothing, and all inputs are new
  unread : length store.lines < engine.first_slots
      → IsCallUnfinished (inputs_at positions) (in_run (at_positions engine position)) (run_state new is store) given
      call.pushed
  unread few = grind arith

  ends : (e : CallEnd I)
      → CallOutcome names engine (call_state (λ i. reader_at old (position i)) was before)
      (call_state (λ i. reader_at new (position i)) is store) call.given call.pushed e
      → CallOutcome (inputs_at positions) (in_run (at_positions engine position)) (run_state old was before)
      (run_state new is store) given call.pushed (end_at position e)
  ends Complete e = placed_pushed _ e
  ends (OutOfOrder i line) e =
      record { named = by.listed i e.named; pushed_all = placed_pushed _ e.pushed_all }
  ends (ReadFault i) e = grind arith
  ends WriteFault e = grind arith
  ends MemoryFault e = grind (arith, each)

  placed_call : CallPost (inputs_at positions) (in_run (at_positions engine position)) (run_state old was before)
      (run_state new is store) (end_at position end)
  placed_call = record {
    given = given;
    came = grind arith;
    untouched = others;
    pushed = call.pushed;
    wrote = call.wrote;
    ends = ends end call.ends;
    is_prefix = grind arith;
    decided_is_written = grind (usual, given_is);
    bounded_lag = each by _ (λ i read fine.
        subst (λ (g : Received). BoundedLag {I = Unit {0}} (λ came. engine.decided
        (λ j. with_input (inputs_at positions) (position i) (came tt) given (position j)))
        (λ u. g) was is call.pushed) (sym (by.placed_at call.given i))
        (subst (λ (f : (Unit {0} → Received) → List ℕ). BoundedLag f (λ u. call.given i) was is call.pushed)
        (grind arith) (call.bounded_lag i read fine)));
    peak = grind arith;
    slots = grind arith;
    added = grind arith;
    unread = λ fine none. absurd (omega arith);
    terminator = each by _ (λ i read fine. call.terminator i read fine);
    unchanged_if_failed = λ fault. cc;
  }

-- ---- the only operand

only_operand_of : (positions : List ℕ) (d : ℕ) → (length positions == 1) ≡ true
    → positions ≡ get_or positions 0 d ∷ []
only_operand_of (p ∷ []) d one = refl
only_operand_of positions d one = grind arith

one_placed : (p : ℕ) → Placement only_input (λ u. p) (p ∷ [])
one_placed p = record {
  listed = λ u read. is_in-same [] p;
  name_at = λ q named. grind arith;
  same = λ u v. same_here p;
  placed = λ f q. f tt;
  placed_at = λ f u. refl;
}

abbrev found_in_pass : ℕ → Result (Unit {0}) FlowFault → Result Completion FlowFault
found_in_pass p (Ok u) = Ok AllWritten
found_in_pass p (Err fault) = Err (fault_at p fault)

pass_ends : (p : ℕ) (r : Result (Unit {0}) FlowFault) → found_in_pass p r ≡ result_of_end (end_at (λ u. p) (pass_end r))
pass_ends p (Ok u) = refl
pass_ends p (Err (Read index)) = refl
pass_ends p (Err Write) = refl
pass_ends p (Err Memory) = refl

module _ {j : JointTool} {positions : List ℕ} {old : List Reader} {was : Output} {before : Slots}
    (ready : JointPre j positions old was before) (one : (length positions == 1) ≡ true) where
  pub only_operand_within : (d : ℕ) → get_or positions 0 d < length old
  only_operand_within d = ready.in_range 0 d (grind (arith, eqb-true))

  module _ (d : ℕ) where
    abbrev p : ℕ
    p = get_or positions 0 d

    pub opened : (reader_at old p).refused ≡ false
    opened = grind (arith, only_operand_of)

    pub new_here : IsNew (reader_at old p)
    new_here = fresh_all old ready.fresh p opened

    named : is_in positions p ≡ true
    named = rw (only_operand_of _ d one) (is_in-same [] p)

    pub only_operand_post : (e : Reader) {t : ToolSpec} {is : Output} {store : Slots} {new : Reader}
        {result : Result (Unit {0}) FlowFault} → PassPost t (get_or old p e) new was is before store result
        → JointPost (one_input_tool t) positions old (set old p new) was is before store (found_in_pass p result)
    only_operand_post e {t} {is} {store} {new} {result} pass =
        subst (λ ps. JointPost (one_input_tool t) ps old (set old p new) was is before store
        (found_in_pass p result)) (sym (only_operand_of positions d one)) (record {
          end = end_at (λ u. p) (pass_end result);
          result_is = pass_ends p result;
          call = placed_call (pass_engine t) (λ u. p) (one_placed p) old (set old p new)
              (λ q other. get_or-set_other old p q new no_reader (λ same. false≢true (grind arith))) ready.writable
              (λ few. (tt, refl, new_here.eof))
              (rw here (rw (get_or_default old p e no_reader (only_operand_within d)) at pass).call);
          same = λ f g same. ap t.decided (same p (is_in-same [] p));
        })
      where
        here : reader_at (set old p new) p ≡ new
        here = get_or-set_same old p new no_reader (only_operand_within d)

abbrev found_in_rows : Result (Unit {0}) FlowFault → Result Completion FlowFault
found_in_rows (Ok u) = Ok AllWritten
found_in_rows (Err fault) = Err fault

module _ (job : Paste) {positions : List ℕ} {old : List Reader} {was : Output} {before : Slots}
    (ready : JointPre (paste_rows_tool job) positions old was before) where
  completes : (r : Result (Unit {0}) FlowFault) → found_in_rows r ≡ result_of_end (end_at (λ p. p) (paste_end r))
  completes (Ok u) = refl
  completes (Err (Read p)) = refl
  completes (Err Write) = refl
  completes (Err Memory) = refl

  pub rows_post : {new : List Reader} {is : Output} {store : Slots} (result : Result (Unit {0}) FlowFault)
      → PastePost job positions old new was is before store result
      → JointPost (paste_rows_tool job) positions old new was is before store (found_in_rows result)
  rows_post {new} result k = record {
    end = end_at (λ p. p) (paste_end result);
    result_is = completes result;
    call = placed_call (paste_engine job positions) (λ p. p) (record {
      listed = λ q named. named;
      name_at = λ q named. (q, named, refl);
      same = λ p q. refl;
      placed = λ f. f;
      placed_at = λ f q. refl;
    }) old new k.untouched ready.writable
        (λ few. let first = cell_in positions 0 (omega arith) in
        ((get_or positions 0 0), first, grind (arith, rules, none_passes))) k;
    same = decided_same job positions;
  }

-- ---- for what engines require

pub cell_opened : (positions : List ℕ) (old : List Reader) (k d : ℕ) (e : Reader)
    → list_any (is_reader_unopened old) positions ≡ false → k < length positions → get_or positions k d < length old
    → (get_or old (get_or positions k d) e).refused ≡ false
cell_opened positions old k d e none within low = grind (usual, cell_in, none_passes)

pub any_of_two : (f : ℕ → Bool) (positions : List ℕ) → length positions ≡ 2
    → list_any f positions ≡ (f (get_or positions 0 0) || f (get_or positions 1 0))
any_of_two f (p ∷ q ∷ []) two = grind arith
any_of_two f positions two = grind arith

-- ---- two operands

-- a list that is split at the higher of two positions, and an item set at each of them
module _ {X : Type 0} {xs : List X} (front back : List X) {low high : ℕ} (split : xs ≡ front ++ back)
    (size : length front ≡ high) (below : low < high) (x y : X) where
  pub low_first : set front low x ++ set back 0 y ≡ set (set xs low x) high y
  low_first = grind (arith, length-set, set-append_left, set-append_right (set front low x) back high high y)

  pub high_first : set front low x ++ set back 0 y ≡ set (set xs high y) low x
  high_first = grind (arith, set-append_left, set-append_right front back high high y)

two_of : (engine : EngineSpec Side) (positions : List ℕ) → (two_input_tool engine).accepts positions ≡ true
    → positions ≡ operand positions First ∷ operand positions Second ∷ []
two_of engine (p ∷ q ∷ []) accepts_operands = refl
two_of engine positions accepts_operands = grind arith

module _ (engine : EngineSpec Side) {positions : List ℕ} {old : List Reader} {was : Output} {before : Slots}
    (ready : JointPre (two_input_tool engine) positions old was before) where
  abbrev at_side : Side → ℕ
  at_side = operand positions

  are : positions ≡ at_side First ∷ at_side Second ∷ []
  are = two_of engine positions ready.accepts_operands

  pub two_within : (at_side First < length old) × (at_side Second < length old)
  two_within = (ready.in_range 0 0 (grind (arith, are)), ready.in_range 1 0 (grind (arith, are)))

  pub two_apart : at_side First ≡ at_side Second → ⊥
  two_apart same = grind arith

  side_named : (side : Side) → is_in positions (at_side side) ≡ true
  side_named First = grind (arith, are)
  side_named Second = grind (arith, are)

  open_side : (side : Side) → (reader_at old (at_side side)).refused ≡ false
  open_side side = none_passes _ positions ready.opened _ (side_named side)

  new_at : (side : Side) → IsNew (reader_at old (at_side side))
  new_at side = fresh_all old ready.fresh (at_side side) (open_side side)

  two_placed : Placement both_sides at_side positions
  two_placed = record {
    listed = λ side read. side_named side;
    name_at = grind (arith, are);
    same = same;
    placed = λ f. update_at (at_side First) (f First) (λ k. f Second);
    placed_at = placed_at;
  }
    where
      same : (i j : Side) → (at_side i == at_side j) ≡ is_same_side i j
      same First First = same_here (at_side First)
      same First Second = grind (arith, two_apart)
      same Second First = grind (arith, two_apart)
      same Second Second = same_here (at_side Second)

      placed_at : (f : Side → Received) (side : Side)
          → update_at (at_side First) (f First) (λ k. f Second) (at_side side) ≡ f side
      placed_at f First = put_here (at_side First) (f First) (λ k. f Second)
      placed_at f Second = put_other (at_side First) (at_side Second) (f First) (λ k. f Second) two_apart

  by_side : {X : Type 0} (f : ℕ → X) (a b : X) → (f (at_side First) ≡ a) × (f (at_side Second) ≡ b)
      → both a b ≡ (λ side. f (at_side side))
  by_side f a b is = λ i side. at_each side i
    where
      at_each : (side : Side) → both a b side ≡ f (at_side side)
      at_each First = sym is.0
      at_each Second = sym is.1

  module _ {a b : Reader}
      (were : (d : Reader) → (get_or old (at_side First) d ≡ a) × (get_or old (at_side Second) d ≡ b)) where
    module _ (x y : Reader) where
      abbrev new : List Reader
      new = set (set old (at_side First) x) (at_side Second) y

      others : (q : ℕ) → is_in positions q ≡ false → reader_at new q ≡ reader_at old q
      others q other = grind (usual, side_named)

      pub merge_post : {is : Output} {store : Slots} {result : Result (Unit {0}) MergeFault}
          {found : Result Completion FlowFault} (t : MergeTool) → merge_engine t ≡ engine
          → MergePost t (merge_state a b was before) (merge_state x y is store) result
          → found ≡ merge_found (both (at_side First) (at_side Second)) result
          → JointPost (two_input_tool engine) positions old new was is before store found
      merge_post {result = result} t same_engine post is_found = record {
        end = end_at at_side (merge_end result);
        result_is = rw (is_found, by_side (λ q. q) _ _ (refl, refl)) refl;
        call = placed_call engine at_side two_placed old new others ready.writable
            (λ few. (First, refl, (new_at First).eof))
            (rw (
              same_engine,
              by_side (reader_at old) _ _ (were no_reader),
              by_side (reader_at new) x y (grind (usual, two_within, two_apart)),
            ) at post.call);
        same = λ f g same. search (rules, same, side_named);
      }

-- ---- an operand could not be opened

pub none_unopened : (word : List ℕ) (names : List (List ℕ)) (test : ℕ → Bool) (positions : List ℕ)
    → list_any test positions ≡ false → unopened_messages word names test positions ≡ []
none_unopened word names test [] none = refl
none_unopened word names test (p ∷ positions) none = grind (arith, none_unopened word names test positions)

module _ (word : List ℕ) (t : JointTool) (names : List (List ℕ)) (positions : List ℕ) {inputs : List Reader}
    {messages_old messages_new : SinkState} {any_unopened : Bool}
    (k : ReportUnopenedPost word names positions inputs messages_old messages_new any_unopened) where
  pub unopened_run : {out : Output} {store : Slots} → All IsNewOrUnopened inputs → RunPre store out
      → any_unopened ≡ true
      → RunWithStorePost (joint_spec word t names positions) inputs inputs (sinks (sink_of out) messages_old)
      (outcome_of out messages_new store 1) store store
  unopened_run {out} {store} fresh unused some = record {
    run = record { run = run; slots = λ w agrees. grind arith };
    is_exact = exact_of_run _ _ _ _ _ fresh run;
    reads_nothing = λ nothing. (refl, (refl, unused.store.never, unused.store.not_denied));
    keeps_nothing = λ nothing. refl;
  }
    where
      any : list_any (is_reader_unopened inputs) positions ≡ true
      any = sym k.is ∙ some

      any_of : (test : ℕ → Bool) → ((q : ℕ) → is_reader_unopened inputs q ≡ test q) → list_any test positions ≡ true
      any_of test same = sym (any_same _ _ _ same) ∙ any

      run : IsRun (joint_spec word t names positions) inputs inputs (sinks (sink_of out) messages_old)
          (outcome_of out messages_new store 1)
      run = rw (unused.store.never, unused.store.not_denied)
          (unread_run _ 1 refl any (λ r same. rw (any_of (is_unopened r) same) refl) fresh unused.writable k.has_said
          (λ w agrees.
          let same = unopened_agrees _ _ _ w (nothing_read _ (fresh_all _ fresh)) agrees in
          rw (any_of (is_unopened w) same) (
            refl,
            rw (take-length positions, append-nil (unopened_messages word names (is_unopened w) positions))
                (grind arith),
            refl,
          ))
          (λ q named. absurd (false≢true named)))

  pub joint_pre : {was : Output} {before : Slots} → InputsPre (joint_spec word t names positions) inputs
      → any_unopened ≡ false → was.write_failed ≡ false → before.denied ≡ false → total_bytes before.lines ≡ 0
      → JointPre t positions inputs was before
  joint_pre given none writable not_denied empty = grind arith

-- ---- the position of a failure, as that of the first operand with this input

first_at : (positions : List ℕ) (p : ℕ) → is_in positions p ≡ true
    → (n : ℕ) × (n ≤ length positions) × (slice_get positions n ≡ Some p) × (is_in (take n positions) p ≡ false)
first_at [] p there = absurd (false≢true there)
first_at (q ∷ positions) p there = ⊎_elim (λ same. (0, omega arith, ap (λ n. Some n) same.1, refl))
    (λ other.
    let f = first_at positions p (search rules) in
    (suc f.0, omega arith, f.2, grind arith))
    (eqb_tells q p)

-- ---- the inputs received, as a list

abbrev received_from : (ℕ → Received) → ℕ → List Reader → ReceivedInputs
received_from given n [] = []
received_from given n (r ∷ readers) = cond r.refused None (Some (given n)) ∷ received_from given (n + 1) readers

at_received : (given : ℕ → Received) (n : ℕ) (readers : List Reader) (q m : ℕ) → n + q ≡ m
    → at (received_from given n readers) q ≡ cond (is_reader_unopened readers q) None (Some (given m))
at_received given n [] q m is = refl
at_received given n (r ∷ readers) zero m is = grind arith
at_received given n (r ∷ readers) (suc q) m is = at_received given (n + 1) readers q m (omega arith)

-- ---- processing the inputs

-- how a run ends that found a line out of order, given by position and number, or none
abbrev completion_of : Option (ℕ × ℕ) → Completion
completion_of None = AllWritten
completion_of (Some found) = Disordered found.0 found.1

module _ (word : List ℕ) {t : JointTool} (names : List (List ℕ)) {positions : List ℕ} {old new : List Reader}
    {was is : Output} (messages_old : SinkState) {before store : Slots} {result : Result Completion FlowFault}
    (start : JointPre t positions old was before)
    (post : JointPost t positions old new was is before store result) where
  k : CallPost (inputs_at positions) (in_run (t.engine positions)) (run_state old was before)
      (run_state new is store) post.end
  k = post.call

  open_at : (q : ℕ) → is_in positions q ≡ true → is_reader_unopened old q ≡ false
  open_at = search (rules, none_passes)

  fresh : (q : ℕ) → IsNewOrUnopened (reader_at old q)
  fresh = fresh_all old start.fresh

  -- ---- the inputs received

  -- an input that is no operand has received nothing
  abbrev received : ReceivedInputs
  received = received_from (λ q. cond (is_in positions q) (k.given q) none_received) 0 old

  at_position : (q : ℕ)
      → at received q ≡ cond (is_reader_unopened old q) None (Some (cond (is_in positions q) (k.given q) none_received))
  at_position q = grind (arith, at_received)

  at_listed : (q : ℕ) → is_in positions q ≡ true → at received q ≡ Some (k.given q)
  at_listed q named = grind (arith, at_position, open_at)

  at_other : (q : ℕ) → is_in positions q ≡ false → at received q ≡ received_of (reader_at old q)
  at_other q other = grind (arith, at_position)

  given_listed : (q : ℕ) → is_in positions q ≡ true → received_in received q ≡ k.given q
  given_listed q named = rw (at_listed q named) refl

  came : HaveReceived old new received
  came q = grind (arith, at_listed, open_at, at_other, fresh)

  complete : (w : InputBytes) → AreInputsConsistent received w → has_unopened positions w ≡ false
  complete w agrees = grind (arith, came)

  agree : (w : InputBytes) → AreInputsConsistent received w → AreAllConsistent (inputs_at positions) k.given
      (bytes_of w)
  agree w agrees q named = grind (arith, at_listed)

  -- ---- the decided output

  decided_is : (r : ReceivedInputs) (f : ℕ → Received) → ((q : ℕ) → is_unopened r q ≡ is_unopened received q)
      → ((q : ℕ) → is_in positions q ≡ true → received_in r q ≡ f q)
      → (joint_spec word t names positions).decided r ≡ (t.engine positions).decided f
  decided_is r f opened same = grind (arith, any_same, came)

  put_is : (p : ℕ) (g e : Received) → at received p ≡ Some g → (q : ℕ) → is_in positions q ≡ true
      → received_in (set received p (Some e)) q ≡ update_at p e k.given q
  put_is p g e there = search (rules, k, at_set, put_here, given_listed)

  -- ---- how it ended

  abbrev AllPushedAt : Option (ℕ × ℕ) → Type 0
  AllPushedAt found = AllPushed (inputs_at positions) (in_run (t.engine positions)) (run_state old was before)
      (run_state new is store) k.given k.pushed found

  abbrev EndedAs : CallEnd ℕ → Type 0
  EndedAs end = CallOutcome (inputs_at positions) (in_run (t.engine positions)) (run_state old was before)
      (run_state new is store) k.given k.pushed end

  none_failed : NoReadFailed (inputs_at positions) (run_state old was before) (run_state new is store) → (q : ℕ)
      → HasReadFailed old new q → ⊥
  none_failed none q failed = grind arith

  record Ending (r : Result Completion FlowFault) : Type 0 where
    operands_done : ℕ
    within : operands_done ≤ length positions
    ends : RunInputsEnd (joint_spec word t names positions) received old new k.pushed is.write_failed store.denied
        operands_done r
    position : HasIndexBelow (length old) r
    names_failed_read : (q : ℕ) → HasReadFailed old new q → is.write_failed ≡ false → r ≡ Err (Read q)
    ended : AreReadToEnd new (ended_operands (joint_spec word t names positions) operands_done (result_status r))

  -- nothing is stated if the exit status is not 0
  none_ended : AreReadToEnd new []
  none_ended q named = absurd (false≢true named)

  ended_if_written : (found : Option (ℕ × ℕ))
      → (found ≡ None → (q : ℕ) → is_in positions q ≡ true → IsDone (reader_at new q))
      → AreReadToEnd new (ended_operands (joint_spec word t names positions) (length positions)
      (result_status (Ok (completion_of found))))
  ended_if_written None ended = λ q named opened. ended refl q named
  ended_if_written (Some found) ended = none_ended

  all_pushed : (found : Option (ℕ × ℕ))
      → AllPushedAt found → HasIndexBelow (length old) (Ok (completion_of found)) → Ending (Ok (completion_of found))
  all_pushed found e below = record {
    operands_done = length positions;
    within = omega arith;
    ends = grind (arith, complete, e.out, agree, e.clean, e.not_denied, e.unfailed, e.short, e.disorder, fresh, came, at_other);
    position = below;
    names_failed_read = grind arith;
    ended = ended_if_written _ e.ended;
  }

  ending : (end : CallEnd ℕ)
      → EndedAs end → Ending (result_of_end end)
  ending Complete e = all_pushed None e tt
  ending (OutOfOrder p line) e = all_pushed (Some (p, line)) e.pushed_all
      (each_listed (λ q. q < length old) positions start.in_range p e.named)
  ending (ReadFault p) e =
      let f = first_at positions p e.named in
      let cause : HasReadFailed old new p ⊎ IsTooLong (at received p) = grind (arith, open_at, fresh, at_listed) in
      record {
        operands_done = f.0;
        within = f.1;
        ends = (f.2, f.3, cause, e.clean, e.not_denied);
        position = each_listed (λ q. q < length old) positions start.in_range p e.named;
        names_failed_read = λ q failed clean. ⊎_elim (λ same. ap (λ n. Err (Read n)) (sym same))
            (λ other. absurd (false≢true (sym failed.1 ∙ sym (e.others q (grind arith) other) ∙ failed.2)))
            (cases_eq q p);
        ended = none_ended;
      }
  ending WriteFault e = grind arith
  ending MemoryFault e = grind (arith, none_failed)

  left_by : (end : CallEnd ℕ)
      → EndedAs end → result_of_end end ≡ Err Memory
      → IsCallUnfinished (inputs_at positions) (in_run (t.engine positions)) (run_state new is store) k.given k.pushed
  left_by Complete e memory = cc
  left_by (OutOfOrder p line) e memory = cc
  left_by (ReadFault p) e memory = cc
  left_by WriteFault e memory = cc
  left_by MemoryFault e memory = e.left (omega arith)

  pub joint_post : RunInputsPost (joint_spec word t names positions) old new was is messages_old messages_old before
      store result
  joint_post = let e = subst Ending (sym post.result_is) (ending _ k.ends) in record {
    received = received;
    came = came;
    pushed = k.pushed;
    wrote = k.wrote;
    operands_done = e.operands_done;
    within = e.within;
    message = [];
    has_said = said_nothing messages_old;
    names = λ w agrees. sym (none_unopened word names (is_unopened w) (take e.operands_done positions)
        (grind (
          arith,
          complete,
          list_any-append (is_unopened w) (take e.operands_done positions)
              (drop e.operands_done positions),
          take-append-drop,
        )));
    ends = e.ends;
    position = e.position;
    untouched = k.untouched;
    ended = e.ended;
    left = λ memory. ⊎_elim (λ (q, named, unended). inl (q, named, (k.came q named).refused ∙ open_at q named, unended))
        (λ (keeps, unwritten). inr (
          keeps,
          λ w agrees. rw (complete w agrees) (unwritten (bytes_of w) (agree w agrees)),
        )) (left_by post.end k.ends (sym post.result_is ∙ memory));
    is_prefix = λ w agrees. rw (complete w agrees) (k.is_prefix (bytes_of w) (agree w agrees));
    names_failed_read = e.names_failed_read;
    decided_is_written = grind (arith, decided_is received k.given (λ q. refl) given_listed);
    bounded_lag = λ q g named there. let up = lagged_output (λ e. (t.engine positions).decided (update_at q e k.given))
        (k.bounded_lag q named start.writable) in let e = up.0.earlier in
        rw (some_same (sym there ∙ at_listed q named)) (
          up.0,
          rw (decided_is (set received q (Some e)) (update_at q e k.given) (opened_set received q g e there)
              (put_is q g e there)) up.1,
        );
    peak = grind (arith, complete, agree, k);
    slots = grind (arith, complete, agree, k);
  }
