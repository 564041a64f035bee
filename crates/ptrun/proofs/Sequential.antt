-- Tools that read their operands one after another. After each operand, the output is that of the operands so far; an
-- operand whose input was read by an earlier one receives nothing more. An operand that fails leaves a prefix of the
-- output, with all that was decided by then.
use Rattle.ptrun.proofs
use Rattle.ptrun.specs
use proofs.Common.{All, AllPushed, AllWritten, AreInputsConsistent, BoundedLag, CallOutcome, CallState, Completion}
use proofs.Common.{DecidesAll, Err, FlowFault, HasCause, HasIndexBelow, HasReadCause, HasReadFailed, HasReceived}
use proofs.Common.{HasSaid, HaveReceived, InputBytes, IsConsistent, IsDone, IsPrefix, IsPushedUpToBlock, IsSound}
use proofs.Common.{IsTooLong, List, Memory, None, Ok, Output, PassPost, PassPre, PushEffect, Read, Reader}
use proofs.Common.{Received, ReceivedInputs, Result, RunInputsPost, SinkState, Slots, Some, ToolSpec}
use proofs.Common.{Unopened, Write, [], ap, append-nil, append_assoc, arith, call_state, cases_Bool, cases_lt, cond}
use proofs.Common.{decided_in_order, empty_input, false, false≢true, flat_map, flat_map-append, get_or, is_in}
use proofs.Common.{is_reader_unopened, length, length-append, length-map, length-set, list_any, map, map-append, max}
use proofs.Common.{name_of, only_input, pass_end, pass_engine, push_nothing, push_trans, reader_at, refl, rules, set}
use proofs.Common.{subst, sym, take, take_all, total_bytes, true, unopened_message, unopened_messages}
use proofs.Common.{up_to_unended, usual, ℕ, ⊎_elim, ◌++◌, ◌+◌, ◌<◌, ◌∙◌, ◌∷◌, ◌≡◌, ◌≢◌, ◌≤◌, ◌⊎◌}
use proofs.MessageWrites.{said_nothing}
use proofs.OperandInputs.{IsAtEof, IsEndedAt, OpenedInput, all_earlier, any_before, any_now, completion_with}
use proofs.OperandInputs.{consistent_before, consistent_bytes, decided_inputs, fresh_all, holds_more, is_in-same}
use proofs.SameLines.{in_turn_same}
use proofs.OperandInputs.{last_earlier, least_bytes, least_consistent, maximum-append, none_received, not_more}
use proofs.OperandInputs.{nothing_read, nth_here, opened_inputs_none, opened_inputs_some, opened_receives, received_at}
use proofs.OperandInputs.{received_of, said_more, sends_after, sends_now}
use specs.Private.Driver.{fault_at}
use specs.Files.{IsNewOrUnopened, at}
use specs.Private.Operands.{input_of_operand, inputs_of_operands, opened_inputs, opened_values}
use specs.Private.Sequential.{sequential_bound, sequential_decided, sequential_output, sequential_slots, sequential_spec}
use Rattle.std.proofs.Math.Seq.{take-append-add, take-append_seam, take-length}

pub fault_below : {count p : ℕ} → p < count → (fault : FlowFault) → HasIndexBelow count (Err (fault_at p fault))
fault_below below (Read position) = below
fault_below below Write = tt
fault_below below Memory = tt

pub record OperandsDone (word : List ℕ) (t : ToolSpec) (names : List (List ℕ)) (old now : List Reader) (was is : Output)
    (messages_old messages_new : SinkState) (before store : Slots)
    (done : List ℕ) (so_far : Completion) : Type 0 where
  inputs_read : ReceivedInputs
  pub same_length : length now ≡ length old
  pub long : length inputs_read ≡ length old
  pub came : HaveReceived old now inputs_read
  pub at_eof : (q : ℕ) → is_in done q ≡ true → is_reader_unopened old q ≡ false → IsAtEof (reader_at now q)
  pub unread : (q : ℕ) → is_in done q ≡ false → reader_at now q ≡ reader_at old q
  unreceived : (q : ℕ) → is_in done q ≡ false → at inputs_read q ≡ received_of (reader_at old q)
  pub pushed : List ℕ
  pub wrote : PushEffect was is pushed
  pub out : (w : InputBytes) → AreInputsConsistent inputs_read w → pushed ≡ sequential_output t w done
  pub has_said : HasSaid messages_old messages_new (unopened_messages word names (is_reader_unopened old) done)
  so_far_is : so_far ≡ completion_with (list_any (is_reader_unopened old) done)
  pub clean : is.write_failed ≡ false
  pub not_denied : store.denied ≡ false
  pub empty : total_bytes store.lines ≡ 0
  pub bounds : (w : InputBytes) → AreInputsConsistent inputs_read w
      → (store.peak ≤ max before.peak (sequential_bound t w done))
      × (length store.lines ≤ max (length before.lines) (sequential_slots t w done))
  pub room : (q : ℕ) → is_in done q ≡ true → is_reader_unopened old q ≡ false → t.slots ≤ length store.lines

module _ {word : List ℕ} {t : ToolSpec} {names : List (List ℕ)} {old : List Reader} {was : Output}
    {messages_old : SinkState} {before : Slots} (fresh : All IsNewOrUnopened old) where
  pub done_nothing : was.write_failed ≡ false → before.denied ≡ false → total_bytes before.lines ≡ 0
      → OperandsDone word t names old old was was messages_old messages_old before before [] AllWritten
  done_nothing clean not_denied empty = record {
    inputs_read = map received_of old;
    same_length = refl;
    long = length-map old received_of;
    came = nothing_read old (fresh_all old fresh);
    at_eof = λ q seen. absurd (false≢true seen);
    unread = λ q unseen. refl;
    unreceived = λ q unseen. received_at old q;
    pushed = [];
    wrote = push_nothing was;
    out = λ w agrees. refl;
    has_said = said_nothing _;
    so_far_is = refl;
    clean = clean;
    not_denied = not_denied;
    empty = empty;
    bounds = λ w agrees. (omega arith, omega arith);
    room = λ q seen. absurd (false≢true seen);
  }

  module _ {now : List Reader} {is : Output} {messages_new : SinkState} {store : Slots} {done : List ℕ}
      {so_far : Completion}
      (k : OperandsDone word t names old now was is messages_old messages_new before store done so_far) where
    was_unopened : (q : ℕ) → is_reader_unopened old q ≡ (reader_at now q).refused
    was_unopened q = grind arith

    can_read_now : (q : ℕ) → is_reader_unopened old q ≡ false
        → ((reader_at now q).buffered ≡ []) × ((reader_at now q).fault ≡ None)
    can_read_now q opened = grind (arith, fresh_all)

    -- ---- all operands are done

    pub done_all : {all : List ℕ} (law : DecidesAll t) → done ≡ all
        → RunInputsPost (sequential_spec word t names all) old now was is messages_old messages_new before store
        (Ok so_far)
    done_all law all = rw (← all) (record {
      received = k.inputs_read;
      came = k.came;
      pushed = k.pushed;
      wrote = k.wrote;
      operands_done = length done;
      within = omega arith;
      message = unopened_messages word names (is_reader_unopened old) done;
      has_said = k.has_said;
      names = grind (arith, take-length);
      ends = (
        record {
          all = refl;
          out = k.out;
          no_write_failed = k.clean;
          not_denied = k.not_denied;
          read = λ q. ⊎_elim (none q) (short q);
        },
        grind arith,
      );
      position = grind arith;
      untouched = grind (arith, all_taken);
      ended = grind (arith, take-length, was_unopened);
      left = λ memory. cc;
      is_prefix = grind (arith, append-nil);
      names_failed_read = λ q failed clean. absurd (none q failed);
      decided_is_written = λ q failed clean. absurd (none q failed);
      bounded_lag = rw (in_turn_same, all_taken) (all_earlier t (opened_inputs empty_input k.inputs_read done)
          (λ bytes. IsPushedUpToBlock bytes was is k.pushed) (search (rules, processing, sends_now)));
      peak = λ w agrees. (k.bounds w agrees).0;
      slots = λ w agrees. (k.bounds w agrees).1;
    })
      where
        all_taken : take (length done + 1) done ≡ done
        all_taken = take_all (length done + 1) done (omega arith)

        none : (q : ℕ) → HasReadFailed old now q → ⊥
        none q failed = grind arith

        short : (q : ℕ) → IsTooLong (at k.inputs_read q) → ⊥
        short q long = grind (arith, fresh_all)

        processing : IsPrefix (sequential_decided t k.inputs_read done) k.pushed
        processing =
            let all = decided_inputs t law _ [] done [] (λ q seen. grind arith)
            ∙ append-nil (sequential_output t (least_bytes k.inputs_read) done)
            ∙ sym (grind (arith, least_consistent)) in
            record {
              rest = [];
              is = sym all ∙ ap (λ l. flat_map t.decided (up_to_unended l))
                  (append-nil (opened_inputs empty_input k.inputs_read done))
                  ∙ sym (append-nil (sequential_decided t k.inputs_read done));
            }

    -- ---- the next operand

    here : {p : ℕ} → p < length old → (d : Reader) → get_or now p d ≡ reader_at now p
    here within d = grind usual

    pub operand_ready : {p : ℕ} → p < length old → (d d' : Reader) → (get_or now p d).refused ≡ false
        → PassPre (get_or now p d') store
    operand_ready within d d' opened = grind (arith, here)

    module _ {p : ℕ} (within : p < length old) (d : Reader) where
      pub done_unopened : {messages_new' : SinkState} → (get_or now p d).refused ≡ true
          → HasSaid messages_new messages_new' (unopened_message word (name_of names p))
          → OperandsDone word t names old now was is messages_old messages_new' before store (done ++ p ∷ []) Unopened
      done_unopened refused says = record {
        inputs_read = k.inputs_read;
        same_length = k.same_length;
        long = k.long;
        came = k.came;
        at_eof = holds_more _ _ p k.at_eof
            (grind (arith, old_unopened));
        unread = grind (arith, not_more);
        unreceived = grind (arith, not_more);
        pushed = k.pushed;
        wrote = k.wrote;
        out = grind (arith, nothing);
        has_said = grind (arith, said_more, old_unopened);
        so_far_is = grind (arith, any_now, old_unopened);
        clean = k.clean;
        not_denied = k.not_denied;
        empty = k.empty;
        bounds = grind (arith, nothing);
        room = grind usual;
      }
        where
          old_unopened : (reader_at old p).refused ≡ true
          old_unopened = grind (arith, here)

          nothing : (w : InputBytes) → AreInputsConsistent k.inputs_read w
              → opened_inputs [] w (done ++ p ∷ []) ≡ opened_inputs [] w done
          nothing w agrees = grind (arith, opened_inputs_none, old_unopened)

    -- ---- an operand that was opened

    module _ {is' : Output} {store' : Slots} {p : ℕ} {now' : List Reader} {new : Reader}
        {passed : Result (Unit {0}) FlowFault}
        (within : p < length old) (d d' : Reader) (open_here : (get_or now p d).refused ≡ false)
        (sound : IsSound (get_or now p d)) (inputs : now' ≡ set now p new)
        (pass : PassPost t (get_or now p d') new is is' store store' passed) where
      e : PassPost t (reader_at now p) new is is' store store' passed
      e = rw (here within d') at pass

      abbrev was_here : CallState (Unit {0})
      was_here = call_state (λ u. reader_at now p) is store

      abbrev is_here : CallState (Unit {0})
      is_here = call_state (λ u. new) is' store'

      abbrev given_here : Received
      given_here = e.call.given tt

      abbrev EndedAs : Result (Unit {0}) FlowFault → Type 0
      EndedAs passed = CallOutcome only_input (pass_engine t) was_here is_here e.call.given e.call.pushed
          (pass_end passed)

      came_here : HasReceived (reader_at now p) new given_here
      came_here = e.call.came tt refl

      old_open : is_reader_unopened old p ≡ false
      old_open = grind (arith, here)

      -- what its input had received before
      abbrev y : OpenedInput (reader_at old p) (reader_at now p) (at k.inputs_read p)
      y = opened_receives (reader_at old p) (reader_at now p) (at k.inputs_read p) old_open (k.came p)

      buffered : (reader_at now p).buffered ≡ []
      buffered = let (buffered, fault) = can_read_now p old_open in buffered

      abbrev given_now : Received → Received
      given_now g = record { bytes = g.bytes ++ given_here.bytes; eof = given_here.eof }

      abbrev inputs_read' : ReceivedInputs
      inputs_read' = set k.inputs_read p (Some (given_now y.given))

      reader_here : reader_at now' p ≡ new
      reader_here = rw inputs (search rules)

      reader_other : (q : ℕ) → p ≢ q → reader_at now' q ≡ reader_at now q
      reader_other q differs = rw inputs (search rules)

      read_here : at inputs_read' p ≡ Some (given_now y.given)
      read_here = search rules

      read_other : (q : ℕ) → p ≢ q → at inputs_read' q ≡ at k.inputs_read q
      read_other q differs = search rules

      receives_here : HasReceived (reader_at old p) new (given_now y.given)
      receives_here = grind (usual, y.received, came_here, buffered)

      received' : HaveReceived old now' inputs_read'
      received' = grind (arith, reader_here, read_here, receives_here, reader_other, read_other)

      still : y.given.eof ≡ true → (given_here.bytes ≡ []) × (given_here.eof ≡ true)
      still eof = grind (usual, buffered)

      -- its input was read to its end before and gives nothing now, or it was not read before
      turn : ((is_in done p ≡ true) × (given_here ≡ empty_input) × IsAtEof (reader_at now p))
          ⊎ ((is_in done p ≡ false) × (y.given ≡ none_received))
      turn = ⊎_elim (grind (arith, still)) (λ unseen. grind (arith, unseen, old_open)) (cases_Bool (is_in done p))

      unseen : HasReadCause (reader_at now p) new → is_in done p ≡ false
      unseen cause = grind (arith, still, turn)

      back : (w : InputBytes) → AreInputsConsistent inputs_read' w → AreInputsConsistent k.inputs_read w
      back w agrees = grind (arith, read_here, consistent_before, still, read_other)

      -- the bytes that are left for the operand, consistent with what this call received
      record OperandFinds (w : InputBytes) : Type 0 where
        bytes : List ℕ
        are : input_of_operand [] w done p ≡ Some bytes
        agree : IsConsistent given_here bytes

      operand_finds : (w : InputBytes) → AreInputsConsistent inputs_read' w → OperandFinds w
      operand_finds w agrees =
          let here = consistent_bytes _ _ _ read_here (agrees p) in
          record {
            bytes = cond (is_in done p) [] here.bytes;
            are = grind arith;
            agree = grind (arith, turn);
          }

      abbrev later : InputBytes → List ℕ → List (List ℕ)
      later w more = opened_values (inputs_of_operands [] w (done ++ p ∷ []) more)

      out_here : (w : InputBytes) (more : List ℕ) (f : OperandFinds w)
          → sequential_output t w (done ++ p ∷ more) ≡ sequential_output t w done
          ++ (t.text f.bytes ++ flat_map t.text (later w more))
      out_here w more f =
          ap (λ l. flat_map t.text l) (grind (arith, opened_inputs_some))
          ∙ flat_map-append t.text (opened_inputs [] w done) (f.bytes ∷ later w more)

      bounds_here : (w : InputBytes) (more : List ℕ) → AreInputsConsistent inputs_read' w
          → (store'.peak ≤ max before.peak (sequential_bound t w (done ++ p ∷ more)))
          × (length store'.lines ≤ max (length before.lines) (sequential_slots t w (done ++ p ∷ more)))
      bounds_here w more agrees =
          let f = operand_finds w agrees in
          let bounds = k.bounds w (back w agrees) in
          rw (opened_inputs_some [] w done p more f.bytes f.are, map-append, map-append) (
            omega (arith, maximum-append, e.call.peak (λ u. f.bytes) (λ u read. f.agree)),
            omega (arith, maximum-append, e.call.slots (λ u. f.bytes) (λ u read. f.agree)),
          )

      pub done_operand : passed ≡ Ok tt
          → OperandsDone word t names old now' was is' messages_old messages_new before store' (done ++ p ∷ []) so_far
      done_operand ok = record {
        inputs_read = inputs_read';
        same_length = grind (arith, length-set);
        long = grind (arith, length-set);
        came = received';
        at_eof = grind (arith, reader_here, at_eof, reader_other, any_before);
        unread = grind (arith, not_more, reader_other);
        unreceived = grind (arith, not_more, read_other);
        pushed = k.pushed ++ e.call.pushed;
        wrote = push_trans was is is' _ _ k.clean k.wrote e.call.wrote;
        out = λ w agrees. let f = operand_finds w agrees in
            (λ i. k.out w (back w agrees) i
            ++ (end.out (λ u. f.bytes) (λ u read. f.agree) ∙ sym (append-nil (t.text f.bytes))) i)
            ∙ sym (out_here w [] f);
        has_said = grind (arith, said_more, old_open, said_nothing);
        so_far_is = grind (arith, any_before, old_open);
        clean = end.clean;
        not_denied = end.not_denied;
        empty = end.empty;
        bounds = λ w agrees. bounds_here w [] agrees;
        room = grind arith;
      }
        where
          end : AllPushed only_input (pass_engine t) was_here is_here e.call.given e.call.pushed None
          end = subst EndedAs ok e.call.ends

          at_eof : IsAtEof new
          at_eof = record {
            done = end.ended refl tt refl;
            fault = end.fault tt refl;
            failed = end.unfailed tt refl ∙ (grind (arith, here));
            short = end.short tt refl;
          }

      -- ---- it failed

      cause_of : (more : List ℕ) (fault : FlowFault) → EndedAs (Err fault)
          → HasCause (sequential_spec word t names (done ++ p ∷ more)) inputs_read' old now' is'.write_failed
          store'.denied (length done) (fault_at p fault)
      cause_of more (Read position) r = (
        nth_here done more p,
        grind (usual, unseen),
        grind (arith, old_open, unseen, reader_here, read_here, fresh_all, receives_here, buffered),
        r.clean,
        r.not_denied,
      )
      cause_of more Write r = r.write_failed
      cause_of more Memory r = (r.denied, r.clean)

      -- If no slot was missing, a line is left. If one was, no operand was read before, so its input is unread.
      input_left : passed ≡ Err Memory → IsDone new → ⊥
      input_left memory ended = ⊎_elim
          (λ few.
          let unread = (e.call.unread k.clean few).readers tt refl in
          grind (arith, old_open, unseen))
          (grind arith) (cases_lt _ _)

      failing : (fault : FlowFault) → EndedAs (Err fault) → new.failed ≡ true
          → (new.eof ≡ false) × (fault_at p fault ≡ Read p)
      failing (Read position) r failed = grind arith
      failing Write r failed = absurd (false≢true (sym (r.unfailed tt refl ∙ (grind (arith, here))) ∙ failed))
      failing Memory r failed = absurd (false≢true (sym (r.unfailed tt refl ∙ (grind (arith, here))) ∙ failed))

      ended_before : (q : ℕ) → is_in done q ≡ true → IsEndedAt (at inputs_read' q)
      ended_before = grind (arith, read_here, unseen, turn, read_other)

      module _ (law : DecidesAll t) where
        decided_all : (came : List Received)
            → flat_map t.decided (up_to_unended (opened_inputs empty_input inputs_read' done ++ came))
            ≡ k.pushed ++ flat_map t.decided (up_to_unended came)
        decided_all came = grind (arith, decided_inputs, ended_before, back, least_consistent)

        one_keeps : BoundedLag {I = Unit {0}} (λ came. t.decided (came tt)) (λ u. given_here) is is' e.call.pushed
        one_keeps = e.call.bounded_lag tt refl k.clean

        abbrev earlier : Received
        earlier = (one_keeps.processing.before tt).earlier

        input_given : input_of_operand empty_input inputs_read' done p ≡ Some given_here
        input_given = grind (arith, read_here, turn)

        begins_after : (bytes : List ℕ) {all : List ℕ} → all ≡ k.pushed ++ bytes → IsPrefix bytes e.call.pushed
            → IsPrefix all (k.pushed ++ e.call.pushed)
        begins_after bytes is b = grind usual

        decided_here : decided_in_order t (opened_inputs empty_input inputs_read' done ++ earlier ∷ [])
            ≡ k.pushed ++ t.decided earlier
        decided_here = search (rules, decided_all)

        pub done_stopped : (more : List ℕ) {fault : FlowFault} {all : List ℕ} → done ++ p ∷ more ≡ all
            → passed ≡ Err fault
            → RunInputsPost (sequential_spec word t names all) old now' was is' messages_old messages_new before store'
            (Err (fault_at p fault))
        done_stopped more {fault} split is_err = rw (← split) (record {
          received = inputs_read';
          came = received';
          pushed = k.pushed ++ e.call.pushed;
          wrote = push_trans was is is' k.pushed e.call.pushed k.clean k.wrote e.call.wrote;
          operands_done = length done;
          within = omega (arith, length-append done (p ∷ more));
          message = unopened_messages word names (is_reader_unopened old) done;
          has_said = k.has_said;
          names = grind (arith, take-append_seam, received');
          ends = cause_of more fault end;
          position = fault_below within fault;
          untouched = grind (arith, not_more, take-append-add, reader_other);
          ended = grind (arith, e.stays_done, take-append_seam, reader_here, old_open, reader_other, was_unopened);
          left = grind (arith, take-append-add, is_in-same, reader_here, came_here.refused, old_open, input_left);
          is_prefix = λ w agrees. let f = operand_finds w agrees in let b = e.call.is_prefix (λ u. f.bytes)
              (λ u read. f.agree) in let rest =
              flat_map t.text (later w more) in record {
                rest = b.rest ++ rest;
                is = out_here w more f ∙ (λ i. sym (k.out w (back w agrees)) i ++ (b.is i ++ rest))
                    ∙ ap (λ l. k.pushed ++ l) (append_assoc e.call.pushed b.rest rest)
                    ∙ sym (grind usual);
              };
          decided_is_written = λ q failed clean. let here = fails_here q failed in let after =
              opened_values (inputs_of_operands empty_input inputs_read' (done ++ p ∷ []) more) in
              begins_after (t.decided given_here) (ap (λ l. flat_map t.decided (up_to_unended l))
              (grind (arith, opened_inputs_some, input_given))
              ∙ decided_all (given_here ∷ after) ∙ ap (λ l. k.pushed ++ l)
              (grind (arith, failing, end, append-nil)))
              (e.call.decided_is_written tt refl here clean);
          bounded_lag =
              rw (
                in_turn_same,
                take-append-add done (p ∷ more) 1,
                opened_inputs_some _ _ _ p [] given_here input_given,
              )
              (last_earlier t (opened_inputs empty_input inputs_read' done) given_here (one_keeps.processing.before tt)
              (λ bytes. IsPushedUpToBlock bytes was is' (k.pushed ++ e.call.pushed))
              (search
              (rules, begins_after, decided_here, sends_after, k.wrote, one_keeps.processing, one_keeps.buffering)));
          names_failed_read = grind (arith, failing _ end, fails_here, position_of);
          peak = λ w agrees. (bounds_here w _ agrees).0;
          slots = λ w agrees. (bounds_here w _ agrees).1;
        })
          where
            end : EndedAs (Err fault)
            end = subst EndedAs is_err e.call.ends

            position_of : (q : ℕ) → HasReadFailed old now' q → p ≡ q
            position_of q failed = grind (arith, reader_other)

            fails_here : (q : ℕ) → HasReadFailed old now' q → new.failed ≡ true
            fails_here q failed = grind (arith, position_of, reader_here)
