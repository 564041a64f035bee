-- A run over memory is a run over files whose contents are known and of which no read fails. So it is exact unless
-- memory runs out. By steps: what was received, which sink or created file has the output, how the run ended, and its
-- answer. At the end, that the run returned the sinks that fill the rooms of the output and of the messages.
use Rattle.std.proofs.Common.{◌≡◌, ◌⊎◌, ◌<◌, ◌≤◌, ◌^◌, ℕ, zero, suc, Bool, true, false, List, [], ◌∷◌, ◌++◌, Option}
use Rattle.std.proofs.Common.{Some, None, All, ap, sym, ◌∙◌, refl, arith, inl, inr, length, map, subst}
use Rattle.std.proofs.Common.{append_assoc, codes, take, length-append, option_map, ⊎_elim}
use Rattle.std.proofs.lemmas.Bool.{true≢false, false≢true}
use Rattle.std.proofs.lemmas.List.{append-nil, get_or_past}
use Rattle.std.specs.Io.KnownBytes.{prepend_known, append_known, IsAtEnd}
use Rattle.ptflow.specs.declared.faults.FlowFault.{FlowFault}
use Rattle.ptflow.specs.declared.faults.FlowFault.TheVariants.{Memory, Read, Write}
use Rattle.ptlines.specs.Readers.{Reader, reader_at, no_reader}
use Rattle.ptlines.specs.Received.{Received, IsConsistent, IsPrefix}
use Rattle.ptlines.specs.Sinks.{SinkState}
use Rattle.ptlines.specs.Slots.{Slots}
use Rattle.ptlines.specs.Sources.{SourceState}
use Rattle.ptrun.specs.CommandSpec.{CommandSpec, messages}
use Rattle.ptrun.specs.Files.{AreInputsConsistent, HasBytes, HasBytesAt, HasReceivedAt, HaveReceived, InputBytes}
use Rattle.ptrun.specs.Files.{IsConsistentAt, IsNewOrUnopened, IsTooLong, ReceivedInputs, at}
use Rattle.ptrun.specs.MessageWrites.{HasSaid}
use Rattle.ptrun.specs.Messages.{memory_message}
use Rattle.ptrun.specs.Runs.{HasWrittenNothing, Outcome, RunEnd}
use Rattle.ptrun.specs.SpecOfArgs.{spec_of_args, spec_unless_memory, tool_name}
use Rattle.ptfiles.proofs.Inputs.{opened_are_new, readers_have_bytes}
use Rattle.ptfiles.specs.Files.{FilesState, HaveContents, Output, new_readers, source_of}
use Rattle.ptfiles.specs.Files.{with_opened}
use Rattle.ptfiles.specs.Outputs.{closed_state}
use Rattle.ptfiles.specs.Private.Shell.{HaveOpened}
use Rattle.ptfiles.specs.Shell.{After, Before, HasRun, IsDirected, IsExactOverNames, MayFail}
use Rattle.ptfiles.specs.Shell.{RunOverFilesPost, after, before, command_to_run, empty_store, has_standard_output}
use Rattle.ptfiles.specs.Shell.{input_names, output_names}
use Rattle.ptrunc.proofs.Below.{below_or_not}
use Rattle.ptrunc.proofs.RoomLemmas.{bytes_added, full_if_failed, holds_of, holds_or_begins}
use Rattle.ptrunc.proofs.RoomLemmas.{prefix_of_room, same_room}
use Rattle.ptrunc.proofs.Unread.{nothing_is_read, status_is_low}
use Rattle.ptrunc.specs.Inputs.{files_from, inputs_for}
use Rattle.ptrunc.specs.Calls.Answers.{StatusPost}
use Rattle.ptrunc.specs.Private.Answers.{ExitPost}
use Rattle.ptfiles.specs.Calls.Bytes.{bytes_state}
use Rattle.ptrunc.specs.Private.Files.{IsNewFile, unopened_files}
use Rattle.ptrunc.specs.Private.Rooms.{AppendPost, IsNewFilling, bytes_of_file, filling_bytes, filling_state}
use Rattle.ptrunc.specs.Private.Rooms.{has_failed, kept_state, part_of}
use Rattle.ptrunc.specs.Results.{IsBeforeRun, IsExactInMemory, IsFull, IsRunInMemory}
use Rattle.ptrunc.specs.Results.{IsStoppedRun}
use Rattle.ptrunc.specs.declared.answer.Answer.{Answer}
use Rattle.ptrunc.specs.declared.answer.Part.{Part}
use Rattle.ptrunc.specs.declared.memory.Filling.{Filling}
use Rattle.ptrunc.specs.declared.memory.Kept.{Kept}

-- ---- received bytes

consistent_at : (old new : Reader) (g : Option Received) (v : Option (List ℕ)) → IsNewOrUnopened old
    → HasReceivedAt old new g → HasBytesAt old v → IsConsistentAt g v
consistent_at old new None None is_new received bytes = tt
consistent_at old new None (Some b) is_new received bytes = absurd (false≢true (sym bytes.0 ∙ received.0))
consistent_at old new (Some g) None is_new received bytes = absurd (false≢true (sym received.0 ∙ bytes))
consistent_at old new (Some g) (Some b) is_new received bytes =
    by_left new.left (sym bytes.1 ∙ received.1.moved)
    (received.1.end (λ eof. absurd (false≢true (sym (is_new received.0).eof ∙ eof))))
  where
    by_left : (left : Option (List ℕ)) → Some b ≡ prepend_known g.bytes left → (new.eof ≡ true → IsAtEnd left)
        → IsConsistent g b
    by_left None is end = cc
    by_left (Some rest) is end = record { rest = rest; is = cc; whole = λ eof. end (sym received.1.eof ∙ eof) }

consistent : (old new : List Reader) (received : ReceivedInputs) (w : InputBytes) → All IsNewOrUnopened old
    → HaveReceived old new received → HasBytes old w → AreInputsConsistent received w
consistent old new received w fresh came bytes position =
    consistent_at (reader_at old position) (reader_at new position) (at received position) (at w position)
    (fresh_at position) (came position) (bytes position)
  where
    fresh_at : (p : ℕ) → IsNewOrUnopened (reader_at old p)
    fresh_at p = ⊎_elim (λ within. fresh p no_reader within)
        (λ past. subst IsNewOrUnopened (sym (get_or_past old p no_reader past)) (λ opened. absurd (true≢false opened)))
        (below_or_not p (length old))

not_too_long : (r : Reader) (g : Option Received) (v : Option (List ℕ)) → IsConsistentAt g v → HasBytesAt r v
    → IsTooLong g → ⊥
not_too_long r None v consistent bytes long = long
not_too_long r (Some g) None consistent bytes long = consistent
not_too_long r (Some g) (Some b) consistent bytes long =
    absurd (omega (arith, bytes.2, long, ap length consistent.is, length-append g.bytes consistent.rest))

no_read_fails : MayFail bytes_state bytes_state → ⊥
no_read_fails (inl x) = false≢true x.1
no_read_fails (inr x) = false≢true x.1

-- ---- contents

contents_are : (files : InputBytes) (first : ℕ) (names : List (List ℕ))
    → HaveContents (λ count name. Some (at files count)) first names (files_from files first (length names))
contents_are files first [] = refl
contents_are files first (name ∷ names) = (refl, contents_are files (suc first) names)

-- ---- where the output is

-- All bytes of the output are those that were added to the sink of the run.
record Directed (output : List ℕ) (out_failed file_failed : Bool) (sink sink_after : SinkState) : Type 0 where
  added : (bytes : List ℕ) → sink_after.accepted ≡ append_known sink.accepted bytes → output ≡ bytes
  unfailed : out_failed ≡ false → file_failed ≡ false → sink_after.failed ≡ false
  failed : sink_after.failed ≡ false → (out_failed ≡ false) × (file_failed ≡ false)

tail_of : Option (List ℕ) → List ℕ
tail_of None = []
tail_of (Some []) = []
tail_of (Some (x ∷ xs)) = xs

bytes_of : Option (List ℕ) → List ℕ
bytes_of None = []
bytes_of (Some l) = l

added_to_none : {old new bytes : List ℕ} → old ≡ [] → Some new ≡ append_known (Some old) bytes → new ≡ bytes
unfolding bytes_of
added_to_none {bytes = bytes} none added = ap bytes_of added ∙ ap (λ (l : List ℕ). l ++ bytes) none

nothing_added : (bytes : List ℕ) → Some (0 ∷ []) ≡ append_known (Some (0 ∷ [])) bytes → [] ≡ bytes
unfolding tail_of
nothing_added bytes is = ap tail_of is

none_is_some : {X : Type 0} {x : X} → Some x ≡ None → ⊥
none_is_some is = cc

some_injective : {X : Type 0} {x y : X} → Some x ≡ Some y → x ≡ y
some_injective is = cc

created_file : {A : Type 0} (results : List (Option (Kept A))) → All IsNewFile results → (old : SinkState)
    → map (option_map kept_state) results ≡ Some old ∷ []
    → (k : Kept A) × (k.bytes.items ≡ []) × (kept_state k ≡ old)
created_file [] new old is = absurd (nil_is_cons is)
  where
    nil_is_cons : [] ≡ Some old ∷ [] → ⊥
    nil_is_cons is = cc
created_file (None ∷ results) new old is = absurd (none_is_some (sym (new 0 None (omega arith))))
created_file (Some k ∷ results) new old is = (k, some_injective (new 0 None (omega arith)), some_injective (head_is is))
  where
    head_is : {X : Type 0} {x y : X} {xs ys : List X} → x ∷ xs ≡ y ∷ ys → x ≡ y
    head_is is = cc

all_created : {A : Type 0} (results : List (Option (Kept A))) → All IsNewFile results
    → map (option_map kept_state) results ≡ None ∷ [] → ⊥
all_created [] new is = nil_is_cons is
  where
    nil_is_cons : ◌≡◌ {A = List (Option SinkState)} [] (None ∷ []) → ⊥
    nil_is_cons is = cc
all_created (None ∷ results) new is = none_is_some (sym (new 0 None (omega arith)))
all_created (Some k ∷ results) new is = some_is_none is
  where
    some_is_none : Some (kept_state k) ∷ map (option_map kept_state) results ≡ None ∷ [] → ⊥
    some_is_none is = cc

module _ {A : Type 0} (to_out out : Filling) (out_new : IsNewFilling to_out) where
  to_standard : (file : Option (Kept A)) → option_map kept_state file ≡ None
      → Directed (filling_bytes out ++ bytes_of_file file) out.rest.failed (has_failed file) (filling_state to_out)
      (filling_state out)
  to_standard None none = record {
    added = λ bytes is. append-nil (filling_bytes out) ∙ bytes_added to_out out bytes is out_new;
    unfailed = λ fine file. fine;
    failed = λ fine. (fine, refl);
  }
  to_standard (Some f) none = absurd (none_is_some none)

  to_nothing : (file : Option (Kept A)) → option_map kept_state file ≡ None → out ≡ to_out
      → Directed (filling_bytes out ++ bytes_of_file file) out.rest.failed (has_failed file) (closed_state false)
      (closed_state false)
  to_nothing None none same = record {
    added = λ bytes is. append-nil (filling_bytes out) ∙ ap filling_bytes same ∙ out_new.empty ∙ nothing_added bytes is;
    unfailed = λ fine file. refl;
    failed = λ fine. (ap (λ (s : Filling). s.rest.failed) same ∙ out_new.unfailed, refl);
  }
  to_nothing (Some f) none same = absurd (none_is_some none)

  to_file : (k : Kept A) → k.bytes.items ≡ [] → (file : Option (Kept A)) (sink_after : SinkState)
      → option_map kept_state file ≡ Some sink_after → out ≡ to_out
      → Directed (filling_bytes out ++ bytes_of_file file) out.rest.failed (has_failed file) (kept_state k) sink_after
  to_file k new None sink_after is same = absurd (none_is_some (sym is))
  to_file k new (Some f) sink_after is same = let is_state : kept_state f ≡ sink_after = some_injective is in rw (← is_state)
      (record {
        added = λ bytes added.
            ap (λ (l : List ℕ). l ++ f.bytes.items) (ap filling_bytes same ∙ out_new.empty)
            ∙ added_to_none new added;
        unfailed = λ fine file. file;
        failed = λ fine. (ap (λ (s : Filling). s.rest.failed) same ∙ out_new.unfailed, fine);
      })

-- ---- how the run ended

-- The output and the messages of a run, with all that did not fit, and whether memory ran out.
pub record Ran (words : List (List ℕ)) (w : InputBytes) (output message : List ℕ) (status : ℕ)
    (out_of_memory denied out_failed file_failed messages_failed : Bool) : Type 0 where
  pub is_prefix : IsPrefix output ((spec_of_args words).out w)
  pub exact : out_of_memory ≡ false → denied ≡ false → out_failed ≡ false → file_failed ≡ false
      → (output ≡ (spec_of_args words).out w) × (status ≡ (spec_of_args words).status w)
      × (messages_failed ≡ false → message ≡ messages (spec_of_args words) w)
  pub text : List ℕ
  pub said : IsPrefix message text × (messages_failed ≡ false → message ≡ text)
  pub cause : IsBeforeRun words text ⊎ (IsStoppedRun (spec_of_args words) w text
      ⊎ ((text ≡ messages (spec_of_args words) w) × (out_of_memory ≡ false) × (denied ≡ false) × (out_failed ≡ false)
      × (file_failed ≡ false)))

said_of : (to_messages messages' : Filling) (text : List ℕ) → IsNewFilling to_messages
    → HasSaid (filling_state to_messages) (filling_state messages') text
    → IsPrefix (filling_bytes messages') text × (messages'.rest.failed ≡ false → filling_bytes messages' ≡ text)
said_of to_messages messages' text new said =
    let added = bytes_added to_messages messages' said.front said.accepted new in (
      record { rest = said.rest; is = said.split ∙ ap (λ (l : List ℕ). l ++ said.rest) (sym added) },
      λ fine. added ∙ sym (append-nil said.front) ∙ ap (λ (l : List ℕ). said.front ++ l) (sym (said.whole fine))
          ∙ sym said.split,
    )

module _ {A : Type 0} (words : List (List ℕ)) (input : List ℕ) (files : InputBytes) (short : length input < 2 ^ 63)
    (to_out to_messages out messages' : Filling) (out_new : IsNewFilling to_out)
    (messages_new : IsNewFilling to_messages) (file : Option (Kept A)) (results : List (Option (Kept A)))
    (results_new : All IsNewFile results) (place : FilesState)
    (results_are : place.outputs ≡ map (option_map kept_state) results) (store : Slots) (o : Outcome)
    (o_out : o.out ≡ filling_state out) (o_messages : o.messages ≡ filling_state messages') where
  abbrev b : Before
  b = before (unopened_files files) (source_of input) (filling_state to_out) (filling_state to_messages) empty_store

  abbrev a : Bool → After
  a out_of_memory = after place store (option_map kept_state file) out_of_memory o

  abbrev w : Bool → InputBytes
  w out_of_memory = Some input ∷ files_from files 0 (length (input_names (command_to_run words out_of_memory)))

  module _ (out_of_memory : Bool)
      (h : HasRun words b (a out_of_memory) (out ≡ to_out) (MayFail bytes_state bytes_state)) where
    abbrev names : List (List ℕ)
    names = input_names (command_to_run words out_of_memory)

    abbrev old : List Reader
    old = new_readers (source_of input) h.inputs

    old_bytes : HasBytes old (w out_of_memory)
    old_bytes = readers_have_bytes (unopened_files files).content 0 names h.inputs (source_of input) input
        (files_from files 0 (length names)) refl short h.contents (contents_are files 0 names)

    opened : HaveOpened (unopened_files files) (with_opened (unopened_files files) names h.inputs) names
        (source_of input) old
    opened = record {
      inputs = h.inputs;
      opened = refl;
      contents = h.contents;
      are_new = h.are_new;
      readers_are = refl;
    }

    are_consistent : AreInputsConsistent h.ran.run.run.received (w out_of_memory)
    are_consistent = consistent old h.new h.ran.run.run.received (w out_of_memory)
        (opened_are_new (unopened_files files) (with_opened (unopened_files files) names h.inputs) names
        (source_of input) old (record { not_eof = refl; unfailed = refl }) opened).1
        h.ran.run.run.came old_bytes

    message_said : IsPrefix (filling_bytes messages') h.ran.run.run.message
        × (messages'.rest.failed ≡ false → filling_bytes messages' ≡ h.ran.run.run.message)
    message_said = said_of to_messages messages' h.ran.run.run.message messages_new
        (subst (λ s. HasSaid (filling_state to_messages) s h.ran.run.run.message) o_messages h.ran.run.run.has_said)

    by_direction : (standard : Bool) → has_standard_output (command_to_run words out_of_memory) ≡ standard
        → (created : List (List ℕ)) → output_names (command_to_run words out_of_memory) old ≡ created
        → Directed (filling_bytes out ++ bytes_of_file file) out.rest.failed (has_failed file) h.ran.sink h.ran.sink_after
    by_direction true standard created are =
        let d = rw standard at h.ran.directed in
        rw (d.1, d.2 ∙ o_out) (to_standard to_out out out_new file d.3)
    by_direction false standard [] are =
        let d = rw (standard, are) at h.ran.directed in
        let unread = h.ran.reads_nothing (nothing_is_read words out_of_memory (source_of input) h.inputs 0
        (unopened_files files).content h.contents standard are) in
        rw (unread.1.0, d.1) (to_nothing to_out out out_new file d.2 d.3)
    by_direction false standard (name ∷ more) are =
        let d = rw (standard, are) at h.ran.directed in
        let made = created_file results results_new h.ran.sink
        (sym results_are ∙ ap (λ (s : FilesState). s.outputs) h.ran.created ∙ d.0) in
        rw (← made.2) (to_file to_out out out_new made.0 made.1 file h.ran.sink_after d.1 d.2)

    directed : Directed (filling_bytes out ++ bytes_of_file file) out.rest.failed (has_failed file) h.ran.sink
        h.ran.sink_after
    directed = by_direction (has_standard_output (command_to_run words out_of_memory)) refl
        (output_names (command_to_run words out_of_memory) old) refl

  module _ (h : HasRun words b (a false) (out ≡ to_out) (MayFail bytes_state bytes_state))
      (exact : IsExactOverNames words b (a false) h) where
    abbrev m : CommandSpec
    m = spec_of_args words

    d : Directed (filling_bytes out ++ bytes_of_file file) out.rest.failed (has_failed file) h.ran.sink h.ran.sink_after
    d = directed false h

    cause_of : (n : ℕ) (fault : Option FlowFault)
        → RunEnd m h.ran.run.run.received (new_readers (source_of input) h.inputs) h.new h.ran.run.run.written
        h.ran.run.run.message (record o { out = h.ran.sink_after }) n fault
        → IsStoppedRun m (w false) h.ran.run.run.message
        ⊎ ((h.ran.run.run.message ≡ messages m (w false)) × (false ≡ false) × (o.denied ≡ false)
        × (out.rest.failed ≡ false) × (has_failed file ≡ false))
    cause_of n None ends =
        let fine = d.failed ends.1 in
        inr ((ends.4 (w false) (are_consistent false h)).1, refl, ends.2, fine.0, fine.1)
    cause_of n (Some Memory) ends = inl (record {
      operands = n;
      fault = Memory;
      of_memory = tt;
      text_is = ends.3 (w false) (are_consistent false h);
    })
    cause_of n (Some Write) ends = inl (record {
      operands = n;
      fault = Write;
      of_memory = tt;
      text_is = ends.3 (w false) (are_consistent false h);
    })
    cause_of n (Some (Read p)) ends = absurd (⊎_elim (λ failed. no_read_fails (h.failures p failed))
        (λ long. not_too_long (reader_at (new_readers (source_of input) h.inputs) p) (at h.ran.run.run.received p)
        (at (w false) p) (are_consistent false h p) (old_bytes false h p) long) ends.2.2)

    ran_over : Ran words (w false) (filling_bytes out ++ bytes_of_file file) (filling_bytes messages') o.status false
        o.denied out.rest.failed (has_failed file) messages'.rest.failed
    ran_over = record {
      is_prefix = rw (d.added h.ran.run.run.written h.ran.run.run.output)
          (h.ran.run.run.is_prefix (w false) (are_consistent false h));
      exact = λ parsed fits out_fine file_fine. let e = exact input
          (files_from files 0 (length (input_names (command_to_run words false)))) refl short
          (contents_are files 0 (input_names (command_to_run words false)))
          (λ position failed. no_read_fails (h.failures position failed)) (d.unfailed out_fine file_fine) fits refl in (
            d.added (m.out (w false)) e.out,
            e.status_is,
            λ fine. bytes_added to_messages messages' (messages m (w false))
                (subst (λ s. s.accepted ≡ append_known (filling_state to_messages).accepted (messages m (w false))) o_messages
                (e.messages (ap (λ s. s.failed) o_messages ∙ fine))) messages_new,
          );
      text = h.ran.run.run.message;
      said = message_said false h;
      cause = inr (cause_of h.ran.run.run.operands_done h.ran.run.run.fault h.ran.run.run.ends);
    }

  -- Memory ran out while the words were parsed: nothing was read or written.
  module _ (h : HasRun words b (a true) (out ≡ to_out) (MayFail bytes_state bytes_state)) where
    unparsed : Ran words (w false) (filling_bytes out ++ bytes_of_file file) (filling_bytes messages') o.status true
        o.denied out.rest.failed (has_failed file) messages'.rest.failed
    unparsed = record {
      is_prefix = record { rest = (spec_of_args words).out (w false); is = rw output_is refl };
      exact = λ parsed. absurd (true≢false parsed);
      text = h.ran.run.run.message;
      said = message_said true h;
      cause = inl (inr (text_of h.ran.run.run.operands_done h.ran.run.run.fault h.ran.run.run.ends));
    }
      where
        unread : (h.new ≡ new_readers (source_of input) h.inputs)
            × HasWrittenNothing h.ran.sink (record o { out = h.ran.sink_after })
        unread = h.ran.reads_nothing refl

        output_is : filling_bytes out ++ bytes_of_file file ≡ []
        output_is = (directed true h).added [] (ap (λ s. s.accepted) (unread.1.0 ∙ h.ran.directed.1)
            ∙ ap (λ (s : SinkState). append_known s.accepted []) (sym h.ran.directed.1))

        text_of : (n : ℕ) (fault : Option FlowFault)
            → RunEnd (spec_unless_memory words true) h.ran.run.run.received (new_readers (source_of input) h.inputs) h.new
            h.ran.run.run.written h.ran.run.run.message (record o { out = h.ran.sink_after }) n fault
            → h.ran.run.run.message ≡ memory_message (tool_name words)
        text_of n None ends = (ends.4 (w true) (are_consistent true h)).1
        text_of n (Some Memory) ends = absurd (true≢false (sym ends.2.0 ∙ unread.1.2))
        text_of n (Some Write) ends = absurd (true≢false (sym ends.2
            ∙ ap (λ (s : SinkState). s.failed) (unread.1.0 ∙ h.ran.directed.1)))
        text_of n (Some (Read p)) ends = absurd cc

  by_memory : (out_of_memory : Bool)
      → RunOverFilesPost words b (a out_of_memory) (out ≡ to_out) (MayFail bytes_state bytes_state)
      → Ran words (w false) (filling_bytes out ++ bytes_of_file file) (filling_bytes messages') o.status out_of_memory
      o.denied out.rest.failed (has_failed file) messages'.rest.failed
  by_memory false (inl run) = ran_over run.0 run.1
  by_memory true (inl run) = unparsed run.0
  by_memory out_of_memory (inr (inl unopened)) =
      absurd (all_created results results_new
      (sym results_are ∙ ap (λ (s : FilesState). s.outputs) unopened.not_created.files))
  by_memory out_of_memory (inr (inr memory)) = record {
    is_prefix = record {
      rest = (spec_of_args words).out (w false);
      is = rw (ap (λ (l : List ℕ). l ++ bytes_of_file file) (ap filling_bytes memory.said.unused ∙ out_new.empty)
          ∙ no_bytes file memory.said.file) refl;
    };
    exact = λ parsed. absurd (true≢false (sym memory.out_of_memory ∙ parsed));
    text = memory_message (codes "ptext");
    said = said_of to_messages messages' (memory_message (codes "ptext")) messages_new
        (subst (λ s. HasSaid (filling_state to_messages) s (memory_message (codes "ptext"))) o_messages
        memory.said.has_said);
    cause = inl (inl refl);
  }
    where
      no_bytes : (f : Option (Kept A)) → option_map kept_state f ≡ None → bytes_of_file f ≡ []
      no_bytes None none = refl
      no_bytes (Some f) none = absurd (none_is_some none)

-- ---- the answer

prefix_of_prefix : {a b c : List ℕ} → IsPrefix a b → IsPrefix b c → IsPrefix a c
prefix_of_prefix {a} p q = record {
  rest = p.rest ++ q.rest;
  is = q.is ∙ ap (λ (l : List ℕ). l ++ q.rest) p.is ∙ append_assoc a p.rest q.rest;
}

module _ {A : Type 0} (words : List (List ℕ)) (w : InputBytes) (out final messages' : Filling)
    (file : Option (Kept A)) (status : ℕ) (out_of_memory denied failed : Bool)
    (ran : Ran words w (filling_bytes out ++ bytes_of_file file) (filling_bytes messages') status out_of_memory denied
    out.rest.failed (has_failed file) messages'.rest.failed)
    (append : AppendPost out final file failed) (a : Answer) (out_is : a.out ≡ part_of final)
    (messages_are : a.messages ≡ part_of messages') where
  begins : IsPrefix (take a.out.written final.room.bytes.now) ((spec_of_args words).out w)
  begins = rw out_is (prefix_of_room final ((spec_of_args words).out w) (prefix_of_prefix append.is_prefix ran.is_prefix))

  are_within : (a.out.written ≤ length final.room.bytes.now) × (a.messages.written ≤ length messages'.room.bytes.now)
  are_within = rw (out_is, messages_are) (final.room.within, messages'.room.within)

  full : ExitPost status out_of_memory denied failed messages'.rest.failed None → out_of_memory ≡ false
      → denied ≡ false → has_failed file ≡ false
      → IsFull final.room.bytes.now a.out ⊎ IsFull messages'.room.bytes.now a.messages
  full (inl ran_out) parsed fits fine = absurd (true≢false (sym ran_out ∙ parsed))
  full (inr (inl is)) parsed fits fine = absurd (true≢false (sym is ∙ fits))
  full (inr (inr (inl is))) parsed fits fine = ⊎_elim (λ file_failed. absurd (true≢false (sym file_failed ∙ fine)))
      (λ rest_failed. inl (rw out_is (full_if_failed final rest_failed))) (append.cause is)
  full (inr (inr (inr is))) parsed fits fine = inr (rw messages_are (full_if_failed messages' is))

  pub answer_is : (exit : Option ℕ) → ExitPost status out_of_memory denied failed messages'.rest.failed exit
      → StatusPost exit (part_of final) (part_of messages') a.status
      → IsRunInMemory words w final.room.bytes.now messages'.room.bytes.now a
  answer_is None why told = record {
    is_exact = λ other. absurd (other told);
    out_of_memory = λ four. record {
      text = ran.text;
      said = rw messages_are (holds_or_begins messages' ran.text ran.said.0 ran.said.1);
      cause = ⊎_elim (λ before_run. inl before_run) (λ rest. inr (⊎_elim (λ stopped. inl stopped)
          (λ done. inr (record { text_is = done.0; full = full why done.1 done.2 done.4 })) rest)) ran.cause;
    };
    is_prefix = begins;
    within = are_within;
  }
  answer_is (Some s) why told = record {
    is_exact = λ other. exact;
    out_of_memory = λ four. absurd (by_lacking (part_of final).lacking refl (part_of messages').lacking refl four);
    is_prefix = begins;
    within = are_within;
  }
    where
      whole : (filling_bytes final ≡ filling_bytes out ++ bytes_of_file file) × (out.rest.failed ≡ false)
          × (has_failed file ≡ false)
      whole = append.whole why.3

      ended : (filling_bytes out ++ bytes_of_file file ≡ (spec_of_args words).out w) × (status ≡ (spec_of_args words).status w)
          × (messages'.rest.failed ≡ false → filling_bytes messages' ≡ messages (spec_of_args words) w)
      ended = ran.exact why.1 why.2 whole.1 whole.2

      exact : IsExactInMemory (spec_of_args words) w final.room.bytes.now messages'.room.bytes.now a
      exact = record {
        out_holds = rw out_is (holds_of final ((spec_of_args words).out w) (whole.0 ∙ ended.0));
        messages_hold = rw messages_are (holds_of messages' (messages (spec_of_args words) w) (ended.2 why.4));
        status_is = λ fits messages_fit. told.0 (ap (λ p. p.lacking) (sym out_is) ∙ fits)
            (ap (λ p. p.lacking) (sym messages_are) ∙ messages_fit) ∙ why.0 ∙ ended.1;
        lacks_room = λ lacks. told.1 (rw (out_is, messages_are) at lacks);
      }

      by_lacking : (n : ℕ) → (part_of final).lacking ≡ n → (k : ℕ) → (part_of messages').lacking ≡ k → a.status ≡ 4 → ⊥
      by_lacking zero none zero messages_none four =
          status_is_low words w (sym (told.0 none messages_none ∙ why.0 ∙ ended.1) ∙ four)
      by_lacking (suc n) some k messages_some four =
          absurd (omega (arith, told.1 (inl (omega (arith, some))), four))
      by_lacking zero none (suc k) messages_some four =
          absurd (omega (arith, told.1 (inr (omega (arith, messages_some))), four))

-- The run, and what was appended to its output, as an answer.
pub answer_of_run : {A : Type 0} (words : List (List ℕ)) (input : List ℕ) (files : InputBytes) → length input < 2 ^ 63
    → (to_out to_messages out messages' final : Filling) → IsNewFilling to_out → IsNewFilling to_messages
    → (file : Option (Kept A)) (results : List (Option (Kept A))) → All IsNewFile results
    → {old place : FilesState} {standard : SourceState} {lent left : Slots} {o : Outcome} {out_of_memory : Bool}
    → old ≡ unopened_files files → standard ≡ source_of input → lent ≡ empty_store
    → place.outputs ≡ map (option_map kept_state) results
    → o.out ≡ filling_state out → o.messages ≡ filling_state messages'
    → RunOverFilesPost words (before old standard (filling_state to_out) (filling_state to_messages) lent)
    (after place left (option_map kept_state file) out_of_memory o) (out ≡ to_out) (MayFail bytes_state bytes_state)
    → {failed : Bool} → AppendPost out final file failed
    → (exit : Option ℕ) → ExitPost o.status out_of_memory o.denied failed messages'.rest.failed exit
    → (a : Answer) (p q : Part) → p ≡ part_of final → q ≡ part_of messages' → a.out ≡ p → a.messages ≡ q
    → StatusPost exit p q a.status
    → IsRunInMemory words (inputs_for words input files) final.room.bytes.now messages'.room.bytes.now a
answer_of_run words input files short to_out to_messages out messages' final out_new messages_new file results results_new
    {old} {place} {standard} {lent} {left} {o} {out_of_memory} unopened is empty results_are o_out o_messages post append
    exit why a p q p_is q_is out_is messages_are told =
    let run = subst (λ b. RunOverFilesPost words b (after place left (option_map kept_state file) out_of_memory o)
    (out ≡ to_out) (MayFail bytes_state bytes_state))
    (λ i. before (unopened i) (is i) (filling_state to_out) (filling_state to_messages) (empty i)) post in
    answer_is words (inputs_for words input files) out final messages' file o.status out_of_memory o.denied _
    (by_memory words input files short to_out to_messages out messages' out_new messages_new file results
    results_new place results_are left o o_out o_messages out_of_memory run)
    append a (out_is ∙ p_is) (messages_are ∙ q_is) exit why (rw (p_is, q_is) at told)

-- Standard output was used, so no file was created.
record IsUsed (b : Before) (a : After) : Type 0 where
  no_file : a.file ≡ None
  written : List ℕ
  accepted : a.outcome.out.accepted ≡ append_known b.out.accepted written

is_used : {words : List (List ℕ)} {b : Before} {a : After} {Unused Failing : Type 0}
    → RunOverFilesPost words b a Unused Failing → IsUsed b a ⊎ Unused
is_used {words} {b} {a} {Unused} (inl run) = by_direction (has_standard_output (command_to_run words a.out_of_memory)) _ _
    run.0.ran.outputs run.0.ran.sink run.0.ran.sink_after run.0.ran.directed run.0.ran.run.run.written
    run.0.ran.run.run.output
  where
    by_direction : (standard : Bool) (created : List (List ℕ)) (files : FilesState) (outputs : List Output)
        (old new : SinkState) → IsDirected standard created (record b { files = files }) a outputs old new Unused
        → (written : List ℕ) → new.accepted ≡ append_known old.accepted written → IsUsed b a ⊎ Unused
    by_direction true created files outputs old new d written accepted = inl (record {
      no_file = d.3;
      written = written;
      accepted = ap (λ s. s.accepted) (sym d.2) ∙ accepted ∙ ap (λ s. append_known s.accepted written) d.1;
    })
    by_direction false [] files outputs old new d written accepted = inr d.3
    by_direction false (name ∷ more) files outputs old new d written accepted = inr d.2
is_used (inr (inl unopened)) = inr unopened.not_created.said.unused
is_used (inr (inr memory)) = inr memory.said.unused

none_created : {A : Type 0} (f : Option (Kept A)) → option_map kept_state f ≡ None → f ≡ None
none_created None none = refl
none_created (Some f) none = absurd (none_is_some none)

-- A file was created only if standard output is not used.
pub file_leaves_out : {A : Type 0} {words : List (List ℕ)} {old place : FilesState} {standard : SourceState}
    {out_state messages_state : SinkState} {lent left : Slots} {o : Outcome} {out_of_memory : Bool} {Failing : Type 0}
    {to_out out : Filling} {file : Option (Kept A)}
    → RunOverFilesPost words (before old standard out_state messages_state lent)
    (after place left (option_map kept_state file) out_of_memory o) (out ≡ to_out) Failing
    → IsNewFilling to_out → (file ≡ None) ⊎ (out.rest.failed ≡ false)
file_leaves_out {A} {file = file} post new = ⊎_elim (λ used. inl (none_created file used.no_file))
    (λ unused. inr (ap (λ (s : Filling). s.rest.failed) unused ∙ new.unfailed)) (is_used post)

-- The run returned the sink that fills the room of the output.
pub same_out : {words : List (List ℕ)} {old place : FilesState} {standard : SourceState}
    {messages_state : SinkState} {lent left : Slots} {o : Outcome} {out_of_memory : Bool} {file : Output}
    {Failing : Type 0} (to_out out : Filling)
    → RunOverFilesPost words (before old standard (filling_state to_out) messages_state lent)
    (after place left file out_of_memory o) (out ≡ to_out) Failing
    → o.out ≡ filling_state out → out.room.bytes.ghost_name ≡ to_out.room.bytes.ghost_name
same_out to_out out post is = ⊎_elim
    (λ used. same_room to_out out used.written (ap (λ s. s.accepted) (sym is) ∙ used.accepted))
    (λ unused. ap (λ (s : Filling). s.room.bytes.ghost_name) unused) (is_used post)

-- And the one that fills the room of the messages.
pub same_messages : {words : List (List ℕ)} {old place : FilesState} {standard : SourceState}
    {out_state : SinkState} {lent left : Slots} {o : Outcome} {out_of_memory : Bool} {file : Output}
    {Unused Failing : Type 0} (to_messages messages' : Filling)
    → RunOverFilesPost words (before old standard out_state (filling_state to_messages) lent)
    (after place left file out_of_memory o) Unused Failing
    → o.messages ≡ filling_state messages'
    → messages'.room.bytes.ghost_name ≡ to_messages.room.bytes.ghost_name
same_messages {o = o} to_messages messages' post is = ⊎_elim (λ run. if_said run.0.ran.run.run.has_said)
    (⊎_elim (λ unopened. if_said unopened.not_created.said.has_said) (λ memory. if_said memory.said.has_said)) post
  where
    if_said : {text : List ℕ} → HasSaid (filling_state to_messages) o.messages text
        → messages'.room.bytes.ghost_name ≡ to_messages.room.bytes.ghost_name
    if_said said = same_room to_messages messages' said.front (ap (λ s. s.accepted) (sym is) ∙ said.accepted)
