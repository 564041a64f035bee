-- From the run over the parsed command to the contract of a run over files. The words and the parsed command agree
-- on the command, so the run is one that the words mean, over the new inputs that they name, and its sink is where
-- they say. If the words are no command, nothing is read.
use Rattle.std.proofs.Common.{◌≡◌, ℕ, Bool, true, false, List, [], ◌∷◌, Option, Some, None, Ok, inl, inr}
use Rattle.std.proofs.Common.{All, arith, sym, ◌∙◌, ap, refl, subst, if◌then◌else◌, is_none, length, option_map}
use Rattle.std.proofs.lemmas.Bool.{false≢true, true≢false}
use Rattle.std.proofs.lemmas.List.{append-nil}
use Rattle.std.specs.Borrow.{Bor}
use Rattle.std.specs.Io.KnownBytes.{append_known}
use Rattle.std.specs.List.{list_any}
use Rattle.ptopts.specs.Commands.{Command, command_of_args}
use Rattle.ptopts.specs.Faults.{Fault}
use Rattle.ptopts.specs.View.{fault_view}
use Rattle.ptopts.specs.declared.fault.UseFault.{UseFault}
use Rattle.ptlangs.specs.Results.{IsFault}
use Rattle.ptlines.specs.Readers.{Reader}
use Rattle.ptlines.specs.Sinks.{SinkState}
use Rattle.ptlines.specs.Slots.{Slots}
use Rattle.ptlines.specs.Sources.{SourceState, IsFresh}
use Rattle.ptrun.proofs.RunEnds.{exact_of_run, message_only_run}
use Rattle.ptrun.specs.Calls.Runs.{RunWithStorePost, usage_message, usage_status}
use Rattle.ptrun.specs.Files.{AreNewInputs, HasReadFailed, HaveReceived, IsNewOrUnopened, ReceivedInputs}
use Rattle.ptrun.specs.MessageWrites.{HasSaid}
use Rattle.ptrun.specs.Runs.{Outcome, IsRun, sinks}
use Rattle.ptrun.specs.SpecOfArgs.{message_only, spec_of_args, spec_of_result, spec_unless_memory}
use Rattle.ptrun.specs.SpecOfArgs.{tool_name}
use Rattle.ptfiles.specs.Files.{FilesState, Output, with_created}
use Rattle.ptfiles.specs.Private.Outputs.{AreParts, mark, target_state}
use Rattle.ptfiles.specs.Shell.{After, Before, HasRun, HasRunOver, IsDirected, IsNotCreated}
use Rattle.ptfiles.specs.Private.Shell.{HaveOpened}
use Rattle.ptfiles.specs.Files.{new_readers}
use Rattle.ptfiles.specs.Outputs.{closed_state}
use Rattle.ptfiles.specs.Shell.{RunOverFilesPost, command_to_run, empty_store, input_names}
use Rattle.ptfiles.specs.Shell.{has_standard_output, name_of_output, output_names, valid_command, before}
use Rattle.ptfiles.specs.declared.output.Target.{Target}
use Rattle.ptfiles.proofs.Inputs.{none_opened, opened_are_new, readers_have_bytes}
use Rattle.ptfiles.proofs.Outputs.{file_returned, nowhere_returned, run_behind, standard_returned}

pub nothing_created : (s : FilesState) → s ≡ with_created s [] []
nothing_created s = λ i. record {
  opened = s.opened;
  inputs = s.inputs;
  created = sym (append-nil s.created) i;
  outputs = sym (append-nil s.outputs) i;
  content = s.content;
}

pub no_output_file : (command : Option Command) (readers : List Reader) → has_standard_output command ≡ true
    → output_names command readers ≡ []
no_output_file None readers standard = refl
no_output_file (Some command) readers standard = by_output command.output (list_any (λ r. r.refused) readers) standard
  where
    by_output : (output : Option (List ℕ)) (unopened : Bool) → is_none output ≡ true
        → (if unopened then [] else name_of_output output) ≡ []
    by_output output true none = refl
    by_output None false none = refl
    by_output (Some name) false none = absurd (false≢true none)

-- ---- where a command writes, by its output in the code

pub no_name : (command : Command) (readers : List Reader) → true ≡ list_any (λ r. r.refused) readers
    → output_names (Some command) readers ≡ []
no_name command readers any = rw (← any) refl

module _ (command : Command) {output : Option (Bor (List ℕ))}
    (same : option_map (λ (w : Bor (List ℕ)). w.now) output ≡ command.output) where
  pub to_standard : output ≡ None → has_standard_output (Some command) ≡ true
  to_standard is = rw (← same, is) refl

  pub not_standard : {name : Bor (List ℕ)} → output ≡ Some name → has_standard_output (Some command) ≡ false
  not_standard is = rw (← same, is) refl

  pub one_name : {name : Bor (List ℕ)} (readers : List Reader) → output ≡ Some name
      → false ≡ list_any (λ r. r.refused) readers → output_names (Some command) readers ≡ name.now ∷ []
  one_name readers is none = rw (← none, ← same, is) refl

-- ---- a run over the inputs

module _ (command : Command) (words : List (List ℕ)) (meant : command_of_args words ≡ Ok command) where
  -- The words mean the command, and memory did not run out.
  pub to_run : (out_of_memory : Bool) → out_of_memory ≡ false → Some command ≡ command_to_run words out_of_memory
  to_run true parsed = absurd (true≢false parsed)
  to_run false parsed = ap valid_command (sym meant)

  spec_is : (out_of_memory : Bool) → out_of_memory ≡ false
      → spec_of_args words ≡ spec_unless_memory words out_of_memory
  spec_is true parsed = absurd (true≢false parsed)
  spec_is false parsed = refl

  module _ (old new : List Reader) (b : Before) (a : After) (Unused : Type 0) (parsed : a.out_of_memory ≡ false)
      (ran : Outcome) (same : record a.outcome { out = ran.out } ≡ ran)
      (store : (a.outcome.peak ≡ a.store.peak) × (a.outcome.denied ≡ a.store.denied)) where
    -- The run was given this sink, and returned one with the state of that of `ran`.
    pub ran_over : (sink : SinkState) (outputs : List Output)
        → a.files ≡ with_created b.files (output_names (Some command) old) outputs
        → IsDirected (has_standard_output (Some command)) (output_names (Some command) old) b a outputs sink ran.out Unused
        → RunWithStorePost (spec_of_args words) old new (sinks sink b.messages) ran b.store a.store
        → HasRunOver words old new b a Unused
    ran_over sink outputs created directed run =
        let of_args = subst (λ o. RunWithStorePost (spec_of_args words) old new (sinks sink b.messages) o b.store a.store)
        (sym same) run in
        let whole = subst (λ m. RunWithStorePost m old new (sinks sink b.messages) (record a.outcome { out = ran.out })
        b.store a.store) (spec_is a.out_of_memory parsed) of_args in record {
          outputs = outputs;
          sink = sink;
          sink_after = ran.out;
          created = subst (λ c. a.files ≡ with_created b.files (output_names c old) outputs)
              (to_run a.out_of_memory parsed) created;
          directed = subst
              (λ c. IsDirected (has_standard_output c) (output_names c old) b a outputs sink ran.out Unused)
              (to_run a.out_of_memory parsed) directed;
          run = whole.run;
          is_exact = λ parsed. of_args.is_exact;
          reads_nothing = whole.reads_nothing;
          keeps_nothing = whole.keeps_nothing;
          store = store;
        }

  -- The run was given a target in the state `first`, and `target` is the one that it returned.
  module _ (old new : List Reader) (b : Before) (a : After) (Unused : Type 0)
      (parsed : a.out_of_memory ≡ false) (ran : Outcome) (same : record a.outcome { out = ran.out } ≡ ran)
      (store : (a.outcome.peak ≡ a.store.peak) × (a.outcome.denied ≡ a.store.denied)) (first : SinkState)
      (run : RunWithStorePost (spec_of_args words) old new (sinks first b.messages) ran b.store a.store)
      {W F : Type 0} (of_out : W → SinkState) (of_file : F → SinkState) (target : Target W F) (after : List ℕ)
      (returned : ran.out ≡ target_state of_out of_file target after) (unused : Option W) (out : W) (file : Option F)
      (parts : AreParts target unused out file) (out_is : a.outcome.out ≡ of_out out)
      (file_is : a.file ≡ option_map of_file file) where
    ran_marked : (kind : ℕ) (s s' : SinkState) → first ≡ mark kind [] s → ran.out ≡ mark kind after s'
        → (outputs : List Output) → a.files ≡ with_created b.files (output_names (Some command) old) outputs
        → IsDirected (has_standard_output (Some command)) (output_names (Some command) old) b a
        outputs s s' Unused → HasRunOver words old new b a Unused
    ran_marked kind s s' given left outputs created directed =
        let m = spec_of_args words in
        ran_over old new b a Unused parsed (record ran { out = s' }) (ap (λ (o : Outcome). record o { out = s' }) same)
        store s outputs created directed
        (run_behind kind [] after m old new b.messages s s' ran b.store a.store
        (subst (λ t. RunWithStorePost m old new (sinks (mark kind [] s) b.messages) (record ran { out = t }) b.store a.store)
        left (subst (λ f. RunWithStorePost m old new (sinks f b.messages) ran b.store a.store) given run)))

    -- what was written, to the target that the run returned
    output_is : (s : SinkState) → first ≡ s
        → (target_state of_out of_file target after).accepted ≡ append_known s.accepted run.run.run.written
    output_is s given = ap (λ t. t.accepted) (sym returned) ∙ run.run.run.output
        ∙ ap (λ f. append_known f.accepted run.run.run.written) given

    still : {t : Target W F} → target ≡ t
        → (ran.out ≡ target_state of_out of_file t after) × AreParts t unused out file
    still is = (
      returned ∙ ap (λ t. target_state of_out of_file t after) is,
      subst (λ t. AreParts t unused out file) is parts,
    )

    pub ran_to_standard : (given : W) → first ≡ mark 2 [] (of_out given) → of_out given ≡ b.out
        → has_standard_output (Some command) ≡ true → a.files ≡ b.files → HasRunOver words old new b a Unused
    ran_to_standard given first_is given_is standard files =
        let found = standard_returned of_out of_file target after run.run.run.written [] (of_out given)
        (output_is (mark 2 [] (of_out given)) first_is) in
        let left = still found.1 in
        ran_marked 2 (of_out given) (of_out found.0) first_is left.0 []
        (rw (no_output_file (Some command) old standard) (files ∙ nothing_created b.files))
        (rw standard (refl, given_is, sym (out_is ∙ ap of_out left.1.0), file_is ∙ ap (option_map of_file) left.1.1))

    pub ran_to_file : (given : F) (name : List ℕ) → first ≡ mark 1 [] (of_file given)
        → has_standard_output (Some command) ≡ false
        → output_names (Some command) old ≡ name ∷ []
        → a.files ≡ with_created b.files (name ∷ []) (Some (of_file given) ∷ []) → (unused ≡ Some out → Unused)
        → HasRunOver words old new b a Unused
    ran_to_file given name first_is not_standard names created is_unused =
        let found = file_returned of_out of_file target after run.run.run.written [] (of_file given)
        (output_is (mark 1 [] (of_file given)) first_is) in
        let left = still found.1 in
        ran_marked 1 (of_file given) (of_file found.0) first_is left.0 (Some (of_file given) ∷ []) (rw names created)
        (rw (not_standard, names) (refl, file_is ∙ ap (option_map of_file) left.1.1, is_unused left.1.0))

    pub ran_nowhere : first ≡ closed_state false → has_standard_output (Some command) ≡ false
        → output_names (Some command) old ≡ [] → a.files ≡ b.files → (unused ≡ Some out → Unused)
        → HasRunOver words old new b a Unused
    ran_nowhere first_is not_standard names files is_unused =
        let found = nowhere_returned of_out of_file target after run.run.run.written (output_is (closed_state false) first_is) in
        let left = still found.1 in
        ran_over old new b a Unused parsed ran same store first []
        (rw names (files ∙ nothing_created b.files))
        (rw (not_standard, names) (refl, first_is, file_is ∙ ap (option_map of_file) left.1.1, is_unused left.1.0))
        run

-- ---- runs over files

-- The files that the words name were opened.
module _ (words : List (List ℕ)) (b : Before) (a : After) {Unused Failing : Type 0} {files : FilesState}
    {old : List Reader}
    (opened : HaveOpened b.files files (input_names (command_to_run words a.out_of_memory)) b.standard old) where
  has_run : {new : List Reader} → ((received : ReceivedInputs) → HaveReceived old new received
      → (position : ℕ) → HasReadFailed old new position → Failing)
      → HasRunOver words old new (record b { files = files }) a Unused → RunOverFilesPost words b a Unused Failing
  has_run {new} failing ran = let h : HasRun words b a Unused Failing = record {
    inputs = opened.inputs;
    are_new = opened.are_new;
    contents = opened.contents;
    new = new;
    ran = rw (opened.readers_are, opened.opened) at ran;
    failures = subst (λ l. (position : ℕ) → HasReadFailed l new position → Failing) opened.readers_are
        (failing ran.run.run.received ran.run.run.came);
  } in inl (
    h,
    λ bytes contents is short have unfailed written fits parsed.
        h.ran.is_exact parsed (Some bytes ∷ contents)
        (readers_have_bytes b.files.content (length b.files.opened)
        (input_names (command_to_run words a.out_of_memory)) opened.inputs b.standard bytes contents is short
        opened.contents have)
        unfailed written fits,
  )

  not_created : IsNotCreated words old (record b { files = files }) a Unused → RunOverFilesPost words b a Unused Failing
  not_created n = inr (inl (record {
    inputs = opened.inputs;
    are_new = opened.are_new;
    contents = opened.contents;
    not_created = rw (opened.readers_are, opened.opened) at n;
  }))

-- ---- words that are no command

-- The message about their fault is the whole run, over no file.
module _ (words : List (List ℕ)) (b : Before) (a : After) (fault : UseFault)
    (meant : IsFault (fault_view fault) (command_of_args words)) (oom : a.out_of_memory ≡ is_none (fault_view fault)) where
  nothing_to_run : None ≡ command_to_run words a.out_of_memory
  nothing_to_run = rw oom (by_view (fault_view fault) meant)
    where
      by_view : (seen : Option Fault) → IsFault seen (command_of_args words)
          → None ≡ command_to_run words (is_none seen)
      by_view None meant = refl
      by_view (Some e) meant = ap valid_command (sym meant)

  only_says : spec_unless_memory words a.out_of_memory
      ≡ message_only (usage_message (tool_name words) (fault_view fault)) (usage_status (fault_view fault))
  only_says = rw oom (by_view (fault_view fault) meant)
    where
      by_view : (seen : Option Fault) → IsFault seen (command_of_args words)
          → spec_unless_memory words (is_none seen)
          ≡ message_only (usage_message (tool_name words) seen) (usage_status seen)
      by_view None meant = refl
      by_view (Some e) meant = ap (spec_of_result (tool_name words)) meant

  pub refused : {Unused Failing : Type 0} → IsFresh b.standard → b.store ≡ empty_store → a.files ≡ b.files
      → a.store ≡ b.store → a.file ≡ None → Unused
      → HasSaid b.messages a.outcome.messages (usage_message (tool_name words) (fault_view fault))
      → a.outcome.status ≡ usage_status (fault_view fault) → (a.outcome.peak ≡ 0) × (a.outcome.denied ≡ false)
      → RunOverFilesPost words b a Unused Failing
  refused {Unused} {Failing} fresh lent files store file unused said status memory =
      has_run words b a opened no_failure ran
    where
      old : List Reader
      old = new_readers b.standard []

      opened : HaveOpened b.files b.files (input_names (command_to_run words a.out_of_memory)) b.standard old
      opened = rw (← nothing_to_run) (none_opened b.files b.standard _ refl)

      fresh_readers : All IsNewOrUnopened old
      fresh_readers = (opened_are_new b.files b.files [] b.standard old fresh
          (none_opened b.files b.standard _ refl)).1

      no_failure : (received : ReceivedInputs) → HaveReceived old old received
          → (position : ℕ) → HasReadFailed old old position → Failing
      no_failure received came position failed = cc

      run : IsRun (spec_unless_memory words a.out_of_memory) old old (sinks (closed_state false) b.messages)
          (record a.outcome { out = closed_state false })
      run = rw (only_says, memory.0, memory.1) (message_only_run fresh_readers refl said status)

      ran : HasRunOver words old old b a Unused
      ran = record {
        outputs = [];
        sink = closed_state false;
        sink_after = closed_state false;
        created = rw (← nothing_to_run) (files ∙ nothing_created b.files);
        directed = rw (← nothing_to_run) (refl, refl, file, unused);
        run = record { run = run; slots = λ w agrees. rw store (omega arith) };
        is_exact = λ parsed. exact_of_run _ old old _ _ fresh_readers (rw parsed at run);
        reads_nothing = λ unread. (refl, (refl, memory.0, memory.1));
        keeps_nothing = λ unread. store;
        store = rw (store, lent) memory;
      }

-- ---- parsed commands

module _ (command : Command) {before_open files : FilesState} {standard : SourceState}
    {old readers : List Reader} (same : old ≡ readers)
    (opened : HaveOpened before_open files command.names standard readers) where
  -- The files that the command names were opened, so the inputs of the run are new.
  pub fresh_inputs : IsFresh standard → AreNewInputs (Some (length command.names)) old
  fresh_inputs fresh = rw same (opened_are_new before_open files _ standard readers fresh opened)

  module _ (words : List (List ℕ)) (meant : command_of_args words ≡ Ok command) (out messages : SinkState)
      (store : Slots) (a : After) (parsed : a.out_of_memory ≡ false) where
    opened_by_words : HaveOpened before_open files (input_names (command_to_run words a.out_of_memory)) standard old
    opened_by_words =
        subst (λ l. HaveOpened before_open files (input_names (command_to_run words a.out_of_memory)) standard l) (sym same)
        (subst (λ names. HaveOpened before_open files names standard readers)
        (ap input_names (to_run command words meant a.out_of_memory parsed)) opened)

    pub run_over_files : {new : List Reader} {Unused Failing : Type 0} → ((received : ReceivedInputs)
        → HaveReceived old new received → (position : ℕ) → HasReadFailed old new position → Failing)
        → HasRunOver words old new (before files standard out messages store) a Unused
        → RunOverFilesPost words (before before_open standard out messages store) a Unused Failing
    run_over_files failing = has_run words (before before_open standard out messages store) a opened_by_words failing

    pub output_unopened : {Unused Failing : Type 0}
        → IsNotCreated words old (before files standard out messages store) a Unused
        → RunOverFilesPost words (before before_open standard out messages store) a Unused Failing
    output_unopened = not_created words (before before_open standard out messages store) a opened_by_words
