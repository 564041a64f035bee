-- The contract of a run over files: the states before and after it, which names are opened and created, where the
-- output goes, the run, and the theorem that it is exact if all bytes are known (`IsExactOverNames`). And the cases
-- in which nothing is run: there is no memory, or the output file cannot be created.
use Rattle.std.specs.Prelude.{◌≡◌, ◌⊎◌, ℕ, Bool, true, false, List, [], ◌∷◌, Option, Some, None, Result, Ok, Err}
use Rattle.std.specs.Prelude.{All, codes, is_none, length, if◌then◌else◌}
use Rattle.std.specs.List.{list_any}
use Rattle.ptfiles.specs.Files.{AreContents, Content, FilesState, HaveContents, Input, IsNewInput, IsShort, Output}
use Rattle.ptfiles.specs.Files.{new_readers, source_of, with_created, with_opened}
use Rattle.ptfiles.specs.Outputs.{closed_state}
use Rattle.ptlines.specs.Readers.{Reader}
use Rattle.ptlines.specs.Sinks.{SinkState}
use Rattle.ptlines.specs.Slots.{Slots}
use Rattle.ptlines.specs.Sources.{SourceState}
use Rattle.ptopts.specs.Commands.{Command, command_of_args}
use Rattle.ptopts.specs.Faults.{Fault}
use Rattle.ptrun.specs.Files.{HasReadFailed}
use Rattle.ptrun.specs.MessageWrites.{HasSaid}
use Rattle.ptrun.specs.Messages.{memory_message, unopened_message}
use Rattle.ptrun.specs.Runs.{IsExact, IsExactUnlessFailed, IsRunInStore, IsStoreUnchangedIfUnread, IsUnchangedIfUnread}
use Rattle.ptrun.specs.Runs.{Outcome, sinks}
use Rattle.ptrun.specs.SpecOfArgs.{spec_of_args, spec_unless_memory}

-- The files, the standard streams and the store that a run over files is given.
pub record Before : Type 0 where
  pub files : FilesState
  pub standard : SourceState
  pub out : SinkState
  pub messages : SinkState
  pub store : Slots

-- The state after it: the files, the store, the file that was created for the output, whether memory ran out before the
-- run, and the outcome that is reported.
pub record After : Type 0 where
  pub files : FilesState
  pub store : Slots
  pub file : Output
  pub out_of_memory : Bool
  pub outcome : Outcome

-- a store that was never used
abbrev pub empty_store : Slots
empty_store = record { lines = []; peak = 0; denied = false }

abbrev pub before : FilesState → SourceState → SinkState → SinkState → Slots → Before
before files standard out messages store =
    record { files = files; standard = standard; out = out; messages = messages; store = store }

abbrev pub after : FilesState → Slots → Output → Bool → Outcome → After
after files store file out_of_memory outcome =
    record { files = files; store = store; file = file; out_of_memory = out_of_memory; outcome = outcome }

-- ---- the files that a command names

abbrev pub valid_command : Result Command Fault → Option Command
valid_command (Ok command) = Some command
valid_command (Err fault) = None

-- The command that is run; none if the words are not valid, or if memory ran out before the run.
abbrev pub command_to_run : List (List ℕ) → Bool → Option Command
command_to_run words out_of_memory = if out_of_memory then None else valid_command (command_of_args words)

-- the names of the files that are opened, in order
abbrev pub input_names : Option Command → List (List ℕ)
input_names None = []
input_names (Some command) = command.names

abbrev pub name_of_output : Option (List ℕ) → List (List ℕ)
name_of_output None = []
name_of_output (Some name) = name ∷ []

-- the name of the file that is created: the output file, if all inputs were opened
abbrev pub output_names : Option Command → List Reader → List (List ℕ)
output_names None readers = []
output_names (Some command) readers = if list_any (λ r. r.refused) readers then [] else name_of_output command.output

-- the command writes to standard output
abbrev pub has_standard_output : Option Command → Bool
has_standard_output None = false
has_standard_output (Some command) = is_none command.output

-- The sink `old` of a run and its state `new` after it are where the words say: standard output, the file that was
-- created, or a closed sink if nothing is to be written. `Unused` says that standard output was returned unchanged.
abbrev pub IsDirected : Bool → List (List ℕ) → Before → After → List Output → SinkState → SinkState → Type 0 → Type 0
IsDirected true names b a outputs old new Unused =
    (outputs ≡ []) × (old ≡ b.out) × (new ≡ a.outcome.out) × (a.file ≡ None)
IsDirected false [] b a outputs old new Unused =
    (outputs ≡ []) × (old ≡ closed_state false) × (a.file ≡ None) × Unused
IsDirected false (name ∷ names) b a outputs old new Unused =
    (outputs ≡ Some old ∷ []) × (a.file ≡ Some new) × Unused

-- ---- a run

-- The command was run over these readers, of standard input and of each file that the words name.
pub record HasRunOver (words : List (List ℕ)) (old new : List Reader) (b : Before) (a : After) (Unused : Type 0)
    : Type 0 where
  -- what the call of `create` returned, if there was one, and the sink of the output
  pub outputs : List Output
  pub sink : SinkState
  pub sink_after : SinkState
  pub created : a.files
      ≡ with_created b.files (output_names (command_to_run words a.out_of_memory) old) outputs
  pub directed : IsDirected (has_standard_output (command_to_run words a.out_of_memory))
      (output_names (command_to_run words a.out_of_memory) old) b a outputs sink sink_after Unused
  pub run : IsRunInStore (spec_unless_memory words a.out_of_memory) old new (sinks sink b.messages)
      (record a.outcome { out = sink_after }) b.store a.store
  pub is_exact : a.out_of_memory ≡ false
      → IsExactUnlessFailed (spec_of_args words) old new (sinks sink b.messages) (record a.outcome { out = sink_after })
  -- if the command is to read nothing, the inputs and the store are unchanged, and nothing was written
  pub reads_nothing : IsUnchangedIfUnread (spec_unless_memory words a.out_of_memory) old new sink
      (record a.outcome { out = sink_after })
  pub keeps_nothing : IsStoreUnchangedIfUnread (spec_unless_memory words a.out_of_memory) old b.store a.store
  pub store : (a.outcome.peak ≡ a.store.peak) × (a.outcome.denied ≡ a.store.denied)

-- A source of one of these types may say that a read of it has failed. No bytes in memory say so.
abbrev pub MayFail : {S R : Type 0} → (S → SourceState) → (R → SourceState) → Type 0
MayFail {S} {R} s r = ((x : S) × ((s x).failed ≡ true)) ⊎ ((x : R) × ((r x).failed ≡ true))

-- The files that the words name were opened, in their order, each once, and the command was run over what these calls
-- returned. No other file was opened; none if the words are not valid. `Failing` says that sources can fail (`MayFail`).
pub record HasRun (words : List (List ℕ)) (b : Before) (a : After) (Unused Failing : Type 0) : Type 0 where
  pub inputs : List Input
  pub are_new : All IsNewInput inputs
  pub contents : AreContents b.files.content (length b.files.opened)
      (input_names (command_to_run words a.out_of_memory)) inputs
  -- the readers after the run
  pub new : List Reader
  pub ran : HasRunOver words (new_readers b.standard inputs) new
      (record b { files = with_opened b.files (input_names (command_to_run words a.out_of_memory)) inputs }) a Unused
  -- a read has failed only if sources can fail
  pub failures : (position : ℕ) → HasReadFailed (new_readers b.standard inputs) new position → Failing

-- The main theorem over names: if the bytes of standard input and of the files are known, no read and no write fails,
-- and memory does not run out, then output, messages, status and memory are those that the words mean for these bytes.
abbrev pub IsExactOverNames : (words : List (List ℕ)) (b : Before) (a : After) {Unused Failing : Type 0}
    → HasRun words b a Unused Failing → Type 0
IsExactOverNames words b a h =
    (bytes : List ℕ) (contents : List Content) → b.standard ≡ source_of bytes → IsShort (Some bytes)
    → HaveContents b.files.content (length b.files.opened) (input_names (command_to_run words a.out_of_memory)) contents
    → ((position : ℕ) → HasReadFailed (new_readers b.standard h.inputs) h.new position → ⊥)
    → h.ran.sink_after.failed ≡ false → a.outcome.denied ≡ false → a.out_of_memory ≡ false
    → IsExact (spec_of_args words) (Some bytes ∷ contents) (sinks h.ran.sink b.messages)
    (record a.outcome { out = h.ran.sink_after })

-- ---- no run

-- Nothing was run: this message was said, the status is 1, no memory was used, and standard output was returned
-- unchanged.
pub record HasOnlySaid (text : List ℕ) (b : Before) (a : After) (Unused : Type 0) : Type 0 where
  pub has_said : HasSaid b.messages a.outcome.messages text
  pub status_is : a.outcome.status ≡ 1
  pub no_memory : (a.outcome.peak ≡ 0) × (a.outcome.denied ≡ false)
  pub store : a.store ≡ b.store
  pub file : a.file ≡ None
  pub unused : Unused

-- There was no memory for the list of the inputs. No file was opened.
pub record IsOutOfMemory (b : Before) (a : After) (Unused : Type 0) : Type 0 where
  pub out_of_memory : a.out_of_memory ≡ true
  pub files : a.files ≡ b.files
  pub said : HasOnlySaid (memory_message (codes "ptext")) b a Unused

-- The output file could not be created, though all inputs were opened.
pub record IsNotCreated (words : List (List ℕ)) (old : List Reader) (b : Before) (a : After) (Unused : Type 0) : Type 0
  where
    pub name : List ℕ
    pub parsed : a.out_of_memory ≡ false
    pub is : output_names (command_to_run words a.out_of_memory) old ≡ name ∷ []
    pub files : a.files ≡ with_created b.files (name ∷ []) (None ∷ [])
    pub said : HasOnlySaid (unopened_message (codes "uniq") name) b a Unused

-- The inputs that the words name were opened, but the output file could not be created.
pub record IsOutputUnopened (words : List (List ℕ)) (b : Before) (a : After) (Unused : Type 0) : Type 0 where
  pub inputs : List Input
  pub are_new : All IsNewInput inputs
  pub contents : AreContents b.files.content (length b.files.opened)
      (input_names (command_to_run words a.out_of_memory)) inputs
  pub not_created : IsNotCreated words (new_readers b.standard inputs)
      (record b { files = with_opened b.files (input_names (command_to_run words a.out_of_memory)) inputs }) a Unused

-- ---- the postconditions

-- The postcondition of `run_over_files`.
abbrev pub RunOverFilesPost : List (List ℕ) → Before → After → Type 0 → Type 0 → Type 0
RunOverFilesPost words b a Unused Failing =
    ((h : HasRun words b a Unused Failing) × IsExactOverNames words b a h)
    ⊎ (IsOutputUnopened words b a Unused ⊎ IsOutOfMemory b a Unused)
