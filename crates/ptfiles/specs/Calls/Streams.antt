-- Runs over numbered streams: 0 is standard input, 1 the output, 2 the messages, 3 + i the file i. The streams as
-- files, the status, and the contracts of a run whose words are a list (`RunStreamsPost`) and of one whose words are
-- bytes (`GivenStreamsPost`), which may be refused.
use Rattle.std.specs.Prelude.{◌≡◌, ◌⊎◌, ◌+◌, ℕ, Bool, not, List, [], Option, Some, None, All, ◌||◌, ◌==◌}
use Rattle.std.specs.Prelude.{codes, ◌∷◌, if◌then◌else◌, option_map, slice_index_or}
use Rattle.std.specs.Str.{IsUtf8}
use Rattle.ptfiles.specs.Files.{Content, FilesState, IsContent, Output, created_state}
use Rattle.ptfiles.specs.Shell.{RunOverFilesPost, after, before, empty_store}
use Rattle.ptfiles.specs.declared.streams.GivenRun.{GivenRun}
use Rattle.ptfiles.specs.declared.streams.GivenRun.TheVariants.{Ran, Refused}
use Rattle.ptlines.specs.Sinks.{SinkState}
use Rattle.ptlines.specs.Slots.{Slots}
use Rattle.ptlines.specs.Sources.{SourceState}
use Rattle.ptlines.specs.Text.{lines}
use Rattle.ptrun.specs.MessageWrites.{HasSaid, line_of}
use Rattle.ptrun.specs.Messages.{memory_message}
use Rattle.ptrun.specs.Runs.{Outcome, outcome}

-- Known bytes of a stream are those of a file that can be opened.
abbrev pub known : Option (List ℕ) → Option Content
known bytes = option_map Some bytes

-- The file with this index can be opened: its byte is there, and not 0.
abbrev pub is_opened : List ℕ → ℕ → Bool
is_opened opened index = not (slice_index_or opened index 0 == 0)

-- The file with this index, as far as it is known: one that cannot be opened, or the stream 3 + index.
abbrev pub file_content : (ℕ → Option (List ℕ)) → List ℕ → ℕ → Option Content
file_content content opened index = if is_opened opened index then known (content (3 + index)) else Some None

-- The streams as files, of which none was opened or created yet: the next one that is opened is the next of these,
-- regardless of its name.
abbrev pub stream_files : (ℕ → Option (List ℕ)) → List ℕ → FilesState
stream_files content opened = record {
  opened = [];
  inputs = [];
  created = [];
  outputs = [];
  content = λ count name. file_content content opened count;
}

abbrev pub status_unless_memory : ℕ → Bool → Bool → ℕ
status_unless_memory status out_of_memory denied = if out_of_memory || denied then 4 else status

-- The command was run as over files: its standard input, its files, its output and its messages are the streams with
-- these numbers. So if their bytes are known, the output and the messages are exact (`IsExactOverNames`).
pub record RunStreamsPost {W : Type 0} (of : W → SinkState) (words : List (List ℕ)) (content : ℕ → Option (List ℕ))
    (output : ℕ → SinkState) (opened : List ℕ) (lent left : Slots) (status : ℕ) (file : Output) (out_of_memory : Bool)
    (o : Outcome) (returned : W) (Failing : Type 0) : Type 0 where
  pub standard : SourceState
  pub input : IsContent (known (content 0)) (Some standard)
  pub out : W
  pub out_is : of out ≡ output 1
  pub files : FilesState
  pub ran : RunOverFilesPost words (before (stream_files content opened) standard (output 1) (output 2) lent)
      (after files left file out_of_memory o) (returned ≡ out) Failing
  -- a file that was created is the output
  pub created : All (λ output'. output' ≡ Some (output 1)) files.outputs
  pub status_is : status ≡ status_unless_memory o.status out_of_memory o.denied

-- The words were not run: they are not UTF-8, or there was no memory for them. A message was written to this stream, or
-- a prefix of it if the write failed.
abbrev pub IsNotRun : List ℕ → ℕ → SinkState → SinkState → Type 0
IsNotRun words status old new =
    (¬ (IsUtf8 words) × (status ≡ 2) × HasSaid old new (line_of (codes "ptext: a word is not UTF-8" ∷ [])))
    ⊎ (IsUtf8 words × (status ≡ 4) × HasSaid old new (memory_message (codes "ptext")))

-- The command that these bytes are was run over streams, or only a message was written to that of the messages. The words
-- are the lines that end with byte 0.
abbrev pub GivenStreamsPost : {W : Type 0} → (W → SinkState) → List ℕ → (ℕ → Option (List ℕ)) → (ℕ → SinkState)
    → List ℕ → Slots → Slots → GivenRun W → Type 0 → Type 0
GivenStreamsPost of words content output opened lent left (Ran ran) Failing = IsUtf8 words
    × RunStreamsPost of (lines 0 words) content output opened lent left ran.status (created_state of ran.files.file)
    ran.files.out_of_memory (outcome of of ran.files.report) ran.files.report.out Failing
GivenStreamsPost of words content output opened lent left (Refused status said) Failing =
    IsNotRun words status (output 2) (of said) × (left ≡ lent)

abbrev pub status_of : {W : Type 0} → GivenRun W → ℕ
status_of (Ran ran) = ran.status
status_of (Refused status said) = status

-- There is such an end, over a store that was never used. Only the status is known of it.
pub record HasGivenRun {W : Type 0} (of : W → SinkState) (words : List ℕ) (content : ℕ → Option (List ℕ))
    (output : ℕ → SinkState) (opened : List ℕ) (status : ℕ) (Failing : Type 0) : Type 0 where
  pub ended : GivenRun W
  pub left : Slots
  pub post : GivenStreamsPost of words content output opened empty_store left ended Failing
  pub status_is : status ≡ status_of ended
