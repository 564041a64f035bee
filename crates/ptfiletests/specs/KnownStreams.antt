-- Streams whose bytes are known: the bytes by the number of a stream, sinks that know the number of their stream,
-- the files of a run, and what a run over these streams has to do.
use Rattle.std.specs.Prelude.{◌≡◌, ◌⊎◌, ◌+◌, ℕ, zero, suc, true, false, List, [], ◌∷◌, Some, None, get_or, length}
use Rattle.std.specs.Prelude.{if◌then◌else◌, map, option_map}
use Rattle.std.specs.Borrow.{Bor}
use Rattle.std.specs.Str.{IsUtf8}
use Rattle.ptfiles.specs.Calls.Streams.{IsNotRun, is_opened}
use Rattle.ptfiles.specs.Files.{Output, created_state}
use Rattle.ptfiles.specs.Shell.{has_standard_output, input_names, valid_command}
use Rattle.ptfiles.specs.declared.streams.GivenRun.{GivenRun}
use Rattle.ptfiles.specs.declared.streams.GivenRun.TheVariants.{Ran, Refused}
use Rattle.ptlines.specs.Sinks.{SinkState}
use Rattle.ptlines.specs.Text.{lines}
use Rattle.ptopts.specs.Commands.{command_of_args}
use Rattle.ptrun.specs.Files.{InputBytes}
use Rattle.ptrun.specs.Runs.{IsExact, Outcome, outcome, sinks}
use Rattle.ptrun.specs.SpecOfArgs.{spec_of_args}
use Rattle.ptfakes.specs.FakeSink.{sink_state}
use Rattle.ptfiletests.specs.NamedFiles.{new_sink}
use Rattle.ptfiletests.specs.declared.known_streams.NumberedSink.{NumberedSink}

-- The state of a sink with the number of its stream before its bytes. So it is known which stream was written to.
abbrev pub numbered : ℕ → SinkState → SinkState
numbered number s = record s { accepted = option_map (λ bytes. number ∷ bytes) s.accepted }

-- the stream with a number, to which nothing was written yet
abbrev pub new_output : ℕ → SinkState
new_output number = numbered number new_sink

abbrev pub numbered_state : NumberedSink → SinkState
numbered_state s = numbered s.number (sink_state s.sink)

-- the bytes of the stream with a number
abbrev pub bytes_of : List (Bor (List ℕ)) → ℕ → List ℕ
bytes_of streams number = get_or (map (λ (bytes : Bor (List ℕ)). bytes.now) streams) number []

-- The bytes of `count` files, from the one with index `first`: those of stream 3 + i, if it can be opened.
abbrev pub files_of : (ℕ → List ℕ) → List ℕ → ℕ → ℕ → InputBytes
files_of bytes opened first zero = []
files_of bytes opened first (suc count) =
    (if is_opened opened first then Some (bytes (3 + first)) else None) ∷ files_of bytes opened (suc first) count

-- standard input, which is stream 0, and the files of these words
abbrev pub inputs_of : (ℕ → List ℕ) → List ℕ → List (List ℕ) → InputBytes
inputs_of bytes opened words =
    Some (bytes 0) ∷ files_of bytes opened 0 (length (input_names (valid_command (command_of_args words))))

-- The output is the stream of standard output, or the file that was created.
abbrev pub IsOutput : List (List ℕ) → Output → Outcome → SinkState → Type 0
IsOutput words file o written =
    ((has_standard_output (valid_command (command_of_args words)) ≡ true) × (written ≡ o.out)) ⊎ (file ≡ Some written)

-- Unless memory ran out or a write failed, the output, the messages and the status are those that the words mean for the
-- bytes of the streams. The output is written to stream 1, also as the output file of `uniq`, and the messages to 2.
abbrev pub RunKnownPost : List (List ℕ) → (ℕ → List ℕ) → List ℕ → ℕ → Output → Outcome → Type 0
RunKnownPost words bytes opened status file o =
    (written : SinkState) → IsOutput words file o written → written.failed ≡ false → (status ≡ 4 → ⊥)
    → (status ≡ (spec_of_args words).status (inputs_of bytes opened words))
    × IsExact (spec_of_args words) (inputs_of bytes opened words) (sinks (new_output 1) (new_output 2))
    (record o { out = written })

-- The words are lines that end with byte 0.
abbrev pub GivenKnownPost : {W : Type 0} → (W → SinkState) → List ℕ → (ℕ → List ℕ) → List ℕ → GivenRun W → Type 0
GivenKnownPost of words bytes opened (Ran ran) = IsUtf8 words
    × RunKnownPost (lines 0 words) bytes opened ran.status (created_state of ran.files.file)
    (outcome of of ran.files.report)
GivenKnownPost of words bytes opened (Refused status said) = IsNotRun words status (new_output 2) (of said)
