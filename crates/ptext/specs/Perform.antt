-- The postcondition of `perform` (`PerformPost`), and the state of the files of the system before any was used
-- (`no_calls`).
use Rattle.std.specs.Prelude.{ℕ, Bool, List, [], None, ⊤}
use Rattle.ptlines.specs.Sinks.{SinkState}
use Rattle.ptlines.specs.Slots.{Slots}
use Rattle.ptlines.specs.Sources.{SourceState}
use Rattle.ptrun.specs.Runs.{Outcome}
use Rattle.ptfiles.specs.Files.{FilesState, Output}
use Rattle.ptfiles.specs.Shell.{RunOverFilesPost, after, before, empty_store}

-- The files of the system: none was opened or created yet, and nothing is known of them.
abbrev pub no_calls : FilesState
no_calls = record { opened = []; inputs = []; created = []; outputs = []; content = λ count name. None }

-- The command was run over the files of the system, of which the words name those that were opened and created, with a
-- store that was empty at first.
abbrev pub PerformPost : List (List ℕ) → SourceState → SinkState → SinkState → Type 0 → Outcome → Type 0
PerformPost words standard out messages Unused o =
    (files : FilesState) × (file : Output) × (out_of_memory : Bool) × (left : Slots)
    × RunOverFilesPost words (before no_calls standard out messages empty_store)
    (after files left file out_of_memory o) Unused ⊤
