-- Files in memory, by their names: their contents, the states of files and of a sink before they are used, and what
-- a run over these files has to do.
use Rattle.std.specs.Prelude.{◌≡◌, ℕ, Bool, true, false, List, [], ◌∷◌, Some, None, bytes_eq, if◌then◌else◌, map}
use Rattle.std.specs.Borrow.{Bor}
use Rattle.ptfiles.specs.Files.{Content, FilesState}
use Rattle.ptfiles.specs.Shell.{has_standard_output, input_names, valid_command}
use Rattle.ptlines.specs.Sinks.{SinkState}
use Rattle.ptopts.specs.Commands.{command_of_args}
use Rattle.ptrun.specs.Runs.{IsExact, Outcome, sinks}
use Rattle.ptrun.specs.SpecOfArgs.{spec_of_args}

-- The bytes of the first file with this name. A file with any other name cannot be opened.
abbrev pub content_of : List (Bor (List ℕ) × Bor (List ℕ)) → List ℕ → Content
content_of [] name = None
content_of (file ∷ files) name = if bytes_eq file.0.now name then Some file.1.now else content_of files name

-- No file was opened or created yet. What each file contains is known by its name.
abbrev pub unopened_files : List (Bor (List ℕ) × Bor (List ℕ)) → FilesState
unopened_files files = record {
  opened = [];
  inputs = [];
  created = [];
  outputs = [];
  content = λ count name. Some (content_of files name);
}

-- nothing was written yet
abbrev pub new_sink : SinkState
new_sink = record { accepted = Some []; failed = false; unflushed = false; flushes = 0 }

-- A run over named files, of a command that writes to standard output: unless memory ran out or a write failed, the
-- result is what the words mean for standard input and for the files with the names that they have.
abbrev pub RunNamedPost : List (List ℕ) → List (Bor (List ℕ) × Bor (List ℕ)) → List ℕ → Outcome → Bool → Type 0
RunNamedPost words files standard o out_of_memory =
    has_standard_output (valid_command (command_of_args words)) ≡ true → out_of_memory ≡ false → o.denied ≡ false
    → o.out.failed ≡ false
    → IsExact (spec_of_args words)
    (Some standard ∷ map (content_of files) (input_names (valid_command (command_of_args words))))
    (sinks new_sink new_sink) o
