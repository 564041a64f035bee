-- The inputs of a run over memory.
use Rattle.std.specs.Prelude.{ℕ, zero, suc, List, [], ◌∷◌, Option, Some, length, map, option_map}
use Rattle.std.specs.Borrow.{Bor}
use Rattle.ptfiles.specs.Shell.{input_names, valid_command}
use Rattle.ptopts.specs.Commands.{command_of_args}
use Rattle.ptrun.specs.Files.{InputBytes, at}

-- The bytes of a file, and `None` if it cannot be opened.
abbrev pub file_view : Option (Bor (List ℕ)) → Option (List ℕ)
file_view file = option_map (λ bytes. bytes.now) file

abbrev pub files_view : List (Option (Bor (List ℕ))) → InputBytes
files_view files = map file_view files

-- `count` of these files, from the one at `first`. Files that are not given cannot be opened.
abbrev pub files_from : InputBytes → ℕ → ℕ → InputBytes
files_from files first zero = []
files_from files first (suc count) = at files first ∷ files_from files (suc first) count

-- The inputs of the command that these words are: standard input, and the files that it names.
abbrev pub inputs_for : List (List ℕ) → List ℕ → InputBytes → InputBytes
inputs_for words input files =
    Some input ∷ files_from files 0 (length (input_names (valid_command (command_of_args words))))
