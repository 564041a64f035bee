-- The contract of the call that names the files of a command.
use Rattle.std.specs.Prelude.{◌≡◌, ◌⊎◌, ◌<◌, ℕ, List, [], Option, Some, None}
use Rattle.ptfiles.specs.Shell.{input_names, name_of_output, valid_command}
use Rattle.ptlines.specs.Text.{unlines}
use Rattle.ptopts.specs.Commands.{Command, command_of_args}
use Rattle.ptrunc.specs.Calls.Answers.{IsRefused}
use Rattle.ptrunc.specs.Results.{Holds}
use Rattle.ptrunc.specs.declared.answer.Answer.{Answer}

-- the name of the output file of a command, if it has one
abbrev pub output_name : Option Command → List (List ℕ)
output_name None = []
output_name (Some command) = name_of_output command.output

-- The rooms hold the names of the files that the command reads, in their order, and that of its output file, each with
-- byte 0 after it. The status is 0, or 3 if there was too little room for one of the two.
pub record HoldNames (command : Option Command) (names output : List ℕ) (a : Answer) : Type 0 where
  pub names_hold : Holds names a.out (unlines 0 (input_names command))
  pub output_holds : Holds output a.messages (unlines 0 (output_name command))
  pub fits : a.out.lacking ≡ 0 → a.messages.lacking ≡ 0 → a.status ≡ 0
  pub lacks_room : (0 < a.out.lacking) ⊎ (0 < a.messages.lacking) → a.status ≡ 3

-- The files of the command that these words are were named; none if they are no command. Status 4 says that memory ran
-- out, and that no name was written.
abbrev pub AreNamed : List (List ℕ) → List ℕ → List ℕ → Answer → Type 0
AreNamed words names output a =
    IsRefused None [] output a ⊎ HoldNames (valid_command (command_of_args words)) names output a
