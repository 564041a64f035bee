-- Theorems on the grammar of words, their reading from left to right, and the commands that they specify.
use Rattle.std.specs.Prelude.{◌≡◌, ◌↔◌, ℕ, List, [], ◌∷◌, ◌++◌, false, Some, None, Ok, IsTrue, is_some}
use Rattle.ptopts.specs.Args.{ParsedOption, tool_of_name}
use Rattle.ptopts.specs.Commands.{Command, command, command_of_args, read_words}
use Rattle.ptopts.specs.Faults.{faults, is_repeated}
use Rattle.ptopts.specs.Laws.Args.{Spells}
use Rattle.ptopts.specs.declared.tool.Tool.{Tool}

-- no option with a value is present twice, except those that may be repeated
abbrev pub AreGivenOnce : Tool → List ParsedOption → Type 0
AreGivenOnce tool os = (before after : List ParsedOption) (o : ParsedOption)
    → os ≡ before ++ o ∷ after → IsTrue (is_some o.value) → is_repeated tool before o.letter ≡ false

-- words are read as options and operands if and only if the grammar gives them these, and no option twice
abbrev pub ReadingMatchesGrammar : Type 0
ReadingMatchesGrammar = (tool : Tool) (words : List (List ℕ)) (os : List ParsedOption) (operands : List (List ℕ))
    → (Spells tool words os operands × AreGivenOnce tool os) ↔ (read_words tool [] None words ≡ Ok (os, operands))

-- the grammar gives at most one list of options and one list of operands to words
abbrev pub GrammarIsUnambiguous : Type 0
GrammarIsUnambiguous = (tool : Tool) (words : List (List ℕ)) (os os' : List ParsedOption)
    (operands operands' : List (List ℕ))
    → Spells tool words os operands → Spells tool words os' operands' → (os ≡ os') × (operands ≡ operands')

-- no option is given twice that must not be, and options and operands have no other fault
pub record AreAllowed (tool : Tool) (os : List ParsedOption) (operands : List (List ℕ)) : Type 0 where
  pub once : AreGivenOnce tool os
  pub faultless : faults tool os operands ≡ []

-- the name of a tool, and words whose options and operands are allowed, with the command that they specify
pub data SpellsCommand : List (List ℕ) → Command → Type 0 where
  Spelled : (name : List ℕ) (words : List (List ℕ)) (tool : Tool) (os : List ParsedOption) (operands : List (List ℕ))
      → tool_of_name name ≡ Some tool → Spells tool words os operands → AreAllowed tool os operands
      → SpellsCommand (name ∷ words) (command tool os operands)

-- words specify a command if and only if the grammar gives it to them
abbrev pub CommandsMatchGrammar : Type 0
CommandsMatchGrammar = (words : List (List ℕ)) (c : Command) → SpellsCommand words c ↔ (command_of_args words ≡ Ok c)
