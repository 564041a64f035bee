-- The grammar of options and operands, by the utility syntax guidelines (POSIX.1-2017, XBD 12.2).
use Rattle.std.specs.Prelude.{ℕ, List, [], ◌∷◌, ◌++◌, Bool, true, not, None}
use Rattle.std.specs.Prelude.{map, codes, IsTrue}
use Rattle.std.specs.List.{list_all}
use Rattle.std.specs.Str.{byte}
use Rattle.ptopts.specs.Args.{ParsedOption, is_flag, is_option_arg, takes_value, with_value}
use Rattle.ptopts.specs.declared.tool.Tool.{Tool}

-- an option without a value
abbrev pub flag : ℕ → ParsedOption
flag letter = record { letter = letter; value = None }

-- there is no word, or the first one is an operand
abbrev pub starts_with_operand : List (List ℕ) → Bool
starts_with_operand [] = true
starts_with_operand (word ∷ words) = not (is_option_arg word)

-- ---- the grammar: words, the options in them, and the operands after these

-- all letters are options without a value
abbrev pub AreFlags : Tool → List ℕ → Type 0
AreFlags tool letters = IsTrue (list_all (is_flag tool) letters)

-- the words give these options and operands
pub data Spells (tool : Tool) : List (List ℕ) → List ParsedOption → List (List ℕ) → Type 0 where
  OperandsAlone : (operands : List (List ℕ)) → IsTrue (starts_with_operand operands) → Spells tool operands [] operands
  EndOfOptions : (operands : List (List ℕ)) → Spells tool (codes "--" ∷ operands) [] operands
  Flags : (f : ℕ) (fs : List ℕ) (words : List (List ℕ)) (options : List ParsedOption) (operands : List (List ℕ))
      → AreFlags tool (f ∷ fs) → Spells tool words options operands
      → Spells tool ((byte "-" ∷ f ∷ fs) ∷ words) (map flag (f ∷ fs) ++ options) operands
  ValueAttached : (fs : List ℕ) (letter b : ℕ) (bs : List ℕ) (words : List (List ℕ)) (options : List ParsedOption)
      (operands : List (List ℕ))
      → AreFlags tool fs → IsTrue (takes_value tool letter) → Spells tool words options operands
      → Spells tool ((byte "-" ∷ fs ++ letter ∷ b ∷ bs) ∷ words) (map flag fs ++ with_value letter (b ∷ bs) ∷ options)
      operands
  ValueNext : (fs : List ℕ) (letter : ℕ) (value : List ℕ) (words : List (List ℕ)) (options : List ParsedOption)
      (operands : List (List ℕ))
      → AreFlags tool fs → IsTrue (takes_value tool letter) → Spells tool words options operands
      → Spells tool ((byte "-" ∷ fs ++ letter ∷ []) ∷ value ∷ words) (map flag fs ++ with_value letter value ∷ options)
      operands
