-- Tools by name, the letters of their options, and options that were read. What words give is in Commands.
use Prim.Native.String.{String}
use Rattle.std.specs.Prelude.{ℕ, ◌==◌, ◌&&◌, List, [], ◌∷◌, Bool, false, not, Option, Some, None}
use Rattle.std.specs.Prelude.{if◌then◌else◌, filter_map, bytes_eq, find}
use Rattle.std.specs.Prelude.{option_map, option_and_then}
use Rattle.std.specs.List.{list_any}
use Rattle.std.specs.Str.{byte}
use Rattle.ptlangs.specs.Numbers.{is_empty}
use Rattle.ptopts.specs.Syntax.{letters, tools}
use Rattle.ptopts.specs.declared.tool.Tool.{Tool}

-- the tool with this name; `None` if there is none
abbrev pub tool_of_name : List ℕ → Option Tool
tool_of_name name = option_map (λ (t : List ℕ × Tool). t.1) (find (λ (t : List ℕ × Tool). bytes_eq name t.0) tools)

-- the letters contain this one
abbrev pub has_letter : ℕ → List ℕ → Bool
has_letter letter letters = list_any (λ l. l == letter) letters

-- the letter is that of an option without a value
abbrev pub is_flag : Tool → ℕ → Bool
is_flag tool letter = has_letter letter (letters tool).0

-- the letter is that of an option with a value
abbrev pub takes_value : Tool → ℕ → Bool
takes_value tool letter = has_letter letter (letters tool).1

-- an option with its value, if it has one
pub record ParsedOption : Type 0 where
  pub letter : ℕ
  pub value : Option (List ℕ)

-- an option with a value
abbrev pub with_value : ℕ → List ℕ → ParsedOption
with_value letter value = record { letter = letter; value = Some value }

-- the word is a dash and at least one more byte; a lone dash is an operand
abbrev pub is_option_arg : List ℕ → Bool
is_option_arg [] = false
is_option_arg (b ∷ bs) = (b == byte "-") && not (is_empty bs)

-- ---- lookup of options

-- the option is present
abbrev pub has_option : ℕ → List ParsedOption → Bool
has_option letter options = list_any (λ o. o.letter == letter) options

-- the same, for an option by its text
abbrev pub has : List ParsedOption → String → Bool
has os option = has_option (byte option) os

-- the value of an option that is present once
abbrev pub value_of : ℕ → List ParsedOption → Option (List ℕ)
value_of letter options = option_and_then (λ o. o.value) (find (λ o. o.letter == letter) options)

-- the values of a repeatable option, in order
abbrev pub values_of : ℕ → List ParsedOption → List (List ℕ)
values_of letter options = filter_map (λ o. if o.letter == letter then o.value else None) options
