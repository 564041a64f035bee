-- The words as tokens, from left to right, by which the proofs compare `read_words` with the grammar.
use Rattle.std.specs.Prelude.{ℕ, ◌&&◌, List, [], ◌∷◌, ◌++◌, Bool, true, false, not, Option, Some, None}
use Rattle.std.specs.Prelude.{if◌then◌else◌, filter_map, drop, slice_get, is_some, bytes_eq, codes}
use Rattle.std.specs.Option.{option_or, option_map_or}
use Rattle.ptlangs.specs.Numbers.{is_empty}
use Rattle.ptopts.specs.Args.{ParsedOption, is_flag, is_option_arg, takes_value, with_value}
use Rattle.ptopts.specs.Laws.Args.{flag}
use Rattle.ptopts.specs.Faults.{Fault, NeedsValue, Twice, Unknown, is_repeated}
use Rattle.ptopts.specs.declared.tool.Tool.{Tool}

-- a token at a letter: an option; an option whose value is missing; or a letter that is no option of the tool, with its
-- word
pub data Token : Type 0 where
  Valid : ParsedOption → Token
  MissingValue : ℕ → Token
  UnknownLetter : List ℕ → Token

-- the token of a letter that is not a flag, from the rest of its word and the next word
abbrev pub value_token : Tool → List ℕ → ℕ → List ℕ → Option (List ℕ) → Token
value_token tool word letter rest next =
    if not (takes_value tool letter) then UnknownLetter word
    else (if not (is_empty rest) then Valid (with_value letter rest)
    else option_map_or (λ value. Valid (with_value letter value)) next (MissingValue letter))

-- the tokens of a word, from these letters on
abbrev pub tokens_in : Tool → List ℕ → Option (List ℕ) → List ℕ → List Token
tokens_in tool word next [] = []
tokens_in tool word next (letter ∷ rest) =
    if is_flag tool letter then Valid (flag letter) ∷ tokens_in tool word next rest
    else value_token tool word letter rest next ∷ []

-- the last of these letters is an option whose value is the next word
abbrev pub takes_next : Tool → List ℕ → Bool
takes_next tool [] = false
takes_next tool (letter ∷ rest) =
    if is_flag tool letter then takes_next tool rest else takes_value tool letter && is_empty rest

-- the tokens of the options, and the operands after them
pub record ParsedArgs : Type 0 where
  pub tokens : List Token
  pub operands : List (List ℕ)

-- the tokens of a word
abbrev pub tokens_of : Tool → List ℕ → Option (List ℕ) → List Token
tokens_of tool word next = tokens_in tool word next (drop 1 word)

-- a parse with these tokens before its own
abbrev pub prepend_tokens : List Token → ParsedArgs → ParsedArgs
prepend_tokens tokens parsed_args = record { tokens = tokens ++ parsed_args.tokens; operands = parsed_args.operands }

-- the word `--`, which ends the options
abbrev pub is_end_of_options : List ℕ → Bool
is_end_of_options word = bytes_eq word (codes "--")

-- the parse of the words; if `taken`, the first word is the value of an option before it
abbrev pub parsed_args_from : Tool → Bool → List (List ℕ) → ParsedArgs
parsed_args_from tool taken [] = record { tokens = []; operands = [] }
parsed_args_from tool true (word ∷ words) = parsed_args_from tool false words
parsed_args_from tool false (word ∷ words) =
    if is_end_of_options word then record { tokens = []; operands = words }
    else (if not (is_option_arg word) then record { tokens = []; operands = word ∷ words }
    else prepend_tokens (tokens_of tool word (slice_get words 0))
    (parsed_args_from tool (takes_next tool (drop 1 word)) words))

-- the parse of the words
abbrev pub parsed_args : Tool → List (List ℕ) → ParsedArgs
parsed_args tool words = parsed_args_from tool false words

-- the option of a token; `None` for a faulty token
abbrev pub option_of_token : Token → Option ParsedOption
option_of_token (Valid o) = Some o
option_of_token (MissingValue letter) = None
option_of_token (UnknownLetter word) = None

-- the options of a parse
abbrev pub options : ParsedArgs → List ParsedOption
options parsed_args = filter_map option_of_token parsed_args.tokens

-- the fault of a token, after these options
abbrev pub token_fault : Tool → List ParsedOption → Token → Option Fault
token_fault tool before (Valid o) =
    if is_some o.value && is_repeated tool before o.letter then Some (Twice o.letter) else None
token_fault tool before (MissingValue letter) =
    if is_repeated tool before letter then Some (Twice letter) else Some (NeedsValue letter)
token_fault tool before (UnknownLetter word) = Some (Unknown word)

-- the options after one more token
abbrev pub with_token : List ParsedOption → Token → List ParsedOption
with_token before (Valid o) = before ++ o ∷ []
with_token before (MissingValue letter) = before
with_token before (UnknownLetter word) = before

-- the leftmost fault of the tokens, after these options
abbrev pub parse_fault : Tool → List ParsedOption → List Token → Option Fault
parse_fault tool before [] = None
parse_fault tool before (token ∷ tokens) =
    option_or (token_fault tool before token) (parse_fault tool (with_token before token) tokens)
