-- Postconditions of the private functions that parse words, check them and make inputs. Also the options and
-- operands of the code, as values of the definitions.
use Rattle.std.specs.Prelude.{◌≡◌, ℕ, List, [], ◌∷◌, ◌++◌, Bool, true, false, Option, None, Result, Ok, Err, IsSome}
use Rattle.std.specs.Prelude.{OnSome, option_map, map, filter_map, drop, slice_index, ◌+◌}
use Rattle.std.specs.Borrow.{Bor}
use Rattle.ptopts.specs.Args.{ParsedOption}
use Rattle.ptopts.specs.Commands.{Job, command_over, read_words, with_inputs, words_view}
use Rattle.ptopts.specs.Faults.{Fault}
use Rattle.ptopts.specs.Private.Tokens.{Token, option_of_token, parse_fault, takes_next, tokens_of, value_token}
use Rattle.ptlangs.specs.Results.{IsFault}
use Rattle.ptopts.specs.View.{fault_view}
use Rattle.ptopts.specs.declared.fault.UseFault.{UseFault}
use Rattle.ptopts.specs.declared.inputs.Inputs.{Inputs}
use Rattle.ptopts.specs.declared.parsing.ParsedArgs.{ParsedArgs}
use Rattle.ptopts.specs.declared.tool.Tool.{Tool}
use Rattle.ptopts.specs.declared.parsing.ParsedOption as given

-- the function succeeds if there is no fault, and otherwise returns the fault
abbrev pub CheckPost : {A : Type 0} → Result A UseFault → Option Fault → Type 0
CheckPost (Ok x) fault = fault ≡ None
CheckPost (Err e) fault = IsSome (fault_view e) × (fault_view e ≡ fault)

-- like `CheckPost`, but the function may also return an allocation failure
abbrev pub CheckOrMemoryPost : {A : Type 0} → Result A UseFault → Option Fault → Type 0
CheckOrMemoryPost (Ok x) fault = fault ≡ None
CheckOrMemoryPost (Err e) fault = OnSome (fault_view e) (fault_view e ≡ fault)

-- like `CheckPost`, but if there is no fault, the function may return an allocation failure
abbrev pub CheckThenMemoryPost : {A : Type 0} → Result A UseFault → Option Fault → Type 0
CheckThenMemoryPost (Ok x) fault = fault ≡ None
CheckThenMemoryPost (Err e) fault = fault_view e ≡ fault

-- the view of an option of the code
abbrev pub option_view : given.ParsedOption → ParsedOption
option_view o = record { letter = o.letter; value = option_map (λ v. v.now) o.value }

-- the view of options of the code
abbrev pub options_view : List given.ParsedOption → List ParsedOption
options_view os = map option_view os

-- the view of the options of a parsed command line
abbrev pub options_of : {A : Type 0} → ParsedArgs A → List ParsedOption
options_of args = options_view args.options.items

-- the view of its operands
abbrev pub operands_of : {A : Type 0} → ParsedArgs A → List (List ℕ)
operands_of args = words_view args.operands.now

-- the view of the next word, if there is one
abbrev pub next_view : Option (Bor (List ℕ)) → Option (List ℕ)
next_view next = option_map (λ w. w.now) next

-- the token at an index of a word whose letter there is not a flag
abbrev pub token_at : Tool → List ℕ → ℕ → Option (List ℕ) → Token
token_at tool word index next = value_token tool word (slice_index word index) (drop (index + 1) word) next

-- the options of the tokens
abbrev pub options_of_tokens : List Token → List ParsedOption
options_of_tokens tokens = filter_map option_of_token tokens

-- A word of options was read: its options are appended to those before it. `taken` says whether the next word is the
-- value of the last option. A fault of later tokens is the same after the options as after the word.
pub record GroupPost (tool : Tool) (word : List ℕ) (next : Option (List ℕ)) (before after : List ParsedOption)
    (taken : Bool) : Type 0 where
  pub options : after ≡ before ++ options_of_tokens (tokens_of tool word next)
  pub takes : taken ≡ takes_next tool (drop 1 word)
  pub faultless : (tokens : List Token)
      → parse_fault tool before (tokens_of tool word next ++ tokens) ≡ parse_fault tool after tokens

-- reading a word of options failed with its first fault, or with an allocation failure
abbrev pub GroupFaultPost : Tool → List ℕ → Option (List ℕ) → List ParsedOption → UseFault → Type 0
GroupFaultPost tool word next before e =
    OnSome (fault_view e) ((tokens : List Token)
    → parse_fault tool before (tokens_of tool word next ++ tokens) ≡ fault_view e)

-- the words were parsed without a fault, into these options and operands
abbrev pub ArgsPost : Tool → List (List ℕ) → List ParsedOption → List (List ℕ) → Type 0
ArgsPost tool words os operands = read_words tool [] None words ≡ Ok (os, operands)

-- parsing the words failed with their first fault, or with an allocation failure
abbrev pub ArgsFaultPost : Tool → List (List ℕ) → UseFault → Type 0
ArgsFaultPost tool words e = IsFault (fault_view e) (read_words tool [] None words)

-- the words after a word of options, without the next word if that is a value
abbrev pub words_after_value : Bool → List (List ℕ) → List (List ℕ)
words_after_value true [] = []
words_after_value true (word ∷ words) = words
words_after_value false words = words

-- the inputs are those of the operands, with this output
abbrev pub AreInputs : {A : Type 0} → List (List ℕ) → Option (List ℕ) → Inputs A → Type 0
AreInputs operands output inputs = (job : Job) → with_inputs job inputs ≡ command_over job operands output
