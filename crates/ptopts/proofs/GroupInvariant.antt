-- The loop over the letters of one word: the options so far and the tokens of the remaining letters are those of the
-- word (`GroupRead`). The steps of the loop: an option without a value, one with a value, and a fault.
use Rattle.ptopts.proofs
use proofs.Common.{Fault, GroupPost, List, None, OnSome, Option, ParsedOption, Token, Tool, Valid, [], add-one, arith}
use proofs.Common.{usual, drop, drop-cons, false, flag, is_flag, length, nat_eq, option_view, options_of_tokens}
use proofs.Common.{options_view, parse_fault, slice_index, takes_next, token_fault, tokens_in, tokens_of, true}
use proofs.Common.{value_token, ℕ, ◌++◌, ◌+◌, ◌<◌, ◌∷◌, ◌≡◌}
use Rattle.ptopts.specs.declared.parsing.ParsedOption as given

pub record GroupRead (tool : Tool) (word : List ℕ) (next : Option (List ℕ)) (before os : List ParsedOption)
    (letters : List ℕ) : Type 0 where
  pub gathered : before ++ options_of_tokens (tokens_of tool word next)
      ≡ os ++ options_of_tokens (tokens_in tool word next letters)
  pub takes : takes_next tool (drop 1 word) ≡ takes_next tool letters
  pub faults : (tokens : List Token)
      → parse_fault tool before (tokens_of tool word next ++ tokens)
      ≡ parse_fault tool os (tokens_in tool word next letters ++ tokens)

letter_first : (word : List ℕ) (index : ℕ) → index < length word
    → drop index word ≡ slice_index word index ∷ drop (index + 1) word
letter_first word index within = rw (add-one, drop-cons word index 0)

module _ (tool : Tool) (word : List ℕ) (next : Option (List ℕ)) (before : List ParsedOption) where
  -- the three steps at an index of the word, for the options of the code
  pub flag_read : (items new : List given.ParsedOption) (index : ℕ) (o : given.ParsedOption) → index < length word
      → is_flag tool (slice_index word index) ≡ true → option_view o ≡ flag (slice_index word index)
      → new ≡ items ++ o ∷ [] → GroupRead tool word next before (options_view items) (drop index word)
      → GroupRead tool word next before (options_view new) (drop (index + 1) word)
  flag_read = grind usual

  pub value_read : (items new : List given.ParsedOption) (index : ℕ) (o : given.ParsedOption) → index < length word
      → is_flag tool (slice_index word index) ≡ false
      → value_token tool word (slice_index word index) (drop (index + 1) word) next ≡ Valid (option_view o)
      → token_fault tool (options_view items)
      (value_token tool word (slice_index word index) (drop (index + 1) word) next) ≡ None
      → new ≡ items ++ o ∷ [] → GroupRead tool word next before (options_view items) (drop index word)
      → GroupPost tool word next before (options_view new) (nat_eq (index + 1) (length word))
  value_read = grind (usual, letter_first)

  pub fault_read : (items : List given.ParsedOption) (index : ℕ) (found : Option Fault) → index < length word
      → is_flag tool (slice_index word index) ≡ false
      → found ≡ token_fault tool (options_view items)
      (value_token tool word (slice_index word index) (drop (index + 1) word) next)
      → GroupRead tool word next before (options_view items) (drop index word)
      → OnSome found ((tokens : List Token) → parse_fault tool before (tokens_of tool word next ++ tokens) ≡ found)
  fault_read = grind (arith, letter_first)
