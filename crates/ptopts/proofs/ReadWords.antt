-- `read_words` gives the options that the tokens of the words spell, unless they have a fault.
use Rattle.ptopts.proofs
use proofs.Common.{Bool, Err, Fault, List, MissingValue, None, Option, ParsedOption, Result, Some, Token, Tool, Valid}
use proofs.Common.{Ok, [], ap, append-nil, append_assoc, drop, false, flag, is_end_of_options, is_flag, is_option_arg}
use proofs.Common.{is_repeated, ok_unless, options, parse_fault, parsed_args, parsed_args_from, refl, slice_get, sym}
use proofs.Common.{takes_next, takes_value, token_fault, tokens_in, true, value_token, ℕ, ⊎_elim, ◌++◌, ◌∙◌, ◌∷◌, ◌≡◌}
use Rattle.ptlangs.specs.Numbers.{and_then}
use Rattle.ptopts.specs.Args.{with_value}
use Rattle.ptopts.specs.Commands.{read_letters, read_words}
use Rattle.ptopts.specs.Faults.{NeedsValue, Twice}
use Rattle.ptopts.specs.Private.Tokens.{ParsedArgs, prepend_tokens}
use Rattle.std.proofs.lemmas.Bool.{cases_Bool}
use Rattle.std.specs.Option.{option_map_or}

-- the options of the tokens after those before, and the operands, or the first fault
abbrev pub told : Tool → List ParsedOption → ParsedArgs → Result (List ParsedOption × List (List ℕ)) Fault
told tool before p = ok_unless (parse_fault tool before p.tokens) (before ++ options p, p.operands)

-- the words are read as their tokens say; if the first one is a value, with any letter that it may have
abbrev IsTold : Tool → List (List ℕ) → Bool → Type 0
IsTold tool words false = (before : List ParsedOption)
    → read_words tool before None words ≡ told tool before (parsed_args_from tool false words)
IsTold tool words true = (before : List ParsedOption) (letter : ℕ) → is_repeated tool before letter ≡ false
    → read_words tool before (Some letter) words
    ≡ told tool before (prepend_tokens
    (option_map_or (λ value. Valid (with_value letter value)) (slice_get words 0) (MissingValue letter) ∷ [])
    (parsed_args_from tool true words))

told_valid : (tool : Tool) (before : List ParsedOption) (o : ParsedOption) (p : ParsedArgs)
    → token_fault tool before (Valid o) ≡ None
    → told tool (before ++ o ∷ []) p ≡ told tool before (prepend_tokens (Valid o ∷ []) p)
told_valid tool before o p none = rw (none, append_assoc before (o ∷ []) (options p)) refl

told_fault : (tool : Tool) (before : List ParsedOption) (token : Token) (p : ParsedArgs) (fault : Fault)
    → token_fault tool before token ≡ Some fault → Err fault ≡ told tool before (prepend_tokens (token ∷ []) p)
told_fault tool before token p fault is = rw is refl

flag_has_no_fault : (tool : Tool) (before : List ParsedOption) (l : ℕ) → token_fault tool before (Valid (flag l)) ≡ None
flag_has_no_fault tool before l = refl

twice_fault : (tool : Tool) (word : List ℕ) (l : ℕ) (rest : List ℕ) (next : Option (List ℕ))
    (before : List ParsedOption)
    → takes_value tool l ≡ true → is_repeated tool before l ≡ true
    → token_fault tool before (value_token tool word l rest next) ≡ Some (Twice l)
twice_fault tool word l [] None before t r = rw (t, r) refl
twice_fault tool word l [] (Some value) before t r = rw (t, r) refl
twice_fault tool word l (b ∷ rest) next before t r = rw (t, r) refl

same_told : (tool : Tool) (before : List ParsedOption) (words : List (List ℕ)) (tokens tokens' : List Token)
    (taken taken' : Bool) → tokens ≡ tokens' → taken ≡ taken'
    → told tool before (prepend_tokens tokens (parsed_args_from tool taken words))
    ≡ told tool before (prepend_tokens tokens' (parsed_args_from tool taken' words))
same_told tool before words tokens tokens' taken taken' e f = cc

module _ (tool : Tool) (word : List ℕ) (before : List ParsedOption) (words : List (List ℕ)) where
  -- the letters are read as their tokens say
  abbrev AreTold : List ℕ → Type 0
  AreTold letters = and_then (read_letters tool word before letters)
      (λ (read : List ParsedOption × Option ℕ). read_words tool read.0 read.1 words)
      ≡ told tool before (prepend_tokens (tokens_in tool word (slice_get words 0) letters)
      (parsed_args_from tool (takes_next tool letters) words))

  value_told : (l : ℕ) (rest : List ℕ) → is_flag tool l ≡ false → takes_value tool l ≡ true
      → is_repeated tool before l ≡ false → ((taken : Bool) → IsTold tool words taken) → AreTold (l ∷ rest)
  value_told l [] n t r more = rw (n, t, r) (more true before l r)
  value_told l (b ∷ rest) n t r more =
      let left : and_then (read_letters tool word before (l ∷ b ∷ rest))
      (λ (read : List ParsedOption × Option ℕ). read_words tool read.0 read.1 words)
      ≡ read_words tool (before ++ with_value l (b ∷ rest) ∷ []) None words = rw (n, t, r) refl in
      left ∙ more false (before ++ with_value l (b ∷ rest) ∷ [])
      ∙ told_valid tool before (with_value l (b ∷ rest)) (parsed_args_from tool false words) (rw r refl)
      ∙ same_told tool before words (Valid (with_value l (b ∷ rest)) ∷ [])
      (tokens_in tool word (slice_get words 0) (l ∷ b ∷ rest)) false (takes_next tool (l ∷ b ∷ rest)) (rw (n, t) refl)
      (rw (n, t) refl)

  twice_told : (l : ℕ) (rest : List ℕ) → is_flag tool l ≡ false → takes_value tool l ≡ true
      → is_repeated tool before l ≡ true → AreTold (l ∷ rest)
  twice_told l rest n t r =
      let left : and_then (read_letters tool word before (l ∷ rest))
      (λ (read : List ParsedOption × Option ℕ). read_words tool read.0 read.1 words) ≡ Err (Twice l) =
      rw (n, t, r) refl in
      let tokens : tokens_in tool word (slice_get words 0) (l ∷ rest)
      ≡ value_token tool word l rest (slice_get words 0) ∷ [] = rw n refl in
      left ∙ told_fault tool before (value_token tool word l rest (slice_get words 0))
      (parsed_args_from tool (takes_next tool (l ∷ rest)) words) (Twice l) (twice_fault tool word l rest _ before t r)
      ∙ ap (λ ts. told tool before (prepend_tokens ts (parsed_args_from tool (takes_next tool (l ∷ rest)) words)))
      (sym tokens)

  letter_told : (l : ℕ) (rest : List ℕ) → is_flag tool l ≡ false → ((taken : Bool) → IsTold tool words taken)
      → AreTold (l ∷ rest)
  letter_told l rest n more = ⊎_elim (λ (t : takes_value tool l ≡ true). ⊎_elim (twice_told l rest n t)
      (λ (r : is_repeated tool before l ≡ false). value_told l rest n t r more)
      (cases_Bool (is_repeated tool before l))) (λ (t : takes_value tool l ≡ false). rw (n, t) refl)
      (cases_Bool (takes_value tool l))

letters_told : (tool : Tool) (word : List ℕ) (letters : List ℕ) (before : List ParsedOption) (words : List (List ℕ))
    → ((taken : Bool) → IsTold tool words taken) → AreTold tool word before words letters
letters_told tool word [] before words more = more false before
letters_told tool word (l ∷ ls) before words more =
    ⊎_elim (λ (is : is_flag tool l ≡ true). rw is (letters_told tool word ls (before ++ flag l ∷ []) words more
    ∙ told_valid tool before (flag l) (prepend_tokens (tokens_in tool word (slice_get words 0) ls)
    (parsed_args_from tool (takes_next tool ls) words)) (flag_has_no_fault tool before l)))
    (λ (n : is_flag tool l ≡ false). letter_told tool word before words l ls n more) (cases_Bool (is_flag tool l))

all_read : (before : List ParsedOption) (operands : List (List ℕ))
    → ◌≡◌ {A = Result (List ParsedOption × List (List ℕ)) Fault} (Ok (before, operands)) (Ok (before ++ [], operands))
all_read before operands = ap (λ (os : List ParsedOption). Ok (os, operands)) (sym (append-nil before))

next_told : (tool : Tool) (value : List ℕ) (words : List (List ℕ)) (before : List ParsedOption) (letter : ℕ)
    → is_repeated tool before letter ≡ false → IsTold tool words false
    → read_words tool (before ++ with_value letter value ∷ []) None words
    ≡ told tool before (prepend_tokens (Valid (with_value letter value) ∷ []) (parsed_args_from tool false words))
next_told tool value words before letter r more = more (before ++ with_value letter value ∷ [])
    ∙ told_valid tool before (with_value letter value) (parsed_args_from tool false words) (rw r refl)

nothing_told : (tool : Tool) (before : List ParsedOption) (letter : ℕ) → is_repeated tool before letter ≡ false
    → ◌≡◌ {A = Result (List ParsedOption × List (List ℕ)) Fault} (Err (NeedsValue letter))
    (told tool before (prepend_tokens (MissingValue letter ∷ []) (record { tokens = []; operands = [] })))
nothing_told tool before letter r = rw r refl

word_told : (tool : Tool) (word : List ℕ) (words : List (List ℕ)) → ((taken : Bool) → IsTold tool words taken)
    → IsTold tool (word ∷ words) false
word_told tool word words more before =
    ⊎_elim (λ (ends : is_end_of_options word ≡ true). rw ends (all_read before words))
    (λ (ends : is_end_of_options word ≡ false).
    ⊎_elim (λ (dashed : is_option_arg word ≡ true).
    rw (ends, dashed) (letters_told tool word (drop 1 word) before words more))
    (λ (plain : is_option_arg word ≡ false). rw (ends, plain) (all_read before (word ∷ words)))
    (cases_Bool (is_option_arg word)))
    (cases_Bool (is_end_of_options word))

words_told : (tool : Tool) (words : List (List ℕ)) (taken : Bool) → IsTold tool words taken
words_told tool [] false = λ before. all_read before []
words_told tool [] true = nothing_told tool
words_told tool (value ∷ words) true = λ before letter r.
    next_told tool value words before letter r (words_told tool words false)
words_told tool (word ∷ words) false = word_told tool word words (words_told tool words)

pub read_is_told : (tool : Tool) (words : List (List ℕ))
    → read_words tool [] None words ≡ told tool [] (parsed_args tool words)
read_is_told tool words = words_told tool words false []
