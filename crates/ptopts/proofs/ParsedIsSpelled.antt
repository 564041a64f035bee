-- A parse without a faulty token is one of the grammar: each word of options is flags, perhaps with an option that
-- takes the rest of the word or the next word as its value. So the grammar
-- accepts words whose parse has no fault (`spelled_if_fine`).
use Rattle.ptopts.proofs
use Rattle.std.proofs.lemmas
use proofs.Common.{AreFlags, Bool, EndOfOptions, Flags, List, None, OperandsAlone, ParsedOption, parsed_args}
use proofs.Common.{Spells, Token, Tool, Valid, ValueAttached, ValueNext, []}
use proofs.Common.{ap, append_assoc, arith, codes, false, filter_map, flag}
use proofs.Common.{is_end_of_options, is_flag, is_option_arg, is_some, list_all, map, option_of_token}
use proofs.Common.{options, parse_fault, parsed_args_from, refl, rules, slice_get, subst, sym, takes_next, takes_value}
use proofs.Common.{tokens_in, true, value_token, ℕ, ⊎_elim, ◌&&◌, ◌++◌, ◌∷◌, ◌≡◌, usual}
use proofs.SpelledIsParsed.{takes_next-all_flags, takes_next-flags, tokens_in-all_flags, tokens_in-flags}
use lemmas.Slice.Eq.{bytes_eq-Decides}
use lemmas.Bool.{and_from, cases_Bool, not_from_false}
use Rattle.ptlangs.specs.Numbers.{is_empty}
use Rattle.ptopts.specs.Private.Tokens.{with_token}

abbrev all_given : List Token → Bool
all_given tokens = list_all (λ e. is_some (option_of_token e)) tokens

all_given-map : (os : List ParsedOption) → all_given (map Valid os) ≡ true
all_given-map [] = refl
all_given-map (o ∷ os) = all_given-map os

all_given-prefixed : (os : List ParsedOption) (tokens : List Token)
    → all_given (map Valid os ++ tokens) ≡ all_given tokens
all_given-prefixed [] tokens = refl
all_given-prefixed (o ∷ os) tokens = all_given-prefixed os tokens

pub options-map : (os : List ParsedOption) → filter_map option_of_token (map Valid os) ≡ os
options-map [] = refl
options-map (o ∷ os) = ap (λ (xs : List ParsedOption). o ∷ xs) (options-map os)

options-prefixed : (os : List ParsedOption) (tokens : List Token)
    → filter_map option_of_token (map Valid os ++ tokens) ≡ os ++ filter_map option_of_token tokens
options-prefixed [] tokens = refl
options-prefixed (o ∷ os) tokens = grind (arith, options-prefixed os tokens)

data Split (tool : Tool) : List ℕ → Type 0 where
  AllFlags : (fs : List ℕ) → AreFlags tool fs → Split tool fs
  OneMore : (fs : List ℕ) (l : ℕ) (rest : List ℕ) → AreFlags tool fs → is_flag tool l ≡ false
      → Split tool (fs ++ l ∷ rest)

split_behind : (tool : Tool) (l : ℕ) {ls : List ℕ} → is_flag tool l ≡ true → Split tool ls → Split tool (l ∷ ls)
split_behind _ l is (AllFlags fs a) = AllFlags (l ∷ fs) (grind (arith, and_from, is_flag, list_all))
split_behind _ l is (OneMore fs m rest a n) = OneMore (l ∷ fs) m rest (grind (arith, and_from, is_flag, list_all)) n

split : (tool : Tool) (letters : List ℕ) → Split tool letters
split _ [] = AllFlags [] refl
split tool (l ∷ ls) = ⊎_elim (λ is. split_behind tool l is (split _ ls)) (λ n. OneMore [] l ls refl n) (cases_Bool _)

-- the words without the first one if that is a value
abbrev untaken : Bool → List (List ℕ) → List (List ℕ)
untaken true [] = []
untaken true (word ∷ words) = words
untaken false words = words

abbrev IsSpelled : Tool → List (List ℕ) → Bool → Type 0
IsSpelled tool ws taken =
    all_given (parsed_args_from tool taken ws).tokens ≡ true
    → Spells tool (untaken taken ws) (options (parsed_args_from tool taken ws))
    (parsed_args_from tool taken ws).operands

-- like `IsSpelled`, with these tokens of `word` before the others
abbrev GroupIsSpelled : Tool → List ℕ → List (List ℕ) → List Token → Bool → Type 0
GroupIsSpelled tool word ws tokens taken =
    all_given (tokens ++ (parsed_args_from tool taken ws).tokens) ≡ true
    → Spells tool (word ∷ ws) (filter_map option_of_token (tokens ++ (parsed_args_from tool taken ws).tokens))
    (parsed_args_from tool taken ws).operands

flags_spelled : (tool : Tool) (f : ℕ) (fs : List ℕ) (ws : List (List ℕ)) → AreFlags tool (f ∷ fs)
    → IsSpelled tool ws false → GroupIsSpelled tool (45 ∷ f ∷ fs) ws (map Valid (map flag (f ∷ fs))) false
flags_spelled = grind (arith, all_given-prefixed, options-prefixed, Flags)

valued_spelled : (tool : Tool) (fs : List ℕ) (l : ℕ) (rest : List ℕ) (ws : List (List ℕ)) → AreFlags tool fs
    → is_flag tool l ≡ false → ((taken : Bool) → IsSpelled tool ws taken)
    → GroupIsSpelled tool (45 ∷ fs ++ l ∷ rest) ws
    (map Valid (map flag fs) ++ value_token tool (45 ∷ fs ++ l ∷ rest) l rest (slice_get ws 0) ∷ [])
    (takes_value tool l && is_empty rest)
valued_spelled = grind (arith, append_assoc, all_given-prefixed, options-prefixed, ValueAttached, ValueNext)

group_spelled : (tool : Tool) {letters : List ℕ} (ws : List (List ℕ)) → is_empty letters ≡ false → Split tool letters
    → ((taken : Bool) → IsSpelled tool ws taken)
    → GroupIsSpelled tool (45 ∷ letters) ws (tokens_in tool (45 ∷ letters) (slice_get ws 0) letters)
    (takes_next tool letters)
group_spelled _ ws some (AllFlags [] a) more = cc
group_spelled _ ws some (AllFlags (f ∷ fs) a) more =
    rw (tokens_in-all_flags _ _ _ _ a, takes_next-all_flags _ _ a) (flags_spelled _ f fs ws a (more false))
group_spelled _ ws some (OneMore fs l rest a n) more = grind (
  arith,
  tokens_in-flags,
  takes_next-flags,
  valued_spelled,
)

operand_spelled : (tool : Tool) (word : List ℕ) (ws : List (List ℕ)) → is_end_of_options word ≡ false
    → is_option_arg word ≡ false → IsSpelled tool (word ∷ ws) false
operand_spelled tool word ws ends plain = rw (ends, plain) (λ given. OperandsAlone (word ∷ ws) (not_from_false _ plain))

word_spelled : (tool : Tool) (word : List ℕ) (ws : List (List ℕ)) → is_end_of_options word ≡ false
    → ((taken : Bool) → IsSpelled tool ws taken) → IsSpelled tool (word ∷ ws) false
word_spelled = grind (usual, group_spelled, split, operand_spelled)

built : (tool : Tool) (ws : List (List ℕ)) (taken : Bool) → IsSpelled tool ws taken
built _ [] true = λ given. OperandsAlone [] refl
built _ [] false = λ given. OperandsAlone [] refl
built tool (word ∷ ws) true = built tool ws false
built tool (word ∷ ws) false =
    ⊎_elim (λ ends. let (same, _) = bytes_eq-Decides word (codes "--") in
    rw ends (λ given. subst (λ (w : List ℕ). Spells tool (w ∷ ws) [] ws) (sym (same ends)) (EndOfOptions ws)))
    (λ ends. word_spelled _ _ ws ends (built _ ws)) (cases_Bool _)

all_given_unless_faulty : (tool : Tool) (before : List ParsedOption) (tokens : List Token)
    → parse_fault tool before tokens ≡ None → all_given tokens ≡ true
all_given_unless_faulty _ _ [] none = refl
all_given_unless_faulty tool before (token ∷ tokens) none =
    grind (arith, all_given_unless_faulty tool (with_token before token) tokens)

pub spelled_if_fine : (tool : Tool) (words : List (List ℕ)) → parse_fault tool [] (parsed_args tool words).tokens ≡ None
    → Spells tool words (options (parsed_args tool words)) (parsed_args tool words).operands
spelled_if_fine tool words none = search (rules, built, all_given_unless_faulty)
