-- If the grammar gives options and operands to words, their parse gives the same (`spelled`). A dash is not an
-- option, and no option is both with and without a value, so only one case of the parse applies to each word. Also
-- the tokens of a word that begins with options without a value.
use Rattle.ptopts.proofs
use proofs.Common.{AreFlags, Bool, EndOfOptions, Flags, IsTrue, List, OperandsAlone, Option, ParsedOption, Spells}
use proofs.Common.{Token, Tool, Valid, ValueAttached, ValueNext, [], ap, append-nil, arith, usual, false, flag, is_flag}
use proofs.Common.{list_all, map, parsed_args_from, refl, slice_get, sym, takes_next, takes_value, tokens_in}
use proofs.Common.{true, ℕ, ⊎_elim, ◌++◌, ◌==◌, ◌∙◌, ◌∷◌, ◌≡◌}
use proofs.EachTool.{syntax_is}
use Rattle.ptopts.specs.Args.{has_letter}
use Rattle.ptopts.specs.Args.{with_value}
use Rattle.ptopts.specs.Private.Tokens.{ParsedArgs, prepend_tokens}
use Rattle.ptopts.specs.Laws.Args.{starts_with_operand}
use Rattle.std.proofs.lemmas.Bool.{and_parts, eqb-true, ne_eqb, not-true, or_cases}

pub all_of : (p : ℕ → Bool) (cs : List ℕ) (l : ℕ) → list_all p cs ≡ true → has_letter l cs ≡ true → p l ≡ true
all_of p [] l a h = cc
all_of p (c ∷ cs) l a h =
    let (first, others) = and_parts (p c) (list_all p cs) a in
    ⊎_elim (grind (arith, eqb-true)) (all_of p cs l others) (or_cases (c == l) (has_letter l cs) h)

pub no_flag : (tool : Tool) (l : ℕ) → takes_value tool l ≡ true → is_flag tool l ≡ false
no_flag = grind (arith, not-true, all_of)

pub tokens_in-flags : (tool : Tool) (word : List ℕ) (next : Option (List ℕ)) (fs rest : List ℕ) → AreFlags tool fs
    → tokens_in tool word next (fs ++ rest) ≡ map Valid (map flag fs) ++ tokens_in tool word next rest
tokens_in-flags _ _ _ [] rest a = refl
tokens_in-flags tool word next (f ∷ fs) rest a =
    let (first, others) = and_parts (is_flag tool f) (list_all (is_flag tool) fs) a in
    rw first (ap (λ (es : List Token). Valid (flag f) ∷ es) (tokens_in-flags _ _ _ fs _ others))

pub takes_next-flags : (tool : Tool) (fs rest : List ℕ) → AreFlags tool fs
    → takes_next tool (fs ++ rest) ≡ takes_next tool rest
takes_next-flags _ [] rest a = refl
takes_next-flags tool (f ∷ fs) rest a =
    let (first, others) = and_parts (is_flag tool f) (list_all (is_flag tool) fs) a in
    rw first (takes_next-flags tool fs rest others)

pub tokens_in-all_flags : (tool : Tool) (word : List ℕ) (next : Option (List ℕ)) (fs : List ℕ) → AreFlags tool fs
    → tokens_in tool word next fs ≡ map Valid (map flag fs)
tokens_in-all_flags tool word next fs a = ap (tokens_in tool word next) (sym (append-nil fs))
    ∙ tokens_in-flags _ _ _ fs [] a ∙ append-nil (map Valid (map flag fs))

pub takes_next-all_flags : (tool : Tool) (fs : List ℕ) → AreFlags tool fs → takes_next tool fs ≡ false
takes_next-all_flags tool fs a = ap (takes_next tool) (sym (append-nil fs)) ∙ takes_next-flags _ fs [] a

-- a word of options is a dash and at least one letter
group_is_read : (tool : Tool) (l : ℕ) (ls : List ℕ) (ws : List (List ℕ)) → ((l ≡ 45) → ⊥)
    → parsed_args_from tool false ((45 ∷ l ∷ ls) ∷ ws)
    ≡ prepend_tokens (tokens_in tool (45 ∷ l ∷ ls) (slice_get ws 0) (l ∷ ls))
    (parsed_args_from tool (takes_next tool (l ∷ ls)) ws)
group_is_read _ l ls ws n = rw (ne_eqb l 45 n) refl

value_not_dash : (tool : Tool) (l : ℕ) → takes_value tool l ≡ true → l ≡ 45 → ⊥
value_not_dash = grind (arith, syntax_is)

flag_not_dash : (tool : Tool) (f : ℕ) (fs : List ℕ) → AreFlags tool (f ∷ fs) → f ≡ 45 → ⊥
flag_not_dash = grind (arith, syntax_is)

valued_group : (tool : Tool) (fs : List ℕ) (l : ℕ) (rest : List ℕ) (ws : List (List ℕ)) → AreFlags tool fs
    → takes_value tool l ≡ true
    → parsed_args_from tool false ((45 ∷ fs ++ l ∷ rest) ∷ ws)
    ≡ prepend_tokens (tokens_in tool (45 ∷ fs ++ l ∷ rest) (slice_get ws 0) (fs ++ l ∷ rest))
    (parsed_args_from tool (takes_next tool (fs ++ l ∷ rest)) ws)
valued_group tool [] l rest ws a t = group_is_read tool l rest ws (value_not_dash tool l t)
valued_group tool (f ∷ fs) l rest ws a t = group_is_read tool f (fs ++ l ∷ rest) ws (flag_not_dash tool f fs a)

pub map-Valid-append : (xs ys : List ParsedOption) → map Valid (xs ++ ys) ≡ map Valid xs ++ map Valid ys
map-Valid-append = grind usual

abbrev pub args_of : List ParsedOption → List (List ℕ) → ParsedArgs
args_of options operands = record { tokens = map Valid options; operands = operands }

ends_here : (tool : Tool) (ws : List (List ℕ)) → IsTrue (starts_with_operand ws)
    → parsed_args_from tool false ws ≡ args_of [] ws
ends_here = grind usual

-- the parse of flags and an option with a value, from its token and the parse of the words after it
valued : (tool : Tool) (fs : List ℕ) (l : ℕ) (rest : List ℕ) (ws : List (List ℕ)) (o : ParsedOption) (t : Bool)
    (options : List ParsedOption) (operands : List (List ℕ)) → AreFlags tool fs → takes_value tool l ≡ true
    → tokens_in tool (45 ∷ fs ++ l ∷ rest) (slice_get ws 0) (l ∷ rest) ≡ Valid o ∷ []
    → takes_next tool (l ∷ rest) ≡ t → parsed_args_from tool t ws ≡ args_of options operands
    → parsed_args_from tool false ((45 ∷ fs ++ l ∷ rest) ∷ ws) ≡ args_of (map flag fs ++ o ∷ options) operands
valued _ fs l _ ws o t _ _ a v token next parsed =
    grind (usual, tokens_in-flags, slice_get, takes_next-flags, valued_group)

pub spelled : (tool : Tool) {ws : List (List ℕ)} {options : List ParsedOption} {operands : List (List ℕ)}
    → Spells tool ws options operands → parsed_args_from tool false ws ≡ args_of options operands
spelled _ (OperandsAlone operands first) = ends_here _ _ first
spelled _ (EndOfOptions operands) = refl
spelled tool (Flags f fs words options operands a s) =
    let tokens = tokens_in-all_flags tool (45 ∷ f ∷ fs) (slice_get words 0) (f ∷ fs) a in
    group_is_read tool f fs words (flag_not_dash tool f fs a)
    ∙ rw (tokens, takes_next-all_flags _ _ a, spelled _ s) (grind (arith, map-Valid-append))
spelled _ (ValueAttached fs l b bs words options operands a t s) =
    valued _ fs l _ _ _ _ _ _ a t (rw (no_flag _ l t, t) refl) (rw (no_flag _ l t, t) refl) (spelled _ s)
spelled _ (ValueNext fs l value words options operands a t s) =
    valued _ fs l [] (value ∷ words) (with_value l value) true options operands a t (rw (no_flag _ l t, t) refl)
    (rw (no_flag _ l t, t) refl) (spelled _ s)
