-- The loop over the words: the options so far and the parse of the remaining words are the parse of all words
-- (`ArgsRead`). The steps of the loop: a word of options is read, or has a fault; and fewer words are left.
use Rattle.ptopts.proofs
use proofs.Common.{Bool, Bor, Err, Fault, GroupPost, List, None, OnSome, Option, ParsedOption, Some, Token, Tool, []}
use proofs.Common.{ap}
use proofs.Common.{append_assoc, arith, drop, false, is_end_of_options, is_option_arg, length, ok_unless}
use proofs.Common.{options_of_tokens, parse_fault, parsed_args, parsed_args_from, refl, slice_get, sym, takes_next}
use proofs.Common.{tokens_of, true, usual, words_view, ℕ, ◌++◌, ◌<◌, ◌∙◌, ◌∷◌, ◌≡◌}
use proofs.ReadWords.{told}
use Rattle.ptlangs.specs.Results.{IsFault}
use Rattle.ptopts.specs.Commands.{read_words}
use Rattle.ptopts.specs.Private.ParseSteps.{next_view, words_after_value}
use Rattle.ptopts.specs.Private.Tokens.{ParsedArgs, prepend_tokens}
use Rattle.std.proofs.lemmas.List.Elements.{filter_map-append}
use Rattle.std.proofs.lemmas.Option.{slice_get-map}

pub record ArgsRead (tool : Tool) (words : List (List ℕ)) (os : List ParsedOption) (left : List (List ℕ)) : Type 0 where
  pub is : read_words tool [] None words ≡ told tool os (parsed_args tool left)

pub next_first : (next : Option (Bor (List ℕ))) (more : List (Bor (List ℕ))) → next ≡ slice_get more 0
    → next_view next ≡ slice_get (words_view more) 0
next_first = grind (arith, slice_get-map)

told_fails : (tool : Tool) (os : List ParsedOption) (tokens : List Token) (p : ParsedArgs) (e : Fault)
    → ((more : List Token) → parse_fault tool os (tokens ++ more) ≡ Some e)
    → told tool os (prepend_tokens tokens p) ≡ Err e
told_fails tool os tokens p e fails = rw (fails p.tokens) refl

told_group : (tool : Tool) (os new : List ParsedOption) (tokens : List Token) (p : ParsedArgs)
    → new ≡ os ++ options_of_tokens tokens
    → ((more : List Token) → parse_fault tool os (tokens ++ more) ≡ parse_fault tool new more)
    → told tool os (prepend_tokens tokens p) ≡ told tool new p
told_group tool os new tokens p is faultless =
    let all : os ++ options_of_tokens (tokens ++ p.tokens) ≡ new ++ options_of_tokens p.tokens =
    grind (usual, filter_map-append, append_assoc) in
    rw (faultless p.tokens) (ap (λ xs. ok_unless (parse_fault tool new p.tokens) (xs, p.operands)) all)

left_parsed : (tool : Tool) (taken : Bool) (more : List (List ℕ))
    → parsed_args_from tool taken more ≡ parsed_args tool (words_after_value taken more)
left_parsed tool true [] = refl
left_parsed tool true (word ∷ more) = refl
left_parsed tool false more = refl

module _ (tool : Tool) (words : List (List ℕ)) (os : List ParsedOption) (word : List ℕ) (next : Option (List ℕ))
    (more : List (List ℕ)) (first : next ≡ slice_get more 0) (ends : is_end_of_options word ≡ false)
    (dashed : is_option_arg word ≡ true) where
  parsed : parsed_args tool (word ∷ more)
      ≡ prepend_tokens (tokens_of tool word next) (parsed_args_from tool (takes_next tool (drop 1 word)) more)
  parsed = rw (ends, dashed, first) refl

  pub group_fails : (found : Option Fault)
      → OnSome found ((tokens : List Token) → parse_fault tool os (tokens_of tool word next ++ tokens) ≡ found)
      → ArgsRead tool words os (word ∷ more) → IsFault found (read_words tool [] None words)
  group_fails None fails read = tt
  group_fails (Some e) fails read = read.is ∙ ap (told tool os) parsed
      ∙ told_fails tool os (tokens_of tool word next)
      (parsed_args_from tool (takes_next tool (drop 1 word)) more) e fails

  pub group_read : (new : List ParsedOption) (left : List (List ℕ)) (taken : Bool)
      → GroupPost tool word next os new taken → left ≡ words_after_value taken more
      → ArgsRead tool words os (word ∷ more) → ArgsRead tool words new left
  group_read new left taken post after read = record {
    is = read.is ∙ ap (told tool os) parsed
        ∙ told_group tool os new (tokens_of tool word next) (parsed_args_from tool (takes_next tool (drop 1 word)) more)
        post.options post.faultless
        ∙ ap (λ t. told tool new (parsed_args_from tool t more)) (sym post.takes)
        ∙ ap (told tool new) (left_parsed tool taken more ∙ ap (parsed_args tool) (sym after));
  }

pub left_smaller : (taken : Bool) (words left : List (Bor (List ℕ))) (word : Bor (List ℕ)) (more : List (Bor (List ℕ)))
    → words ≡ word ∷ more → words_view left ≡ words_after_value taken (words_view more) → length left < length words
left_smaller = grind usual
