-- Lookup of an option gives the same on the options of the code and on their views.
use Rattle.ptopts.proofs
use proofs.Common.{Bool, List, [], ap, arith, find, has_option, list_any, option_and_then, option_map, options_view}
use proofs.Common.{refl, value_of, ℕ, ◌==◌, ◌||◌, ◌∷◌, ◌≡◌}
use Rattle.ptopts.specs.declared.parsing.ParsedOption.{ParsedOption}

pub has_option-view : (letter : ℕ) (os : List ParsedOption)
    → list_any (λ o. o.letter == letter) os ≡ has_option letter (options_view os)
has_option-view _ [] = refl
has_option-view letter (o ∷ os) = ap (λ (b : Bool). (o.letter == letter) || b) (has_option-view _ os)

pub value_of-view : (letter : ℕ) (os : List ParsedOption)
    → value_of letter (options_view os)
    ≡ option_and_then (λ o. option_map (λ v. v.now) o.value) (find (λ o. o.letter == letter) os)
value_of-view _ [] = refl
value_of-view letter (o ∷ os) = grind (arith, value_of-view letter os)
