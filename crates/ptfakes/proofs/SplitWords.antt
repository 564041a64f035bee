-- The words of an example, written as one string with spaces between them.
use Prim.Native.String.{String}
use Rattle.std.proofs.Common.{ℕ, ◌==◌, List, [], ◌∷◌, codes}
use Rattle.std.specs.Prelude.{if◌then◌else◌}
use Rattle.std.specs.Str.{byte}

abbrev onto_first : ℕ → List (List ℕ) → List (List ℕ)
onto_first b [] = (b ∷ []) ∷ []
onto_first b (word ∷ words) = (b ∷ word) ∷ words

abbrev split_at_spaces : List ℕ → List (List ℕ)
split_at_spaces [] = [] ∷ []
split_at_spaces (b ∷ bs) = if b == byte " " then [] ∷ split_at_spaces bs else onto_first b (split_at_spaces bs)

abbrev pub words : String → List (List ℕ)
words text = split_at_spaces (codes text)
