-- Examples of the theorem about the lines of two parts, with both terminators and an empty first part. And a text
-- that is cut inside a line, which shows that the condition of the theorem is needed.
use Rattle.std.proofs.Common.{◌≡◌, inl, inr, ℕ, List, [], ◌∷◌, ◌++◌, length, refl, ap, arith, codes}
use Rattle.ptlines.specs.Text.{lines}
use Rattle.ptlines.specs.Laws.Parts.{HasOnlyCompleteLines}
use Rattle.ptlines.proofs.PartLaws.{the_lines_of_parts}

first_is_complete : HasOnlyCompleteLines 10 (codes "a\nb\n")
first_is_complete = inr (codes "a\nb", refl)

-- the theorem, applied to a first part that ends with a newline
by_the_law : lines 10 (codes "a\nb\nc\nd") ≡ lines 10 (codes "a\nb\n") ++ lines 10 (codes "c\nd")
by_the_law = the_lines_of_parts 10 (codes "a\nb\n") (codes "c\nd") first_is_complete

lines_of_both : lines 10 (codes "a\nb\n") ++ lines 10 (codes "c\nd")
    ≡ codes "a" ∷ codes "b" ∷ codes "c" ∷ codes "d" ∷ []
lines_of_both = refl

zero_ends_lines : lines 0 (codes "a\nb\0c") ≡ lines 0 (codes "a\nb\0") ++ lines 0 (codes "c")
zero_ends_lines = the_lines_of_parts 0 (codes "a\nb\0") (codes "c") (inr (codes "a\nb", refl))

empty_first_part : lines 10 (codes "a\n") ≡ lines 10 [] ++ lines 10 (codes "a\n")
empty_first_part = the_lines_of_parts 10 [] (codes "a\n") (inl refl)

-- ---- a cut inside a line makes two lines of one, so the condition of the theorem is needed

line_of_both : lines 10 (codes "a" ++ codes "b\n") ≡ codes "ab" ∷ []
line_of_both = refl

lines_apart : lines 10 (codes "a") ++ lines 10 (codes "b\n") ≡ codes "a" ∷ codes "b" ∷ []
lines_apart = refl

condition_is_needed : ((end : ℕ) (a b : List ℕ) → lines end (a ++ b) ≡ lines end a ++ lines end b) → ⊥
condition_is_needed law = omega (arith, ap length (law 10 (codes "a") (codes "b\n")))
