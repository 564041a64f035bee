-- A text of complete lines is the text of its lines, so the lines of a concatenation are those of both parts.
use Rattle.ptlines.proofs
use proofs.Common.{◌++◌, sym, ◌∙◌, ap, lines, arith}
use Rattle.ptlines.specs.Laws.Parts.{LinesOfParts}
use proofs.TextLaws.{lines_are, lines_of_unlines, unlines-lines}

pub the_lines_of_parts : LinesOfParts
the_lines_of_parts end a b whole =
    ap (λ l. lines end (l ++ b)) (sym (grind (arith, unlines-lines)))
    ∙ lines_of_unlines end _ b (lines_are end a)
