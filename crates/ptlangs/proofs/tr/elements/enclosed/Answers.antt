-- Answers for `enclosed`. After a colon, the class is the one with the name before the next colon. After an equals
-- sign, the byte is that of the first character.
use Rattle.ptlangs.proofs
use proofs.Common.{chars, drop, length, sym, take, usual, ◌-◌, ◌∙◌}
use proofs.TrGrammar.{chars-plain, enclosed-class, equivalence-first}
use proofs.tr.elements.enclosed.Goals as goal

pub returns-else-is_empty-clause-reads : goal.returns-else-is_empty-clause-reads
returns-else-is_empty-clause-reads c =
    let text = c.args.text.now in
    let is = enclosed-class (chars text) (chars (take (length text - 1) (drop 1 text))) _ _ (grind (usual, chars-plain))
    c.split_run.ensures.run c.split_run.ensures.rest (sym c.is_empty.ensures ∙ c.if-is_empty.false) in
    c.close.ensures.reads ∙ rw (c.from_name.ensures, is)

pub returns-in_ok-ok-in-61-clause-reads : goal.returns-in_ok-ok-in-61-clause-reads
returns-in_ok-ok-in-61-clause-reads c = grind (usual, chars-plain, equivalence-first)

pub returns-in_err-ok-in-61-clause-reads : goal.returns-in_err-ok-in-61-clause-reads
returns-in_err-ok-in-61-clause-reads c = grind (usual, chars-plain, equivalence-first)
