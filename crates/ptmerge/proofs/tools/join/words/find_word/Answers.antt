-- If no bit is left after the loop, the line has too few words.
use Rattle.ptmerge.proofs
use proofs.Common.{arith, rules}
use proofs.JoinLemmas.FieldMasks.{none_left, words_small}
use proofs.tools.join.words.find_word.Goals as goal

pub returns-then-words-eq0 : goal.returns-then-words-eq0
returns-then-words-eq0 c = none_left c.requires.short c.loop-passed.invariant _ c.if-words-eq0.true
    (omega arith)

pub after_first_run-words-requires : goal.after_first_run-words-requires
after_first_run-words-requires c = search (rules, words_small)

pub after_first_run-requires : goal.after_first_run-requires
after_first_run-requires c = search (rules, words_small)
