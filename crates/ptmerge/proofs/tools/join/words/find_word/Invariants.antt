-- The words that were passed are no longer in the mask.
use Rattle.ptmerge.proofs
use proofs.JoinLemmas.FieldMasks.{WordsLeft}
use proofs.tools.join.words.find_word.Given as goal

abbrev pub invariant-loop-passed : goal.invariant-loop-passed
invariant-loop-passed l = WordsLeft l.line l._passed l.words
