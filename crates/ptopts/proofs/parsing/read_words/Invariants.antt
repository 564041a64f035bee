-- The loop of `read_words`: the options so far and the parse of the remaining words are the parse of all words
-- (`ArgsRead`), and fewer words remain after each turn.
use Rattle.ptopts.proofs
use proofs.Common.{length, options_view, words_view}
use proofs.ArgsInvariant.{ArgsRead}
use proofs.parsing.read_words.Given as goal

abbrev pub invariant-loop-word : goal.invariant-loop-word
invariant-loop-word g l = ArgsRead l.tool (words_view l.words) (options_view l.options.items) (words_view l.rest)

abbrev pub decreases-loop-word : goal.decreases-loop-word
decreases-loop-word g l = length l.rest
