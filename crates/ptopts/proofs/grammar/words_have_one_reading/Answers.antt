-- `words_have_one_reading`: the grammar is unambiguous, since the options and operands that it gives to words are
-- always those of their parse.
use Rattle.ptopts.proofs
use proofs.CommandGrammar.{read_as_spelled}
use proofs.ParsedIsSpelled.{options-map}
use proofs.grammar.words_have_one_reading.Goals as goal
use proofs.Common.{arith}
use proofs.SpelledIsParsed.{spelled}

pub returns-clause-matches_grammar : goal.returns-clause-matches_grammar
returns-clause-matches_grammar c = λ tool words os operands. read_as_spelled tool words os operands

pub returns-clause-unambiguous : goal.returns-clause-unambiguous
returns-clause-unambiguous c = grind (arith, spelled, options-map)
