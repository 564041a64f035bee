-- The words are the lines that end with byte 0.
use Rattle.std.proofs.lemmas.Iterator.Consumers.{map_from_collect}
use Rattle.ptfiles.proofs.WordLemmas.{words_come}
use Rattle.ptfiles.proofs.words.words_of.Goals as goal

pub returns : goal.returns
returns g c =
    map_from_collect _ c.collect.ensures.ran (words_come c.args.text.now c.split_terminator.ensures.text
    c.split_terminator.ensures.has_more c.split_terminator.ensures.pattern)
