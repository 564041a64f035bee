-- The line with one part more: it holds the parts so far and this one. In the end it holds all of them and a newline.
use Rattle.ptrun.proofs
use proofs.Common.{usual, rules}
use proofs.MessageWrites.{joined_more}
use proofs.messages.line_of.Goals as goal

pub loop-part-preserved : goal.loop-part-preserved
loop-part-preserved c = search (rules, joined_more)

pub returns : goal.returns
returns c = grind usual
