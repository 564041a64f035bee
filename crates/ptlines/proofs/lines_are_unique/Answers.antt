-- `lines_are_unique`: the two theorems that its contract states are those proved in `TextLaws`.
use Rattle.ptlines.proofs
use proofs.TextLaws.{the_lines, the_complete_lines}
use proofs.lines_are_unique.Goals as goal

pub returns : goal.returns
returns c = record { unique = the_lines; eof = the_complete_lines }
