-- `parts_of_lines`: the theorem that its contract states is the one proved in `PartLaws`.
use Rattle.ptlines.proofs
use proofs.PartLaws.{the_lines_of_parts}
use proofs.parts.parts_of_lines.Goals as goal

pub returns : goal.returns
returns c = the_lines_of_parts
