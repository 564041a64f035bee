-- `build_inputs`: one arm for each way to read the operands.
use Rattle.ptopts.proofs
use proofs.Common.{usual}
use proofs.parsing.ParsedArgs.build_inputs.Goals as goal

pub returns-in-Tr-default : goal.returns-in-Tr-default
returns-in-Tr-default g c = grind usual

pub returns-in-Uniq-len1-up : goal.returns-in-Uniq-len1-up
returns-in-Uniq-len1-up g c = grind usual

pub returns-in-Uniq-len2-up : goal.returns-in-Uniq-len2-up
returns-in-Uniq-len2-up g c = grind usual

pub returns-in_default : goal.returns-in_default
returns-in_default g c = grind usual
