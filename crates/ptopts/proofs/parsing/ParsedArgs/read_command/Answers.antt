-- `read_command`: if no check finds a fault, the job of the tool and its inputs are the command of the definition.
use Rattle.ptopts.proofs
use proofs.Common.{arith}
use proofs.CheckedCommand.{allowed_command_ok}
use proofs.parsing.ParsedArgs.read_command.Goals as goal

pub returns : goal.returns
returns g c = grind (arith, allowed_command_ok)
