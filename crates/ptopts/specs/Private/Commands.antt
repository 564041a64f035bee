-- The command of parsed options and operands, or the first fault of their values: the last part of a parse.
use Rattle.std.specs.Prelude.{ℕ, List, [], ◌∷◌, None, Option, Result, ok_or}
use Rattle.ptlangs.specs.Numbers.{and_then}
use Rattle.ptopts.specs.Args.{ParsedOption}
use Rattle.ptopts.specs.Commands.{Command, checked_command, command_over, input_operands, output, read_words}
use Rattle.ptopts.specs.Faults.{Fault, NoTool}
use Rattle.ptopts.specs.Private.Faults.{first_some, operands_fault, strings_fault}
use Rattle.ptopts.specs.Private.Jobs.{job, ok_unless, values_fault}
use Rattle.ptopts.specs.declared.tool.Tool.{Tool}

-- the command of the words after the name of a tool
abbrev pub command_of_tool : Option Tool → List (List ℕ) → Result Command Fault
command_of_tool tool words = and_then (ok_or tool NoTool)
    (λ (t : Tool). and_then (read_words t [] None words) (checked_command t))

-- the command of options that meet the constraints of the tool, or the first fault of the values, the operands and the
-- strings
abbrev pub allowed_command : Tool → List ParsedOption → List (List ℕ) → Result Command Fault
allowed_command tool os operands = ok_unless
    (first_some (values_fault tool os ∷ operands_fault tool os operands ∷ strings_fault tool os operands ∷ []))
    (command_over (job tool os operands) (input_operands tool operands) (output tool operands))
