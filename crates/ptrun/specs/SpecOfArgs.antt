-- From the arguments of a command to its specification.
use Rattle.std.specs.Prelude.{ℕ, List, [], Bool, false, ◌||◌, Option, Some, None, Result, Ok, Err, length}
use Rattle.std.specs.Prelude.{slice_index_or, is_none, is_some, if◌then◌else◌}
use Rattle.ptopts.specs.Commands.{Command, command_of_args, command_view}
use Rattle.ptopts.specs.Faults.{Fault}
use Rattle.ptopts.specs.View.{fault_view}
use Rattle.ptopts.specs.declared.fault.UseFault.{UseFault}
use Rattle.ptrun.specs.CommandSpec.{CommandSpec}
use Rattle.ptrun.specs.Bounds.{bound, disorder}
use Rattle.ptrun.specs.Decided.{all_received, decided, has_unopened, operand, output}
use Rattle.ptrun.specs.Merges.{Disorder}
use Rattle.ptrun.specs.Messages.{disorder_message, memory_message, usage_text}
use Rattle.ptrun.specs.Operands.{positions}
use Rattle.ptrun.specs.Slots.{spec_beyond, unread}
use Rattle.ptopts.specs.declared.command.Command as code

-- Nothing is read, nothing is written to the output, and `text` is the only message.
abbrev pub message_only : List ℕ → ℕ → CommandSpec
message_only text status = record {
  out = λ w. [];
  status = λ w. status;
  memory_bound = λ w. 0;
  decided = λ r. [];
  final_message = λ w. text;
  positions = [];
  tool = [];
  names = [];
  beyond = unread;
}

-- The message about a disorder, if there is one.
abbrev pub text_of_disorder : List ℕ → List (List ℕ) → List ℕ → Option Disorder → List ℕ
text_of_disorder tool names operands None = []
text_of_disorder tool names operands (Some d) = disorder_message tool names (operand operands d.file) d.line

-- The specification of a command of the tool with this name.
abbrev pub command_spec : List ℕ → Command → CommandSpec
command_spec tool c = let operands = positions c.order in record {
  out = λ w. output c.job operands (all_received w);
  status = λ w. if has_unopened operands w || is_some (disorder c.job operands (all_received w)) then 1 else 0;
  memory_bound = λ w. bound c.job operands (all_received w);
  decided = decided c.job operands;
  final_message = λ w. text_of_disorder tool c.names operands (disorder c.job operands (all_received w));
  positions = operands;
  tool = tool;
  names = c.names;
  beyond = spec_beyond c.job operands;
}

-- The name of the tool: the first argument, or empty if there is none.
abbrev pub tool_name : List (List ℕ) → List ℕ
tool_name words = slice_index_or words 0 []

-- The specification for a result of parsing: that of the command, or the message about the usage fault with status 2.
abbrev pub spec_of_result : List ℕ → Result Command Fault → CommandSpec
spec_of_result tool (Ok command) = command_spec tool command
spec_of_result tool (Err fault) = message_only (usage_text tool fault) 2

-- The specification of the command that these arguments are.
abbrev pub spec_of_args : List (List ℕ) → CommandSpec
spec_of_args words = spec_of_result (tool_name words) (command_of_args words)

-- Parsing ran out of memory.
abbrev pub is_memory_fault : {A : Type 0} → Result (code.Command A) UseFault → Bool
is_memory_fault (Ok command) = false
is_memory_fault (Err fault) = is_none (fault_view fault)

-- The specification for the arguments, unless parsing them ran out of memory: this is then the only message, with
-- status 1.
abbrev pub spec_unless_memory : List (List ℕ) → Bool → CommandSpec
spec_unless_memory words out_of_memory =
    if out_of_memory then message_only (memory_message (tool_name words)) 1 else spec_of_args words

-- The specification for the arguments and the result that parsing returned.
abbrev pub spec_of_parsed : {A : Type 0} → Result (code.Command A) UseFault → List (List ℕ) → CommandSpec
spec_of_parsed command words = spec_unless_memory words (is_memory_fault command)

-- The number of input files of the command that parsing returned, and `None` if it returned a fault.
abbrev pub file_count : {A : Type 0} → Result (code.Command A) UseFault → Option ℕ
file_count (Ok command) = Some (length (command_view command).names)
file_count (Err fault) = None
