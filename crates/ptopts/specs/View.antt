-- The view of a fault, which is a function from the values of the code to those of the definitions, and the contract of
-- the function that reads a command. (`Commands` has the views of words and commands.)
use Rattle.std.specs.Prelude.{ℕ, List, [], ◌∷◌, Option, Some, None, Result, IsSome}
use Rattle.ptlangs.specs.Results.{ParsePost}
use Rattle.ptopts.specs.declared.command.Command as code
use Rattle.ptopts.specs.declared.fault.UseFault.{UseFault}
use Rattle.ptopts.specs.declared.fault.UseFault.TheVariants.{Tool, Unknown, NeedsValue, Twice, Together, Value}
use Rattle.ptopts.specs.declared.fault.UseFault.TheVariants.{Operands, StandardTwice, NeedsList, String, Memory}
use Rattle.ptopts.specs.Args.{tool_of_name}
use Rattle.ptopts.specs.Faults as faults
use Rattle.ptopts.specs.Faults.{Fault}
use Rattle.ptopts.specs.Commands.{Command}
pub use Rattle.ptopts.specs.Commands.{words_view, with_inputs, command_view}

-- the fault that an error reports; `None` for an allocation failure
abbrev pub fault_view : UseFault → Option Fault
fault_view Tool = Some faults.NoTool
fault_view (Unknown word) = Some (faults.Unknown word.now)
fault_view (NeedsValue letter) = Some (faults.NeedsValue letter)
fault_view (Twice letter) = Some (faults.Twice letter)
fault_view (Together a b) = Some (faults.Together a b)
fault_view (Value letter value) = Some (faults.Value letter value.now)
fault_view Operands = Some faults.Operands
fault_view StandardTwice = Some faults.StandardTwice
fault_view NeedsList = Some faults.NeedsList
fault_view (String fault) = Some (faults.InString fault)
fault_view Memory = None

-- the function returns the command that the definition gives, or its first fault, or an allocation failure
abbrev pub CommandPost : {A : Type 0} → Result (code.Command A) UseFault → Result Command Fault → Type 0
CommandPost result meaning = ParsePost command_view fault_view result meaning

-- the first word is the name of a tool
abbrev pub HasToolName : List (List ℕ) → Type 0
HasToolName [] = ⊥
HasToolName (name ∷ words) = IsSome (tool_of_name name)
