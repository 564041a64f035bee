-- If no check finds a fault, `allowed_command` is the job with its inputs. A fault of the constraints is the first
-- fault of the words.
use Rattle.ptopts.proofs
use Rattle.ptopts.specs
use proofs.Common.{AreInputs, ArgsPost, Fault, Job, List, None, Ok, Option, ParsedOption, Some, Tool, ap}
use proofs.Common.{command_of_args, constraints_fault, input_operands, job, operands_fault}
use proofs.CommandGrammar.{read_to}
use proofs.SameFaults.{checks, old_command, same_command}
use proofs.Common.{ok_unless, refl, sym, tool_of_name, with_inputs, ℕ, ◌∙◌, ◌∷◌, ◌≡◌}
use Rattle.ptlangs.specs.Results.{IsFault}
use specs.Private.Faults.{strings_fault}
use specs.declared.inputs.Inputs.{Inputs}
use specs.Commands.{output}
use specs.Private.Jobs.{values_fault}
use specs.Private.Commands.{allowed_command}

pub allowed_command_ok : {A : Type 0} (tool : Tool) (os : List ParsedOption) (operands : List (List ℕ))
    (i : Inputs A) {told : Job}
    → values_fault tool os ≡ None → operands_fault tool os operands ≡ None → strings_fault tool os operands ≡ None
    → job tool os operands ≡ told → AreInputs (input_operands tool operands) (output tool operands) i
    → allowed_command tool os operands ≡ Ok (with_inputs told i)
allowed_command_ok tool os operands i values number strings same are =
    rw (values, number, strings) (ap Ok (sym (are (job tool os operands)) ∙ ap (λ (j : Job). with_inputs j i) same))

module _ (name : List ℕ) (words : List (List ℕ)) (tool : Tool) (os : List ParsedOption) (operands : List (List ℕ))
    (named : tool_of_name name ≡ Some tool) (read : ArgsPost tool words os operands) where
  -- the words give the command of the options and operands, or the first fault that the checks find
  meaning : command_of_args (name ∷ words) ≡ ok_unless (checks tool os operands) (old_command os operands tool)
  meaning = rw (named, read) (same_command os operands tool (read_to tool words os operands read).1)

  pub meaning_refused : (found : Option Fault) → found ≡ constraints_fault tool os
      → IsFault found (command_of_args (name ∷ words))
  meaning_refused None is = tt
  meaning_refused (Some e) is = meaning ∙ rw (sym is) refl

  pub meaning_checked : constraints_fault tool os ≡ None
      → command_of_args (name ∷ words) ≡ allowed_command tool os operands
  meaning_checked none = meaning ∙ rw none refl
