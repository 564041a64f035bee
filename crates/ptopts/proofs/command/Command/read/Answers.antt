-- Each step of the code is one step of `command_of_args`. A step that fails returns the first fault.
use Rattle.ptopts.proofs
use proofs.Common.{CommandPost, arith, command_of_args, on_fault, sym, words_view, ◌∷◌}
use proofs.CheckedCommand.{meaning_checked, meaning_refused}
use proofs.command.Command.read.Goals as goal

pub returns-in_err-check_constraints-clause-parsed : goal.returns-in_err-check_constraints-clause-parsed
returns-in_err-check_constraints-clause-parsed g c =
    rw c.in-Some.ensures.cases.0 (on_fault
    (λ r. CommandPost r (command_of_args (c.in-Some.name.now.now ∷ words_view c.in-Some.rest.now))) _ _
    c.from_residual-in_err-check_constraints.ensures.1
    (meaning_refused c.in-Some.name.now.now (words_view c.in-Some.rest.now) _ _ _ (sym c.in-Some-from_name.ensures) c.in_ok-args.ensures.ok _
    c.in_err-check_constraints.ensures.1))

pub returns-clause-parsed : goal.returns-clause-parsed
returns-clause-parsed g c =
    rw (
      c.in-Some.ensures.cases.0,
      meaning_checked c.in-Some.name.now.now (words_view c.in-Some.rest.now) _ _ _ (sym c.in-Some-from_name.ensures)
          c.in_ok-args.ensures.ok c.in_ok-check_constraints.ensures,
    ) c.read_command.ensures

pub returns-in_default-from_name-clause-parsed : goal.returns-in_default-from_name-clause-parsed
returns-in_default-from_name-clause-parsed g c = grind arith
