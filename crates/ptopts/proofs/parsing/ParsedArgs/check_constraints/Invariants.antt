-- The constraints so far are met: the fault of all constraints is the first fault of those that are left.
use Rattle.ptopts.proofs
use proofs.Common.{constraint_fault, constraints_fault, drop, first_some, map, options_of, ◌≡◌}
use proofs.parsing.ParsedArgs.check_constraints.Given as goal

abbrev pub invariant-loop-constraint : goal.invariant-loop-constraint
invariant-loop-constraint g l =
    constraints_fault l.fn.tool (options_of l.self)
    ≡ first_some (map (constraint_fault (options_of l.self)) (drop l.constraint-index l.constraints))
