-- Each fault has one message, which its branch says.
use Rattle.ptrun.proofs
use proofs.Common.{rules}
use proofs.usage.say_usage_fault.Goals as goal

pub returns-in-Together-clause-message : goal.returns-in-Together-clause-message
returns-in-Together-clause-message g c = search rules

pub returns-in-Value-clause-message : goal.returns-in-Value-clause-message
returns-in-Value-clause-message g c = rw c.in-Value.is c.say_option-in-Value.ensures

pub returns-in-Operands-clause-message : goal.returns-in-Operands-clause-message
returns-in-Operands-clause-message g c = rw c.in-Operands.is c.say-in-Operands.ensures

pub returns-in-StandardTwice-clause-message : goal.returns-in-StandardTwice-clause-message
returns-in-StandardTwice-clause-message g c = rw c.in-StandardTwice.is c.say-in-StandardTwice.ensures

pub returns-in-Twice-clause-message : goal.returns-in-Twice-clause-message
returns-in-Twice-clause-message g c = rw c.in-Twice.is c.say_option-in-Twice.ensures

pub returns-in-NeedsValue-clause-message : goal.returns-in-NeedsValue-clause-message
returns-in-NeedsValue-clause-message g c = rw c.in-NeedsValue.is c.say_option.ensures
