-- Answer for `strings_need_no_memory`: the law that no string is rejected for lack of memory, a lemma of `TrPlans`.
use Rattle.ptlangs.proofs
use proofs.TrPlans.{never_memory}
use proofs.tr.plan.strings_need_no_memory.Goals as goal

pub returns : goal.returns
returns c = never_memory
