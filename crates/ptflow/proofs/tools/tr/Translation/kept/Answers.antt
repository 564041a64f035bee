-- If the set of deleted bytes is empty, all bytes are kept.
use Rattle.ptflow.proofs
use proofs.Common.{sym}
use proofs.TrLemmas.TrFrom.{filter_all}
use proofs.tools.tr.Translation.kept.Goals as goal

pub returns-in-Empty-clause-kept : goal.returns-in-Empty-clause-kept
returns-in-Empty-clause-kept c = sym (filter_all _ (rw c.in-Empty.is at c.args.self.now.is_deleting) _)
