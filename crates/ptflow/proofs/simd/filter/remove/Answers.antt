-- Each byte is compared with itself, so each one of the set is removed.
use Rattle.ptflow.proofs
use proofs.Common.{◌∙◌}
use proofs.Vectors.Compress.{kept_self}
use proofs.simd.filter.remove.Goals as goal

pub returns-clause-kept : goal.returns-clause-kept
returns-clause-kept g c = c.filter_pairs-count.ensures.kept ∙ kept_self (g.T.ByteTest.has c.args.by.now.set) _
