-- The mask of the blanks has at most 32 bits. A bit is left for each byte that ends a field.
use Rattle.ptflow.proofs
use proofs.Common.{arith}
use proofs.UniqLemmas.Keys.{blanks_fit, ends_mask}
use proofs.tools.uniq.line_key.field_ends.Goals as goal

pub overflow_sub-result : goal.overflow_sub-result
overflow_sub-result c = omega (arith, blanks_fit c.args.bytes.now c.args.at c.requires c.mask_at-blanks.ensures)

pub returns : goal.returns
returns c = ends_mask c.args.bytes.now c.args.at c.requires c.mask_at-blanks.ensures
