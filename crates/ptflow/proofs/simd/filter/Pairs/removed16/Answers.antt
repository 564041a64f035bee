-- A bit is set if the byte is in the set and equal to the one that it is compared with.
use Rattle.ptflow.proofs
use proofs.Common.{rules}
use proofs.Vectors.Removal.{removed_mask_is, removed_mask_small}
use proofs.simd.filter.Pairs.removed16.Goals as goal

pub returns-clause-small : goal.returns-clause-small
returns-clause-small g c = search (rules, removed_mask_small)

pub returns-clause-mask : goal.returns-clause-mask
returns-clause-mask g c = search (rules, removed_mask_is)
