-- There is room for each position that is pushed, since there are at most 512 operands.
use Rattle.ptrun.proofs
use proofs.Common.{arith, length-map, length-take-le}
use proofs.operands.positions_of.Goals as goal

pub push-requires : goal.push-requires
push-requires c = grind (arith, length-take-le, length-map)
