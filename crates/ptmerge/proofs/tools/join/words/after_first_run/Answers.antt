-- The addition in `after_first_run` does not overflow, since the mask is less than 2^63.
use Rattle.ptmerge.proofs
use proofs.Common.{◌-◌, arith}
use lib.Bits.{or_lt}
use proofs.tools.join.words.after_first_run.Goals as goal

pub overflow_add-result : goal.overflow_add-result
overflow_add-result c =
    record { fits = omega (arith, or_lt 63 c.args.mask (c.args.mask - 1) c.requires.1 (omega arith)) }
