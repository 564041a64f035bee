-- The entry at an index is the one at the index modulo the length, so the cycle repeats the given bytes.
use Rattle.ptflow.proofs
use proofs.Common.{◌%◌, [], ◌∷◌, length, ap, arith, mod-lt, mod-eq_of_lt}
use proofs.simd.replace.Cycle.new.Goals as goal

pub invariant_of-result : goal.invariant_of-result
invariant_of-result c =
    let at = c.loop-number.invariant.at in
    record {
      is_unrolled = record {
        some = c.requires.0;
        few = c.requires.1;
        at = λ number low. grind (arith, mod-eq_of_lt, mod-lt, at number, at (number % length c.args.bytes.now));
      };
    }

pub returns-clause-bytes : goal.returns-clause-bytes
returns-clause-bytes c = λ number.
    ap (λ x. x ∷ []) (rw (mod-eq_of_lt (mod-lt number c.requires.0)) at
    (c.loop-number.invariant.at (number % length c.args.bytes.now) (omega arith)))
