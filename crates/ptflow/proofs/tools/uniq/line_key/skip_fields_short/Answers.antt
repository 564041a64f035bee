-- If no field is left to be skipped, the rest is the result. At the end of the line it is empty.
use Rattle.ptflow.proofs
use proofs.Common.{arith, nil_from_length, usual}
use proofs.UniqLemmas.Keys.{next_byte, suffix_is, suffix_none, suffix_zero}
use proofs.tools.uniq.line_key.skip_fields_short.Goals as goal

pub returns-then-left-eq0 : goal.returns-then-left-eq0
returns-then-left-eq0 c = cc (suffix_zero c.bytes.rest.now, suffix_is c.args.fields c.args.line.now)

pub bytes-preserved-then-ends_word : goal.bytes-preserved-then-ends_word
bytes-preserved-then-ends_word c =
    grind (usual, next_byte c.bytes.rest.now c.bytes.left (omega arith) (omega arith), c.bytes.invariant)

pub returns : goal.returns
returns c = cc (nil_from_length c.bytes.rest.now (omega arith), suffix_none _, c.bytes.invariant, suffix_is _ _)
