-- Answers for `escape`, if octal digits come after the backslash: the byte is that of their number. The digits are
-- octal, as `octal_byte` requires.
use Rattle.ptlangs.proofs
use proofs.Common.{arith, ◌∙◌}
use proofs.TrGrammar.{after_backslash-octal, octal_digits, take-octal_run}
use proofs.tr.chars.escape.Goals as goal

pub octal_byte-requires : goal.octal_byte-requires
octal_byte-requires c = rw (c.split_at.ensures.front, c.octal_len.ensures) (octal_digits c.args.bytes.now)

pub returns-in_default-clause-byte : goal.returns-in_default-clause-byte
returns-in_default-clause-byte c =
    let is = after_backslash-octal c.args.bytes.now (omega arith) (grind arith) in
    c.octal_byte.ensures ∙ rw (c.split_at.ensures.front, c.octal_len.ensures, take-octal_run, is)
