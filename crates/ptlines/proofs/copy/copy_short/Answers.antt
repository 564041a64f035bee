-- `copy_short`: a vector of 16 bytes that is copied begins with the bytes asked for; and `copy_long` copies just these.
use Rattle.ptlines.proofs
use Rattle.std.proofs.Common.{arith, rules}
use proofs.CopyFacts.{copied_prefix}
use proofs.copy.copy_short.Goals as goal

pub returns-then-bytes-from-ge16-clause-copied : goal.returns-then-bytes-from-ge16-clause-copied
returns-then-bytes-from-ge16-clause-copied c =
    copied_prefix _ _ 16 _ _ _ (omega arith) c.if-to-from-le16.true c.copy_chunk.ensures.copied

pub returns-else-to-from-le16-clause-copied : goal.returns-else-to-from-le16-clause-copied
returns-else-to-from-le16-clause-copied c = search rules
