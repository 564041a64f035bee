-- A count below 10 is written as one digit, with a space after it.
use Rattle.ptflow.proofs
use proofs.Common.{◌+◌, [], ◌∷◌, append_assoc}
use Rattle.std.proofs.lemmas.Fmt.{decimal_digit}
use proofs.tools.uniq.block_runs.flush_with_count.Goals as goal

pub returns-in-Counts : goal.returns-in-Counts
returns-in-Counts g c =
    rw (c.in-Counts.is, decimal_digit _ c.if-count-lt10.true)
    (rw (append_assoc c.args.before.now ((48 + c.args.count) ∷ []) (32 ∷ [])) at c.push_line.ensures.pushed)
