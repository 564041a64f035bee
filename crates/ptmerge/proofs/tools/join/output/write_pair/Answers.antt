-- The first line is its key and its other fields, so it is written unchanged.
use Rattle.ptmerge.proofs
use proofs.JoinLemmas.Fields.{pair_is}
use proofs.tools.join.output.write_pair.Goals as goal

pub returns-then-is_unchanged-2 : goal.returns-then-is_unchanged-2
returns-then-is_unchanged-2 g c =
    let begins = c.is_unchanged.ensures c.if-is_unchanged.true in
    let ends = c.is_unchanged-then-is_unchanged.ensures c.if-is_unchanged-2.true in
    rw (pair_is _ _ _ begins ends c.requires.one c.requires.two) at c.push_line.ensures.pushed
