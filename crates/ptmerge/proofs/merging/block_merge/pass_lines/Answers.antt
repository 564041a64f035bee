-- Answers for `pass_lines`: its loop at the start, after one more line, and at its exits.
use Rattle.ptmerge.proofs
use proofs.MergeLemmas.{IsKeyOrder}
use proofs.BlockLemmas.{line_pushed}
use proofs.AloneLemmas.{passes_on, passing_starts}
use proofs.merging.block_merge.pass_lines.Goals as goal

pub lines-init : goal.lines-init
lines-init g c =
    let law = g.met.K.KeyOrder in
    let o : IsKeyOrder _ = record { total = law.total c.args.order.now; exact = law.exact c.args.order.now } in
    passing_starts _ o c.args.side c.requires.begins c.requires.clean

pub lines-preserved : goal.lines-preserved
lines-preserved g c =
    let i = c.lines.invariant in
    let law = g.met.K.KeyOrder in
    let o : IsKeyOrder (g.K.KeyOrder.order c.args.order.now) = record { total = law.total _; exact = law.exact _ } in
    passes_on _ o c.args.side c.requires.tool.alone i (rw c.requires.ends at c.in-Some.ensures)
    (line_pushed _ _ _ o c.requires.tool _ i.key_is (rw c.requires.ends at c.write_alone.ensures.wrote))
    (c.in_ok-write_alone.ensures.clean i.clean)
