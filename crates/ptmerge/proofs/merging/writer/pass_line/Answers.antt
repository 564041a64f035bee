-- `pass_line` has pushed the output for the line, since writing out the buffer pushes nothing more.
use Rattle.ptmerge.proofs
use proofs.MergeLemmas.{wrote_and_sent}
use proofs.merging.writer.pass_line.Goals as goal

pub returns-clause-wrote : goal.returns-clause-wrote
returns-clause-wrote g c =
    wrote_and_sent _ _ _ _ (c.in_ok-write_alone.ensures.clean c.requires.clean)
    (rw (c.terminator.ensures, c.key-key.ensures, c.head-line.ensures) at c.write_alone.ensures.wrote)
    c.write_out_and_advance.ensures.written_out
