-- Writing out the buffer pushes nothing more, whether it succeeds or fails.
use Rattle.ptmerge.proofs
use proofs.MergeLemmas.{wrote_and_sent}
use proofs.tools.join.write_pairs.Goals as goal

pub returns-clause-wrote : goal.returns-clause-wrote
returns-clause-wrote g c =
    wrote_and_sent _ _ _ _ (c.in_ok-write_pair_entries.ensures.clean c.requires.clean)
    (rw c.terminator.ensures at c.write_pair_entries.ensures.wrote) c.write_out_and_advance.ensures.written_out

pub returns-in_err-write_out_and_advance-clause-wrote : goal.returns-in_err-write_out_and_advance-clause-wrote
returns-in_err-write_out_and_advance-clause-wrote g c =
    wrote_and_sent _ _ _ _ (c.in_ok-write_pair_entries.ensures.clean c.requires.clean)
    (rw c.terminator.ensures at c.write_pair_entries.ensures.wrote) c.write_out_and_advance.ensures.written_out
