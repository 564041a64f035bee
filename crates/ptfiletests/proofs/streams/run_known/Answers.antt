-- Answer for `run_known`: its contract, from that of `run_given_streams`. All bytes of the streams are known, and no
-- read of them fails.
use Rattle.std.proofs.Common.{ℕ, List, Option, Some, ap}
use Rattle.ptfiletests.proofs.KnownLemmas.{known_given}
use Rattle.ptfiletests.proofs.NamedLemmas.{no_read_fails}
use Rattle.ptfiletests.specs.KnownStreams.{bytes_of, numbered_state}
use Rattle.ptfiletests.specs.declared.known_streams.KnownStreams.{KnownStreams}
use Rattle.ptfiletests.proofs.streams.run_known.Goals as goal

pub returns : goal.returns
returns c =
    known_given numbered_state c.args.words.now (bytes_of c.args.streams.now) c.args.opened.now _ _ _ _ no_read_fails
    (ap {B = ℕ → Option (List ℕ)} (λ (host : KnownStreams) number. Some (bytes_of host.streams.now number))
    c.new.ensures)
    c.run_given_streams.ensures
