-- Skipping `left` more fields in `rest` gives the result for the whole line.
use Rattle.ptflow.proofs
use proofs.Common.{◌≡◌, length}
use proofs.UniqLemmas.Keys.{suffix_at}
use proofs.tools.uniq.line_key.skip_fields_short.Given as goal

abbrev pub invariant-bytes : goal.invariant-bytes
invariant-bytes l = suffix_at l.left l.rest ≡ suffix_at l.fields l.line

abbrev pub decreases-bytes : goal.decreases-bytes
decreases-bytes l = length l.rest
