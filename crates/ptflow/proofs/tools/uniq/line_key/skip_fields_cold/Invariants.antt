-- Skipping `left` more fields from index `at` on gives the result for the whole line.
use Rattle.ptflow.proofs
use proofs.Common.{◌≡◌, ◌<◌, ◌≤◌, ◌-◌, length, take, drop}
use proofs.UniqLemmas.Keys.{suffix_at}
use proofs.tools.uniq.line_key.skip_fields_cold.Given as goal

abbrev pub invariant-loop-at : goal.invariant-loop-at
invariant-loop-at l =
    (l.at ≤ length l.bytes) × (0 < l.left) × (l.left ≤ l.fields)
    × (suffix_at l.left (take (l.to - l.at) (drop l.at l.bytes)) ≡ suffix_at l.fields (take l.to l.bytes))

abbrev pub decreases-loop-at : goal.decreases-loop-at
decreases-loop-at l = length l.bytes - l.at
