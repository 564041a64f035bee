-- `_found` terminators are at or after `at`, and if there are any, one is at `at`.
use Rattle.ptflow.proofs
use proofs.Common.{◌≡◌, ◌+◌, ◌<◌, ◌≤◌, get_or, length, take, count_by, is_byte}
use proofs.tools.paste.shared_input.rows_end.Given as goal

abbrev pub invariant-loop-found : goal.invariant-loop-found
invariant-loop-found l = record {
  counted : count_by (is_byte l.terminator) (take l.at l.bytes) + l._found ≡ count_by (is_byte l.terminator) l.bytes;
  within : l.at ≤ length l.bytes;
  found : 0 < l._found → (l.at < length l.bytes) × (get_or l.bytes l.at 0 ≡ l.terminator);
}
