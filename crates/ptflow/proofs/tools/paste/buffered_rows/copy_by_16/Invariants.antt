-- The loop over vectors: the bytes so far were copied, and none of them is the terminator.
use Rattle.ptflow.proofs
use proofs.Common.{◌≡◌, ◌≤◌, ◌+◌, ◌-◌, ◌++◌, length, take, Nowhere, Passes, is_byte}
use proofs.tools.paste.buffered_rows.copy_by_16.Given as goal
use Rattle.ptlines.specs.declared.sizes.TheConstants.{PADDED}

abbrev pub invariant-vectors : goal.invariant-vectors
invariant-vectors l = record {
  none : Nowhere (Passes (is_byte l.terminator) l.bytes) 0 l.size;
  copied : take (l.at + l.size) l.into ≡ take l.at l.fn.into ++ take l.size l.bytes;
  size_bound : l.size ≤ l.last + 16;
  buffer_size : length l.into ≡ PADDED;
}

abbrev pub decreases-vectors : goal.decreases-vectors
decreases-vectors l = l.last + 16 - l.size
