-- The bytes so far were copied.
use Rattle.ptflow.proofs
use proofs.Common.{◌≡◌, ◌≤◌, ◌+◌, ◌-◌, ◌++◌, length, take}
use proofs.tools.paste.buffered_rows.copy_vectors.Given as goal
use Rattle.ptlines.specs.declared.sizes.TheConstants.{PADDED}

abbrev pub invariant-vectors : goal.invariant-vectors
invariant-vectors l = record {
  so_far : take (l.at + l.copied) l.into ≡ take l.at l.fn.into ++ take l.copied l.bytes;
  size_bound : l.copied ≤ l.count + 16;
  buffer_size : length l.into ≡ PADDED;
}

abbrev pub decreases-vectors : goal.decreases-vectors
decreases-vectors l = l.count + 16 - l.copied
