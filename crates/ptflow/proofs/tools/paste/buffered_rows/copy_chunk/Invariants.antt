-- The set bits are the ends of the lines that are left, and a row was copied for each line before the current one.
use Rattle.ptflow.proofs
use proofs.Common.{◌≡◌, ◌+◌, ◌-◌, ◌*◌, ◌≤◌, length, map, take, count_by, mask_l, chunk, is_byte, without, shape_of}
use proofs.Common.{RowsTaken}
use Rattle.ptflow.specs.Private.Paste.BufferedRows.{after_one}
use proofs.Vectors.NextTerminator.{ended_between}
use proofs.tools.paste.buffered_rows.copy_chunk.Given as goal
use Rattle.ptlines.specs.declared.sizes.TheConstants.{BLOCK, PADDED}

abbrev pub invariant-lines : goal.invariant-lines
invariant-lines g l = record {
  bits : l.ends ≡ mask_l (without (ended_between l.row.terminator l.bytes l.from l.copied.start)
      (map (is_byte l.row.terminator) (chunk l.from 64 l.bytes)));
  within : l.copied.start ≤ l.from + 64;
  order : count_by (is_byte l.row.terminator) (take l.from l.bytes)
      ≤ count_by (is_byte l.row.terminator) (take l.copied.start l.bytes);
  rows : RowsTaken (shape_of l.row) l.readers (after_one l.readers l.segment.input l.copied.start)
      (take l.copied.end l.into);
  room : l.copied.end + (l.from + 64 - l.copied.start)
      + (64 - ended_between l.row.terminator l.bytes l.from l.copied.start) * l.segment.len ≤ BLOCK;
  buffer_size : length l.into ≡ PADDED;
}

abbrev pub decreases-lines : goal.decreases-lines
decreases-lines g l = l.from + 64 - l.copied.start
