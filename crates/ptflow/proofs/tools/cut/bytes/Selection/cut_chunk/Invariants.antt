-- The set bits are the terminators that are left, and the lines before the current one were cut.
use Rattle.ptflow.proofs
use proofs.Common.{◌≡◌, ◌+◌, ◌≤◌, map, take, count_by, mask_l, chunk, is_byte, CutPost, without}
use proofs.tools.cut.bytes.Selection.cut_chunk.Given as goal

abbrev pub invariant-loop-end : goal.invariant-loop-end
invariant-loop-end l = record {
  bits : l.mask ≡ mask_l (without l._end (map (is_byte l.self.terminator) (chunk l.from 64 l.block)));
  within : l.line.start ≤ l.from + 64;
  ends : count_by (is_byte l.self.terminator) (take l.line.start l.block)
      ≡ count_by (is_byte l.self.terminator) (take l.from l.block) + l._end;
  on : CutPost l.self.terminator l.self.selected.now l.block l.fn.line (take l.fn.line.at l.fn.into) l.line
      (take l.line.at l.into);
}
