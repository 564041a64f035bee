-- The loop of `Contents::read`: the contents are those of the bytes so far. These and the bytes that are left are
-- together all bytes of the string, and no more than the text allows. Fewer are left after each turn.
use Rattle.ptlangs.proofs
use proofs.Common.{List, Member, bytes_left, contents_of, length, member_bytes, member_results, most_left, segments_of}
use proofs.Common.{◌*◌, ◌+◌, ◌≡◌, ◌≤◌}
use proofs.TrArrays.{ItemsRead}
use proofs.tr.contents.Contents.read.Given as goal

abbrev pub invariant-loop-member : goal.invariant-loop-member
invariant-loop-member l = record {
  read : ItemsRead (member_results l.fn.fill (segments_of l.fn.role l.fn.text)) (bytes_left l.bytes)
      (λ (ms : List Member). l.contents ≡ contents_of (member_bytes ms));
  most : l.contents.length + most_left l.bytes ≤ 65536 * length l.fn.text + l.fn.fill;
}

abbrev pub decreases-loop-member : goal.decreases-loop-member
decreases-loop-member l = most_left l.bytes
