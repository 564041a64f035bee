-- A line whose terminator is found in a vector was copied with the vectors up to there.
use Rattle.ptflow.proofs
use proofs.Common.{◌≡◌, ◌≤◌, ◌+◌, ◌++◌, ℕ, List, length, take, arith, NoneBefore, Passes, is_byte, nowhere_trans}
use Rattle.ptlines.proofs.CopyFacts.{copied_prefix}
use Rattle.ptflow.specs.Private.Paste.BufferedRows.{IsLineCopied}
use Rattle.ptlines.specs.declared.sizes.TheConstants.{BLOCK}
use proofs.PasteLemmas.BufferedRows.{vector_copied}
use proofs.tools.paste.buffered_rows.copy_by_16.Goals as goal

line_found : (end at size count : ℕ) (was is bytes : List ℕ) → at ≤ length was → at + size ≤ BLOCK
    → size ≤ length bytes → NoneBefore (Passes (is_byte end) bytes) 0 size count → Passes (is_byte end) bytes count
    → take (at + size) is ≡ take at was ++ take size bytes → IsLineCopied end bytes at was is count
line_found end at size count was is bytes within room long first here copied = record {
  found = (record { low = first.low; high = omega (arith, first.high); before = first.before }, here);
  fits = omega (arith, first.high);
  is = copied_prefix at _ _ was is _ within (omega (arith, first.high)) copied;
}

pub returns-in-Some-clause-line : goal.returns-in-Some-clause-line
returns-in-Some-clause-line c =
    let (first, here) = c.in-Some.ensures.found in
    line_found _ _ 16 _ _ _ _ (omega arith) (omega arith) (omega arith) first here c.in-Some.ensures.copied

pub returns-in-Some-copy_16-clause-line : goal.returns-in-Some-copy_16-clause-line
returns-in-Some-copy_16-clause-line c =
    let (first, here) = c.in-Some-copy_16.ensures.found in
    let bytes = c.args.bytes.now in
    line_found _ _ _ _ _ _ _ (omega arith) (omega arith) (omega arith) (record {
      low = omega arith;
      high = first.high;
      before = nowhere_trans (Passes (is_byte c.args.terminator) bytes) 0 _ _ c.vectors.invariant.none first.before;
    }) here (vector_copied _ _ _ _ _ _
    c.vectors.invariant.copied c.copy_16-in-vectors.ensures.copied)

pub vectors-preserved : goal.vectors-preserved
vectors-preserved c =
    let bytes = c.args.bytes.now in
    record {
      none = nowhere_trans (Passes (is_byte c.args.terminator) bytes) 0 _ _ c.vectors.invariant.none
          c.in_default-copy_16.ensures.found;
      copied = vector_copied _ _ _ _ _ _
          c.vectors.invariant.copied c.copy_16-in-vectors.ensures.copied;
      size_bound = omega arith;
      buffer_size = c.copy_16-in-vectors.array_long;
    }
