-- The list has the delimiter after each column so far, which is one byte.
use Rattle.ptflow.proofs
use proofs.Common.{◌≡◌, ◌<◌, ℕ, [], ◌∷◌, length, slice_index_or, delimiter}
use proofs.tools.paste.row.delimiter_bytes.Given as goal

abbrev pub invariant-loop-column : goal.invariant-loop-column
invariant-loop-column l = record {
  size : length l.bytes.items ≡ l.column;
  at : (c : ℕ) → c < l.column → delimiter l.delims c ≡ slice_index_or l.bytes.items c 0 ∷ [];
}
