-- Each of the pieces so far has the shuffle of its 16 bytes.
use Rattle.ptflow.proofs
use proofs.Common.{◌≡◌, ◌<◌, ◌*◌, ℕ, length, is_selected, IsPieceShuffle, piece_at, selected_after}
use proofs.tools.cut.shuffle.LineShuffles.of.Given as goal

abbrev pub invariant-loop-index : goal.invariant-loop-index
invariant-loop-index g l = record {
  long : length l.pieces ≡ 8;
  pieces : (k : ℕ) → k < l.index → IsPieceShuffle (selected_after (is_selected l.list) (16 * k)) (piece_at l.pieces k);
}
