-- A line that began in an earlier block, or of which one or two ranges are copied, is copied by `copy_selected`, any
-- other one piece by piece, up to the last position that is selected (`up_to`).
use Rattle.ptflow.proofs
use proofs.Common.{◌≡◌, ◌<◌, ◌≤◌, ◌+◌, ◌*◌, ◌++◌, ◌∙◌, false, take, drop, ap, arith, sym, append-nil, take_rest}
use proofs.Common.{false≢true, selected_bytes, select_from, is_selected, lt-ltb, usual, ℕ, min, length-drop, PADDED}
use proofs.tools.cut.bytes.Selection.copy_line.Goals as goal
use proofs.CutLemmas.CutBytes.{none_later}

pub returns-clause-copied : goal.returns-clause-copied
returns-clause-copied c =
    let line = c.args.line in
    let count = c.args.count in
    let list = c.args.self.now.selected.now in
    let bytes = take count (drop line.start c.args.block.now) in
    let was = take line.at c.args.into.now in
    let selected = selected_bytes list c.args.block.now line count in
    let one : 16 * 0 + count ≡ count = omega arith in
    let begins : c.if-line-gt0.value ≡ false → select_from (is_selected list) 1 bytes ≡ selected = λ here.
    let zero : line.line_offset ≡ 0 = elim c.if-line-gt0.branch [
      | goal.then-line-gt0 w ↦ absurd (false≢true (sym here ∙ w.value-is ∙ lt-ltb 0 _ w.if-line-gt0.true))
      | goal.else-line-gt0+then-not-is_short w ↦ omega arith
      | goal.else-line-gt0+else-not-is_short w ↦ omega arith
    ] in
    ap (λ n. select_from (is_selected list) (n + 1) bytes) (sym zero) in
    let up_to : (start : ℕ) → start ≤ count → min count c.args.self.now.shuffles.last ≤ start
    → c.if-line-gt0.value ≡ false
    → was ++ select_from (is_selected list) 1 (take start (drop line.start c.args.block.now)) ≡ was ++ selected
    = λ start upto reaches here.
    ap (◌++◌ was) (none_later _ _ (λ k later before. c.args.self.now.are_shuffles.last k (omega arith)) upto
    (omega (arith, length-drop line.start c.args.block.now)) ∙ begins here) in
    let end = c.if-count-self.end in
    let (near, copied) : (end < PADDED) × (take end c.if-count-self.into ≡ was ++ selected)
    = elim c.if-count-self.branch [
      | goal.then-count-self w ↦ rw (w.end-is, w.into-is) (omega arith, w.copy_selected-end.ensures.copied)
      | goal.else-count-self+then-is_short w ↦ rw (w.end-is, w.into-is) (
        omega arith,
        (rw (take_rest, one) at (w.copy16.ensures.copied was (sym (append-nil was))))
            ∙ ap (◌++◌ was) (begins w.if-count-self.false),
      )
      | goal.else-count-self+else-is_short+then-self-le16 w ↦ rw (w.end-is, w.into-is) (
        omega arith,
        (rw take_rest at (w.copy16-then-self-le16.ensures.copied was (sym (append-nil was))))
            ∙ up_to 16 (omega arith) (omega arith) w.if-count-self.false,
      )
      | goal.else-count-self+else-is_short+else-self-le16 w ↦ rw (w.end-is, w.into-is) (
        omega arith,
        (rw take_rest at w.copy_pieces.ensures.copied)
            ∙ up_to w.min.result (omega arith) (omega arith) w.if-count-self.false,
      )
    ] in
    grind usual
