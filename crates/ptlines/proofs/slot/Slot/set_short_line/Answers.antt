-- A vector of 16 or 64 bytes is stored in the buffer. Its first `size` bytes are the line.
use Rattle.ptlines.proofs
use proofs.Common.{◌≡◌, ◌≤◌, ℕ, List, length, take, ◌∙◌, ap, arith, sym, take-take, with_items_is}
use Rattle.std.specs.Vec.{with_items}
use proofs.slot.Slot.set_short_line.Goals as goal
use proofs.slot.Slot.set_short_line.Goals.{then-size-lt16, else-size-lt16}

pub returns : goal.returns
returns g c =
    let buffer = c.self.inside.buffer in
    let bytes = c.args.bytes.now in
    let size = c.args.size in
    let stored : (n : ℕ) (is : List ℕ) → length is ≡ buffer.len → size ≤ n → take n is ≡ take n bytes
    → take size (with_items buffer is).items ≡ take size bytes =
    λ n is long few copied.
    rw (with_items_is buffer is long)
    (sym (take-take size n is few) ∙ ap (take size) copied ∙ take-take size n bytes few) in
    elim c.if-size-lt16.branch [
      | then-size-lt16 w ↦
          (grind arith)
          ∙ (λ i. record {
            line = stored 16 _ (grind arith) (omega arith) w.copy_chunk.ensures.copied i;
            buffer_size = (c.self.view_is i).buffer_size;
          })
      | else-size-lt16 w ↦
          (grind arith)
          ∙ (λ i. record {
            line = stored 64 _ (grind arith) (omega arith) w.copy_chunk-else-size-lt16.ensures.copied i;
            buffer_size = (c.self.view_is i).buffer_size;
          })
    ]
