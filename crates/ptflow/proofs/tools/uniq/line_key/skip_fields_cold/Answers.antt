-- If the last of the fields ends in the window, the line after it is the result; otherwise the ends in it were skipped.
use Rattle.ptflow.proofs
use proofs.Common.{◌-◌, ◌+◌, ◌∙◌, take, drop, sym, ap, arith}
use proofs.UniqLemmas.Keys.{ends_counted, key_after_window, key_in_window, near, nth_in_window, suffix_at, suffix_is}
use proofs.UniqLemmas.Keys.{suffix_none}
use proofs.tools.uniq.line_key.skip_fields_cold.Goals as goal

pub overflow_add-end : goal.overflow_add-end
overflow_add-end c =
    let ends = c.field_ends-ends.ensures in
    let nth = nth_in_window _ ends c.from-count.ensures (omega arith) (omega arith) c.nth_bit.ensures in
    omega (arith, near _ ends nth)

pub overflow_add-end-then-left-count : goal.overflow_add-end-then-left-count
overflow_add-end-then-left-count c =
    let ends = c.field_ends-ends.ensures in
    let nth = nth_in_window _ ends c.from-count.ensures (omega arith) (omega arith) c.nth_bit.ensures in
    omega (arith, near _ ends nth)

pub returns-then-left-count : goal.returns-then-left-count
returns-then-left-count c =
    let nth = nth_in_window _ c.field_ends-ends.ensures c.from-count.ensures (omega arith) (omega arith)
    c.nth_bit.ensures in
    sym (key_in_window _ c.loop-at.at c.args.to (omega arith) nth c.min.ensures) ∙ c.loop-at.invariant.3
    ∙ suffix_is c.args.fields (take c.args.to c.args.bytes.now)

pub loop-at-preserved : goal.loop-at-preserved
loop-at-preserved c =
    let bytes = c.args.bytes.now in
    let at = c.loop-at.at in
    let counted = ends_counted (drop at bytes) c.field_ends-ends.ensures c.from-count.ensures in (
      omega arith,
      omega arith,
      omega arith,
      ap (λ n. suffix_at (c.loop-at.left - n) (take (c.args.to - (at + 31)) (drop (at + 31) bytes))) counted
          ∙ key_after_window bytes at c.args.to (omega arith) (omega (arith, counted)) ∙ c.loop-at.invariant.3,
    )

pub returns-then-bytes-at-lt32 : goal.returns-then-bytes-at-lt32
returns-then-bytes-at-lt32 c = grind (arith, suffix_is)

pub returns : goal.returns
returns c = grind (arith, suffix_none, suffix_is)
