-- A cycle of one byte is a map of bytes. For a longer one, the bytes after the last chunk are copied one by one.
use Rattle.ptflow.proofs
use proofs.Common.{◌≡◌, ◌+◌, ◌%◌, ◌<◌, ℕ, [], ◌∷◌, refl, sym, ap, arith, length, length-set, slice_index_or, mod-lt}
use proofs.Common.{usual, mod-eq_of_lt, count_by, is_byte, take, ◌∙◌}
use proofs.PasteLemmas.Replaced.{replaced_by_map, replaced_terminator, replaced_other}
use proofs.simd.replace.Cycle.replace.Goals as goal

pub returns-then-self-eq1-clause-replaced : goal.returns-then-self-eq1-clause-replaced
returns-then-self-eq1-clause-replaced c =
    let cycle = c.args.self.now in
    let first : (n : ℕ) → slice_index_or cycle.unrolled (n % cycle.len) 0 ≡ slice_index_or cycle.unrolled 0 0 =
    λ n. let zero : n % cycle.len ≡ 0 = omega (arith, mod-lt n cycle.is_unrolled.some) in
    ap (λ k. slice_index_or cycle.unrolled k 0) zero in
    c.map_bytes.ensures ∙ sym (replaced_by_map cycle.terminator _ _ first _ _)

pub loop-at-preserved : goal.loop-at-preserved
loop-at-preserved c =
    let loop = c.loop-at in
    let cycle = c.args.self.now in
    let from = c.args.from.now in
    let room : loop.at < length from = omega (arith, c.loop-at-test.true) in
    let low : loop.index < cycle.len = omega (
      arith,
      mod-lt (c.args.index + count_by (is_byte cycle.terminator)
          (take loop.at from)) cycle.is_unrolled.some,
      loop.invariant.next,
    ) in
    elim c.if-from-at.branch [
      | goal.then-from-at w ↦
          rw (w.index-is, w.to-is) (replaced_terminator (length-set _ loop.at _ ∙ length-set loop.to loop.at _
          ∙ loop.invariant.same) loop.invariant room w.if-from-at.true (ap
          (λ k. slice_index_or cycle.unrolled k 0 ∷ []) (sym (mod-eq_of_lt low))) w.after-index.ensures refl)
      | goal.else-from-at w ↦
          rw (w.index-is, w.to-is) (replaced_other (length-set loop.to loop.at _
          ∙ loop.invariant.same) loop.invariant room w.if-from-at.false refl low)
    ]

pub bounds-to-at-then-from-at : goal.bounds-to-at-then-from-at
bounds-to-at-then-from-at = grind usual
