-- The lowest bit that is left is the end of the next line (`next`), which with the bytes of the segment is a row.
use Rattle.ptflow.proofs
use Rattle.std.proofs.Math.Nat.{suc-mul}
use proofs.Common.{◌≡◌, ◌<◌, ◌≤◌, ◌+◌, ◌-◌, ◌*◌, ◌∙◌, ℕ, suc, ap, arith, length, reader_at, rules, subst, sym}
use proofs.Common.{IsSound, IsTerminatorMask, and_less, bit_and, take_rest}
use lib.Count.{count_trailing_zeros}
use proofs.PasteLemmas.BufferedRows.{at_index}
use proofs.PasteLemmas.Segments.{has_reader, row_of_one_copied}
use proofs.Vectors.NextTerminator.{NextTerminator, ended_between, few_left, next_left, none_left}
use Rattle.ptlines.specs.declared.sizes.TheConstants.{BLOCK}
use proofs.tools.paste.buffered_rows.copy_chunk.Given as given
use proofs.tools.paste.buffered_rows.copy_chunk.Goals as goal
use Rattle.ptflow.proofs.tools.paste.buffered_rows.copy_chunk.Goals.{Else-copied-from-gt-BLOCK, In-lines}

fewer : (n len : ℕ) → n < 64 → (64 - n) * len ≡ (64 - suc n) * len + len
fewer n len low =
    let next : 64 - n ≡ suc (64 - suc n) = omega arith in ap (λ k. k * len) next ∙ suc-mul (64 - suc n) len

module _ (g : given.Over) (c : Else-copied-from-gt-BLOCK g) where
  low : c.args.segment.now.input < length c.args.readers.now
  low = has_reader c.requires.readable c.requires.segment.is

  same : c.buffered-bytes.result.now ≡ (reader_at c.args.readers.now c.args.segment.now.input).buffered
  same = c.buffered-bytes.ensures.buffered ∙ ap (λ r. r.buffered) (c.index-readers-segment.is ∙ at_index _ _ _ low)

  sound : IsSound (reader_at c.args.readers.now c.args.segment.now.input)
  sound = subst IsSound (c.index-readers-segment.is ∙ at_index _ _ _ low) c.buffered-bytes.ensures.sound

  mask : IsTerminatorMask c.args.row.terminator c.buffered-bytes.result.now c.args.from c.mask_at-ends.result
  mask = record {
    within = omega (arith, c.requires.within, ap length same);
    most = omega (arith, sound.buffered, ap length same);
    is = c.mask_at-ends.ensures;
  }

module _ (g : given.Over) (c : In-lines g)
    (h : IsTerminatorMask c.args.row.terminator c.buffered-bytes.result.now c.args.from c.mask_at-ends.result) where
  abbrev n : ℕ
  n = ended_between c.args.row.terminator c.buffered-bytes.result.now c.args.from c.lines.copied.start

  next : NextTerminator c.args.row.terminator c.buffered-bytes.result.now c.args.from n
      (count_trailing_zeros 64 c.lines.ends) c.lines.copied.start
  next = next_left _ h c.lines.invariant.order c.lines.invariant.bits c.lines-test.true

  turn : let bit = count_trailing_zeros 64 c.lines.ends in (c.lines.copied.start ≤ c.args.from + bit) × (bit < 64)
      × (c.args.from + 80 ≤ length c.buffered-bytes.result.now) × (length c.buffered-bytes.result.now ≤ BLOCK)
  turn = (next.order, next.near, h.within, h.most)

pub lines-init : goal.lines-init
lines-init g c =
    let here = rw (sym (same g c)) at c.requires.copied.same in
    let none : ended_between c.args.row.terminator c.buffered-bytes.result.now c.args.from c.args.copied.start ≡ 0 =
    omega (arith, here.1) in
    record {
      bits = rw none c.mask_at-ends.ensures;
      within = omega (arith, here.0);
      order = omega (arith, here.1);
      rows = c.requires.copied.rows;
      room = rw none (omega (arith, c.if-copied-from-gt-BLOCK.false));
      buffer_size = search rules;
    }

pub overflow_add-line_end : goal.overflow_add-line_end
overflow_add-line_end g c =
    let s = goal.at.overflow_add-line_end g c in
    omega (arith, turn g s.In-lines (mask g s.Else-copied-from-gt-BLOCK))

pub overflow_sub-size : goal.overflow_sub-size
overflow_sub-size g c =
    let s = goal.at.overflow_sub-size g c in
    omega (arith, turn g s.In-lines (mask g s.Else-copied-from-gt-BLOCK))

pub slice_bounds-copy_vectors-count : goal.slice_bounds-copy_vectors-count
slice_bounds-copy_vectors-count g c =
    let s = goal.at.slice_bounds-copy_vectors-count g c in
    omega (arith, turn g s.In-lines (mask g s.Else-copied-from-gt-BLOCK))

pub slice_bounds-copy_vectors-start : goal.slice_bounds-copy_vectors-start
slice_bounds-copy_vectors-start g c =
    let s = goal.at.slice_bounds-copy_vectors-start g c in
    omega (arith, turn g s.In-lines (mask g s.Else-copied-from-gt-BLOCK))

pub copy_vectors-requires-clause-within : goal.copy_vectors-requires-clause-within
copy_vectors-requires-clause-within g c =
    let s = goal.at.copy_vectors-requires-clause-within g c in
    omega (arith, turn g s.In-lines (mask g s.Else-copied-from-gt-BLOCK))

pub copy_vectors-requires-clause-room : goal.copy_vectors-requires-clause-room
copy_vectors-requires-clause-room g c =
    let s = goal.at.copy_vectors-requires-clause-room g c in
    omega (arith, turn g s.In-lines (mask g s.Else-copied-from-gt-BLOCK), c.lines.invariant.room)

pub overflow_add-copied-in-lines : goal.overflow_add-copied-in-lines
overflow_add-copied-in-lines g c =
    let s = goal.at.overflow_add-copied-in-lines g c in
    omega (arith, turn g s.In-lines (mask g s.Else-copied-from-gt-BLOCK), c.lines.invariant.room)

pub copy_bytes-requires-clause-room : goal.copy_bytes-requires-clause-room
copy_bytes-requires-clause-room g c =
    let s = goal.at.copy_bytes-requires-clause-room g c in
    omega (arith, turn g s.In-lines (mask g s.Else-copied-from-gt-BLOCK), c.lines.invariant.room)

pub overflow_add-copied-in-lines-2 : goal.overflow_add-copied-in-lines-2
overflow_add-copied-in-lines-2 g c =
    let s = goal.at.overflow_add-copied-in-lines-2 g c in
    omega (arith, turn g s.In-lines (mask g s.Else-copied-from-gt-BLOCK))

pub lines-smaller : goal.lines-smaller
lines-smaller g c =
    let s = goal.at.lines-smaller g c in
    omega (arith, turn g s.In-lines (mask g s.Else-copied-from-gt-BLOCK))

pub lines-preserved : goal.lines-preserved
lines-preserved g c =
    let s = goal.at.lines-preserved g c in
    let h = mask g s.Else-copied-from-gt-BLOCK in
    let read = same g s.Else-copied-from-gt-BLOCK in
    let e = next g s.In-lines h in
    let i = c.lines.invariant in
    let few = few_left _ h i.order i.bits c.lines-test.true in
    let end = c.args.from + count_trailing_zeros 64 c.lines.ends in
    let turn : ended_between c.args.row.terminator c.buffered-bytes.result.now c.args.from (end + 1)
    ≡ suc (n g s.In-lines h) = omega (arith, e.counted) in
    let number : c.lines.copied.start + (end - c.lines.copied.start + 1) ≡ end + 1 = omega (arith, e.order) in
    record {
      bits = rw turn (ap (λ x. bit_and x (x - 1)) i.bits ∙ and_less _);
      within = omega (arith, e.near);
      order = omega (arith, e.counted);
      rows = rw number at (row_of_one_copied c.requires.readable c.requires.segment
          (sound g s.Else-copied-from-gt-BLOCK) _ _ i.rows (rw read at e.first)
          (rw read at (rw take_rest at c.copy_vectors.ensures)) c.copy_bytes.ensures.copied);
      room =
          let rest = fewer _ c.args.segment.now.len few in
          rw turn (omega (arith, i.room, c.copy_bytes.ensures.end, e.order, e.near, rest));
      buffer_size = c.copy_bytes.array_long;
    }

pub returns-clause-copied : goal.returns-clause-copied
returns-clause-copied g c =
    let before = (goal.at.returns-clause-copied g c).Else-copied-from-gt-BLOCK in
    let i = c.lines.invariant in
    record {
      rows = i.rows;
      same = rw (same g before) at (none_left _ (mask g before) i.order i.bits c.lines-test.false i.within);
      fits = omega (arith, i.room);
    }
