-- If no blank among the next 64 bytes is misplaced, the rest of the line decides, with whether the last of these bytes
-- is a space.
use Rattle.ptmerge.proofs
use proofs.Common.{◌==◌, ◌∙◌, ◌+◌, ◌^◌, ◌≤◌, ◌-◌, ◌<◌, length, ap, arith, drop, is_single_spaced, length-drop, sym}
use Rattle.std.proofs.Common.{◌/◌, take}
use proofs.JoinLemmas.FieldMasks.{bit_is, chunk_spaced, last_blank, spaced_rest, top_bit}
use Rattle.std.proofs.lemmas.Simd.{length-chunk}
use Rattle.std.proofs.lemmas.List.{take_all}
use Rattle.std.specs.Simd.Lanes.{chunk}
use proofs.tools.join.words.is_single_spaced.Goals as goal

pub returns-then-not-are_single_spaces : goal.returns-then-not-are_single_spaces
returns-then-not-are_single_spaces c =
    let bytes = c.args.line.now in
    let at = c.loop-at.at in
    let v = chunk at 64 bytes in
    let room : at + 64 ≤ length bytes = omega arith in
    let few : length v ≤ 64 = omega (arith, length-chunk at 64 bytes room) in
    let misplaced = sym (c.are_single_spaces.ensures v few c.mask_at-spaces.ensures c.mask_at.ensures)
    ∙ c.if-not-are_single_spaces.true in
    sym (c.loop-at.invariant.same ∙ rw misplaced at (chunk_spaced (c.loop-at.before == 1) bytes at room))

pub loop-at-preserved : goal.loop-at-preserved
loop-at-preserved c =
    let bytes = c.args.line.now in
    let at = c.loop-at.at in
    let blank = c.loop-at.before == 1 in
    let v = chunk at 64 bytes in
    let room : at + 64 ≤ length bytes = omega arith in
    let few : length v ≤ 64 = omega (arith, length-chunk at 64 bytes room) in
    let spaced = sym (c.are_single_spaces.ensures v few c.mask_at-spaces.ensures c.mask_at.ensures)
    ∙ c.if-not-are_single_spaces.false in
    let before = ap (λ x. x / 2 ^ 63) c.mask_at-spaces.ensures ∙ top_bit 63 blank v (length-chunk at 64 bytes room) in
    record {
      within = room;
      bit = omega arith;
      same = c.loop-at.invariant.same
          ∙ rw (spaced, ← bit_is (last_blank blank v), ← before) at (chunk_spaced blank bytes at room);
    }

pub returns : goal.returns
returns c =
    let bytes = c.args.line.now in
    let at = c.loop-at.at in
    let left = length bytes - at in
    let long = length-drop at bytes in
    let all = take_all left (drop at bytes) (omega arith) in
    let short : length (take left (drop at bytes)) < 64 = omega (arith, ap length all, long) in
    spaced_rest _ _ _ _ short c.masks_of-spaces.ensures.first
    c.masks_of-spaces.ensures.second c.are_single_spaces-2.ensures
    ∙ ap (is_single_spaced (c.loop-at.before == 1)) all ∙ sym c.loop-at.invariant.same
