-- The bytes that are copied to the start are the first ones there.
use Rattle.ptflow.proofs
use proofs.Common.{◌≡◌, ◌+◌, ◌-◌, ◌≤◌, ℕ, List, length, take, drop, arith, length-drop, drop-take, rules}
use lib.Seq.{paste}
use Rattle.std.proofs.lemmas.List.Edits.{take-paste}
use proofs.tools.paste.buffered_rows.move_to_front.Goals as goal

moved : (at to : ℕ) (bytes : List ℕ) → at ≤ to → to ≤ length bytes
    → take (to - at) (paste bytes 0 (drop at bytes) (to - at)) ≡ drop at (take to bytes)
moved at to bytes further fits =
    let start : to - at ≡ 0 + (to - at) = omega arith in
    let split : at + (to - at) ≡ to = omega arith in
    cc (
      take-paste bytes 0 (drop at bytes) (to - at) (omega arith) (omega (arith, length-drop at bytes)),
      drop-take at _ _,
    )

pub returns : goal.returns
returns c = search (rules, moved)
