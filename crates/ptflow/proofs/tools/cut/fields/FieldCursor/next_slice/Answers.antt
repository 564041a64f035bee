-- An interval takes two steps: to the start of its first field, and to the end of its last one.
use Rattle.ptflow.proofs
use proofs.Common.{◌≡◌, ◌+◌, min, ◌∙◌, refl, sym, arith, length, take, length-take-le, take_rest, usual, eqb-false}
use proofs.CutLemmas.Fields.{ends_before, next_slice, none_left, none_selected}
use proofs.tools.cut.fields.FieldCursor.next_slice.Goals as goal
use proofs.CutLemmas.CutBytes.{select_none}

pub returns-then-is_empty : goal.returns-then-is_empty
returns-then-is_empty c =
    let d = c.args.delimiters.now in
    let long = length-take-le c.args.to d.bytes.now c.requires.within in
    elim c.then-is_empty.branch [
      | goal.then-is_empty-via-then-is_empty w ↦ grind (usual, select_none)
      | goal.then-is_empty-via-else-is_empty+then-self-to w ↦
          grind (arith, none_selected d.needle (take c.args.to d.bytes.now) c.args.self.now, none_left)
    ]

pub returns-then-begun-to-clause-next : goal.returns-then-begun-to-clause-next
returns-then-begun-to-clause-next c =
    let d = c.args.delimiters.now in
    let line = take c.args.to d.bytes.now in
    let long = length-take-le _ _ c.requires.within in
    let some = eqb-false (length c.args.self.now.left.now) 0 (sym c.is_empty.ensures ∙ c.if-is_empty.false) in
    ends_before d.needle line _ c.requires.cursor (omega arith) (omega arith) (omega arith)
    c.skip_fields-begun.ensures.offset (omega arith)

pub overflow_add-last : goal.overflow_add-last
overflow_add-last c = grind usual

pub returns-clause-next : goal.returns-clause-next
returns-clause-next c =
    let d = c.args.delimiters.now in
    let line = take c.args.to d.bytes.now in
    let long = length-take-le c.args.to d.bytes.now c.requires.within in
    let some = eqb-false (length c.args.self.now.left.now) 0 (sym c.is_empty.ensures ∙ c.if-is_empty.false) in
    let begun = c.skip_fields-begun.ensures in
    let from : min c.skip_fields-begun.result.at (c.args.to + 1) ≡ c.skip_fields-begun.result.at = omega arith in
    rw c.min.ensures (next_slice d.needle line c.args.self.now c.requires.cursor (omega arith) (omega arith)
    begun.near (rw from at begun.offset) (omega arith) (omega arith) c.skip_fields-self.ensures.offset _
    (take_rest _ 1) refl (omega arith) _ (omega (arith, c.min-end.ensures)))

pub overflow_sub-last : goal.overflow_sub-last
overflow_sub-last c = grind usual

pub overflow_sub-first-2 : goal.overflow_sub-first-2
overflow_sub-first-2 = grind usual
