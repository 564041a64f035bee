-- The slot of one more column is empty, which keeps the bounds.
use Rattle.ptflow.proofs
use proofs.Common.{[], get_or-set_same, get_or-set_other, length-set, ◌∙◌, arith}
use proofs.PasteLemmas.BufferedRows.Rows.{slots_bound_line}
use proofs.tools.paste.clear_slots.Goals as goal

pub loop-column-preserved : goal.loop-column-preserved
loop-column-preserved g c =
    let inv = c.loop-column.invariant in
    rw c.clear.ensures (record {
      empty = λ k under. grind (arith, inv.empty k, get_or-set_other, get_or-set_same);
      kept = λ first top before. slots_bound_line (inv.kept first top before) _ [] c.loop-column-test.true
          (omega arith);
      same = length-set _ _ [] ∙ inv.same;
    })
