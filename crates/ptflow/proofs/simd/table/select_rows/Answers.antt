-- Each step halves the vectors and shifts out the lowest bit of the rows, so a lane keeps what was found in its row.
use Rattle.ptflow.proofs
use proofs.Common.{[], ◌∙◌, ◌/◌, ◌^◌, ap, arith, get_or, get_or-map, rules, zip2_splat, ℕ, List}
use proofs.simd.table.select_rows.Goals as goal

pub loop-count-preserved : goal.loop-count-preserved
loop-count-preserved g c =
    let loop = c.loop-count in record {
      some = omega arith;
      few = omega arith;
      size = search rules;
      long = c.halve-left.ensures.lanes;
      lanes = λ lane low inside.
          let (below, same) = loop.invariant.lanes lane low inside in
          let shifted = ap (λ (l : List ℕ). get_or l lane 0)
          (zip2_splat (λ a b. a / 2 ^ b) _ 16 1 loop.auto.rows.0)
          ∙ get_or-map (λ b. b / 2 ^ 1) loop.rows lane 0 0 (omega arith) in
          (omega arith, rw shifted (c.halve-left.ensures.kept lane low below ∙ same));
    }

pub returns-clause-lanes : goal.returns-clause-lanes
returns-clause-lanes g c = c.loop-count.invariant.long 0 [] (omega arith)
