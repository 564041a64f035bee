-- Answer for `split_run`: the bytes that are counted are the run of plain characters, and the rest is after it.
use Rattle.ptlangs.proofs
use Rattle.std.proofs.lemmas
use proofs.Common.{YieldsList-from_slice, arith, rules}
use proofs.TrGrammar.{run_rest, run_taken}
use proofs.tr.elements.split_run.Goals as goal
use lemmas.Iterator.Consumers.{count_from_yields_List}
use lemmas.Iterator.Search.{YieldsList-from_take_while}
use Rattle.std.specs.Int.{is_in_range}

pub returns : goal.returns
returns c =
    let while = c.take_while-run.ensures in
    let count = count_from_yields_List _ _ c.count.ensures.ran
    (YieldsList-from_take_while _ (is_in_range c.args.first c.args.last) (YieldsList-from_slice c.args.text.now cc)
    while.closure while.done (λ x b q k. search rules)) in
    record {
      run = rw c.split_at.ensures.front (run_taken _ c.requires c.args.text.now _ count);
      rest = rw c.split_at.ensures.back (run_rest _ c.requires c.args.text.now _ count);
      within = omega arith;
    }
