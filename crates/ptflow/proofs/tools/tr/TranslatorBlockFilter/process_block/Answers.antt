-- The last output byte is the state for the next block. The output is pushed at once, so a failed push leaves a prefix.
use Rattle.ptflow.proofs
use proofs.Common.{byte_map_of, rules, arith}
use proofs.Passes.Exits.{on_err}
use proofs.TrLemmas.TrFrom.{block_on, front_on}
use proofs.tools.tr.TranslatorBlockFilter.process_block.Goals as goal

pub returns-in_err-push_block-clause-halts : goal.returns-in_err-push_block-clause-halts
returns-in_err-push_block-clause-halts g c =
    on_err c.from_residual.result
    (record {
      pushed = _;
      wrote = c.push_block.ensures.pushed.wrote;
      fault = c.in_err-push_block.ensures.pushed.fault;
      is_prefix = λ rest. grind (arith, front_on (byte_map_of c.args.self.now.translation.plan.now));
    })

pub returns-clause-continues : goal.returns-clause-continues
returns-clause-continues g c = search (rules, block_on)
