-- All output of a block is decided at once, so `run_blocks` is a pass. The store is never used.
use Rattle.ptflow.proofs
use proofs.Common.{refl, no_store, tr_tool, byte_map_of}
use proofs.Passes.Exits.{pass_unchanged, never_memory}
use proofs.TrLemmas.TrFrom.{rest_decided}
use proofs.tools.tr.tr.Goals as goal

pub returns-then-has_failed-clause-pass : goal.returns-then-has_failed-clause-pass
returns-then-has_failed-clause-pass g c = λ store ready. pass_unchanged _ _ _ _ ready (cc)

pub returns-clause-pass : goal.returns-clause-pass
returns-clause-pass g c =
    let t = byte_map_of c.args.plan.now in
    λ store ready.
    c.run_blocks.ensures (tr_tool t)
    (record {
      text = λ bytes. rw c.new.ensures;
      decided = λ given pushed now holds on. rest_decided t _ _ _ (λ rest. rw (holds, c.new.ensures) at (on rest));
      holds = refl;
      slots = refl;
    })
    refl store ready

pub returns-clause-no_memory : goal.returns-clause-no_memory
returns-clause-no_memory g c = never_memory refl (returns-clause-pass g c no_store c.requires)
