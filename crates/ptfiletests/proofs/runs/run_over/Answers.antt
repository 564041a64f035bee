-- Answer for `run_over`: its contract, from that of `run_over_files`. Standard input and both sinks are new, and no
-- file was used before.
use Rattle.std.proofs.Common.{ap}
use Rattle.ptfakes.specs.FakeSink.{sink_state}
use Rattle.ptfiletests.proofs.NamedLemmas.{named_run}
use Rattle.ptfiletests.proofs.runs.run_over.Goals as goal

pub returns : goal.returns
returns c = named_run c.args.files.now c.args.standard.now c.new-named.ensures c.new.ensures.all c.new.ensures.short
    (ap sink_state c.new-2.ensures) (ap sink_state c.new-3.ensures) c.empty.ensures c.run_over_files.ensures
