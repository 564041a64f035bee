-- Answers for `run_over_files`: words that are no command are reported. Otherwise the inputs of the run are new, and
-- the run is one that the words mean. Its sink is where they say, which is standard output, the file that they name, or
-- nowhere. If that file cannot be created, this is reported and nothing is run. A read fails only if a source of its
-- type can fail.
use Rattle.std.proofs.Common.{[], ap, false, refl, subst, sym, ◌∙◌, ◌≡◌}
use Rattle.ptopts.specs.Commands.{command_view, words_view}
use Rattle.ptrun.proofs.RunEnds.{new_sink_is, outcome_is, sink_is}
use Rattle.ptrun.specs.Calls.Runs.{outcome_of, sink_of}
use Rattle.ptrun.specs.Runs.{outcome}
use Rattle.ptlines.specs.Sinks.{SinkState}
use Rattle.ptfiles.proofs.FailedReads.{failed_reads}
use Rattle.ptfiles.proofs.Outputs.{new_state, not_none, returns_standard, unused_is}
use Rattle.ptfiles.proofs.Runs.{fresh_inputs, no_name, not_standard, one_name, output_unopened, ran_nowhere}
use Rattle.ptfiles.proofs.Runs.{ran_to_file, ran_to_standard, refused, run_over_files, to_run, to_standard}
use Rattle.ptfiles.specs.Files.{created_state}
use Rattle.ptfiles.specs.Private.Outputs.{output_state}
use Rattle.ptfiles.specs.Private.Shell.{HaveOpened}
use Rattle.ptfiles.specs.Shell.{output_names}
use Rattle.ptfiles.proofs.shell.run_over_files.Given as given
use Rattle.ptfiles.proofs.shell.run_over_files.Goals.{After-deref_mut, After-new, in-None, in-Some}
use Rattle.ptfiles.proofs.shell.run_over_files.Goals.{in-Some-2+in-Some-create}
use Rattle.ptfiles.proofs.shell.run_over_files.Goals as goal

pub returns-in-Err : goal.returns-in-Err
returns-in-Err g c =
    let told = c.refused.ensures in
    refused (words_view c.args.words.now) _ _ c.in-Err.fault c.in-Err.ensures.parsed told.out_of_memory c.requires.fresh
    c.requires.empty refl refl (ap (created_state g.F.Output.Sink.state) told.out.1) told.out.0 told.has_said
    told.status told.memory

opened : (g : given.Over) (c : After-deref_mut g)
    → HaveOpened (g.F.Files.state c.args.files.now) (g.F.Files.state c.open_inputs.new.files)
    (command_view c.in-Ok.command).names (g.S.Source.state c.args.standard) c.in-Ok-open_inputs.readers.items
opened g c =
    subst (λ names. HaveOpened (g.F.Files.state c.args.files.now) (g.F.Files.state c.open_inputs.new.files) names
    (g.S.Source.state c.args.standard) c.in-Ok-open_inputs.readers.items)
    (ap words_view c.deref.ensures.value ∙ c.inputs-operands.ensures.names) c.in-Ok-open_inputs.ensures.opened

pub returns-in-None-create : goal.returns-in-None-create
returns-in-None-create g c =
    let told = c.not_created.ensures in
    let words = words_view c.args.words.now in
    let command = command_view c.in-Ok.command in
    let meant = c.in-Ok.ensures.parsed in
    output_unopened command c.deref_mut.ensures.value
    (opened g (goal.at.returns-in-None-create g c).After-deref_mut) words meant (g.W.Sink.state c.args.out)
    (g.E.Sink.state c.args.messages) c.args.store.now _ told.status.1 (record {
      name = c.in-Some-2.name.now;
      parsed = told.status.1;
      is = ap (λ given. output_names given c.deref_mut.result.now)
          (sym (to_run command words meant c.not_created.result.out_of_memory told.status.1))
          ∙ one_name command c.inputs-operands.ensures.output c.deref_mut.result.now c.in-Some-2.is
          (sym c.if-is_any_unopened.false ∙ c.is_any_unopened.ensures);
      files = rw c.in-None-create.is at c.create.ensures.created;
      said = record {
        has_said = told.has_said;
        status_is = told.status.0;
        no_memory = told.memory;
        store = refl;
        file = ap (created_state g.F.Output.Sink.state) told.out.1;
        unused = told.out.0;
      };
    })

-- No write to the target of the run has failed.
writable : (g : given.Over) (c : After-new g)
    → (output_state g.W.Sink.state g.F.Output.Sink.state c.new.result).failed ≡ false
writable g c =
    let out_of = g.W.Sink.state in
    let file_of = g.F.Output.Sink.state in
    elim c.match-operands.branch [
      | in-None w ↦ ap (λ (s : SinkState). s.failed) (new_state out_of file_of c.new.result
          (c.new.ensures.0 ∙ ap (λ p. p.0) w.target-is) c.new.ensures.1)
          ∙ c.requires.writable
      | in-Some w ↦ ap (λ (s : SinkState). s.failed) (new_state out_of file_of c.new.result
          (c.new.ensures.0 ∙ ap (λ p. p.0) w.target-is) c.new.ensures.1)
      | in-Some-2+in-Some-create w ↦ ap (λ (s : SinkState). s.failed) (new_state out_of file_of c.new.result
          (c.new.ensures.0 ∙ ap (λ p. p.0) w.target-is) c.new.ensures.1)
          ∙ (rw w.in-Some-create.is at w.create.ensures.is_new).0
    ]

pub new-output-requires : goal.new-output-requires
new-output-requires g c = writable g (goal.at.new-output-requires g c).After-new

pub run_with_store-status-requires-clause-fresh : goal.run_with_store-status-requires-clause-fresh
run_with_store-status-requires-clause-fresh g c =
    fresh_inputs (command_view c.in-Ok.command) c.deref_mut.ensures.value
    (opened g (goal.at.run_with_store-status-requires-clause-fresh g c).After-deref_mut) c.requires.fresh

-- No standard output is left over only where the run is given it, and so returns it.
pub into_parts-out-requires : goal.into_parts-out-requires
into_parts-out-requires g c none =
    let out_of = g.W.Sink.state in
    let file_of = g.F.Output.Sink.state in
    let sink = c.into_sink.result in
    let ran = (c.run_with_store-status.ensures.run (words_view c.args.words.now) c.in-Ok.ensures.parsed).run.run in
    elim c.match-operands.branch [
      | in-None w ↦
          let state = new_state out_of file_of c.new.result (c.new.ensures.0 ∙ ap (λ p. p.0) w.target-is)
          c.new.ensures.1 in
          returns_standard out_of file_of sink.target sink.written.items ran.written [] (out_of c.args.out)
          (sym (new_sink_is (output_state out_of file_of c.new.result) c.new-output.result
          (writable g (goal.at.into_parts-out-requires g c).After-new) c.new-output.ensures) ∙ state)
          (c.into_sink.ensures.accepted ∙ ran.output)
      | in-Some w ↦ absurd (not_none (ap (λ p. p.1) w.target-is) none)
      | in-Some-2+in-Some-create w ↦ absurd (not_none (ap (λ p. p.1) w.target-is) none)
    ]

pub returns : goal.returns
returns g c =
    let out_of = g.W.Sink.state in
    let file_of = g.F.Output.Sink.state in
    let words = words_view c.args.words.now in
    let command = command_view c.in-Ok.command in
    let meant = c.in-Ok.ensures.parsed in
    let at = goal.at.returns g c in
    let left = c.run_with_store-status in
    let post = left.ensures.run words meant in
    let sink = c.into_sink.result in
    let taken = c.into_sink.ensures in
    let state = sink_is (output_state out_of file_of sink) left.new.out taken.accepted taken.failed taken.unflushed
    taken.flushes in
    let report = c.report_of.ensures in
    let ended = c.into_parts-out in
    let ran = outcome_of left.new.out left.new.messages left.new.store left.result in
    let same = outcome_is (record (outcome out_of g.E.Sink.state c.report_of.result) { out = sink_of left.new.out })
    left.new.out left.new.messages left.new.store left.result refl
    (ap g.E.Sink.state report.sinks.1 ∙ c.into_sink-2.ensures) report.status report.memory in
    let made = new_sink_is (output_state out_of file_of c.new.result) c.new-output.result
    (writable g at.After-new) c.new-output.ensures in
    let given = c.new-messages.ensures in
    run_over_files command c.deref_mut.ensures.value (opened g at.After-deref_mut) words meant (out_of c.args.out)
    (g.E.Sink.state c.args.messages) c.args.store.now _ refl
    (failed_reads g.S.Source.state g.F.Input.Source.state _ _ c.failures_are_of_sources.ensures)
    (elim c.match-operands.branch [
      | in-None w ↦ ran_to_standard command words meant _ _ _ _ _ refl ran same report.memory
          (sink_of c.new-output.result) (rw given at post) out_of file_of sink.target sink.written.items (sym state)
          c.match-operands.target.1 ended.result.0 ended.result.1 ended.ensures (ap out_of report.sinks.0) refl c.args.out
          (sym made ∙ new_state out_of file_of c.new.result (c.new.ensures.0 ∙ ap (λ p. p.0) w.target-is)
          c.new.ensures.1)
          refl (to_standard command c.inputs-operands.ensures.output w.in-None.is) (ap g.F.Files.state w.files-is)
      | in-Some w ↦ ran_nowhere command words meant _ _ _ _ _ refl ran same report.memory
          (sink_of c.new-output.result) (rw given at post) out_of file_of sink.target sink.written.items (sym state)
          c.match-operands.target.1 ended.result.0 ended.result.1 ended.ensures (ap out_of report.sinks.0) refl
          (sym made ∙ new_state out_of file_of c.new.result (c.new.ensures.0 ∙ ap (λ p. p.0) w.target-is)
          c.new.ensures.1)
          (not_standard command c.inputs-operands.ensures.output w.in-Some.is)
          (no_name command c.deref_mut.result.now (sym w.if-is_any_unopened.true ∙ w.is_any_unopened.ensures))
          (ap g.F.Files.state w.files-is) (λ unused. report.sinks.0 ∙ unused_is (ap (λ p. p.1) w.target-is) unused)
      | in-Some-2+in-Some-create w ↦ ran_to_file command words meant _ _ _ _ _ refl ran same report.memory
          (sink_of c.new-output.result) (rw given at post) out_of file_of sink.target sink.written.items (sym state)
          c.match-operands.target.1 ended.result.0 ended.result.1 ended.ensures (ap out_of report.sinks.0) refl
          w.in-Some-create.file w.in-Some-2.name.now
          (sym made ∙ new_state out_of file_of c.new.result (c.new.ensures.0 ∙ ap (λ p. p.0) w.target-is)
          c.new.ensures.1)
          (not_standard command c.inputs-operands.ensures.output w.in-Some-2.is)
          (one_name command c.inputs-operands.ensures.output c.deref_mut.result.now w.in-Some-2.is
          (sym w.if-is_any_unopened.false ∙ w.is_any_unopened.ensures))
          (rw w.files-is (rw w.in-Some-create.is at w.create.ensures.created))
          (λ unused. report.sinks.0 ∙ unused_is (ap (λ p. p.1) w.target-is) unused)
    ])
