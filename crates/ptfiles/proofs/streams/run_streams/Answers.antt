-- Answer for `run_streams`: its contract, from the run over the streams as files, of which none was used before.
-- Each file that was created is the stream of the output.
use Rattle.std.proofs.Common.{◌≡◌, Some, option_map}
use Rattle.std.proofs.lemmas.List.Elements.{All-map}
use Rattle.ptfiles.proofs.StreamLemmas.{streamed}
use Rattle.ptfiles.proofs.streams.run_streams.Goals as goal

pub returns : goal.returns
returns g c =
    let files = c.run_over_files-report.new.files in
    streamed c.new-files.ensures c.input-standard.ensures.content c.output-out.ensures.state
    c.output-messages.ensures.state
    c.run_over_files-report.ensures
    (All-map (λ output'. output' ≡ Some (g.H.Host.output 1)) (option_map g.H.Output.Sink.state) files.creates.results
    files.all_output)
    c.status_of.ensures
