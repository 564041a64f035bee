-- A run over streams is one over them as files.
use Rattle.std.proofs.Common.{◌≡◌, ℕ, Bool, List, Option, Some, All, subst}
use Rattle.ptfiles.specs.Files.{FilesState, IsContent, Output}
use Rattle.ptfiles.specs.Shell.{RunOverFilesPost, after, before}
use Rattle.ptlines.specs.Sinks.{SinkState}
use Rattle.ptlines.specs.Slots.{Slots}
use Rattle.ptlines.specs.Sources.{SourceState}
use Rattle.ptrun.specs.Runs.{Outcome}
use Rattle.ptfiles.specs.Calls.Streams.{RunStreamsPost, known, status_unless_memory, stream_files}

pub streamed : {W : Type 0} {of : W → SinkState} {words : List (List ℕ)} {content : ℕ → Option (List ℕ)}
    {output : ℕ → SinkState} {opened : List ℕ} {lent left : Slots} {status : ℕ} {files place : FilesState}
    {standard : SourceState} {out returned : W} {messages : SinkState} {file : Output} {out_of_memory : Bool} {o : Outcome}
    {Failing : Type 0}
    → files ≡ stream_files content opened → IsContent (known (content 0)) (Some standard) → of out ≡ output 1
    → messages ≡ output 2
    → RunOverFilesPost words (before files standard (of out) messages lent) (after place left file out_of_memory o)
    (returned ≡ out) Failing
    → All (λ output'. output' ≡ Some (output 1)) place.outputs → status ≡ status_unless_memory o.status out_of_memory o.denied
    → RunStreamsPost of words content output opened lent left status file out_of_memory o returned Failing
streamed {W} {of} {words} {content} {output} {opened} {lent} {left} {status} {files} {place} {standard} {out} {returned}
    {messages} {file} {out_of_memory} {o} {Failing} files_are input out_is messages_are ran created status_is = record {
      standard = standard;
      input = input;
      out = out;
      out_is = out_is;
      files = place;
      ran = subst (λ b. RunOverFilesPost words b (after place left file out_of_memory o) (returned ≡ out) Failing)
          (λ i. before (files_are i) standard (out_is i) (messages_are i) lent) ran;
      created = created;
      status_is = status_is;
    }
