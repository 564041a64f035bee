-- Lemmas for the contract of `perform`: standard output is returned unchanged unless the words mean a command that
-- writes to it, and a run over files of the system that were not used before has the postcondition of `perform`
-- (`performed`), which does not say when a read fails.
use Rattle.std.proofs.Common.{◌≡◌, ℕ, Bool, true, false, List, [], ◌∷◌, ⊎_elim, inl, inr, refl, subst}
use Rattle.std.specs.Prelude.{⊤}
use Rattle.ptlines.specs.Sinks.{SinkState}
use Rattle.ptlines.specs.Slots.{Slots}
use Rattle.ptlines.specs.Sources.{SourceState}
use Rattle.ptopts.specs.Commands.{command_of_args}
use Rattle.ptrun.specs.Runs.{Outcome}
use Rattle.ptfiles.specs.Files.{FilesState, Output, new_readers, with_opened}
use Rattle.ptfiles.specs.Shell.{After, Before, HasRun, IsDirected, RunOverFilesPost, after, before, empty_store}
use Rattle.ptfiles.specs.Shell.{command_to_run, has_standard_output, input_names, output_names, valid_command}
use Rattle.ptext.specs.Perform.{PerformPost, no_calls}

if_not_standard : (words : List (List ℕ)) (out_of_memory : Bool)
    → has_standard_output (valid_command (command_of_args words)) ≡ false
    → has_standard_output (command_to_run words out_of_memory) ≡ false
if_not_standard words true not_standard = refl
if_not_standard words false not_standard = not_standard

if_directed : (names : List (List ℕ)) (b : Before) (a : After) (outputs : List Output) (old new : SinkState)
    (Unused : Type 0) → IsDirected false names b a outputs old new Unused → Unused
if_directed [] b a outputs old new Unused directed = directed.3
if_directed (name ∷ names) b a outputs old new Unused directed = directed.2

if_run : (words : List (List ℕ)) (b : Before) (a : After) (Unused Failing : Type 0)
    → has_standard_output (valid_command (command_of_args words)) ≡ false → HasRun words b a Unused Failing → Unused
if_run words b a Unused Failing not_standard h =
    let command = command_to_run words a.out_of_memory in
    if_directed (output_names command (new_readers b.standard h.inputs))
    (record b { files = with_opened b.files (input_names command) h.inputs }) a h.ran.outputs h.ran.sink
    h.ran.sink_after Unused (rw (if_not_standard words a.out_of_memory not_standard) at h.ran.directed)

pub out_is_unused : {words : List (List ℕ)} {b : Before} {a : After} {Unused Failing : Type 0}
    → has_standard_output (valid_command (command_of_args words)) ≡ false → RunOverFilesPost words b a Unused Failing
    → Unused
out_is_unused {words} {b} {a} {Unused} {Failing} not_standard =
    ⊎_elim (λ run. if_run words b a Unused Failing not_standard run.0)
    (⊎_elim (λ unopened. unopened.not_created.said.unused) (λ memory. memory.said.unused))

-- Nothing is said of when a read of a file of the system fails.
of_system : {words : List (List ℕ)} {b : Before} {a : After} {Unused Failing : Type 0}
    → RunOverFilesPost words b a Unused Failing → RunOverFilesPost words b a Unused ⊤
of_system {words} {b} {a} {Unused} (inl (h, exact)) = let of_system : HasRun words b a Unused ⊤ = record {
  inputs = h.inputs;
  are_new = h.are_new;
  contents = h.contents;
  new = h.new;
  ran = h.ran;
  failures = λ position failed. tt;
} in inl (of_system, exact)
of_system (inr other) = inr other

-- The files of the system and the store were not used before.
pub performed : {words : List (List ℕ)} {old new : FilesState} {standard : SourceState} {out messages : SinkState}
    {lent left : Slots} {file : Output} {out_of_memory : Bool} {o : Outcome} {Unused Failing : Type 0}
    → old ≡ no_calls → lent ≡ empty_store
    → RunOverFilesPost words (before old standard out messages lent) (after new left file out_of_memory o) Unused Failing
    → PerformPost words standard out messages Unused o
performed {words} {old} {new} {standard} {out} {messages} {lent} {left} {file} {out_of_memory} {o} {Unused} none empty
    post = (
      new,
      file,
      out_of_memory,
      left,
      subst (λ b. RunOverFilesPost words b (after new left file out_of_memory o) Unused ⊤)
          (λ i. before (none i) standard out messages (empty i)) (of_system post),
    )
