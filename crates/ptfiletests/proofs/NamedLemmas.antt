-- A run over named files, of which all bytes are known and no read fails: unless memory runs out or a write fails, a
-- command that writes to standard output writes what the words mean for these bytes.
use Rattle.std.proofs.Common.{◌≡◌, ◌<◌, ◌^◌, ℕ, suc, Bool, true, false, List, [], ◌∷◌, Option, Some, None, ap, ◌∙◌, refl}
use Rattle.std.proofs.Common.{if◌then◌else◌, inl, inr, is_none, length, map, subst}
use Rattle.std.proofs.lemmas.Bool.{false≢true, true≢false}
use Rattle.std.specs.Borrow.{Bor}
use Rattle.std.specs.List.{list_any}
use Rattle.ptfiles.specs.Files.{Content, FilesState, HaveContents, Output, new_readers, source_of}
use Rattle.ptfiles.specs.Shell.{After, Before, HasRun, IsExactOverNames, MayFail}
use Rattle.ptfiles.specs.Shell.{RunOverFilesPost, after, before, empty_store, has_standard_output}
use Rattle.ptfiles.specs.Shell.{input_names, name_of_output, output_names, valid_command}
use Rattle.ptlines.specs.Readers.{Reader}
use Rattle.ptlines.specs.Sinks.{SinkState}
use Rattle.ptlines.specs.Slots.{Slots}
use Rattle.ptlines.specs.Sources.{SourceState}
use Rattle.ptopts.specs.Commands.{Command, command_of_args}
use Rattle.ptrun.specs.Runs.{IsExact, Outcome, sinks}
use Rattle.ptrun.specs.SpecOfArgs.{spec_of_args}
use Rattle.ptfiles.specs.Calls.Bytes.{bytes_state}
use Rattle.ptfiletests.specs.NamedFiles.{RunNamedPost, content_of, new_sink, unopened_files}

pub no_read_fails : MayFail bytes_state bytes_state → ⊥
no_read_fails (inl x) = false≢true x.1
no_read_fails (inr x) = false≢true x.1

contents_are : (of : List ℕ → Content) (first : ℕ) (names : List (List ℕ))
    → HaveContents (λ count name. Some (of name)) first names (map of names)
contents_are of first [] = refl
contents_are of first (name ∷ names) = (refl, contents_are of (suc first) names)

pub no_output : (command : Option Command) (readers : List Reader) (name : List ℕ) → has_standard_output command ≡ true
    → output_names command readers ≡ name ∷ [] → ⊥
no_output None readers name standard is = false≢true standard
no_output (Some command) readers name standard is =
    by_output command.output (list_any (λ r. r.refused) readers) standard is
  where
    nil_is_cons : [] ≡ name ∷ [] → ⊥
    nil_is_cons is = cc

    by_output : (output : Option (List ℕ)) (unopened : Bool) → is_none output ≡ true
        → (if unopened then [] else name_of_output output) ≡ name ∷ [] → ⊥
    by_output None true standard is = nil_is_cons is
    by_output None false standard is = nil_is_cons is
    by_output (Some other) unopened standard is = false≢true standard

module _ (words : List (List ℕ)) (files : List (Bor (List ℕ) × Bor (List ℕ))) (bytes : List ℕ)
    (short : length bytes < 2 ^ 63) (place : FilesState) (file : Output) (store : Slots) (o : Outcome)
    (Unused : Type 0) where
  abbrev b : Before
  b = before (unopened_files files) (source_of bytes) new_sink new_sink empty_store

  abbrev a : After
  a = after place store file false o

  abbrev names : List (List ℕ)
  names = input_names (valid_command (command_of_args words))

  ran : (h : HasRun words b a Unused (MayFail bytes_state bytes_state)) → IsExactOverNames words b a h
      → has_standard_output (valid_command (command_of_args words)) ≡ true → o.denied ≡ false → o.out.failed ≡ false
      → IsExact (spec_of_args words) (Some bytes ∷ map (content_of files) names) (sinks new_sink new_sink) o
  ran h exact standard fits fine =
      let d = rw standard at h.ran.directed in
      subst (λ s. IsExact (spec_of_args words) (Some bytes ∷ map (content_of files) names) (sinks s new_sink) o) d.1
      (subst (λ s. IsExact (spec_of_args words) (Some bytes ∷ map (content_of files) names) (sinks h.ran.sink new_sink)
      (record o { out = s })) d.2
      (exact bytes (map (content_of files) names) refl short (contents_are (content_of files) 0 names)
      (λ position failed. no_read_fails (h.failures position failed)) (ap (λ s. s.failed) d.2 ∙ fine) fits refl))

  pub named : (out_of_memory : Bool)
      → RunOverFilesPost words b (after place store file out_of_memory o) Unused (MayFail bytes_state bytes_state)
      → RunNamedPost words files bytes o out_of_memory
  named true post standard parsed fits fine = absurd (true≢false parsed)
  named false (inl run) standard parsed fits fine = ran run.0 run.1 standard fits fine
  named false (inr (inl unopened)) standard parsed fits fine = absurd (no_output (valid_command (command_of_args words))
      (new_readers (source_of bytes) unopened.inputs) unopened.not_created.name standard unopened.not_created.is)
  named false (inr (inr memory)) standard parsed fits fine = absurd (false≢true memory.out_of_memory)

-- No file was opened or created before, nothing was written, and the store was empty.
pub named_run : (files : List (Bor (List ℕ) × Bor (List ℕ))) (bytes : List ℕ) {words : List (List ℕ)}
    {old place : FilesState} {standard : SourceState} {out messages : SinkState} {lent left : Slots} {file : Output}
    {out_of_memory : Bool} {o : Outcome} {Unused : Type 0} → old ≡ unopened_files files → standard ≡ source_of bytes
    → length bytes < 2 ^ 63 → out ≡ new_sink → messages ≡ new_sink → lent ≡ empty_store
    → RunOverFilesPost words (before old standard out messages lent) (after place left file out_of_memory o) Unused
    (MayFail bytes_state bytes_state)
    → RunNamedPost words files bytes o out_of_memory
named_run files bytes {words} {old} {place} {standard} {out} {messages} {lent} {left} {file} {out_of_memory} {o} {Unused}
    unopened is short out_is messages_are empty post =
    named words files bytes short place file left o Unused out_of_memory
    (subst (λ b. RunOverFilesPost words b (after place left file out_of_memory o) Unused
    (MayFail bytes_state bytes_state))
    (λ i. before (unopened i) (is i) (out_is i) (messages_are i) (empty i)) post)
