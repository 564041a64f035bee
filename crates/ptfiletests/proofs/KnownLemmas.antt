-- A run over streams of which all bytes are known and no read fails: unless memory runs out or a write fails, its
-- output, messages and status are those that the words mean. Also if the words are given as bytes.
use Rattle.std.proofs.Common.{◌≡◌, ◌⊎◌, ◌+◌, ℕ, suc, Bool, true, false, List, [], ◌∷◌, Option, Some, None, All, ap}
use Rattle.std.proofs.Common.{sym, ◌∙◌, refl, subst, inl, inr, ⊎_elim, if◌then◌else◌, length, arith}
use Rattle.std.proofs.lemmas.Bool.{false≢true, true≢false}
use Rattle.ptfiles.specs.Calls.Streams.{GivenStreamsPost, RunStreamsPost, file_content, is_opened, known}
use Rattle.ptfiles.specs.Calls.Streams.{status_unless_memory, stream_files}
use Rattle.ptfiles.specs.Files.{FilesState, HaveContents, IsShort, Output, created_state, source_of}
use Rattle.ptfiles.specs.Shell.{After, Before, HasRun, IsDirected, IsExactOverNames, RunOverFilesPost, after}
use Rattle.ptfiles.specs.Shell.{before, has_standard_output, input_names}
use Rattle.ptfiles.specs.Shell.{valid_command}
use Rattle.ptfiles.specs.declared.streams.GivenRun.{GivenRun}
use Rattle.ptfiles.specs.declared.streams.GivenRun.TheVariants.{Ran, Refused}
use Rattle.ptlines.specs.Sinks.{SinkState}
use Rattle.ptlines.specs.Slots.{Slots}
use Rattle.ptlines.specs.Sources.{SourceState}
use Rattle.ptlines.specs.Text.{lines}
use Rattle.ptopts.specs.Commands.{Command, command_of_args}
use Rattle.ptrun.specs.Runs.{IsExact, Outcome, outcome, sinks}
use Rattle.ptrun.specs.SpecOfArgs.{spec_of_args}
use Rattle.ptfiletests.proofs.NamedLemmas.{no_output}
use Rattle.ptfiletests.specs.KnownStreams.{GivenKnownPost, IsOutput, RunKnownPost, files_of, inputs_of, new_output}

-- ---- the bytes of the files

module _ (bytes : ℕ → List ℕ) (opened : List ℕ) where
  abbrev content : ℕ → Option (List ℕ)
  content number = Some (bytes number)

  content_is : (is : Bool) (index : ℕ)
      → (if is then known (content (3 + index)) else Some None) ≡ Some (if is then Some (bytes (3 + index)) else None)
  content_is true index = refl
  content_is false index = refl

  pub contents_are : (first : ℕ) (names : List (List ℕ))
      → HaveContents (λ count name. file_content content opened count) first names
      (files_of bytes opened first (length names))
  contents_are first [] = refl
  contents_are first (name ∷ names) = (content_is (is_opened opened first) first, contents_are (suc first) names)

-- ---- the status

-- Memory did not run out if the status is not 4.
fits : (status status' : ℕ) (out_of_memory denied : Bool) → status ≡ status_unless_memory status' out_of_memory denied
    → (status ≡ 4 → ⊥) → (out_of_memory ≡ false) × (denied ≡ false) × (status ≡ status')
fits status status' true denied is other = absurd (other is)
fits status status' false true is other = absurd (other is)
fits status status' false false is other = (refl, refl, is)

-- ---- the run

module _ (words : List (List ℕ)) (bytes : ℕ → List ℕ) (output : ℕ → SinkState) (opened : List ℕ)
    (standard : SourceState) (standard_is : standard ≡ source_of (bytes 0)) (short : IsShort (Some (bytes 0)))
    (place : FilesState) (lent store : Slots) (file : Output) (o : Outcome) (Unused Failing : Type 0) (none : Failing → ⊥)
    (created : All (λ output'. output' ≡ Some (output 1)) place.outputs) (denied : o.denied ≡ false)
    (written : SinkState) (is_output : IsOutput words file o written) (unfailed : written.failed ≡ false) where
  abbrev b : Before
  b = before (stream_files (content bytes opened) opened) standard (output 1) (output 2) lent

  abbrev a : Bool → After
  a out_of_memory = after place store file out_of_memory o

  abbrev command : Option Command
  command = valid_command (command_of_args words)

  abbrev Exact : Type 0
  Exact = IsExact (spec_of_args words) (inputs_of bytes opened words) (sinks (output 1) (output 2))
      (record o { out = written })

  no_file : file ≡ None → file ≡ Some written → ⊥
  no_file is is_some = cc

  first_is : {A : Type 0} (x y : A) (xs : List A) → All (λ z. z ≡ y) xs → xs ≡ x ∷ [] → x ≡ y
  first_is x y xs all is = subst (λ l. All (λ z. z ≡ y) l) is all 0 x (omega arith)

  some_is : (x y : SinkState) → Some x ≡ Some y → x ≡ y
  some_is x y is = cc

  -- The sink of the run is the stream of the output, and `written` is its state after the run.
  directed : (given : Before) → given.out ≡ output 1 → (outputs : List Output) (sink sink_after : SinkState)
      (names : List (List ℕ)) (is_standard : Bool)
      → IsDirected is_standard names given (a false) outputs sink sink_after Unused
      → All (λ output'. output' ≡ Some (output 1)) outputs
      → ((is_standard ≡ true) × (written ≡ o.out)) ⊎ (file ≡ Some written)
      → (sink ≡ output 1) × (sink_after ≡ written)
  directed given out_is outputs sink sink_after names true to all (inl is) = (to.1 ∙ out_is, to.2 ∙ sym is.1)
  directed given out_is outputs sink sink_after names true to all (inr is) = absurd (no_file to.3 is)
  directed given out_is outputs sink sink_after [] false to all (inl is) = absurd (false≢true is.0)
  directed given out_is outputs sink sink_after [] false to all (inr is) = absurd (no_file to.2 is)
  directed given out_is outputs sink sink_after (name ∷ names) false to all (inl is) = absurd (false≢true is.0)
  directed given out_is outputs sink sink_after (name ∷ names) false to all (inr is) = (
    some_is sink (output 1) (first_is (Some sink) (Some (output 1)) outputs all to.0),
    some_is sink_after written (sym to.1 ∙ is),
  )

  ran : (h : HasRun words b (a false) Unused Failing) → IsExactOverNames words b (a false) h → Exact
  ran h exact =
      let d = directed _ refl h.ran.outputs h.ran.sink h.ran.sink_after _ (has_standard_output command) h.ran.directed
      (subst (λ s. All (λ output'. output' ≡ Some (output 1)) s.outputs) h.ran.created created) is_output in
      subst (λ s. IsExact (spec_of_args words) (inputs_of bytes opened words) (sinks s (output 2))
      (record o { out = written })) d.0
      (subst (λ s. IsExact (spec_of_args words) (inputs_of bytes opened words) (sinks h.ran.sink (output 2))
      (record o { out = s })) d.1
      (exact (bytes 0) (files_of bytes opened 0 (length (input_names command))) standard_is short
      (contents_are bytes opened 0 (input_names command)) (λ position failed. none (h.failures position failed))
      (ap (λ s. s.failed) d.1 ∙ unfailed) denied refl))

  exact : (out_of_memory : Bool) → out_of_memory ≡ false → RunOverFilesPost words b (a out_of_memory) Unused Failing
      → Exact
  exact true fits post = absurd (true≢false fits)
  exact false fits (inl run) = ran run.0 run.1
  exact false fits (inr (inl unopened)) = absurd (⊎_elim
      (λ is. no_output command _ unopened.not_created.name is.0 unopened.not_created.is)
      (no_file unopened.not_created.said.file) is_output)
  exact false fits (inr (inr memory)) = absurd (false≢true memory.out_of_memory)

pub known_run : {W : Type 0} {of : W → SinkState} {words : List (List ℕ)} (bytes : ℕ → List ℕ) {opened : List ℕ}
    {lent left : Slots} {status : ℕ} {file : Output} {out_of_memory : Bool} {o : Outcome} {returned : W}
    {Failing : Type 0} → (Failing → ⊥)
    → RunStreamsPost of words (content bytes opened) new_output opened lent left status file out_of_memory o returned Failing
    → RunKnownPost words bytes opened status file o
known_run {W} {of} {words} bytes {opened} {lent} {left} {status} {file} {out_of_memory} {o} {returned} {Failing} none r written
    is_output unfailed other =
    let f = fits status o.status out_of_memory o.denied r.status_is other in
    let e = exact words bytes new_output opened r.standard (source_is r.standard (source_of (bytes 0)) r.input.0) r.input.1
    r.files lent left file o (returned ≡ r.out) Failing none r.created f.1 written is_output unfailed out_of_memory f.0
    r.ran in
    (f.2 ∙ e.status_is, e)
  where
    source_is : (x y : SourceState) → Some x ≡ Some y → x ≡ y
    source_is x y is = cc

pub known_given : {W : Type 0} (of : W → SinkState) (words : List ℕ) (bytes : ℕ → List ℕ) (opened : List ℕ)
    (ended : GivenRun W) (given : ℕ → Option (List ℕ)) (lent left : Slots) {Failing : Type 0} → (Failing → ⊥)
    → given ≡ content bytes opened → GivenStreamsPost of words given new_output opened lent left ended Failing
    → GivenKnownPost of words bytes opened ended
known_given of words bytes opened (Ran ran) given lent left {Failing} none is post = (
  post.0,
  known_run bytes none (subst (λ known. RunStreamsPost of (lines 0 words) known new_output opened lent left ran.status
      (created_state of ran.files.file) ran.files.out_of_memory (outcome of of ran.files.report) ran.files.report.out
      Failing) is post.1),
)
known_given of words bytes opened (Refused status said) given lent left none is post = post.0
