-- The inputs of a run. The files of the names are opened one after another, each with its reader. The inputs that
-- were opened are new, and have the bytes that are known of their files.
use Rattle.std.proofs.Common.{◌≡◌, ℕ, zero, suc, ◌+◌, List, [], ◌∷◌, ◌++◌, Option, Some, None, All, ap, sym, ◌∙◌, refl}
use Rattle.std.proofs.Common.{false, arith, length, map, take, get_or, length-append, append_assoc, subst}
use Rattle.std.proofs.Common.{◌<◌, ◌≤◌, Bor}
use Rattle.std.proofs.Math.Seq.{take-length, take-suc}
use Rattle.std.proofs.lemmas.Bool.{true≢false}
use Rattle.std.proofs.lemmas.List.{append-nil, get_or-map, length-map, map-append}
use Rattle.std.proofs.lemmas.List.Elements.{All-nil, All-cons, All-push}
use Rattle.ptlines.specs.Readers.{Reader, new_reader}
use Rattle.ptlines.specs.Sources.{SourceState, IsFresh}
use Rattle.ptopts.specs.Commands.{words_view}
use Rattle.ptrun.specs.Files.{AreNewInputs, HasBytes, HasBytesAt, IsNewOrUnopened}
use Rattle.ptfiles.specs.Files.{AreContents, Content, FilesState, HaveContents, Input, IsContent, IsNewInput, IsShort}
use Rattle.ptfiles.specs.Private.Files.{OpenPost}
use Rattle.ptfiles.specs.Files.{new_readers, reader_of_input, source_of}
use Rattle.ptfiles.specs.Private.Shell.{HaveOpened}

plus_zero : (n : ℕ) → n ≡ n + 0
plus_zero n = omega arith

plus_one : (n : ℕ) → n + 1 ≡ suc n
plus_one n = omega arith

plus_suc : (n k : ℕ) → n + suc k ≡ suc n + k
plus_suc n k = omega arith

content_added : (content : ℕ → List ℕ → Option Content) (count : ℕ) (names : List (List ℕ)) (inputs : List Input)
    (name : List ℕ) (input : Input)
    → AreContents content count names inputs → IsContent (content (count + length names) name) input
    → AreContents content count (names ++ name ∷ []) (inputs ++ input ∷ [])
content_added content count [] inputs name input are is =
    rw are (subst (λ n. IsContent (content n name) input) (sym (plus_zero count)) is, refl)
content_added content count (n ∷ names) [] name input are is = absurd are
content_added content count (n ∷ names) (i ∷ inputs) name input are is = (
  are.0,
  content_added content (suc count) names inputs name input are.1
      (subst (λ n. IsContent (content n name) input) (plus_suc count (length names)) is),
)

pub none_opened : (s : FilesState) (standard : SourceState) (r : Reader) → r ≡ new_reader standard false
    → HaveOpened s s [] standard (r ∷ [])
none_opened s standard r is = record {
  inputs = [];
  opened = λ i. record {
    opened = sym (append-nil s.opened) i;
    inputs = sym (append-nil s.inputs) i;
    created = s.created;
    outputs = s.outputs;
    content = s.content;
  };
  contents = refl;
  are_new = All-nil IsNewInput;
  readers_are = ap (λ (x : Reader). x ∷ []) is;
}

one_opened : (old s new : FilesState) (names : List (List ℕ)) (standard : SourceState) (readers : List Reader)
    (name : List ℕ) (input : Input) (r : Reader)
    → HaveOpened old s names standard readers → OpenPost s new name input → r ≡ reader_of_input input
    → HaveOpened old new (names ++ name ∷ []) standard (readers ++ r ∷ [])
one_opened old s new names standard readers name input r h post is = record {
  inputs = h.inputs ++ input ∷ [];
  opened = post.opened
      ∙ rw h.opened (λ i. record {
        opened = append_assoc old.opened names (name ∷ []) i;
        inputs = append_assoc old.inputs h.inputs (input ∷ []) i;
        created = old.created;
        outputs = old.outputs;
        content = old.content;
      });
  contents = content_added old.content (length old.opened) names h.inputs name input h.contents
      (rw (h.opened, length-append old.opened names) at post.content);
  are_new = All-push IsNewInput h.inputs input h.are_new post.is_new;
  readers_are = rw (h.readers_are, is) (ap (λ (l : List Reader). new_reader standard false ∷ l)
      (sym (map-append reader_of_input h.inputs (input ∷ []))));
}

names_and_next : (names : List (Bor (List ℕ))) (i : ℕ) (d : Bor (List ℕ)) → i < length names
    → take (i + 1) (words_view names) ≡ take i (words_view names) ++ (get_or names i d).now ∷ []
names_and_next names i d within =
    ap (λ n. take n (words_view names)) (plus_one i)
    ∙ take-suc (words_view names) i d.now (omega (arith, within, length-map names (λ (w : Bor (List ℕ)). w.now)))
    ∙ ap (λ name. take i (words_view names) ++ name ∷ []) (get_or-map (λ (w : Bor (List ℕ)). w.now) names i d d.now within)

pub next_opened : {old s new : FilesState} (names : List (Bor (List ℕ))) (i : ℕ) (d : Bor (List ℕ))
    {standard : SourceState} {readers : List Reader} {input : Input} {r : Reader} → i < length names
    → HaveOpened old s (take i (words_view names)) standard readers → OpenPost s new (get_or names i d).now input
    → r ≡ reader_of_input input → HaveOpened old new (take (i + 1) (words_view names)) standard (readers ++ r ∷ [])
next_opened {old} {s} {new} names i d {standard} {readers} {input} {r} within h post is =
    subst (λ l. HaveOpened old new l standard (readers ++ r ∷ [])) (sym (names_and_next names i d within))
    (one_opened old s new (take i (words_view names)) standard readers (get_or names i d).now input r h post is)

pub all_names : (names : List (Bor (List ℕ))) (i : ℕ) → i ≤ length names → length names ≤ i
    → take i (words_view names) ≡ words_view names
all_names names i within all = ap (λ n. take n (words_view names)) (count_is names i within all) ∙ take-length (words_view names)
  where
    count_is : (names : List (Bor (List ℕ))) (i : ℕ) → i ≤ length names → length names ≤ i → i ≡ length (words_view names)
    count_is names i within all = omega (arith, within, all, length-map names (λ (w : Bor (List ℕ)). w.now))

-- ---- new inputs

input_is_new : (input : Input) → IsNewInput input → IsNewOrUnopened (reader_of_input input)
input_is_new None is_new opened = absurd (true≢false opened)
input_is_new (Some source) is_new opened = record { buffered = refl; eof = is_new.not_eof; pulled = refl; fault = refl }

inputs_are_new : (inputs : List Input) → All IsNewInput inputs → All IsNewOrUnopened (map reader_of_input inputs)
inputs_are_new [] are = All-nil IsNewOrUnopened
inputs_are_new (input ∷ inputs) are = All-cons IsNewOrUnopened (reader_of_input input) (map reader_of_input inputs)
    (input_is_new input (are 0 None (omega arith)))
    (inputs_are_new inputs (λ k d within. are (suc k) d (omega (arith, within))))

count_of_contents : (content : ℕ → List ℕ → Option Content) (count : ℕ) (names : List (List ℕ)) (inputs : List Input)
    → AreContents content count names inputs → length inputs ≡ length names
count_of_contents content count [] inputs are = ap length are
count_of_contents content count (n ∷ names) [] are = absurd are
count_of_contents content count (n ∷ names) (i ∷ inputs) are =
    ap suc (count_of_contents content (suc count) names inputs are.1)

pub opened_are_new : (old new : FilesState) (names : List (List ℕ)) (standard : SourceState) (readers : List Reader)
    → IsFresh standard → HaveOpened old new names standard readers → AreNewInputs (Some (length names)) readers
opened_are_new old new names standard readers fresh h = rw h.readers_are (
  omega (
    arith,
    length-map h.inputs reader_of_input,
    count_of_contents old.content (length old.opened) names h.inputs
        h.contents,
  ),
  All-cons IsNewOrUnopened (new_reader standard false) (map reader_of_input h.inputs)
      (λ opened. record { buffered = refl; eof = fresh.not_eof; pulled = refl; fault = refl })
      (inputs_are_new h.inputs h.are_new),
)

-- ---- known bytes

input_has_bytes : (input : Input) (bytes : Content) → IsContent (Some bytes) input
    → HasBytesAt (reader_of_input input) bytes
input_has_bytes input None is = rw is.0 refl
input_has_bytes input (Some bytes) is = rw is.0 (refl, refl, is.1)

inputs_have_bytes : (content : ℕ → List ℕ → Option Content) (count : ℕ) (names : List (List ℕ)) (inputs : List Input)
    (contents : List Content)
    → AreContents content count names inputs → HaveContents content count names contents
    → HasBytes (map reader_of_input inputs) contents
inputs_have_bytes content count [] inputs contents are have position = rw (are, have) refl
inputs_have_bytes content count (n ∷ names) [] contents are have position = absurd are
inputs_have_bytes content count (n ∷ names) (i ∷ inputs) [] are have position = absurd have
inputs_have_bytes content count (n ∷ names) (i ∷ inputs) (bytes ∷ contents) are have zero =
    input_has_bytes i bytes (rw have.0 at are.0)
inputs_have_bytes content count (n ∷ names) (i ∷ inputs) (bytes ∷ contents) are have (suc position) =
    inputs_have_bytes content (suc count) names inputs contents are.1 have.1 position

pub readers_have_bytes : (content : ℕ → List ℕ → Option Content) (count : ℕ) (names : List (List ℕ))
    (inputs : List Input) (standard : SourceState) (bytes : List ℕ) (contents : List Content)
    → standard ≡ source_of bytes → IsShort (Some bytes) → AreContents content count names inputs
    → HaveContents content count names contents → HasBytes (new_readers standard inputs) (Some bytes ∷ contents)
readers_have_bytes content count names inputs standard bytes contents is short are have zero = rw is (refl, refl, short)
readers_have_bytes content count names inputs standard bytes contents is short are have (suc position) =
    inputs_have_bytes content count names inputs contents are have position
