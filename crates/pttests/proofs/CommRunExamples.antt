-- Examples of `comm`: the output, the messages and the exit status that the specification gives for some arguments
-- and inputs (in order, out of order, or not opened), the output that is decided if a read fails, and the bound on
-- the memory. Each is computed. The definitions by which an example is stated serve those of `join` too.
use Rattle.std.proofs.Common.{◌≡◌, ℕ, List, [], ◌∷◌, ◌++◌, Some, None, refl, codes, map, true, false}
use Rattle.std.specs.Prelude.{Option}
use Rattle.std.specs.Fmt.{digits}
use Rattle.ptlines.specs.Received.{Received}
use Rattle.ptfakes.proofs.SplitWords.{words}
use Rattle.ptrun.specs.Files.{InputBytes}
use Rattle.ptrun.specs.CommandSpec.{messages}
use Rattle.ptrun.specs.SpecOfArgs.{spec_of_args}

pub record Outcome : Type 0 where
  pub out : List ℕ
  pub messages : List ℕ
  pub status : ℕ

abbrev pub outcome : List (List ℕ) → InputBytes → Outcome
outcome words w = record {
  out = (spec_of_args words).out w;
  messages = messages (spec_of_args words) w;
  status = (spec_of_args words).status w;
}

-- two files, and an empty standard input
abbrev pub files : List ℕ → List ℕ → InputBytes
files f g = Some [] ∷ Some f ∷ Some g ∷ []

abbrev pub writes : List ℕ → Outcome
writes out = record { out = out; messages = []; status = 0 }

abbrev pub stops_with : List ℕ → List ℕ → Outcome
stops_with out messages = record { out = out; messages = messages; status = 1 }

abbrev pub Example : Type 0
Example = List (List ℕ) × InputBytes × Outcome

abbrev in_order : List Example
in_order =
    (words "comm f g", files (codes "a\na\nb\n") (codes "a\nc\n"), writes (codes "\t\ta\na\nb\n\tc\n"))
    ∷ (words "comm -12 f g", files (codes "a\na\nb\n") (codes "a\nc\n"), writes (codes "a\n"))
    ∷ (words "comm -1 f g", files (codes "a\nb\n") (codes "b\nc\n"), writes (codes "\tb\nc\n"))
    ∷ (words "comm -123 f g", files (codes "a\nb\n") (codes "b\nc\n"), writes [])
    ∷ (words "comm f g", files [] [], writes [])
    ∷ (words "comm - g", Some [] ∷ Some (codes "a\n") ∷ [], writes (codes "\ta\n"))
    ∷ (words "comm f g", files (codes "a") (codes "a\nb"), writes (codes "\t\ta\n\tb\n"))
    ∷ (words "comm f -", Some (codes "b\n") ∷ Some (codes "a\nb\n") ∷ [], writes (codes "a\n\t\tb\n"))
    ∷ (words "comm - g", Some (codes "b\n") ∷ Some (codes "a\nb\n") ∷ [], writes (codes "\ta\n\t\tb\n"))
    ∷ (words "comm -r f g", files (codes "b\na\na\n") (codes "c\na\n"), writes (codes "\tc\nb\n\t\ta\na\n"))
    ∷ (
      words "comm -z f g",
      files (codes "a\nb" ++ 0 ∷ []) (codes "a" ++ 0 ∷ []),
      writes (codes "\ta" ++ 0 ∷ codes "a\nb" ++ 0 ∷ []),
    )
    ∷ []

abbrev out_of_order : List Example
out_of_order = (
  words "comm f g",
  files (codes "b\na\nc\n") (codes "a\nb\nb\nd\n"),
  stops_with (codes "\ta\n\t\tb\n\tb\n") (codes "comm: f: line 2 is out of order\n"),
)
    ∷ (
      words "comm f g",
      files (codes "b\na\n") (codes "c\nb\n"),
      stops_with (codes "b\n") (codes "comm: f: line 2 is out of order\n"),
    )
    ∷ (
      words "comm f g",
      files (codes "c\nb\n") (codes "b\na\n"),
      stops_with (codes "\tb\n") (codes "comm: g: line 2 is out of order\n"),
    )
    ∷ (
      words "comm f g",
      files (codes "b\na\n") (codes "b\nb\na\n"),
      stops_with (codes "\t\tb\n\tb\n") (codes "comm: f: line 2 is out of order\n"),
    )
    ∷ (
      words "comm f g",
      files (codes "b\nb\na\n") (codes "b\na\n"),
      stops_with (codes "\t\tb\nb\n") (codes "comm: f: line 3 is out of order\n"),
    )
    ∷ (
      words "comm f g",
      files (codes "a\nab\n") (codes "ab\na\n"),
      stops_with (codes "a\n\t\tab\n") (codes "comm: g: line 2 is out of order\n"),
    )
    ∷ (
      words "comm -r f g",
      files (codes "a\nab\n") [],
      stops_with (codes "a\n") (codes "comm: f: line 2 is out of order\n"),
    )
    ∷ (
      words "comm -r f g",
      files (codes "b\nc\n") (codes "a\nb\n"),
      stops_with (codes "b\n") (codes "comm: f: line 2 is out of order\n"),
    )
    ∷ (
      words "comm -z f g",
      files (codes "b" ++ 0 ∷ codes "a" ++ 0 ∷ []) [],
      stops_with (codes "b" ++ 0 ∷ []) (codes "comm: f: line 2 is out of order\n"),
    )
    ∷ (
      words "comm f -",
      Some (codes "b\na\n") ∷ Some [] ∷ [],
      stops_with (codes "\tb\n") (codes "comm: standard input: line 2 is out of order\n"),
    )
    ∷ []

abbrev unopened : List Example
unopened = (
  words "comm f g",
  Some [] ∷ None ∷ None ∷ [],
  stops_with [] (codes "comm: f: cannot be opened\ncomm: g: cannot be opened\n"),
)
    ∷ (
      words "comm f g",
      Some [] ∷ Some (codes "b\na\n") ∷ None ∷ [],
      stops_with [] (codes "comm: g: cannot be opened\n"),
    )
    ∷ (words "comm - f", Some (codes "a\n") ∷ None ∷ [], stops_with [] (codes "comm: f: cannot be opened\n"))
    ∷ []

abbrev pub actual : List Example → List Outcome
actual examples = map (λ (example : Example). outcome example.0 example.1) examples

abbrev pub expected : List Example → List Outcome
expected examples = map (λ (example : Example). example.2) examples

outcomes_match : actual in_order ≡ expected in_order
outcomes_match = refl

disorders_match : actual out_of_order ≡ expected out_of_order
unfolding lib.Utf8.encode digits
disorders_match = refl

unopened_match : actual unopened ≡ expected unopened
unfolding lib.Utf8.encode
unopened_match = refl

-- a read of g fails: entries with keys below its last line are decided, and none after a line out of order
abbrev pub received : List ℕ → List ℕ → List (Option Received)
received f g = Some (record { bytes = []; eof = false }) ∷ Some (record { bytes = f; eof = true }) ∷ Some
    (record { bytes = g; eof = false }) ∷ []

decided_before_a_failed_read : map (λ (example : List ℕ
    × List ℕ). (spec_of_args (words "comm f g")).decided (received example.0 example.1))
    ((codes "a\nc\n", codes "b\n") ∷ (codes "a\nb\na\n", codes "a\nb\n") ∷ (codes "b\na\n", codes "c\nd") ∷ [])
    ≡ codes "a\n" ∷ codes "\t\ta\n" ∷ codes "b\n" ∷ []
decided_before_a_failed_read = refl

-- at most twice the longest line of each file is held
memory_bound_of_comm : (spec_of_args (words "comm f g")).memory_bound (files (codes "abc\nd\n") (codes "ab\n")) ≡ 10
memory_bound_of_comm = refl
