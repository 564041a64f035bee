-- Examples of `paste`: the output, the messages and the exit status that the specification gives for some arguments
-- and inputs, the output that is decided if a read fails, the bounds on the memory, and the output of 512 columns.
-- Each is computed.
use Rattle.std.proofs.Common.{◌≡◌, ℕ, List, [], ◌∷◌, ◌++◌, Some, None, true, false, refl, codes, map, replicate}
use Rattle.ptlines.specs.Received.{Received}
use Rattle.ptfakes.proofs.SplitWords.{words}
use Rattle.ptrun.specs.Files.{InputBytes, ReceivedInputs}
use Rattle.ptrun.specs.CommandSpec.{messages}
use Rattle.ptrun.specs.SpecOfArgs.{spec_of_args}

record Outcome : Type 0 where
  out : List ℕ
  messages : List ℕ
  status : ℕ

-- the arguments after the tool's name
abbrev outcome : List (List ℕ) → InputBytes → Outcome
outcome ws w = let m = spec_of_args (codes "paste" ∷ ws) in record {
  out = m.out w;
  messages = messages m w;
  status = m.status w;
}

abbrev writes : List ℕ → Outcome
writes out = record { out = out; messages = []; status = 0 }

abbrev stops_with : List ℕ → Outcome
stops_with messages = record { out = []; messages = messages; status = 1 }

abbrev input : List ℕ → InputBytes
input bytes = Some bytes ∷ []

-- an empty standard input and these files
abbrev files : InputBytes → InputBytes
files fs = Some [] ∷ fs

abbrev examples : List (List (List ℕ) × InputBytes × Outcome)
examples =
    (words "-d \\0, - - -", input (codes "1\n2\n3\n4\n"), writes (codes "12,3\n4,\n"))
    ∷ (
      words "f - g -",
      Some (codes "1\n2\n3\n") ∷ Some (codes "a\n") ∷ Some [] ∷ [],
      writes (codes "a\t1\t\t2\n\t3\t\t\n"),
    )
    ∷ (words "-", input [], writes [])
    ∷ (words "f f", files (Some (codes "a\nb") ∷ Some (codes "a\nb") ∷ []), writes (codes "a\ta\nb\tb\n"))
    ∷ (
      words "-d 12 - f -",
      Some (codes "1\n2\n3\n4\n5\n") ∷ Some (codes "a\nb") ∷ [],
      writes (codes "11a22\n31b24\n512\n"),
    )
    ∷ (words "-z f g", files (Some (codes "a\0b\nc") ∷ Some (codes "1\0") ∷ []), writes (codes "a\t1\0b\nc\t\0"))
    ∷ (words "-zd \\n - -", input (codes "1\02\n3"), writes (codes "1\n2\n3\0"))
    ∷ (
      words "f g",
      Some (codes "x\n") ∷ Some (codes "a\n") ∷ None ∷ [],
      stops_with (codes "paste: g: cannot be opened\n"),
    )
    ∷ (
      words "g - h",
      Some (codes "x\n") ∷ None ∷ None ∷ [],
      stops_with (codes "paste: g: cannot be opened\npaste: h: cannot be opened\n"),
    )
    ∷ (words "-s -d ,; f g", files (Some (codes "a\nb\nc\n") ∷ Some [] ∷ []), writes (codes "a,b;c\n\n"))
    ∷ (words "-s -d \\0\\n f", files (Some (codes "a\nb\nc\nd\n") ∷ []), writes (codes "ab\ncd\n"))
    ∷ (words "-s - f -", Some (codes "1\n2\n") ∷ Some (codes "x\n") ∷ [], writes (codes "1\t2\nx\n\n"))
    ∷ (words "-s -", input [], writes (codes "\n"))
    ∷ (words "-sz -", input (codes "1\02\n3"), writes (codes "1\t2\n3\0"))
    ∷ (
      words "-s f g h",
      files (Some (codes "a\nb\n") ∷ None ∷ Some (codes "c") ∷ []),
      record { out = codes "a\tb\nc\n"; messages = codes "paste: g: cannot be opened\n"; status = 1 },
    )
    ∷ []

outcomes_match : map (λ (example : List (List ℕ) × InputBytes × Outcome). outcome example.0 example.1) examples
    ≡ map (λ (example : List (List ℕ) × InputBytes × Outcome). example.2) examples
outcomes_match = refl

-- all bytes of an input, and those received before a read failed
abbrev complete : List ℕ → Received
complete bytes = record { bytes = bytes; eof = true }

abbrev partial : List ℕ → Received
partial bytes = record { bytes = bytes; eof = false }

abbrev decided : List (List ℕ) → ReceivedInputs → List ℕ
decided ws r = (spec_of_args (codes "paste" ∷ ws)).decided r

-- a read fails: the rows whose cells are all known are decided; with `-s`, the whole lines and all inputs before
abbrev failing : List (List (List ℕ) × ReceivedInputs × List ℕ)
failing = (
  words "f g",
  Some (partial []) ∷ Some (complete (codes "1\n2\n3\n")) ∷ Some (partial (codes "x\ny")) ∷ [],
  codes "1\tx\n",
)
    ∷ (words "f -", Some (partial (codes "1\n2\n3\n4")) ∷ Some (complete (codes "a\n")) ∷ [], codes "a\t1\n\t2\n\t3\n")
    ∷ (words "- -", Some (partial (codes "1\n2\n3\n4")) ∷ [], codes "1\t2\n")
    ∷ (words "-z - -", Some (partial (codes "1\n\02\03\n")) ∷ [], codes "1\n\t2\0")
    ∷ (words "-s -", Some (partial (codes "1\n2\n3")) ∷ [], codes "1\t2")
    ∷ (words "-s - f", Some (complete (codes "1\n2")) ∷ Some (partial (codes "a\n")) ∷ [], codes "1\t2\na")
    ∷ []

decided_match : map (λ (example : List (List ℕ) × ReceivedInputs × List ℕ). decided example.0 example.1) failing
    ≡ map (λ (example : List (List ℕ) × ReceivedInputs × List ℕ). example.2) failing
decided_match = refl

-- at most the longest line of each operand is held, and with `-s` of one
abbrev memory_bounds : List (List (List ℕ) × InputBytes × ℕ)
memory_bounds =
    (words "- f -", Some (codes "abc\nd\n") ∷ Some (codes "ab") ∷ [], 8)
    ∷ (words "f g", files (Some (codes "abc\n") ∷ None ∷ []), 0)
    ∷ (words "-s f - -", Some (codes "abc\nd\n") ∷ Some (codes "ab") ∷ [], 3)
    ∷ []

bounds_match : map (λ (example : List (List ℕ) × InputBytes
    × ℕ). (spec_of_args (codes "paste" ∷ example.0)).memory_bound example.1) memory_bounds
    ≡ map (λ (example : List (List ℕ) × InputBytes × ℕ). example.2) memory_bounds
bounds_match = refl

-- 512 columns of one input
many_columns : (spec_of_args (codes "paste" ∷ codes "-d" ∷ codes "," ∷ replicate 512 (codes "-"))).out
    (input (codes "1\n2\n")) ≡ codes "1,2" ++ replicate 510 44 ++ codes "\n"
many_columns = refl
