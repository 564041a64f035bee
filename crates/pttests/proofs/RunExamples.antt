-- Examples of `cut` and `uniq`: the output, the messages and the exit status that the specification gives for some
-- arguments and inputs, the output that is decided if a read fails, the message about one operand, and the bound on
-- the memory. Each is computed.
use Rattle.std.proofs.Common.{◌≡◌, ℕ, List, [], ◌∷◌, Some, None, refl, codes, false, ◌++◌, map}
use Rattle.std.specs.Fmt.{digits}
use Rattle.ptfakes.proofs.SplitWords.{words}
use Rattle.ptrun.specs.Files.{InputBytes}
use Rattle.ptrun.specs.CommandSpec.{operand_messages, messages}
use Rattle.ptrun.specs.SpecOfArgs.{spec_of_args}

record Outcome : Type 0 where
  out : List ℕ
  messages : List ℕ
  status : ℕ

abbrev outcome : List (List ℕ) → InputBytes → Outcome
outcome words w = record {
  out = (spec_of_args words).out w;
  messages = messages (spec_of_args words) w;
  status = (spec_of_args words).status w;
}

abbrev writes : List ℕ → Outcome
writes out = record { out = out; messages = []; status = 0 }

abbrev refuses : List ℕ → Outcome
refuses messages = record { out = []; messages = messages; status = 2 }

abbrev input : List ℕ → InputBytes
input bytes = Some bytes ∷ []

abbrev examples : List (List (List ℕ) × InputBytes × Outcome)
examples =
    (words "cut -c 3-,1", input (codes "abcd\n"), writes (codes "acd\n"))
    ∷ (words "cut -b -2", input (codes "abc"), writes (codes "ab\n"))
    ∷ (words "cut -b 18446744073709551615-", input (codes "abc\n"), writes (codes "\n"))
    ∷ (
      words "cut -b 18446744073709551616",
      input [],
      refuses (codes "cut: wrong value for option -b: 18446744073709551616\n"),
    )
    ∷ (words "cut -c 1", input [], writes [])
    ∷ (words "cut -c 1", input (codes "\n"), writes (codes "\n"))
    ∷ (words "cut -b" ++ codes "2 4,1" ∷ [], input (codes "abcd\n"), writes (codes "abd\n"))
    ∷ (words "cut -b 2-", input (codes "a\nbcd"), writes (codes "\ncd\n"))
    ∷ (words "cut -b 1,3-2", input (codes "abc\n"), refuses (codes "cut: wrong value for option -b: 1,3-2\n"))
    ∷ (words "cut -b 1,,2", input (codes "abc\n"), refuses (codes "cut: wrong value for option -b: 1,,2\n"))
    ∷ (
      words "cut -c 1 f g h",
      Some [] ∷ Some (codes "ab\n") ∷ None ∷ Some (codes "cd\n") ∷ [],
      record { out = codes "a\nc\n"; messages = codes "cut: g: cannot be opened\n"; status = 1 },
    )
    ∷ (words "cut", input [], refuses (codes "cut: one of -b, -c and -f is needed\n"))
    ∷ (words "cut -xb", input [], refuses (codes "cut: unknown option in -xb\n"))
    ∷ (words "cut -b 1 -b 2", input [], refuses (codes "cut: option -b is given twice\n"))
    ∷ (words "cut -b 1 -f 1", input [], refuses (codes "cut: options -b and -f do not go together\n"))
    ∷ (words "cut -d : -f 2,2,1", input (codes "a:b:c\nxyz\n"), writes (codes "a:b\nxyz\n"))
    ∷ (words "cut -s -d : -f 5", input (codes "a:b\nxyz\n"), writes (codes "\n"))
    ∷ (
      words "cut -d , -f 2- f - g",
      Some (codes "x\n") ∷ Some (codes "a,b,c\n") ∷ Some (codes ",\n") ∷ [],
      writes (codes "b,c\nx\n\n"),
    )
    ∷ (words "cut -f 1 - -", input (codes "a\tb"), writes (codes "a\n"))
    ∷ (words "cut -f 1", input (codes "\n\n"), writes (codes "\n\n"))
    ∷ (words "cut -s -f 1", input (codes "\n\n"), writes [])
    ∷ (words "cut -z -c 1", input (codes "ab" ++ 0 ∷ codes "\ncd"), writes (codes "a" ++ 0 ∷ codes "\n" ++ 0 ∷ []))
    ∷ (words "cut -d \n -f 2 -z", input (codes "a\nb" ++ 0 ∷ []), writes (codes "b" ++ 0 ∷ []))
    ∷ (words "cut -d \n -f 2", input [], refuses (codes "cut: wrong value for option -d: \n\n"))
    ∷ (
      (words "cut -z -f 2 -d" ++ (0 ∷ []) ∷ []),
      input [],
      refuses (codes "cut: wrong value for option -d: " ++ 0 ∷ codes "\n"),
    )
    ∷ (
      words "cut -zf1 - - f",
      Some (codes "a\tb" ++ 0 ∷ codes "c") ∷ None ∷ [],
      record {
        out = codes "a" ++ 0 ∷ codes "c" ++ 0 ∷ [];
        messages = codes "cut: f: cannot be opened\n";
        status = 1;
      },
    )
    ∷ (words "tr -z a b", input [], refuses (codes "tr: unknown option in -z\n"))
    ∷ (words "uniq -c", input (codes "a\na\nb\na"), writes (codes "2 a\n1 b\n1 a\n"))
    ∷ (words "uniq -f 1 -s 1", input (codes " x 1a\ny 1a\n"), writes (codes " x 1a\n"))
    ∷ (words "uniq -c", input [], writes [])
    ∷ (words "uniq -c -f 1", input (codes "1 x\n2 x\n3 y"), writes (codes "2 1 x\n1 3 y\n"))
    ∷ (words "uniq -f 2", input (codes "a b\nc\n"), writes (codes "a b\n"))
    ∷ (words "uniq -s 18446744073709551615", input (codes "a\nb\n"), writes (codes "a\n"))
    ∷ (words "uniq -d", input (codes "a\na\nb\n"), writes (codes "a\n"))
    ∷ (words "uniq -u", input (codes "a\na\nb\n"), writes (codes "b\n"))
    ∷ (
      words "uniq g out",
      Some (codes "a\n") ∷ None ∷ [],
      record { out = []; messages = codes "uniq: g: cannot be opened\n"; status = 1 },
    )
    ∷ (words "uniq f -", Some (codes "x\n") ∷ Some (codes "a\na\n") ∷ [], writes (codes "a\n"))
    ∷ (
      words "uniq -zc",
      input (codes "a" ++ 0 ∷ codes "a" ++ 0 ∷ codes "b"),
      writes (codes "2 a" ++ 0 ∷ codes "1 b" ++ 0 ∷ []),
    )
    ∷ []

outcomes_match : map (λ (example : List (List ℕ) × InputBytes × Outcome). outcome example.0 example.1) examples
    ≡ map (λ (example : List (List ℕ) × InputBytes × Outcome). example.2) examples
unfolding lib.Utf8.encode digits
outcomes_match = refl

-- a read fails after the first line: this line is decided, and what was received of the second is not
decided_before_a_failed_read : (spec_of_args (codes "cut" ∷ codes "-c" ∷ codes "1-3" ∷ [])).decided
    (Some (record { bytes = codes "abcd\nab"; eof = false }) ∷ []) ≡ codes "abc\n"
decided_before_a_failed_read = refl

fields_decided_before_a_failed_read :
    (spec_of_args (codes "cut" ∷ codes "-d" ∷ codes ":" ∷ codes "-f" ∷ codes "1" ∷ [])).decided
    (Some (record { bytes = codes "a:b\nc:d"; eof = false }) ∷ []) ≡ codes "a\n"
fields_decided_before_a_failed_read = refl

-- the message about the first operand, which could not be opened
message_of_first_operand : operand_messages
    (spec_of_args (codes "cut" ∷ codes "-c" ∷ codes "1" ∷ codes "g" ∷ codes "f" ∷ codes "h" ∷ []))
    (Some [] ∷ None ∷ Some (codes "x") ∷ None ∷ []) 1 ≡ codes "cut: g: cannot be opened\n"
message_of_first_operand = refl

-- a read fails after the first line, which byte 0 terminates
decided_of_nul_terminated_lines : (spec_of_args (words "cut -z -c 1")).decided (Some
    (record { bytes = codes "ab" ++ 0 ∷ codes "\nc"; eof = false }) ∷ []) ≡ codes "a" ++ 0 ∷ []
decided_of_nul_terminated_lines = refl

-- a read fails, and nothing of the last run of equal lines is decided
last_run_is_undecided : map (λ (example : List (List ℕ)
    × List ℕ). (spec_of_args example.0).decided (Some (record { bytes = example.1; eof = false }) ∷ []))
    ((words "uniq", codes "a\na\nb") ∷ (words "uniq -c", codes "a\nb\nc") ∷ []) ≡ [] ∷ codes "1 a\n" ∷ []
unfolding digits
last_run_is_undecided = refl

-- The status is 0 without a message, also if nothing is written; and with a message it is not, also if something is.
silent_without_output : outcome (words "uniq -d") (input (codes "a\n")) ≡ writes []
silent_without_output = refl

message_beside_output : outcome (words "cut -c 1 f g") (Some [] ∷ Some (codes "ab\n") ∷ None ∷ [])
    ≡ record { out = codes "a\n"; messages = codes "cut: g: cannot be opened\n"; status = 1 }
message_beside_output = refl

-- at most twice the longest line is held
memory_bound_of_uniq : (spec_of_args (words "uniq")).memory_bound (Some (codes "abc\nd\n") ∷ []) ≡ 6
memory_bound_of_uniq = refl
