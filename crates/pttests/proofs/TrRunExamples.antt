-- Examples of `tr`: the output that the specification gives for some arguments and inputs, without a message and with
-- status 0, and the output that is decided if a read fails. Each is computed.
use Rattle.std.proofs.Common.{◌≡◌, ℕ, List, [], ◌∷◌, Some, refl, codes, false, map}
use Rattle.ptlangs.specs.TrClasses.{all_bytes}
use Rattle.ptfakes.proofs.SplitWords.{words}
use Rattle.ptrun.specs.Files.{InputBytes}
use Rattle.ptrun.specs.CommandSpec.{messages}
use Rattle.ptrun.specs.SpecOfArgs.{spec_of_args}

-- the arguments after the tool's name, standard input, and the output; there is no message
abbrev examples : List (List (List ℕ) × List ℕ × List ℕ)
examples =
    (words "-cs [:alpha:] [\\n*]", codes "one, two.\n", codes "one\ntwo\n")
    ∷ (words "a-c x-y", codes "abcd", codes "xyyd")
    ∷ (words "-ds 0-9 ab", codes "a1ab2bb", codes "ab")
    ∷ (words "[:lower:] [:upper:]", codes "ab1z\n", codes "AB1Z\n")
    ∷ (words "\\055a-b x[y*02]z", codes "-ab", codes "xyy")
    ∷ (words "-cd 0-9", codes "a1b2\n", codes "12")
    ∷ (words "a b", codes "", codes "")
    ∷ (words "-d a-c", codes "abcabd\n", codes "d\n")
    ∷ (words "a-c-e 1-5", codes "a-e", codes "145")
    ∷ (words "aab xyz", codes "ab", codes "yz")
    ∷ (words "\\0012 ab", codes "2", codes "b")
    ∷ (words "-s ab x", codes "abba", codes "x")
    ∷ (words "-cs a x", codes "abba\n", codes "axax")
    ∷ (words "[a-c] <1-3>", codes "[ab]", codes "<12>")
    ∷ (words "0-9 [x*5]y", codes "0459", codes "xxyy")
    ∷ (words "[:lower:]1 [:upper:]", codes "a1", codes "AZ")
    ∷ (words "-ds [:digit:] [:space:]", codes "1  2\n\n", codes " \n")
    ∷ (words "-d [=a=]b", codes "abc", codes "c")
    ∷ (words "-c \\000-\\377 [x*]", codes "ab", codes "ab")
    ∷ []

-- the output, the messages, and the exit status
abbrev outcome : List (List ℕ) → InputBytes → List ℕ × List ℕ × ℕ
outcome tr w = ((spec_of_args tr).out w, messages (spec_of_args tr) w, (spec_of_args tr).status w)

outputs_match : map (λ (example : List (List ℕ) × List ℕ
    × List ℕ). outcome (codes "tr" ∷ example.0) (Some example.1 ∷ [])) examples
    ≡ map (λ (example : List (List ℕ) × List ℕ × List ℕ). (example.2, [], 0)) examples
unfolding all_bytes
outputs_match = refl

-- a read fails, and the output for all bytes received is decided
decided_of_received : (spec_of_args (codes "tr" ∷ codes "-d" ∷ codes "b" ∷ [])).decided
    (Some (record { bytes = codes "ab\nb"; eof = false }) ∷ []) ≡ codes "a\n"
unfolding all_bytes
decided_of_received = refl
