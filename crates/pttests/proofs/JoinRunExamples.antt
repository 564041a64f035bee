-- Examples of `join`: the output, the messages and the exit status that the specification gives for some arguments
-- and inputs (in order, out of order, or not opened), the output that is decided if a read fails, and the bound on
-- the memory. Each is computed.
use Rattle.std.proofs.Common.{◌≡◌, ℕ, List, [], ◌∷◌, ◌+◌, ◌*◌, Some, None, refl, codes, map}
use Rattle.std.specs.Fmt.{digits}
use Rattle.ptfakes.proofs.SplitWords.{words}
use Rattle.ptrun.specs.SpecOfArgs.{spec_of_args}
use Rattle.pttests.proofs.CommRunExamples.{Example, files, writes, stops_with, actual, expected, received}

abbrev in_order : List Example
in_order = (
  words "join f g",
  files (codes "a 1\na 2\nc 9\n") (codes "a x\na y\nb z\n"),
  writes (codes "a 1 x\na 1 y\na 2 x\na 2 y\n"),
)
    ∷ (words "join - g", Some [] ∷ Some (codes "a 1\n") ∷ [], writes [])
    ∷ (
      words "join -a 2 -e - -o 0,1.2,2.2 f g",
      files (codes "a 1\na 2\nc 9\n") (codes "a x\na y\nb z\n"),
      writes (codes "a 1 x\na 1 y\na 2 x\na 2 y\nb - z\n"),
    )
    ∷ (words "join -t , -v 1 f g", files (codes ",1\nk\n") (codes "k,2\n"), writes (codes ",1\n"))
    ∷ (words "join -1 2 f g", files (codes "x a\ny b\n") (codes "a 1\nb 2\n"), writes (codes "a x 1\nb y 2\n"))
    ∷ (words "join -a 1 -a 2 f g", files (codes "a 1\nc 3\n") (codes "b 2\nc 4\n"), writes (codes "a 1\nb 2\nc 3 4\n"))
    ∷ (
      words "join -t : -o 1.2,0,2.3 -e X -a 1 f g",
      files (codes "a:\nb:q\n") (codes "b:r\n"),
      writes (codes "X:a:X\nq:b:X\n"),
    )
    ∷ (words "join f g", files (codes "\na 1\n") (codes " \na 2\n"), writes (codes "\na 1 2\n"))
    ∷ (words "join -t , f g", files (codes "a,1\n") (codes "a,\n"), writes (codes "a,1,\n"))
    ∷ (words "join -1 5 -a 1 f g", files (codes "x y\n") [], writes (codes " x y\n"))
    ∷ (words "join f g", files [] [], writes [])
    ∷ (words "join f -", Some (codes "a x\nb z") ∷ Some (codes "a 1\nb 2") ∷ [], writes (codes "a 1 x\nb 2 z\n"))
    ∷ (words "join - g", Some (codes "a 1\n") ∷ Some (codes "a x\n") ∷ [], writes (codes "a 1 x\n"))
    ∷ (words "join -z f g", files (codes "a 1\nq\0") (codes "a x\0"), writes (codes "a 1\nq x\0"))
    ∷ (words "join -r f g", files (codes "b 1\na 2\n") (codes "b x\na y\n"), writes (codes "b 1 x\na 2 y\n"))
    ∷ (words "join -r -t , -a 1 f g", files (codes "k\n,1\n") [], writes (codes "k\n,1\n"))
    ∷ []

abbrev out_of_order : List Example
out_of_order = (
  words "join f g",
  files (codes "b 1\na 2\n") (codes "a x\nb y\n"),
  stops_with (codes "b 1 y\n") (codes "join: f: line 2 is out of order\n"),
)
    ∷ (
      words "join f g",
      files (codes "a\n") (codes "b\na\n"),
      stops_with [] (codes "join: g: line 2 is out of order\n"),
    )
    ∷ (
      words "join -r f g",
      files (codes "b 1\nc 2\n") (codes "b x\n"),
      stops_with (codes "b 1 x\n") (codes "join: f: line 2 is out of order\n"),
    )
    ∷ (
      words "join - g",
      Some (codes "b 1\na 2\n") ∷ Some (codes "b x\n") ∷ [],
      stops_with (codes "b 1 x\n") (codes "join: standard input: line 2 is out of order\n"),
    )
    ∷ []

abbrev unopened : List Example
unopened = (
  words "join f g",
  Some [] ∷ None ∷ None ∷ [],
  stops_with [] (codes "join: f: cannot be opened\njoin: g: cannot be opened\n"),
)
    ∷ (
      words "join f g",
      Some [] ∷ Some (codes "b\na\n") ∷ None ∷ [],
      stops_with [] (codes "join: g: cannot be opened\n"),
    )
    ∷ (words "join - f", Some (codes "a\n") ∷ None ∷ [], stops_with [] (codes "join: f: cannot be opened\n"))
    ∷ []

outcomes_match : actual in_order ≡ expected in_order
outcomes_match = refl

disorders_match : actual out_of_order ≡ expected out_of_order
unfolding lib.Utf8.encode digits
disorders_match = refl

unopened_match : actual unopened ≡ expected unopened
unfolding lib.Utf8.encode
unopened_match = refl

-- a read of g fails: entries with keys below that of its last line are decided, and none after a line out of order
decided_before_a_failed_read : map (λ (example : List ℕ
    × List ℕ). (spec_of_args (words "join -a 1 f g")).decided (received example.0 example.1))
    ((codes "a 1\nb 2\n", codes "a x\nb y\n") ∷ (codes "a 1\nb 2\n", codes "a x\nb") ∷ (
      codes "0\na 1\n",
      codes "a x\n",
    ) ∷
    (codes "b 1\na 2\n", codes "b x\nc y\n") ∷ []) ≡ codes "a 1 x\n" ∷ [] ∷ codes "0\n" ∷ codes "b 1 x\n" ∷ []
decided_before_a_failed_read = refl

-- at most twice the longest line of each file and all lines of g with one key are held
memory_bound_of_join : (spec_of_args (words "join f g")).memory_bound
    (files (codes "a 1\n") (codes "a xy\na z\nb 12345\n")) ≡ 2 * 3 + 2 * 7 + 7
memory_bound_of_join = refl
