-- Runs that violate the bound on the lag of the output: nothing was written, or more than a block is missing, though
-- much of an input was received. The lengths of the decided and of the written output contradict the bound.
use Rattle.std.proofs.Common.{◌≡◌, ℕ, ◌+◌, ◌<◌, ◌≤◌, Bool, true, false, List, [], ◌∷◌, ◌++◌, Some, ap, arith, codes}
use Rattle.std.proofs.Common.{length, refl, length-append}
use Rattle.std.specs.Prelude.{flat_map, unwrap_or, replicate}
use Rattle.std.proofs.lemmas.List.{length-replicate}
use Rattle.ptlines.specs.Received.{Received}
use Rattle.ptflow.specs.ToolSpec.{ToolSpec}
use Rattle.ptfakes.proofs.SplitWords.{words}
use Rattle.ptrun.specs.Files.{ReceivedInputs}
use Rattle.ptrun.specs.Decided.{up_to_unended}
use Rattle.ptrun.specs.Lag.{IsWrittenUpToBlock, LagOfLast, HasBoundedLag}
use Rattle.ptrun.specs.Private.Joint.{one_input_tool, joint_spec}
use Rattle.ptrun.specs.SpecOfArgs.{spec_of_args}
use Rattle.ptlines.specs.declared.sizes.TheConstants.{BLOCK}

abbrev complete : List ℕ → Received
complete bytes = record { bytes = bytes; eof = true }

abbrev nothing : Received
nothing = record { bytes = []; eof = false }

-- the two operands are files, after standard input
abbrev first_complete : List ℕ → ReceivedInputs
first_complete bytes = Some nothing ∷ Some (complete bytes) ∷ Some nothing ∷ []

-- within the bound, the first part of the decided output is at most a block longer than the written output, and no
-- longer if no write failed
first_written : (first later written : List ℕ) (failed : Bool) → IsWrittenUpToBlock (first ++ later) written failed
    → (length first ≤ length written + BLOCK) × (failed ≡ false → length first ≤ length written)
first_written first later written failed k =
    let all : length first + length later ≡ length k.front + length k.lost =
    omega (arith, ap length k.split, length-append first later, length-append k.front k.lost) in
    let begun : length written ≡ length k.front + length k.begins.rest =
    omega (arith, ap length k.begins.is, length-append k.front k.begins.rest) in
    (omega (arith, all, begun, k.few), λ fine. omega (arith, all, begun, ap length (k.none fine)))

written_of_the_first : (one : Received → List ℕ) (bytes written : List ℕ) (failed : Bool)
    → LagOfLast one (complete bytes ∷ nothing ∷ []) (λ decided. IsWrittenUpToBlock decided written failed)
    → (length (one (complete bytes)) ≤ length written + BLOCK)
    × (failed ≡ false → length (one (complete bytes)) ≤ length written)
written_of_the_first one bytes written failed k =
    let kept = k (complete bytes ∷ []) nothing refl in
    first_written (one (complete bytes)) (flat_map one (up_to_unended (kept.0.earlier ∷ []))) written
    failed kept.1

-- Nothing was written for a file of 3 bytes, and no write failed.
nothing_of_a_small_file : HasBoundedLag (spec_of_args (words "cut -c 1 f g")) (first_complete (codes "ab\n")) 1
    (λ decided. IsWrittenUpToBlock decided [] false) → ⊥
nothing_of_a_small_file k =
    let cut = unwrap_or (spec_of_args (words "cut -c 1 f g")).beyond.sequential (λ given. []) in
    let two : length (cut (complete (codes "ab\n"))) ≡ 2 = refl in
    omega (arith, two, (written_of_the_first cut (codes "ab\n") [] false k).1 refl)

-- A write failed, and more than a block is missing of the output that the first file decided.
more_than_a_block_is_lost : (one : Received → List ℕ) (bytes written : List ℕ)
    → length written + BLOCK < length (one (complete bytes))
    → LagOfLast one (complete bytes ∷ nothing ∷ []) (λ decided. IsWrittenUpToBlock decided written true) → ⊥
more_than_a_block_is_lost one bytes written too_much k =
    omega (arith, (written_of_the_first one bytes written true k).0, too_much)

abbrev copier : ToolSpec
copier = record {
  text = λ text. text;
  decided = λ given. given.bytes;
  size = λ text. 0;
  slots = 0;
  end = 10;
  keeps_end = true;
}

-- Nothing was written for 20,000 bytes of the only input, each of which is decided as soon as it is received.
nothing_of_one_input : HasBoundedLag (joint_spec [] (one_input_tool copier) [] (0 ∷ []))
    (Some (record { bytes = replicate 20000 120; eof = false }) ∷ []) 0
    (λ decided. IsWrittenUpToBlock decided [] false) → ⊥
nothing_of_one_input k =
    let kept = k 0 (record { bytes = replicate 20000 120; eof = false }) refl refl in
    omega (
      arith,
      kept.0.short,
      ap length kept.0.split,
      length-append kept.0.earlier.bytes kept.0.last,
      length-replicate {A = ℕ} 20000 120,
      ap length kept.1.split,
      length-append kept.1.front kept.1.lost,
      ap length (kept.1.none refl),
      ap length kept.1.begins.is,
      length-append kept.1.front kept.1.begins.rest,
    )
