-- Worked examples of `comm` and `join` on inputs in parts: what the laws give, and counterexamples for each of their
-- conditions.
use Rattle.std.proofs.Common.{◌≡◌, ℕ, ◌<◌, ◌==◌, List, [], ◌∷◌, ◌++◌, Bool, true, false, cond, length, refl, ap, inl}
use Rattle.std.proofs.Common.{inr, arith}
use Rattle.std.specs.Prelude.{bytes_eq, codes, filter, flat_map}
use Rattle.std.specs.List.{range_with_len}
use Rattle.std.specs.List.Sorted.{IsPermutation}
use Rattle.std.proofs.lemmas.List.Sorted.{length_permutation}
use Rattle.ptlines.specs.Laws.Parts.{HasOnlyCompleteLines}
use Rattle.ptlines.specs.Text.{unlines}
use Rattle.ptlangs.specs.Jobs.{Comm, Join}
use Rattle.ptlangs.specs.Private.Jobs.{default_comm}
use Rattle.ptlangs.specs.Calls.Jobs.{default_join}
use Rattle.ptmerge.specs.declared.key_order.Side.{Side}
use Rattle.ptmerge.specs.declared.key_order.Side.TheVariants.{First, Second}
use Rattle.ptmerge.specs.Calls.Comm.{comm_tool}
use Rattle.ptmerge.specs.Calls.Join.{join_tool}
use Rattle.ptmerge.specs.MergeSpec.{Lines}
use Rattle.ptmerge.specs.Calls.MergeSpec.{MergeTool, keys, lines_of, merge_output}
use Rattle.ptmerge.specs.Laws.Parts.{AllKeysBelow, AreSplitByKey, AreInputsSorted, text_of_part, output_lines}
use Rattle.ptmerge.specs.Calls.Sides.{both}
use Rattle.ptmerge.proofs.Parts.{comm_of_keys, join_of_keys, comm_of_parts, join_of_parts}

abbrev compares : MergeTool
compares = comm_tool default_comm

abbrev joins : MergeTool
joins = join_tool default_join

abbrev writes : MergeTool → List ℕ → List ℕ → List ℕ
writes tool f g = merge_output tool (both f g)

each_whole : (end : ℕ) (f g : List ℕ) → HasOnlyCompleteLines end f → HasOnlyCompleteLines end g → (side : Side)
    → HasOnlyCompleteLines end (both f g side)
each_whole end f g p q First = p
each_whole end f g p q Second = q

-- ---- parts that are split at the same key

comm_is_cut : AreSplitByKey compares (both (codes "a\n") (codes "a\nb\n")) (both (codes "c\n") (codes "c\n"))
comm_is_cut = record {
  whole = each_whole 10 _ _ (inr (codes "a", refl)) (inr (codes "a\nb", refl));
  in_order = refl;
  below = ((refl, (refl, tt)), ((refl, (refl, tt)), ((refl, (refl, tt)), tt)));
}

comm_in_parts : writes compares (codes "a\nc\n") (codes "a\nb\nc\n")
    ≡ writes compares (codes "a\n") (codes "a\nb\n") ++ writes compares (codes "c\n") (codes "c\n")
comm_in_parts = comm_of_parts default_comm _ _ comm_is_cut

comm_of_both_parts : writes compares (codes "a\n") (codes "a\nb\n") ++ writes compares (codes "c\n") (codes "c\n")
    ≡ codes "\t\ta\n\tb\n\t\tc\n"
comm_of_both_parts = refl

-- Descending order, and lines that end with byte 0.
abbrev backwards : Comm
backwards = record default_comm { terminator = 0; descending = true }

backwards_is_cut : AreSplitByKey (comm_tool backwards) (both (codes "c\0b\0") (codes ""))
    (both (codes "a") (codes "a\0"))
backwards_is_cut = record {
  whole = each_whole 0 _ _ (inr (codes "c\0b", refl)) (inl refl);
  in_order = refl;
  below = ((refl, (refl, tt)), ((refl, (refl, tt)), tt));
}

comm_backwards_in_parts : writes (comm_tool backwards) (codes "c\0b\0a") (codes "a\0")
    ≡ writes (comm_tool backwards) (codes "c\0b\0") (codes "")
    ++ writes (comm_tool backwards) (codes "a") (codes "a\0")
comm_backwards_in_parts = comm_of_parts backwards _ _ backwards_is_cut

comm_backwards_of_both : writes (comm_tool backwards) (codes "c\0b\0") (codes "")
    ++ writes (comm_tool backwards) (codes "a") (codes "a\0") ≡ codes "c\0b\0\t\ta\0"
comm_backwards_of_both = refl

abbrev joins_all : Join
joins_all = record default_join { unpaired1 = true; unpaired2 = true }

join_is_cut : AreSplitByKey (join_tool joins_all) (both (codes "a 1\na 2\n") (codes "a x\n"))
    (both (codes "b 3\n") (codes "c z\n"))
join_is_cut = record {
  whole = each_whole 10 _ _ (inr (codes "a 1\na 2", refl)) (inr (codes "a x", refl));
  in_order = refl;
  below = ((refl, (refl, tt)), ((refl, (refl, tt)), ((refl, (refl, tt)), tt)));
}

join_in_parts :
    writes (join_tool joins_all) (codes "a 1\na 2\nb 3\n") (codes "a x\nc z\n")
    ≡ writes (join_tool joins_all) (codes "a 1\na 2\n") (codes "a x\n")
    ++ writes (join_tool joins_all) (codes "b 3\n") (codes "c z\n")
join_in_parts = join_of_parts joins_all _ _ join_is_cut

join_of_both_parts : writes (join_tool joins_all) (codes "a 1\na 2\n") (codes "a x\n")
    ++ writes (join_tool joins_all) (codes "b 3\n") (codes "c z\n") ≡ codes "a 1 x\na 2 x\nb 3\nc z\n"
join_of_both_parts = refl

-- The second parts may be out of order; then the whole is, after the same key.
second_falls_is_cut : AreSplitByKey compares (both (codes "a\n") (codes "")) (both (codes "c\nb\n") (codes "d\n"))
second_falls_is_cut = record {
  whole = each_whole 10 _ _ (inr (codes "a", refl)) (inl refl);
  in_order = refl;
  below = ((refl, (refl, (refl, tt))), tt);
}

second_falls_in_parts : codes "a\nc\n" ≡ writes compares (codes "a\n") (codes "")
    ++ writes compares (codes "c\nb\n") (codes "d\n")
second_falls_in_parts = comm_of_parts default_comm _ _ second_falls_is_cut

-- ---- each condition is needed

abbrev AreWhole : MergeTool → (Side → List ℕ) → Type 0
AreWhole tool first = (side : Side) → HasOnlyCompleteLines tool.terminator (first side)

abbrev AreBelow : MergeTool → (Side → List ℕ) → (Side → List ℕ) → Type 0
AreBelow tool first second = AllKeysBelow tool.cmp (keys tool (lines_of tool first)) (keys tool (lines_of tool second))

abbrev IsWritten : MergeTool → (Side → List ℕ) → (Side → List ℕ) → Type 0
IsWritten tool first second = merge_output tool (λ side. first side ++ second side)
    ≡ merge_output tool first ++ merge_output tool second

-- A split inside a line.
not_within_a_line : ((first second : Side → List ℕ) → AreInputsSorted compares first → AreBelow compares first second
    → IsWritten compares first second) → ⊥
not_within_a_line law =
    omega (arith, ap length (law (both (codes "a") (codes "")) (both (codes "b\n") (codes "")) refl ((refl, tt), tt)))

not_within_a_joined_line : ((first second : Side → List ℕ) → AreInputsSorted joins first → AreBelow joins first second
    → IsWritten joins first second) → ⊥
not_within_a_joined_line law =
    omega (
      arith,
      ap length (law (both (codes "a") (codes "a\n")) (both (codes "b\n") (codes "")) refl
          ((refl, tt), ((refl, tt), tt))),
    )

-- A split by size: one key is in a first part and in a second part.
not_by_size : ((first second : Side → List ℕ) → AreWhole compares first → AreInputsSorted compares first
    → IsWritten compares first second) → ⊥
not_by_size law =
    omega (
      arith,
      ap length (law (both (codes "a\n") (codes "")) (both (codes "") (codes "a\n"))
          (each_whole 10 _ _ (inr (codes "a", refl)) (inl refl)) refl),
    )

not_joined_by_size : ((first second : Side → List ℕ) → AreWhole joins first → AreInputsSorted joins first
    → IsWritten joins first second) → ⊥
not_joined_by_size law = omega (
  arith,
  ap length (law (both (codes "a 1\n") (codes "")) (both (codes "") (codes "a x\n"))
      (each_whole 10 _ _ (inr (codes "a 1", refl)) (inl refl)) refl),
)

-- A first part that is out of order.
not_out_of_order : ((first second : Side → List ℕ) → AreWhole compares first → AreBelow compares first second
    → IsWritten compares first second) → ⊥
not_out_of_order law =
    omega (
      arith,
      ap length (law (both (codes "b\na\n") (codes "")) (both (codes "c\n") (codes ""))
          (each_whole 10 _ _ (inr (codes "b\na", refl)) (inl refl)) ((refl, tt), ((refl, tt), tt))),
    )

not_joined_out_of_order : ((first second : Side → List ℕ) → AreWhole joins first → AreBelow joins first second
    → IsWritten joins first second) → ⊥
not_joined_out_of_order law =
    omega (
      arith,
      ap length (law (both (codes "b\na\n") (codes "b\n")) (both (codes "c\n") (codes "c\n"))
          (each_whole 10 _ _ (inr (codes "b\na", refl)) (inr (codes "b", refl)))
          ((refl, (refl, tt)), ((refl, (refl, tt)), ((refl, (refl, tt)), tt)))),
    )

-- ---- lines that are distributed by their keys

-- The part of a key: one part has the key b, and the other has all other keys.
abbrev part_of_b : List ℕ → ℕ
part_of_b key = cond (bytes_eq key (codes "b")) 1 0

below_two : (t : Bool) → cond t 1 0 < 2
below_two true = omega arith
below_two false = omega arith

part_of_b_below : (key : List ℕ) → part_of_b key < 2
part_of_b_below key = below_two (bytes_eq key (codes "b"))

abbrev three : Side → List ℕ
three = both (codes "a 1\nb 2\nc 3\n") (codes "a x\nb y\nc z\n")

b_alone : text_of_part joins part_of_b three 1 First ≡ codes "b 2\n"
b_alone = refl

join_in_some_order : IsPermutation (codes "a 1 x" ∷ codes "b 2 y" ∷ codes "c 3 z" ∷ [])
    (codes "a 1 x" ∷ codes "c 3 z" ∷ codes "b 2 y" ∷ [])
join_in_some_order = join_of_keys default_join three part_of_b 2 refl part_of_b_below

comm_in_some_order : IsPermutation (codes "a" ∷ codes "\t\tb" ∷ codes "c" ∷ [])
    (codes "a" ∷ codes "c" ∷ codes "\t\tb" ∷ [])
comm_in_some_order = comm_of_keys default_comm (both (codes "a\nb\nc\n") (codes "b\n")) part_of_b 2 refl part_of_b_below

-- ---- each condition is needed

-- The output of all parts together.
abbrev parts_write : MergeTool → (ℕ → Side → List ℕ) → ℕ → Lines
parts_write tool part parts = flat_map (λ i. output_lines tool (part i)) (range_with_len 0 parts)

-- The part of a line: one line is in one part, and all other lines are in the other part.
abbrev part_of_line : List ℕ → ℕ
part_of_line line = cond (bytes_eq line (codes "a 1")) 1 0

part_of_line_below : (line : List ℕ) → part_of_line line < 2
part_of_line_below line = below_two (bytes_eq line (codes "a 1"))

-- Lines that are distributed by something else than the key, as by the whole line.
abbrev lines_of_part : MergeTool → (List ℕ → ℕ) → (Side → List ℕ) → ℕ → Side → List ℕ
lines_of_part tool part_of inputs i side =
    unlines tool.terminator (filter (λ line. part_of line == i) (lines_of tool inputs side))

not_by_line :
    ((inputs : Side → List ℕ) (part_of : List ℕ → ℕ) (parts : ℕ) → AreInputsSorted joins inputs
    → ((line : List ℕ) → part_of line < parts)
    → IsPermutation (output_lines joins inputs) (parts_write joins (lines_of_part joins part_of inputs) parts))
    → ⊥
not_by_line law =
    omega (
      arith,
      length_permutation (codes "a 1 x" ∷ []) []
          (law (both (codes "a 1\n") (codes "a x\n")) part_of_line 2 refl part_of_line_below),
    )

-- Inputs that are out of order.
not_by_key_out_of_order :
    ((inputs : Side → List ℕ) (part_of : List ℕ → ℕ) (parts : ℕ) → ((key : List ℕ) → part_of key < parts)
    → IsPermutation (output_lines joins inputs) (parts_write joins (text_of_part joins part_of inputs) parts)) → ⊥
not_by_key_out_of_order law =
    omega (
      arith,
      length_permutation (codes "b 1 x" ∷ []) (codes "a 2 y" ∷ codes "b 1 x" ∷ [])
          (law (both (codes "b 1\na 2\n") (codes "a y\nb x\n")) part_of_b 2 part_of_b_below),
    )

-- A key that belongs to no part.
not_without_its_part :
    ((inputs : Side → List ℕ) (part_of : List ℕ → ℕ) (parts : ℕ) → AreInputsSorted compares inputs
    → IsPermutation (output_lines compares inputs)
    (parts_write compares (text_of_part compares part_of inputs) parts)) → ⊥
not_without_its_part law =
    omega (arith, length_permutation (codes "a" ∷ []) [] (law (both (codes "a\n") (codes "")) (λ key. 7) 2 refl))
