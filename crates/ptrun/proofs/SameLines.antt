-- The known lines, the longest of them and the inputs of operands, as the page of the promise has them, are those of
-- the engines.
use Rattle.ptrun.proofs
use Rattle.ptrun.specs
use proofs.Common.{Bool, List, Received, [], ap, append_assoc, arith, cond, empty_input, false, is_in, length}
use proofs.Common.{length-append, map, option_map, refl, suc, sym, take, true, Option, ℕ, ◌++◌, ◌+◌, ◌==◌, ◌∙◌, ◌∷◌, ◌≡◌}
use Rattle.std.specs.List.{cons_option, enumerate_from, onto_first, slice_split}
use Rattle.std.specs.Prelude.{◌-◌, filter_map, if◌then◌else◌, max}
use Rattle.ptflow.specs.Uniqs as old_uniq
use Rattle.ptlines.specs.Received as old
use Rattle.ptlines.specs.Text.{complete_lines, lines, max_length, max_line_length, onto_first_if_any}
use specs.Decided.{inputs_in_turn, whole}
use specs.Files.{ReceivedInputs, at}
use specs.Lines.{init, known_lines, longest, maximum}
use specs.Private.Operands.{input_of_operand, inputs_of_operands, opened_inputs, opened_values}

-- ---- lines

init_cons : {X : Type 0} (x y : X) (more : List X) → init (x ∷ y ∷ more) ≡ x ∷ init (y ∷ more)
init_cons x y more =
    let count : length (x ∷ y ∷ more) - 1 ≡ suc (length (y ∷ more) - 1) = omega arith in
    ap (λ n. take n (x ∷ y ∷ more)) count

pub init_same : {X : Type 0} (xs : List X) → init xs ≡ old_uniq.init xs
init_same [] = refl
init_same (x ∷ []) = refl
init_same (x ∷ y ∷ more) = init_cons x y more ∙ ap (λ l. x ∷ l) (init_same (y ∷ more))

split_cons : (p : ℕ → Bool) (bytes : List ℕ)
    → (first : List ℕ) × (more : List (List ℕ)) × (slice_split p bytes ≡ first ∷ more)
split_cons p [] = ([], [], refl)
split_cons p (b ∷ bytes) = by_test (p b) (split_cons p bytes)
  where
    by_test : (test : Bool) → (first : List ℕ) × (more : List (List ℕ)) × (slice_split p bytes ≡ first ∷ more)
        → (first : List ℕ) × (more : List (List ℕ))
        × (cond test ([] ∷ slice_split p bytes) (onto_first b (slice_split p bytes)) ≡ first ∷ more)
    by_test true rest = ([], slice_split p bytes, refl)
    by_test false (first, more, is) = (b ∷ first, more, ap (onto_first b) is)

init_step : (test : Bool) (b : ℕ) (first : List ℕ) (more : List (List ℕ))
    → init (cond test ([] ∷ first ∷ more) (onto_first b (first ∷ more)))
    ≡ cond test ([] ∷ init (first ∷ more)) (onto_first_if_any b (init (first ∷ more)))
init_step true b first more = init_cons [] first more
init_step false b first [] = refl
init_step false b first (x ∷ more) =
    init_cons (b ∷ first) x more ∙ ap (onto_first_if_any b) (sym (init_cons first x more))

complete_same : (t : ℕ) (bytes : List ℕ) → init (slice_split (λ b. b == t) bytes) ≡ complete_lines t bytes
complete_same t [] = refl
complete_same t (b ∷ bytes) =
    let (first, more, is) = split_cons (λ b. b == t) bytes in
    ap (λ parts. init (cond (b == t) ([] ∷ parts) (onto_first b parts))) is
    ∙ (init_step (b == t) b first more
    ∙ ap (λ ls. cond (b == t) ([] ∷ ls) (onto_first_if_any b ls)) (ap init (sym is) ∙ complete_same t bytes))

pub known_same : (t : ℕ) (g : Received) → known_lines t g ≡ old.known_lines t g
known_same t g = ap (λ ls. if g.eof then lines t g.bytes else ls) (complete_same t g.bytes)

max_same : (ls : List (List ℕ)) → maximum (map length ls) ≡ max_length ls
max_same [] = refl
max_same (line ∷ ls) = ap (max (length line)) (max_same ls)

pub longest_whole : (t : ℕ) (bytes : List ℕ) → longest t (whole bytes) ≡ max_line_length t bytes
longest_whole t bytes = max_same (lines t bytes)

-- ---- inputs of operands

take_length : (xs ys : List ℕ) → take (length xs) (xs ++ ys) ≡ xs
take_length [] ys = refl
take_length (x ∷ xs) ys = ap (λ l. x ∷ l) (take_length xs ys)

abbrev in_turn : ReceivedInputs → List ℕ → ℕ × ℕ → Option Received
in_turn r all c = option_map (λ given. if is_in (take c.0 all) c.1 then empty_input else given) (at r c.1)

in_turn_from : (r : ReceivedInputs) (all before ps : List ℕ) → all ≡ before ++ ps
    → filter_map (in_turn r all) (enumerate_from (length before) ps)
    ≡ opened_values (inputs_of_operands empty_input r before ps)
in_turn_from r all before [] is = refl
in_turn_from r all before (p ∷ ps) is =
    let first : in_turn r all (length before, p) ≡ input_of_operand empty_input r before p =
    ap (λ ps. option_map (λ (given : Received). if is_in ps p then empty_input else given) (at r p))
    (ap (take (length before)) is ∙ take_length before (p ∷ ps)) in
    let rest : filter_map (in_turn r all) (enumerate_from (length before + 1) ps)
    ≡ opened_values (inputs_of_operands empty_input r (before ++ p ∷ []) ps) =
    ap (λ n. filter_map (in_turn r all) (enumerate_from n ps)) (sym (length-append before (p ∷ [])))
    ∙ in_turn_from r all (before ++ p ∷ []) ps (is ∙ sym (append_assoc before (p ∷ []) ps)) in
    λ i. cons_option (first i) (rest i)

pub in_turn_same : (r : ReceivedInputs) (ps : List ℕ) → inputs_in_turn r ps ≡ opened_inputs empty_input r ps
in_turn_same r ps = in_turn_from r ps [] ps refl
