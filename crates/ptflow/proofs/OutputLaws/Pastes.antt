-- The law of `paste` without `-s` if no input is named twice: each column has all lines of its input.
use Rattle.ptflow.proofs
use Rattle.ptflow.specs
use Rattle.std.proofs.Common.{◌≡◌, ℕ, ◌+◌, ◌≤◌, ◌==◌, List, [], ◌∷◌, refl, ap, sym, ◌∙◌, arith, map, get_or}
use Rattle.std.specs.Prelude.{◌%◌}
use Rattle.std.proofs.Math.Nat.{mod-one}
use Rattle.std.proofs.lemmas.List.{length-map}
use proofs.Common.{get_or-map, map-map}
use proofs.PasteLemmas.BufferedRows.Rows.Grid.{for_each_cell_unique, uses_before_lt}
use specs.Cuts.{select_from}
use specs.Laws.Outputs.{PasteOfDifferent}
use specs.PasteText.{columns, every_kth, rows, rows_text, uses_of}
use Rattle.ptlines.specs.Text.{lines}

every_line : (n : ℕ) (ls : List (List ℕ)) → select_from (λ i. i % 1 == 0) n ls ≡ ls
every_line n [] = refl
every_line n (line ∷ ls) = grind (arith, mod-one, every_line (n + 1) ls)

all_lines : (used before : ℕ) (ls : List (List ℕ)) → used ≡ 1 → before ≡ 0 → every_kth used before ls ≡ ls
all_lines used before ls one none = rw (one, none) (every_line 0 ls)

columns_once : (cells : List ℕ) (inputs : ℕ → List (List ℕ)) → ((input : ℕ) → uses_of cells input ≤ 1)
    → columns cells inputs ≡ map inputs cells
columns_once cells inputs once =
    sym (for_each_cell_unique _ cells (map inputs cells) [] (length-map cells inputs) (λ c low.
    let before = uses_before_lt cells c low in
    let one = once (get_or cells c 0) in
    get_or-map inputs cells c 0 [] low ∙ sym (all_lines _ _ _ (omega arith) (omega arith))))

pub paste_of_different : PasteOfDifferent
paste_of_different job cells texts parallel once =
    rw (parallel, columns_once cells (λ input. lines job.terminator (texts input)) once) (ap (λ cols. rows_text job
    (rows cols)) (sym (map-map (lines job.terminator) texts cells)))
