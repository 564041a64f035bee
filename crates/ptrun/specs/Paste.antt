-- The output of `paste` for what was received of its inputs.
use Rattle.std.specs.Prelude.{ℕ, ◌%◌, ◌==◌, ◌||◌, List, [], ◌∷◌, ◌++◌, Bool, length, take, max, map, filter, zip}
use Rattle.std.specs.Prelude.{fold, count_by, nat_lt, slice_index_or, if◌then◌else◌}
use Rattle.std.specs.List.{enumerate_from, range_with_len, list_all}
use Rattle.ptlines.specs.Received.{Received}
use Rattle.ptlines.specs.Text.{unlines}
use Rattle.ptlangs.specs.Jobs.{Paste}
use Rattle.ptflow.specs.Cuts.{select_from}
use Rattle.ptflow.specs.PasteText.{join_with_cycle}
use Rattle.ptrun.specs.Lines.{known_lines}

-- With `-s`: the known lines in one row, which ends once the input has ended.
abbrev pub paste_serial_decided : Paste → Received → List ℕ
paste_serial_decided job given = join_with_cycle job.delimiters 0 (known_lines job.terminator given)
    ++ (if given.eof then job.terminator ∷ [] else [])

-- The lines of each column. An input that `k` columns read deals out its lines to them in order: the column with `j`
-- such columns before it has lines j, j + k, j + 2k and so on.
abbrev pub columns : List ℕ → (ℕ → List (List ℕ)) → List (List (List ℕ))
columns operands inputs =
    let uses : List ℕ → ℕ → ℕ = λ operands input. count_by (λ p. p == input) operands in
    map (λ (c : ℕ × ℕ). select_from (λ i. i % uses operands c.1 == uses (take c.0 operands) c.1) 0 (inputs c.1))
    (enumerate_from 0 operands)

-- The rows that are known: those of which each column has its line, or its input has ended. A column that has ended
-- gives an empty field.
abbrev pub paste_decided : Paste → List ℕ → (ℕ → Received) → List ℕ
paste_decided job operands given =
    let cols = columns operands (λ p. known_lines job.terminator (given p)) in
    let ended = map (λ p. (given p).eof) operands in
    let known : ℕ → Bool = λ r. list_all (λ (c : List (List ℕ) × Bool). c.1 || nat_lt r (length c.0)) (zip cols ended) in
    let row : ℕ → List (List ℕ) = λ r. map (λ col. slice_index_or col r []) cols in
    unlines job.terminator (map (λ r. join_with_cycle job.delimiters 0 (row r))
    (filter known (range_with_len 0 (fold max 0 (map length cols)))))
