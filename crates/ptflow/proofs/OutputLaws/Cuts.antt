-- The laws of `cut`. If all bytes or all fields are selected, the lines are written as they are. `cut -f` takes a
-- column out of the rows that `paste` writes, since the fields of a row are what the row is split into.
use Rattle.ptflow.specs
use Rattle.std.proofs.Common.{◌≡◌, ◌≢◌, ℕ, ◌+◌, ◌<◌, ◌≤◌, ◌==◌, Bool, true, false, List, [], ◌∷◌, ◌++◌, refl, ap, arith}
use Rattle.std.proofs.Common.{◌∙◌, zero, suc, length, map, append_assoc, Some}
use Rattle.std.specs.Prelude.{All, slice_index_or}
use Rattle.std.specs.List.{AllByRecursion, flat_map, join_with_byte, slice_split, list_any}
use Rattle.std.proofs.lemmas.Bool.{eq-eqb, ne_eqb}
use Rattle.std.proofs.lemmas.Bool.Decides.{nat_tests}
use Rattle.std.proofs.lemmas.List.Elements.{recursion_from_All, All-weaker}
use Rattle.std.proofs.lemmas.List.Folds.{list_any-append}
use Rattle.std.proofs.lemmas.List.Splits.{join_with_byte-slice_split, length-slice_split, slice_split_at}
use Rattle.std.proofs.lemmas.List.Splits.{slice_split_none}
use Rattle.std.proofs.lemmas.List.Sums.{count_by-le-length}
use Rattle.std.proofs.Math.Nat.{mod-one}
use specs.Laws.Outputs.{CutOfAll, SelectsAll, CutAfterPaste, IsRowOf}
use specs.Cuts.{cut_fields, cut_line, select_from, is_field_delimiter}
use specs.PasteText.{join_with_cycle}
use Rattle.ptlangs.specs.Jobs.{Cut}
use Rattle.ptlines.specs.Text.{unlines, max_length, max_line_length}
use Rattle.ptlines.specs.Calls.Text.{IsLine}
use Rattle.ptlines.specs.Laws.Text.{AreLines}
use Rattle.ptlines.proofs.LineSearch.{IsLine-append}
use Rattle.ptlines.proofs.TextLaws.{lines-unlines}

-- ---- all bytes, or all fields

select_all : {X : Type 0} (test : ℕ → Bool) (n : ℕ) (xs : List X)
    → ((i : ℕ) → n ≤ i → i < n + length xs → test i ≡ true) → select_from test n xs ≡ xs
select_all test n [] all = refl
select_all test n (x ∷ xs) all =
    let more = select_all test (n + 1) xs (λ i from to. all i (omega arith) (omega arith)) in
    rw (all n (omega arith) (omega arith), more) refl

-- a line of a text is at most as long as the text
short_lines : (end : ℕ) (bytes : List ℕ) → max_line_length end bytes ≤ length bytes
short_lines end [] = omega arith
short_lines end (b ∷ bytes) = grind (arith, short_lines end bytes)

whole_line : (job : Cut) (bytes line : List ℕ) → job.only ≡ false → SelectsAll job bytes → length line ≤ length bytes
    → cut_line job line ≡ line ∷ []
whole_line job bytes line whole all low =
    let test = is_field_delimiter job in
    let few = count_by-le-length test line in
    let fields = select_all job.selected 1 (slice_split test line)
    (λ i from to. all i from (omega (arith, length-slice_split test line))) in
    let joined : cut_fields job line ≡ line =
    ap (join_with_byte job.delimiter) fields ∙ join_with_byte-slice_split job.delimiter line in
    grind (arith, select_all job.selected 1 line (λ i from to. all i from (omega arith)))

each_line : (job : Cut) (bytes : List ℕ) (ls : List (List ℕ)) → job.only ≡ false → SelectsAll job bytes
    → max_length ls ≤ length bytes → flat_map (cut_line job) ls ≡ ls
each_line job bytes [] whole all low = refl
each_line job bytes (line ∷ ls) whole all low =
    cc (whole_line job bytes line whole all (omega arith), each_line job bytes ls whole all (omega arith))

pub cut_of_all : CutOfAll
cut_of_all job bytes whole all =
    ap (unlines job.terminator) (each_line job bytes _ whole all (short_lines job.terminator bytes))

-- ---- the fields of a row of `paste`

-- only the n-th item, counted from 1, is selected
none_selected : (test : ℕ → Bool) (m i : ℕ) → ((k : ℕ) → test k ≡ (k == m)) → (row : List (List ℕ)) → m < i
    → select_from test i row ≡ []
none_selected test m i same [] below = refl
none_selected test m i same (x ∷ row) below = grind (arith, nat_tests, same i, none_selected test m (i + 1) same row)

selected_field : (test : ℕ → Bool) (n i : ℕ) → ((k : ℕ) → test k ≡ (k == n + i)) → (row : List (List ℕ))
    → n < length row → select_from test i row ≡ slice_index_or row n [] ∷ []
selected_field test n i same [] low = absurd (omega arith)
selected_field test zero i same (x ∷ row) low =
    grind (arith, nat_tests, same i, none_selected test (0 + i) (i + 1) same row)
selected_field test (suc n) i same (x ∷ row) low =
    let number : suc n + i ≡ n + (i + 1) = omega arith in
    grind (arith, nat_tests, same i, selected_field test n (i + 1) (λ k. same k ∙ ap (λ m. k == m) number) row)

module _ (c : ℕ) where
  abbrev joined : ℕ → List (List ℕ) → List ℕ
  joined = join_with_cycle (Some c ∷ [])

  -- a field, the delimiter, and the others
  joined_two : (k : ℕ) (field next : List ℕ) (row : List (List ℕ))
      → joined k (field ∷ next ∷ row) ≡ field ++ c ∷ joined (k + 1) (next ∷ row)
  joined_two k field next row = grind (arith, mod-one, append_assoc)

  differs : (field : List ℕ) → All (λ b. b ≢ c) field → All (λ b. (b == c) ≡ false) field
  differs = All-weaker (λ b. b ≢ c) _ (λ b. ne_eqb b c)

  split_row : (k : ℕ) (field : List ℕ) (row : List (List ℕ)) → AllByRecursion (All (λ b. b ≢ c)) (field ∷ row)
      → slice_split (λ b. b == c) (joined k (field ∷ row)) ≡ field ∷ row
  split_row k field [] (free, _) = slice_split_none _ field (differs field free)
  split_row k field (next ∷ row) (free, more) = cc (
    joined_two k field next row,
    slice_split_at (λ b. b == c) field c (joined (k + 1) (next ∷ row)) (differs field free) (eq-eqb c c refl),
    split_row (k + 1) next row more,
  )

  row_is_line : (end k : ℕ) → c ≢ end → (row : List (List ℕ)) → AreLines end row → IsLine end (joined k row)
  row_is_line end k apart [] free = tt
  row_is_line end k apart (field ∷ []) (here, _) = here
  row_is_line end k apart (field ∷ next ∷ row) (here, more) = rw (joined_two k field next row)
      (IsLine-append end field _ here (apart, row_is_line end (k + 1) apart (next ∷ row) more))

  -- A row without the delimiter is one field.
  alone : (n : ℕ) (row : List (List ℕ)) → n < length row → list_any (λ b. b == c) (joined 0 row) ≡ false
      → joined 0 row ≡ slice_index_or row n []
  alone n [] low none = absurd (omega arith)
  alone n (field ∷ []) low none = grind arith
  alone n (field ∷ next ∷ row) low none = grind (arith, list_any-append, eq-eqb, joined_two)

  nonempty_split : (n : ℕ) (row : List (List ℕ)) → n < length row → AllByRecursion (All (λ b. b ≢ c)) row
      → slice_split (λ b. b == c) (joined 0 row) ≡ row
  nonempty_split n [] low free = absurd (omega arith)
  nonempty_split n (field ∷ row) low free = split_row 0 field row free

  rows_are_lines : (end n : ℕ) → c ≢ end → (rows : List (List (List ℕ))) → AllByRecursion (IsRowOf c end n) rows
      → AreLines end (map (joined 0) rows)
  rows_are_lines end n apart [] are = tt
  rows_are_lines end n apart (row ∷ rows) (here, more) =
      (row_is_line end 0 apart row here.unterminated, rows_are_lines end n apart rows more)

module _ (job : Cut) (n : ℕ) (fields : job.fields ≡ true) (selected : (i : ℕ) → job.selected i ≡ (i == n + 1))
    (only : job.only ≡ false) where
  column_of_row : (row : List (List ℕ)) → IsRowOf job.delimiter job.terminator n row
      → cut_line job (joined job.delimiter 0 row) ≡ slice_index_or row n [] ∷ []
  column_of_row row is =
      let split = nonempty_split job.delimiter n row is.enough (recursion_from_All _ row is.undelimited) in
      let chosen = selected_field job.selected n 1 selected row is.enough in
      grind (arith, alone job.delimiter n row is.enough)

  columns_of_rows : (rows : List (List (List ℕ))) → AllByRecursion (IsRowOf job.delimiter job.terminator n) rows
      → flat_map (cut_line job) (map (joined job.delimiter 0) rows) ≡ map (λ row. slice_index_or row n []) rows
  columns_of_rows [] are = refl
  columns_of_rows (row ∷ rows) (here, more) = cc (column_of_row row here, columns_of_rows rows more)

pub cut_after_paste : CutAfterPaste
cut_after_paste job paste n rows fields selected only delimiters terminator apart are =
    let all = recursion_from_All _ rows are in
    rw (
      delimiters,
      terminator,
      lines-unlines job.terminator _ (rows_are_lines job.delimiter job.terminator n apart rows all),
      columns_of_rows job n fields selected only rows all,
    ) refl
