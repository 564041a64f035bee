-- Worked examples of inputs in parts, for `cut`, `tr`, `uniq` and `paste`: results of the laws, and counterexamples
-- if a condition is not met.
use Rattle.std.proofs.Common.{◌≡◌, ◌==◌, cond, inl, inr, ℕ, List, [], ◌∷◌, ◌++◌, Bool, true, false, length, refl, ap}
use Rattle.std.proofs.Common.{arith, codes, Option, Some, None, Result, Ok, Err, ◌<◌, ◌∙◌, sym, zero, suc}
use Rattle.std.specs.Prelude.{slice_index_or, unwrap_or, filter, bytes_eq}
use Rattle.std.specs.Fmt.{digits}
use Rattle.std.specs.Str.{byte}
use Rattle.std.proofs.lemmas.Bool.Decides.{nat_tests}
use Rattle.ptlines.specs.Laws.Parts.{HasOnlyCompleteLines}
use Rattle.ptlines.specs.Text.{unlines, lines}
use Rattle.ptlangs.specs.CutLists.{is_selected}
use Rattle.ptlangs.specs.Jobs.{Cut, Uniq, Paste}
use Rattle.ptlangs.specs.TrClasses.{all_bytes}
use Rattle.ptlangs.specs.TrPlan.{Plan, plan}
use Rattle.ptlangs.specs.TrPlan.{ByteMap}
use Rattle.ptlangs.specs.TrPlan.{byte_map}
use Rattle.ptlangs.specs.declared.faults.SetFault.{SetFault}
use Rattle.ptlangs.specs.declared.jobs.Show.TheVariants.{Counts}
use Rattle.ptlangs.specs.declared.tr.plan.Form.TheVariants.{Squeeze}
use Rattle.ptflow.specs.Cuts.{cut}
use Rattle.ptflow.specs.PasteText.{paste, paste_serial, uses_of}
use Rattle.ptflow.specs.TrOutput.{tr}
use Rattle.ptflow.specs.Uniqs.{Run, uniq, key, runs, output_of}
use Rattle.ptflow.specs.Laws.Parts.{EndsWith, KeysChange, IsRowSplit}
use Rattle.ptflow.proofs.UniqLemmas.Runs.{uniq_of_parts}
use Rattle.ptflow.proofs.PasteLemmas.BufferedRows.Rows.Grid.{paste_of_parts}
use Rattle.ptflow.proofs.CutLemmas.Fields.{cut_of_parts}
use Rattle.ptflow.proofs.TrLemmas.TrFrom.{tr_after_byte, tr_meets_twice}
use Rattle.std.proofs.lemmas.Grind.{common_steps}

-- ---- cut

-- Selects the first byte of each line, or the first field.
abbrev first_of : Bool → ℕ → Cut
first_of fields end = record {
  fields = fields;
  selected = is_selected (record { first = 1; last = 1 } ∷ []);
  delimiter = byte ":";
  only = false;
  terminator = end;
}

cut_after_a_line : cut (first_of true 10) (codes "a:b\nc:d")
    ≡ cut (first_of true 10) (codes "a:b\n") ++ cut (first_of true 10) (codes "c:d")
cut_after_a_line = cut_of_parts (first_of true 10) (codes "a:b\n") (codes "c:d") (inr (codes "a:b", refl))

cut_after_zero : cut (first_of false 0) (codes "a\nb\0cd\0")
    ≡ cut (first_of false 0) (codes "a\nb\0") ++ cut (first_of false 0) (codes "cd\0")
cut_after_zero = cut_of_parts (first_of false 0) (codes "a\nb\0") (codes "cd\0") (inr (codes "a\nb", refl))

line_of_both : cut (first_of false 10) (codes "ab\n") ≡ codes "a\n"
line_of_both = refl

cut_inside_a_line : cut (first_of false 10) (codes "a") ++ cut (first_of false 10) (codes "b\n") ≡ codes "a\nb\n"
cut_inside_a_line = refl

not_cut_of_any_parts : ((job : Cut) (a b : List ℕ) → cut job (a ++ b) ≡ cut job a ++ cut job b) → ⊥
not_cut_of_any_parts law = omega (arith, ap length (law (first_of false 10) (codes "a") (codes "b\n")))

-- ---- tr

abbrev of_plan : Result Plan SetFault → ByteMap
of_plan (Ok p) = byte_map p
of_plan (Err fault) = record { deletes = λ b. false; image = λ b. b; squeezes = λ b. false }

-- Repeats of these bytes are squeezed.
abbrev squeezing : List ℕ → ByteMap
squeezing bytes = of_plan (plan Squeeze false bytes None)

tr_after_a_newline : tr (squeezing (codes "a")) (codes "ba\naab")
    ≡ tr (squeezing (codes "a")) (codes "ba\n") ++ tr (squeezing (codes "a")) (codes "aab")
unfolding all_bytes
tr_after_a_newline = tr_after_byte (squeezing (codes "a")) 10 (codes "ba\n") (codes "aab") (codes "ba", refl) refl refl

squeezed_in_both : tr (squeezing (codes "a")) (codes "baab") ≡ codes "bab"
unfolding all_bytes
squeezed_in_both = refl

cut_inside_a_repeat : tr (squeezing (codes "a")) (codes "ba") ++ tr (squeezing (codes "a")) (codes "ab") ≡ codes "baab"
unfolding all_bytes
cut_inside_a_repeat = refl

one_is_taken_away : tr (squeezing (codes "a")) (codes "baab") ≡ tr (squeezing (codes "a")) (codes "ba") ++ codes "b"
unfolding all_bytes
one_is_taken_away = tr_meets_twice (squeezing (codes "a")) (byte "a") (codes "ba") (codes "ab") (codes "b") refl
    (codes "b", refl) refl

not_tr_of_any_parts : ((t : ByteMap) (a b : List ℕ) → tr t (a ++ b) ≡ tr t a ++ tr t b) → ⊥
unfolding all_bytes
not_tr_of_any_parts law = omega (arith, ap length (law (squeezing (codes "a")) (codes "ba") (codes "ab")))

-- ---- uniq

abbrev counting : Uniq
counting = record { show = Counts; fields = 0; chars = 0; terminator = 10 }

counts_of_both : uniq counting (codes "a\na\nb\n") ≡ codes "2 a\n1 b\n"
unfolding digits
counts_of_both = refl

cut_between_runs : uniq counting (codes "a\na\n") ++ uniq counting (codes "b\n") ≡ codes "2 a\n1 b\n"
unfolding digits
cut_between_runs = refl

-- the last item of a list is unique
same_last : {X : Type 0} (x y : X) (xs : List X) → EndsWith x xs → EndsWith y xs → Some x ≡ Some y
same_last x y xs (front, ends) (others, other_ends) = grind (arith, common_steps)

by_the_law_of_uniq : uniq counting (codes "a\na\nb\n") ≡ uniq counting (codes "a\na\n") ++ uniq counting (codes "b\n")
by_the_law_of_uniq = uniq_of_parts counting (codes "a\na\n") (codes "b\n") (inr (codes "a\na", refl)) change
  where
    change : KeysChange counting (codes "a\na\n") (codes "b\n")
    change last first ends begins same =
        let a : last ≡ codes "a" = ap (λ (o : Option (List ℕ)). unwrap_or o [])
        (same_last last (codes "a") (codes "a" ∷ codes "a" ∷ []) ends (codes "a" ∷ [], refl)) in
        let b : codes "b" ≡ first = ap (λ (ls : List (List ℕ)). slice_index_or ls 0 []) begins.1 in
        omega (arith, ap (λ (l : List ℕ). slice_index_or l 0 0) (sym a ∙ same ∙ sym b))

cut_inside_a_run : uniq counting (codes "a\n") ++ uniq counting (codes "a\nb\n") ≡ codes "1 a\n1 a\n1 b\n"
unfolding digits
cut_inside_a_run = refl

not_uniq_of_any_parts : ((job : Uniq) (a b : List ℕ) → HasOnlyCompleteLines job.terminator a → uniq job (a ++ b)
    ≡ uniq job a ++ uniq job b) → ⊥
unfolding digits
not_uniq_of_any_parts law =
    omega (arith, ap length (law counting (codes "a\n") (codes "a\nb\n") (inr (codes "a", refl))))

-- A split inside a line: `ab` is one line, and its parts are two.
not_uniq_within_lines : ((job : Uniq) (a b : List ℕ) → KeysChange job a b → uniq job (a ++ b)
    ≡ uniq job a ++ uniq job b) → ⊥
unfolding digits
not_uniq_within_lines law = omega (arith, ap length (law counting (codes "a") (codes "b\n") change))
  where
    change : KeysChange counting (codes "a") (codes "b\n")
    change last first ends begins same =
        let a : last ≡ codes "a" = ap (λ (o : Option (List ℕ)). unwrap_or o [])
        (same_last last (codes "a") (codes "a" ∷ []) ends ([], refl)) in
        let b : codes "b" ≡ first = ap (λ (ls : List (List ℕ)). slice_index_or ls 0 []) begins.1 in
        omega (arith, ap (λ (l : List ℕ). slice_index_or l 0 0) (sym a ∙ same ∙ sym b))

-- Lines that are distributed by their keys, but are not sorted.
key_comes_again : uniq counting (codes "a\na\n") ≡ codes "2 a\n"
unfolding digits
key_comes_again = refl

not_uniq_by_any_key : ((job : Uniq) (accepted : List ℕ → Bool) (bytes : List ℕ)
    → uniq job (unlines job.terminator (filter (λ line. accepted (key job line)) (lines job.terminator bytes)))
    ≡ output_of job (filter (λ (run : Run). accepted (key job run.line)) (runs job (lines job.terminator bytes))))
    → ⊥
unfolding digits
not_uniq_by_any_key law = omega (arith, ap length (law counting (λ k. bytes_eq k (codes "a")) (codes "a\nb\na\n")))

-- ---- paste

abbrev tabs : Bool → Paste
tabs serial = record { serial = serial; delimiters = Some 9 ∷ []; terminator = 10 }

-- The texts by their indices.
abbrev at : List (List ℕ) → ℕ → List ℕ
at texts input = slice_index_or texts input []

rows_of_both : paste (tabs false) (0 ∷ 1 ∷ []) (at (codes "1\n2\n3\n" ∷ codes "x\ny\nz\n" ∷ []))
    ≡ codes "1\tx\n2\ty\n3\tz\n"
rows_of_both = refl

cut_after_a_row : paste (tabs false) (0 ∷ 1 ∷ []) (at (codes "1\n2\n" ∷ codes "x\ny\n" ∷ []))
    ++ paste (tabs false) (0 ∷ 1 ∷ []) (at (codes "3\n" ∷ codes "z\n" ∷ [])) ≡ codes "1\tx\n2\ty\n3\tz\n"
cut_after_a_row = refl

cut_after_other_rows : paste (tabs false) (0 ∷ 1 ∷ []) (at (codes "1\n2\n" ∷ codes "x\n" ∷ []))
    ++ paste (tabs false) (0 ∷ 1 ∷ []) (at (codes "3\n" ∷ codes "y\nz\n" ∷ [])) ≡ codes "1\tx\n2\t\n3\ty\n\tz\n"
cut_after_other_rows = refl

-- Columns that read one input take two lines of it for each row.
shared_rows_of_both : paste (tabs false) (0 ∷ 0 ∷ []) (at (codes "1\n2\n3\n4\n" ∷ [])) ≡ codes "1\t2\n3\t4\n"
shared_rows_of_both = refl

shared_after_a_row : paste (tabs false) (0 ∷ 0 ∷ []) (at (codes "1\n2\n" ∷ []))
    ++ paste (tabs false) (0 ∷ 0 ∷ []) (at (codes "3\n4\n" ∷ [])) ≡ codes "1\t2\n3\t4\n"
shared_after_a_row = refl

shared_inside_a_row : paste (tabs false) (0 ∷ 0 ∷ []) (at (codes "1\n" ∷ []))
    ++ paste (tabs false) (0 ∷ 0 ∷ []) (at (codes "2\n3\n4\n" ∷ [])) ≡ codes "1\t\n2\t3\n4\t\n"
shared_inside_a_row = refl

-- One input ends before the row after which all are split.
ends_before_the_row : paste (tabs false) (0 ∷ 1 ∷ []) (at (codes "1\n2\n" ∷ codes "x" ∷ []))
    ++ paste (tabs false) (0 ∷ 1 ∷ []) (at (codes "3\n" ∷ [] ∷ []))
    ≡ paste (tabs false) (0 ∷ 1 ∷ []) (at (codes "1\n2\n3\n" ∷ codes "x" ∷ []))
ends_before_the_row = refl

by_the_law_of_paste : paste (tabs false) (0 ∷ 1 ∷ []) (λ input. at (codes "1\n2\n" ∷ codes "x" ∷ []) input
    ++ at (codes "3\n" ∷ [] ∷ []) input)
    ≡ paste (tabs false) (0 ∷ 1 ∷ []) (at (codes "1\n2\n" ∷ codes "x" ∷ []))
    ++ paste (tabs false) (0 ∷ 1 ∷ []) (at (codes "3\n" ∷ [] ∷ []))
by_the_law_of_paste = paste_of_parts (tabs false) (0 ∷ 1 ∷ []) 2 (at (codes "1\n2\n" ∷ codes "x" ∷ []))
    (at (codes "3\n" ∷ [] ∷ [])) cut_there
  where
    cut_there : (input : ℕ) → 0 < uses_of (0 ∷ 1 ∷ []) input
        → IsRowSplit 10 2 (uses_of (0 ∷ 1 ∷ []) input) (at (codes "1\n2\n" ∷ codes "x" ∷ []) input)
        (at (codes "3\n" ∷ [] ∷ []) input)
    cut_there zero named = inl (inr (codes "1\n2", refl), refl)
    cut_there (suc zero) named = inr (refl, omega arith)
    cut_there (suc (suc n)) named =
        let not_first : (0 == suc (suc n)) ≡ false = grind (arith, nat_tests) in
        let not_second : (1 == suc (suc n)) ≡ false = grind (arith, nat_tests) in
        absurd (omega (
          arith,
          named,
          ap {B = ℕ} (λ (t : Bool). cond t 1 0) not_first,
          ap {B = ℕ} (λ (t : Bool). cond t 1 0) not_second,
        ))

not_paste_of_any_parts : ((job : Paste) (cells : List ℕ) (a b : ℕ → List ℕ)
    → ((input : ℕ) → HasOnlyCompleteLines job.terminator (a input))
    → paste job cells (λ input. a input ++ b input) ≡ paste job cells a ++ paste job cells b) → ⊥
not_paste_of_any_parts law =
    omega (
      arith,
      ap length (law (tabs false) (0 ∷ 1 ∷ []) (at (codes "1\n2\n" ∷ codes "x\n" ∷ []))
          (at (codes "3\n" ∷ codes "y\nz\n" ∷ [])) whole),
    )
  where
    whole : (input : ℕ) → HasOnlyCompleteLines 10 (at (codes "1\n2\n" ∷ codes "x\n" ∷ []) input)
    whole zero = inr (codes "1\n2", refl)
    whole (suc zero) = inr (codes "x", refl)
    whole (suc (suc n)) = inl refl

-- A split inside a line, although each part has one line.
not_paste_within_lines : ((job : Paste) (a b : ℕ → List ℕ) → length (lines job.terminator (a 0)) ≡ 1
    → paste job (0 ∷ []) (λ input. a input ++ b input) ≡ paste job (0 ∷ []) a ++ paste job (0 ∷ []) b) → ⊥
not_paste_within_lines law =
    omega (arith, ap length (law (tabs false) (at (codes "1" ∷ [])) (at (codes "2\n" ∷ [])) refl))

-- ---- `paste -s`

row_of_both : paste_serial (tabs true) (codes "a\nb\n") ≡ codes "a\tb\n"
row_of_both = refl

row_apart : paste_serial (tabs true) (codes "a\n") ++ paste_serial (tabs true) (codes "b\n") ≡ codes "a\nb\n"
row_apart = refl

-- The law does not hold for `-s`, not even after a complete line.
not_paste_serial_of_parts : ((job : Paste) (a b : List ℕ) → HasOnlyCompleteLines job.terminator a
    → paste_serial job (a ++ b) ≡ paste_serial job a ++ paste_serial job b) → ⊥
not_paste_serial_of_parts law = differ (law (tabs true) (codes "a\n") (codes "b\n") (inr (codes "a", refl)))
  where
    differ : codes "a\tb\n" ≡ codes "a\nb\n" → ⊥
    differ same = omega (arith, ap (λ (l : List ℕ). slice_index_or l 1 0) same)
