-- Laws of the output for a whole input, which a reader can judge without computing it: of `cut`, `uniq`, `tr`,
-- `paste`, and `cut` after `paste`. They are about the definitions, so they show that these mean what one expects.
use Rattle.std.specs.Prelude.{◌≡◌, ◌≢◌, ◌≤◌, ◌<◌, ℕ, ◌+◌, ◌==◌, true, false, List, [], ◌∷◌, ◌++◌, length, map, filter}
use Rattle.std.specs.Prelude.{not, sum_by, slice_index_or, Some, All, if◌then◌else◌}
use Rattle.std.specs.List.{flat_map}
use Rattle.ptlines.specs.Text.{unlines, lines}
use Rattle.ptlines.specs.Laws.Text.{AreLines}
use Rattle.ptlangs.specs.Jobs.{Cut, Uniq, Paste}
use Rattle.ptlangs.specs.TrPlan.{byte_map, plan_of, complement_of, has_byte}
use Rattle.ptlangs.specs.declared.tr.plan.Form.TheVariants.{Translate, Delete}
use Rattle.ptlangs.specs.declared.jobs.Show.TheVariants as show
use Rattle.ptflow.specs.Cuts.{cut}
use Rattle.ptflow.specs.TrOutput.{tr}
use Rattle.ptflow.specs.Uniqs.{Run, runs, uniq, output_of_run}
use Rattle.ptflow.specs.PasteText.{paste, paste_serial, rows, rows_text, uses_of}

-- ---- cut

-- the list selects all numbers from 1 up to one more than the number of bytes, as `1-` does
abbrev pub SelectsAll : Cut → List ℕ → Type 0
SelectsAll job bytes = (n : ℕ) → 1 ≤ n → n ≤ length bytes + 1 → job.selected n ≡ true

-- If all bytes of a line, or all its fields, are selected, the lines are written as they are.
abbrev pub CutOfAll : Type 0
CutOfAll = (job : Cut) (bytes : List ℕ) → job.only ≡ false → SelectsAll job bytes
    → cut job bytes ≡ unlines job.terminator (lines job.terminator bytes)

-- ---- uniq

-- The counts of the runs, which `uniq -c` writes, add up to the number of lines.
abbrev pub CountsAddUp : Type 0
CountsAddUp = (job : Uniq) (ls : List (List ℕ)) → sum_by (λ (run : Run). run.count) (runs job ls) ≡ length ls

-- Of each run that `uniq` writes, `uniq -d` and `uniq -u` together write the line once.
abbrev pub RepeatedOrSingle : Type 0
RepeatedOrSingle = (job : Uniq) (ls : List (List ℕ))
    → All (λ run. output_of_run show.Repeated run ++ output_of_run show.Single run ≡ output_of_run show.All run)
    (runs job ls)

-- The output of `uniq` has no run of two lines, so `uniq` leaves it as it is.
abbrev pub UniqTwice : Type 0
UniqTwice = (job : Uniq) (bytes : List ℕ) → job.show ≡ show.All → uniq job (uniq job bytes) ≡ uniq job bytes

-- ---- tr

-- Translation keeps the number of bytes.
abbrev pub TranslationKeepsLength : Type 0
TranslationKeepsLength = (first second bytes : List ℕ)
    → length (tr (byte_map (plan_of Translate first second)) bytes) ≡ length bytes

-- `tr -d` keeps the bytes that the string does not have, and `tr -cd` those that it has, each in their order.
abbrev pub DeletedOrKept : Type 0
DeletedOrKept = (array bytes : List ℕ) → All (λ b. b < 256) bytes
    → (tr (byte_map (plan_of Delete array [])) bytes ≡ filter (λ b. not (has_byte b array)) bytes)
    × (tr (byte_map (plan_of Delete (complement_of array) [])) bytes ≡ filter (λ b. has_byte b array) bytes)

-- ---- paste

-- The output of `paste` for the texts of different inputs: with `-s` a row for each, which has its lines; without, a row
-- for each line number, which has the line of each input with this number.
abbrev pub paste_output : Paste → List (List ℕ) → List ℕ
paste_output job inputs =
    if job.serial then flat_map (paste_serial job) inputs
    else rows_text job (rows (map (lines job.terminator) inputs))

-- It is the output of `paste` without `-s`, if no input is named twice.
abbrev pub PasteOfDifferent : Type 0
PasteOfDifferent = (job : Paste) (cells : List ℕ) (texts : ℕ → List ℕ) → job.serial ≡ false
    → ((input : ℕ) → uses_of cells input ≤ 1)
    → paste job cells texts ≡ paste_output job (map texts cells)

-- ---- cut after paste

-- a row of at least `n` fields, none of which has the delimiter or the terminator
pub record IsRowOf (delimiter terminator n : ℕ) (row : List (List ℕ)) : Type 0 where
  pub enough : n < length row
  pub undelimited : All (λ field. All (λ b. b ≢ delimiter) field) row
  pub unterminated : AreLines terminator row

-- `cut -f` takes a column out of the rows that `paste` writes with the same delimiter.
abbrev pub CutAfterPaste : Type 0
CutAfterPaste = (job : Cut) (paste : Paste) (n : ℕ) (rows : List (List (List ℕ)))
    → job.fields ≡ true → ((i : ℕ) → job.selected i ≡ (i == n + 1)) → job.only ≡ false
    → paste.delimiters ≡ Some job.delimiter ∷ [] → paste.terminator ≡ job.terminator → job.delimiter ≢ job.terminator
    → All (IsRowOf job.delimiter job.terminator n) rows
    → cut job (rows_text paste rows) ≡ unlines job.terminator (map (λ row. slice_index_or row n []) rows)
