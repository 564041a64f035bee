-- The laws of `uniq`: the counts of the runs add up to the number of lines; each line that `uniq` writes is written by
-- exactly one of `uniq -d` and `uniq -u`; and `uniq` leaves its own output as it is, since adjacent runs have different
-- keys.
use Rattle.ptflow.specs
use Rattle.std.proofs.Common.{◌≡◌, ℕ, ◌+◌, ◌<◌, false, List, [], ◌∷◌, ◌++◌, refl, arith, map}
use Rattle.std.specs.Prelude.{sum_by}
use Rattle.std.specs.List.{AllByRecursion, flat_map}
use Rattle.std.proofs.lemmas.List.Sums.{sum_by-cons}
use Rattle.std.proofs.lemmas.Slice.Eq.{bytes_eq-Decides}
use Rattle.std.proofs.lemmas.Bool.Decides.{nat_tests}
use Rattle.std.proofs.lemmas.List.Elements.{All-from_recursion, All-weaker, recursion_from_All}
use specs.Uniqs.{Run, cons_run, runs, is_same, output_of_run}
use specs.Laws.Outputs.{CountsAddUp, RepeatedOrSingle, UniqTwice}
use Rattle.ptlangs.specs.Jobs.{Uniq}
use Rattle.ptlines.specs.Text.{lines}
use Rattle.ptlines.specs.Calls.Text.{IsLine}
use Rattle.ptlines.proofs.TextLaws.{lines_are, lines-unlines}
use Rattle.ptlangs.specs.declared.jobs.Show.TheVariants as show

abbrev count : Run → ℕ
count run = run.count

count_one_more : (job : Uniq) (line : List ℕ) (rs : List Run)
    → sum_by count (cons_run job line rs) ≡ sum_by count rs + 1
count_one_more job line [] = refl
count_one_more job line (run ∷ more) = grind (
  arith,
  sum_by-cons count run more,
  sum_by-cons count (record { line = line; count = run.count + 1 }) more,
  sum_by-cons count (record { line = line; count = 1 }) (run ∷ more),
)

pub counts_add_up : CountsAddUp
counts_add_up job [] = refl
counts_add_up job (line ∷ more) = omega (arith, count_one_more job line (runs job more), counts_add_up job more)

module _ (job : Uniq) (P : List ℕ → Type 0) where
  -- each run has a line, and P holds for it
  abbrev AreRunsOf : List Run → Type 0
  AreRunsOf rs = AllByRecursion (λ (run : Run). (0 < run.count) × P run.line) rs

  cons_keeps : (line : List ℕ) (rs : List Run) → P line → AreRunsOf rs → AreRunsOf (cons_run job line rs)
  cons_keeps line [] here a = ((omega arith, here), tt)
  cons_keeps line (run ∷ more) here ((some, there), others) = grind arith

  runs_keep : (ls : List (List ℕ)) → AllByRecursion P ls → AreRunsOf (runs job ls)
  runs_keep [] a = tt
  runs_keep (line ∷ more) (here, others) = cons_keeps line (runs job more) here (runs_keep more others)

once : (run : Run) → (0 < run.count) × Unit {0}
    → output_of_run show.Repeated run ++ output_of_run show.Single run ≡ output_of_run show.All run
once run (some, _) = grind (arith, nat_tests)

pub repeated_or_single : RepeatedOrSingle
repeated_or_single job ls =
    let kept = runs_keep job (λ line. Unit {0}) ls (recursion_from_All _ ls (λ i d low. tt)) in
    All-weaker _ _ once _ (All-from_recursion _ _ kept)

-- ---- uniq twice

abbrev first_lines : List Run → List (List ℕ)
first_lines rs = flat_map (output_of_run show.All) rs

abbrev alone : Run → Run
alone run = record { line = run.line; count = 1 }

first_of_alone : (rs : List Run) → first_lines (map alone rs) ≡ first_lines rs
first_of_alone [] = refl
first_of_alone (run ∷ rs) = cc (first_of_alone rs)

module _ (job : Uniq) where
  -- adjacent runs have different keys
  abbrev Alternate : List Run → Type 0
  Alternate [] = Unit {0}
  Alternate (run ∷ []) = Unit {0}
  Alternate (run ∷ next ∷ more) = (is_same job run.line next.line ≡ false) × Alternate (next ∷ more)

  cons_alternates : (line : List ℕ) (rs : List Run) → Alternate rs → Alternate (cons_run job line rs)
  cons_alternates line [] a = tt
  cons_alternates line (run ∷ []) a = grind arith
  cons_alternates line (run ∷ next ∷ more) (here, others) = grind (arith, bytes_eq-Decides)

  runs_alternate : (ls : List (List ℕ)) → Alternate (runs job ls)
  runs_alternate [] = tt
  runs_alternate (line ∷ more) = cons_alternates line (runs job more) (runs_alternate more)

  runs_of_first : (rs : List Run) → Alternate rs → runs job (first_lines rs) ≡ map alone rs
  runs_of_first [] a = refl
  runs_of_first (run ∷ []) a = refl
  runs_of_first (run ∷ next ∷ more) (here, others) = grind (arith, runs_of_first (next ∷ more) others)

  of_first : (P : List ℕ → Type 0) (rs : List Run) → AreRunsOf job P rs → AllByRecursion P (first_lines rs)
  of_first P [] a = tt
  of_first P (run ∷ rs) ((_, here), more) = (here, of_first P rs more)

pub uniq_twice : UniqTwice
uniq_twice job bytes all =
    let end = job.terminator in
    let ls = lines end bytes in
    let kept = of_first job (IsLine end) (runs job ls) (runs_keep job (IsLine end) ls (lines_are end bytes)) in
    rw (
      all,
      lines-unlines end _ kept,
      runs_of_first job (runs job ls) (runs_alternate job ls),
      first_of_alone (runs job ls),
    ) refl
