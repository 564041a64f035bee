-- The current run of `uniq`, the runs that follow, and the output of a run: whether it has any, the count before its
-- line, and the line.
use Rattle.std.specs.Prelude.{ℕ, ◌+◌, ◌==◌, List, [], ◌∷◌, ◌++◌, Bool, nat_lt, decimal, if◌then◌else◌}
use Rattle.ptlangs.specs.declared.jobs.Show.{Show}
use Rattle.ptlangs.specs.declared.jobs.Show.TheVariants.{All, Counts, Repeated, Single}
use Rattle.ptlangs.specs.Jobs.{Uniq}
use Rattle.ptflow.specs.Uniqs.{Run, is_same, runs, output_of}

-- a run of `count` lines that begins with `line`
abbrev pub run_of : List ℕ → ℕ → Run
run_of line count = record { line = line; count = count }

-- the number of lines of a run
abbrev pub count_of : Run → ℕ
count_of run = run.count

-- the run as a list, empty if it has no line yet
abbrev pub current_run : Run → List Run
current_run run = if nat_lt 0 run.count then run ∷ [] else []

-- the runs of `run` and the lines after it
abbrev pub runs_from : Uniq → Run → List (List ℕ) → List Run
runs_from job run [] = run ∷ []
runs_from job run (line ∷ more) =
    if is_same job run.line line then runs_from job (record { line = run.line; count = run.count + 1 }) more
    else run ∷ runs_from job (record { line = line; count = 1 }) more

-- like `runs_from`, for a run that may have no line yet
abbrev pub runs_after : Uniq → Run → List (List ℕ) → List Run
runs_after job run ls = if nat_lt 0 run.count then runs_from job run ls else runs job ls

-- a run of `count` lines has output
abbrev pub has_output : Show → ℕ → Bool
has_output All count = nat_lt 0 count
has_output Counts count = nat_lt 0 count
has_output Repeated count = nat_lt 1 count
has_output Single count = count == 1

-- the count and a space before the line, if they are written
abbrev pub count_prefix : Show → ℕ → List ℕ
count_prefix All count = []
count_prefix Counts count = decimal count ++ 32 ∷ []
count_prefix Repeated count = []
count_prefix Single count = []

-- the output for a run of `count` lines, where `bytes` is its first line with the terminator
abbrev pub run_output : Show → ℕ → List ℕ → List ℕ
run_output show count bytes = if has_output show count then count_prefix show count ++ bytes else []

-- the output for the current run
abbrev pub run_text : Uniq → Run → List ℕ
run_text job run = output_of job (current_run run)
