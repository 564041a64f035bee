-- The output of `uniq` (POSIX.1-2017, XCU, `uniq`): the key of a line, the runs of lines with equal keys, and what is
-- written for a run. Also the output that a part of an input decides, and bounds of the store. `uniq_tool` has all of
-- these.
use Rattle.std.specs.Prelude.{ℕ, zero, suc, ◌+◌, ◌*◌, ◌==◌, ◌&&◌, List, [], ◌∷◌, ◌++◌, Bool, false, not, if◌then◌else◌, drop}
use Rattle.std.specs.Prelude.{slice_get, bytes_eq, decimal, nat_lt}
use Rattle.std.specs.List.{flat_map}
use Rattle.std.specs.Option.{option_map_or}
use Rattle.ptlines.specs.Text.{unlines, lines, max_line_length, is_blank}
use Rattle.ptlines.specs.Received.{Received, known_lines}
use Rattle.ptlangs.specs.declared.jobs.Show.{Show}
use Rattle.ptlangs.specs.declared.jobs.Show.TheVariants.{All, Counts, Repeated, Single}
use Rattle.ptlangs.specs.Jobs.{Uniq}
use Rattle.ptflow.specs.ToolSpec.{ToolSpec}

-- a field ends with this byte, which is not a blank, and is the last of the line or is followed by a blank
abbrev pub ends_word : ℕ → List ℕ → Bool
ends_word b [] = not (is_blank b)
ends_word b (c ∷ more) = not (is_blank b) && is_blank c

-- the indices at which fields end, if the first byte has index i
abbrev pub word_ends : ℕ → List ℕ → List ℕ
word_ends i [] = []
word_ends i (b ∷ bytes) = if ends_word b bytes then i ∷ word_ends (i + 1) bytes else word_ends (i + 1) bytes

-- the rest of a line after n fields, which is empty if there are fewer
abbrev pub after_fields : ℕ → List ℕ → List ℕ
after_fields zero line = line
after_fields (suc n) line = option_map_or (λ end. drop (end + 1) line) (slice_get (word_ends 0 line) n) []

-- the part of a line that is compared
abbrev pub key : Uniq → List ℕ → List ℕ
key job line = drop job.chars (after_fields job.fields line)

-- two lines have equal keys
abbrev pub is_same : Uniq → List ℕ → List ℕ → Bool
is_same job a b = bytes_eq (key job a) (key job b)

-- a run of adjacent lines with equal keys: the first of them, and their number
pub record Run : Type 0 where
  pub line : List ℕ
  pub count : ℕ

-- puts a line before some runs: it joins the first run, if that has its key, or is a run of its own
abbrev pub cons_run : Uniq → List ℕ → List Run → List Run
cons_run job line [] = record { line = line; count = 1 } ∷ []
cons_run job line (run ∷ more) =
    if is_same job line run.line then record { line = line; count = run.count + 1 } ∷ more
    else record { line = line; count = 1 } ∷ run ∷ more

-- the runs of some lines
abbrev pub runs : Uniq → List (List ℕ) → List Run
runs job [] = []
runs job (line ∷ more) = cons_run job line (runs job more)

-- the output lines for a run: one, or none
abbrev pub output_of_run : Show → Run → List (List ℕ)
output_of_run All run = run.line ∷ []
output_of_run Counts run = (decimal run.count ++ 32 ∷ run.line) ∷ []
output_of_run Repeated run = if nat_lt 1 run.count then run.line ∷ [] else []
output_of_run Single run = if run.count == 1 then run.line ∷ [] else []

-- the output for some runs
abbrev pub output_of : Uniq → List Run → List ℕ
output_of job rs = unlines job.terminator (flat_map (output_of_run job.show) rs)

-- The output of `uniq` for a text: of each run of adjacent lines with equal keys, in order, the first line; by the
-- options with the number of lines, or only of runs of one line, or of more (`output_of_run`).
abbrev pub uniq : Uniq → List ℕ → List ℕ
uniq job bytes = output_of job (runs job (lines job.terminator bytes))

-- the list without its last item
abbrev pub init : {X : Type 0} → List X → List X
init [] = []
init (x ∷ []) = []
init (x ∷ y ∷ more) = x ∷ init (y ∷ more)

-- the output that part of an input decides: that of the runs of its complete lines, except for the last run
abbrev pub uniq_decided : Uniq → Received → List ℕ
uniq_decided job given = output_of job (init (runs job (known_lines job.terminator given)))

-- The slots hold the first line of a run and the line after it.
abbrev pub uniq_tool : Uniq → ToolSpec
uniq_tool job =
    record {
      text = uniq job;
      decided = uniq_decided job;
      size = λ bytes. 2 * max_line_length job.terminator bytes;
      slots = 2;
      end = job.terminator;
      keeps_end = false;
    }
