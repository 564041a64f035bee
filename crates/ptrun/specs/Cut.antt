-- The output of `cut` for a line, and for what was received of an input.
use Rattle.std.specs.Prelude.{ℕ, ◌==◌, List, [], ◌∷◌, Bool, if◌then◌else◌}
use Rattle.std.specs.List.{flat_map, list_any, slice_split, join_with_byte}
use Rattle.ptlines.specs.Received.{Received}
use Rattle.ptlines.specs.Text.{unlines}
use Rattle.ptlangs.specs.Jobs.{Cut}
use Rattle.ptflow.specs.Cuts.{select_from}
use Rattle.ptrun.specs.Lines.{known_lines}

-- The output lines for a line: one, or none. Bytes and fields are counted from 1.
abbrev pub cut_line : Cut → List ℕ → List (List ℕ)
cut_line job line =
    let is_delimiter : ℕ → Bool = λ b. b == job.delimiter in
    if job.fields
    then (if list_any is_delimiter line
    then join_with_byte job.delimiter (select_from job.selected 1 (slice_split is_delimiter line)) ∷ []
    else (if job.only then [] else line ∷ []))
    else select_from job.selected 1 line ∷ []

-- The output that part of an input decides: that for its known lines.
abbrev pub cut_decided : Cut → Received → List ℕ
cut_decided job given = unlines job.terminator (flat_map (cut_line job) (known_lines job.terminator given))
