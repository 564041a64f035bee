-- A theorem about what is decided, by which it cannot be empty: the whole output is what is decided by inputs that are
-- known whole; and before the end of an input is reached, the output for its complete lines is decided.
use Rattle.std.specs.Prelude.{◌≡◌, ℕ, List, [], ◌∷◌, ◌++◌, Some, Result, Ok, Err, false}
use Rattle.ptlangs.specs.Jobs.{Cut, Uniq}
use Rattle.ptlangs.specs.TrPlan.{ByteMap}
use Rattle.ptopts.specs.Commands.{Command, Job, RunCut, RunTr, RunUniq, command_of_args}
use Rattle.ptopts.specs.Faults.{Fault}
use Rattle.ptrun.specs.Decided.{all_received, at_end, decided, output, whole}
use Rattle.ptrun.specs.Files.{InputBytes}
use Rattle.ptrun.specs.Operands.{positions}
use Rattle.ptrun.specs.SpecOfArgs.{spec_of_args}

-- The output that only the end of the input decides: the last run of `uniq`. Other tools have none, nor have words that
-- are no command.
abbrev pub end_of_output : Result Command Fault → InputBytes → List ℕ
end_of_output (Ok c) w = at_end c.job (positions c.order) (all_received w)
end_of_output (Err fault) w = []

-- All output for a text of complete lines is decided once it was received from standard input, although the end was not
-- reached; but for what only the end decides.
abbrev pub AreLinesDecided : Job → ℕ → Type 0
AreLinesDecided job terminator = (bytes : List ℕ) → let text = bytes ++ terminator ∷ [] in
    output job (0 ∷ []) (Some (whole text) ∷ [])
    ≡ decided job (0 ∷ []) (Some (record { bytes = text; eof = false }) ∷ [])
    ++ at_end job (0 ∷ []) (Some (whole text) ∷ [])

-- The whole output of words is what they decide of inputs that are received to their ends, and then what only the end
-- decides. And `cut`, `uniq` and `tr` decide the output for lines.
abbrev pub OutputIsDecided : Type 0
OutputIsDecided = ((words : List (List ℕ)) (w : InputBytes)
    → (spec_of_args words).out w ≡ (spec_of_args words).decided (all_received w) ++ end_of_output (command_of_args words) w)
    × ((job : Cut) → AreLinesDecided (RunCut job) job.terminator)
    × ((job : Uniq) → AreLinesDecided (RunUniq job) job.terminator)
    × ((m : ByteMap) (byte : ℕ) → AreLinesDecided (RunTr m) byte)
