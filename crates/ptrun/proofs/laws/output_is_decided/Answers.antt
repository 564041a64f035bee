-- The function does nothing. The first part of the theorem that its contract states holds by the definition of the
-- output. The others hold since the known lines of a text of complete lines are all its lines.
use Rattle.ptrun.proofs
use proofs.Common.{Err, List, Ok, Result, [], ap, false, refl, sym, ℕ, ◌++◌, ◌∙◌, ◌∷◌, ◌≡◌}
use proofs.SameLines.{known_same}
use proofs.laws.output_is_decided.Goals as goal
use Rattle.ptflow.specs.Uniqs.{output_of, runs}
use Rattle.ptlangs.specs.Jobs.{Cut, Uniq}
use Rattle.ptlines.proofs.TextLaws.{the_complete_lines}
use Rattle.ptlines.specs.Text.{lines, unlines}
use Rattle.ptopts.specs.Commands.{Command, RunCut, RunUniq, command_of_args}
use Rattle.ptopts.specs.Faults.{Fault}
use Rattle.ptrun.specs.Cut.{cut_line}
use Rattle.ptrun.specs.Decided.{all_received, at_end, whole}
use Rattle.ptrun.specs.Files.{InputBytes}
use Rattle.ptrun.specs.Laws.Decided.{AreLinesDecided, end_of_output}
use Rattle.ptrun.specs.Lines.{init, known_lines}
use Rattle.ptrun.specs.SpecOfArgs.{spec_of_result, tool_name}
use Rattle.std.specs.List.{flat_map}
use Rattle.std.specs.Prelude.{Some}

of_result : (tool : List ℕ) (r : Result Command Fault) (w : InputBytes)
    → (spec_of_result tool r).out w ≡ (spec_of_result tool r).decided (all_received w) ++ end_of_output r w
of_result tool (Ok c) w = refl
of_result tool (Err fault) w = refl

known_whole : (t : ℕ) (bytes : List ℕ)
    → lines t (bytes ++ t ∷ []) ≡ known_lines t (record { bytes = bytes ++ t ∷ []; eof = false })
known_whole t bytes =
    sym (known_same t (record { bytes = bytes ++ t ∷ []; eof = false }) ∙ (the_complete_lines t [] tt).1 bytes)

of_cut : (job : Cut) → AreLinesDecided (RunCut job) job.terminator
of_cut job bytes = ap (λ ls. (unlines job.terminator (flat_map (cut_line job) ls) ++ []) ++ [])
    (known_whole job.terminator bytes)

of_uniq : (job : Uniq) → AreLinesDecided (RunUniq job) job.terminator
of_uniq job bytes = let text = bytes ++ job.terminator ∷ [] in
    ap (λ ls. output_of job (init (runs job ls)) ++ at_end (RunUniq job) (0 ∷ []) (Some (whole text) ∷ []))
    (known_whole job.terminator bytes)

pub returns : goal.returns
returns c = (λ words w. of_result (tool_name words) (command_of_args words) w, of_cut, of_uniq, λ m byte bytes. refl)
