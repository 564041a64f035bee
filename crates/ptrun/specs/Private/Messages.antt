-- The messages about unopened files and about a string of `tr`, and what a line out of order gives.
use Rattle.std.specs.Prelude.{ℕ, Bool, List, [], ◌∷◌, Option, Some, None, codes, flat_map, if◌then◌else◌}
use Rattle.ptlangs.specs.declared.faults.SetFault.{SetFault}
use Rattle.ptrun.specs.MessageWrites.{line_of}
use Rattle.ptrun.specs.Messages.{disorder_message, kind_word, name_of, string_word, unopened_message}

-- The message about an invalid string operand of `tr`.
abbrev pub string_fault_text : SetFault → List ℕ
string_fault_text fault =
    line_of (codes "tr: wrong " ∷ string_word fault.string ∷ codes ": " ∷ kind_word fault.kind ∷ [])

-- A message for each position that passes the test, in order: its file could not be opened.
abbrev pub unopened_messages : List ℕ → List (List ℕ) → (ℕ → Bool) → List ℕ → List ℕ
unopened_messages tool names test positions =
    flat_map (λ p. if test p then unopened_message tool (name_of names p) else []) positions

-- The message about a line out of order, if there is one.
abbrev pub disorder_text : List ℕ → List (List ℕ) → Option (ℕ × ℕ) → List ℕ
disorder_text word names None = []
disorder_text word names (Some found) = disorder_message word names found.0 found.1

-- The exit status: 1 if a line is out of order.
abbrev pub disorder_status : Option (ℕ × ℕ) → ℕ
disorder_status None = 0
disorder_status (Some found) = 1
