-- The state of an `Output`: that of its target, with its accepted bytes behind a mark that tells which target it is.
-- So a run that is given a target is known to return the same one.
use Rattle.std.specs.Prelude.{◌≡◌, ℕ, List, ◌∷◌, Option, Some, None, ⊤}
use Rattle.ptfiles.specs.Outputs.{closed_state}
use Rattle.ptfiles.specs.declared.output.Output.{Output}
use Rattle.ptfiles.specs.declared.output.Target.{Target}
use Rattle.ptfiles.specs.declared.output.Target.TheVariants as to
use Rattle.ptlines.specs.Sinks.{SinkState}

-- The bytes that a sink has accepted, or, if they are unknown, those that were written; and which of the two.
abbrev pub known_or : List ℕ → Option (List ℕ) → List ℕ
known_or written None = 0 ∷ written
known_or written (Some bytes) = 1 ∷ bytes

abbrev pub mark : ℕ → List ℕ → SinkState → SinkState
mark kind written s = record s { accepted = Some (kind ∷ known_or written s.accepted) }

abbrev pub target_state : {W F : Type 0} → (W → SinkState) → (F → SinkState) → Target W F → List ℕ → SinkState
target_state of_out of_file (to.Standard out) written = mark 2 written (of_out out)
target_state of_out of_file (to.File file) written = mark 1 written (of_file file)
target_state of_out of_file (to.Nowhere failed) written = closed_state failed

abbrev pub output_state : {W F : Type 0} → (W → SinkState) → (F → SinkState) → Output W F → SinkState
output_state of_out of_file output = target_state of_out of_file output.target output.written.items

abbrev pub IsStandard : {W F : Type 0} → Target W F → Type 0
IsStandard (to.Standard out) = ⊤
IsStandard (to.File file) = ⊥
IsStandard (to.Nowhere failed) = ⊥

-- Standard output and the file after a run with this target. An unused standard output is `unused`.
abbrev pub AreParts : {W F : Type 0} → Target W F → Option W → W → Option F → Type 0
AreParts (to.Standard out) unused out' file' = (out' ≡ out) × (file' ≡ None)
AreParts (to.File file) unused out' file' = (unused ≡ Some out') × (file' ≡ Some file)
AreParts (to.Nowhere failed) unused out' file' = (unused ≡ Some out') × (file' ≡ None)
