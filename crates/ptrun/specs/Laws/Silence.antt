-- A theorem about the messages of a run, which a reader can judge without computing them.
use Rattle.std.specs.Prelude.{◌≡◌, ◌↔◌, ℕ, List, []}
use Rattle.ptrun.specs.Files.{InputBytes}
use Rattle.ptrun.specs.CommandSpec.{CommandSpec, messages}
use Rattle.ptrun.specs.SpecOfArgs.{spec_of_args}

-- For all inputs, the status is 0 if and only if there is no message.
abbrev pub IsSilentIfZero : CommandSpec → Type 0
IsSilentIfZero m = (w : InputBytes) → (m.status w ≡ 0) ↔ (messages m w ≡ [])

-- In a run without a failure the status is 0 if and only if there is no message, for all words.
abbrev pub SilentIfZero : Type 0
SilentIfZero = (words : List (List ℕ)) → IsSilentIfZero (spec_of_args words)
