-- The contracts of the calls `open` and `create` of `Files`.
use Rattle.std.specs.Prelude.{◌≡◌, ℕ, false, List, [], ◌∷◌, Option, Some, None, ⊤}
use Rattle.std.specs.Prelude.{length, option_map}
use Rattle.ptfiles.specs.Files.{FilesState, Input, IsContent, IsNewInput, Output, with_created, with_opened}
use Rattle.ptlines.specs.Sources.{SourceState}

abbrev pub opened_state : {I : Type 0} → (I → SourceState) → Option I → Input
opened_state of result = option_map of result

-- a created file has not failed, and all of it is flushed
abbrev pub IsNewOutput : Output → Type 0
IsNewOutput None = ⊤
IsNewOutput (Some sink) = (sink.failed ≡ false) × (sink.unflushed ≡ false)

-- the effect of `open`
pub record OpenPost (old new : FilesState) (name : List ℕ) (input : Input) : Type 0 where
  pub opened : new ≡ with_opened old (name ∷ []) (input ∷ [])
  pub content : IsContent (old.content (length old.opened) name) input
  pub is_new : IsNewInput input

-- the effect of `create`
pub record CreatePost (old new : FilesState) (name : List ℕ) (output : Output) : Type 0 where
  pub created : new ≡ with_created old (name ∷ []) (output ∷ [])
  pub is_new : IsNewOutput output
