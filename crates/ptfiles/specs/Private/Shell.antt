-- The contract of a private function of `shell`, which opens the inputs.
use Rattle.std.specs.Prelude.{◌≡◌, ℕ, List, All, length}
use Rattle.ptfiles.specs.Files.{AreContents, FilesState, Input, IsNewInput, new_readers, with_opened}
use Rattle.ptlines.specs.Readers.{Reader}
use Rattle.ptlines.specs.Sources.{SourceState}

-- the files with these names were opened in order, and these are their readers and that of standard input
pub record HaveOpened (old new : FilesState) (names : List (List ℕ)) (standard : SourceState) (readers : List Reader)
    : Type 0 where
  pub inputs : List Input
  pub opened : new ≡ with_opened old names inputs
  pub contents : AreContents old.content (length old.opened) names inputs
  pub are_new : All IsNewInput inputs
  pub readers_are : readers ≡ new_readers standard inputs
