-- Files in memory, and those that are created.
use Rattle.std.specs.Prelude.{◌≡◌, [], Option, Some, option_map}
use Rattle.ptfiles.specs.Files.{FilesState}
use Rattle.ptrun.specs.Files.{InputBytes, at}
use Rattle.ptrunc.specs.declared.memory.Kept.{Kept}

-- The file was created, and nothing was written to it yet.
abbrev pub IsNewFile : {A : Type 0} → Option (Kept A) → Type 0
IsNewFile file = option_map (λ kept. kept.bytes.items) file ≡ Some []

-- No file was opened or created yet. What each file contains is known: the next one that is opened is the next of these.
abbrev pub unopened_files : InputBytes → FilesState
unopened_files files = record {
  opened = [];
  inputs = [];
  created = [];
  outputs = [];
  content = λ count name. Some (at files count);
}
