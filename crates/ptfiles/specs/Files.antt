-- The model of `Files`: the names that were opened and created, and what is known of the files. And the inputs of a
-- run: that they are new, the contents of the files that it names, and their readers before the first read.
use Rattle.std.specs.Prelude.{◌≡◌, ℕ, suc, ◌^◌, ◌<◌, true, false, List, [], ◌∷◌, ◌++◌, Option, Some, None, ⊤}
use Rattle.std.specs.Prelude.{length, map, option_map}
use Rattle.ptlines.specs.Readers.{Reader, new_reader}
use Rattle.ptlines.specs.Sinks.{SinkState}
use Rattle.ptlines.specs.Sources.{IsFresh, SourceState, unopened_state}

-- An input that a call of `open` returned, `None` if the file could not be opened; likewise an output of `create`.
abbrev pub Input : Type 0
Input = Option SourceState

abbrev pub Output : Type 0
Output = Option SinkState

abbrev pub created_state : {O : Type 0} → (O → SinkState) → Option O → Output
created_state of result = option_map of result

-- The bytes of a file. `None` is a file that cannot be opened.
abbrev pub Content : Type 0
Content = Option (List ℕ)

pub record FilesState : Type 0 where
  -- the names that were opened so far, in order, and what each call returned
  pub opened : List (List ℕ)
  pub inputs : List Input
  -- the names that were created so far, in order, and what each call returned
  pub created : List (List ℕ)
  pub outputs : List Output
  -- the content of a file, by the number of files that were opened before it, and by its name; `None` if nothing is known
  -- of it, as of a real file
  pub content : ℕ → List ℕ → Option Content

-- the source of these bytes, none of which was read yet
abbrev pub source_of : List ℕ → SourceState
source_of bytes = record { left = Some bytes; eof = false; failed = false }

-- a file of fewer than 2^63 bytes, or one that cannot be opened
abbrev pub IsShort : Content → Type 0
IsShort None = ⊤
IsShort (Some bytes) = length bytes < 2 ^ 63

-- An input is that of a file of which this is known. No known file has 2^63 bytes or more.
abbrev pub IsContent : Option Content → Input → Type 0
IsContent None input = ⊤
IsContent (Some content) input = (input ≡ option_map source_of content) × IsShort content

-- an opened file has neither reached its end nor failed
abbrev pub IsNewInput : Input → Type 0
IsNewInput None = ⊤
IsNewInput (Some source) = IsFresh source

-- the state after these names were opened too, which returned these inputs
abbrev pub with_opened : FilesState → List (List ℕ) → List Input → FilesState
with_opened s names inputs = record s { opened = s.opened ++ names; inputs = s.inputs ++ inputs }

-- the state after these names were created too, which returned these outputs
abbrev pub with_created : FilesState → List (List ℕ) → List Output → FilesState
with_created s names outputs = record s { created = s.created ++ names; outputs = s.outputs ++ outputs }

-- ---- the files of a run

-- These inputs are the files of these names, opened one after another after `count` others, as far as they are known.
abbrev pub AreContents : (ℕ → List ℕ → Option Content) → ℕ → List (List ℕ) → List Input → Type 0
AreContents content count [] inputs = inputs ≡ []
AreContents content count (name ∷ names) [] = ⊥
AreContents content count (name ∷ names) (input ∷ inputs) =
    IsContent (content count name) input × AreContents content (suc count) names inputs

-- It is known of the files of these names that they have these contents.
abbrev pub HaveContents : (ℕ → List ℕ → Option Content) → ℕ → List (List ℕ) → List Content → Type 0
HaveContents content count [] contents = contents ≡ []
HaveContents content count (name ∷ names) [] = ⊥
HaveContents content count (name ∷ names) (bytes ∷ contents) =
    (content count name ≡ Some bytes) × HaveContents content (suc count) names contents

-- the reader of an input before its first read
abbrev pub reader_of_input : Input → Reader
reader_of_input None = new_reader unopened_state true
reader_of_input (Some source) = new_reader source false

-- the readers of standard input and of these inputs, before their first read
abbrev pub new_readers : SourceState → List Input → List Reader
new_readers standard inputs = new_reader standard false ∷ map reader_of_input inputs
