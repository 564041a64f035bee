-- For the streams of a host as files: what it means that an output is the stream with a state (`IsStream`), and the
-- postcondition of opening a stream (`OpenedPost`).
use Rattle.std.specs.Prelude.{◌≡◌, Option, Some, option_map}
use Rattle.ptfiles.specs.Files.{Content, Input, IsContent, IsNewInput}
use Rattle.ptlines.specs.Sinks.{SinkState}

-- The stream of an output in this state.
abbrev pub IsStream : {O : Type 0} → (O → SinkState) → SinkState → Option O → Type 0
IsStream of state output = option_map of output ≡ Some state

-- An input of which this is known, and of which nothing was read yet.
abbrev pub OpenedPost : Option Content → Input → Type 0
OpenedPost content input = IsContent content input × IsNewInput input
