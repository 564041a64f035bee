-- The state of a closed sink: that of a command which is to write no output.
use Rattle.std.specs.Prelude.{Bool, false, [], ◌∷◌, Some}
use Rattle.ptlines.specs.Sinks.{SinkState}

-- of a closed sink each call fails, so it never accepts a byte
abbrev pub closed_state : Bool → SinkState
closed_state failed = record { accepted = Some (0 ∷ []); failed = failed; unflushed = false; flushes = 0 }
