-- Streams of the caller: that nothing is known of their bytes, and their state before the first write.
use Rattle.std.specs.Prelude.{ℕ, false, List, Option, None}
use Rattle.ptlines.specs.Sinks.{SinkState}

-- Nothing is known of the bytes of real streams.
abbrev pub unknown : ℕ → Option (List ℕ)
unknown number = None

-- The state of a real stream before its first write.
abbrev pub unwritten : SinkState
unwritten = record { accepted = None; failed = false; unflushed = false; flushes = 0 }
