-- The model of bytes in memory as a source.
use Rattle.std.specs.Prelude.{Some, false}
use Rattle.ptfiles.specs.declared.bytes.Bytes.{Bytes}
use Rattle.ptlines.specs.Sources.{SourceState}

-- The bytes that are left. No read has failed, since none fails.
abbrev pub bytes_state : Bytes → SourceState
bytes_state s = record { left = Some s.left.now; eof = s.eof; failed = false }
