-- A call receives the bytes that it consumes and those that it leaves buffered. The terminator plays no part in that.
use Rattle.ptlines.proofs
use proofs.Common.{◌≡◌, ℕ, List, ◌++◌, arith, length-append, Reader, ReaderAdvance, Received, HasReceived}
use proofs.KnownBytes.{prepend_known-append}

-- what was received if these bytes were consumed
abbrev pub received_with : List ℕ → Reader → Received
received_with bytes reader = record { bytes = bytes ++ reader.buffered; eof = reader.eof }

pub has_received : (old new : Reader) (bytes : List ℕ) → ReaderAdvance old new bytes
    → HasReceived old new (received_with bytes new)
has_received old new _ reads = grind (arith, prepend_known-append, length-append)

-- The reader `set` differs from `old` only in its terminator.
module _ (old set : Reader) (end : ℕ) (is : set ≡ record old { terminator = end }) where
  pub has_received_set : (new : Reader) (given : Received) → HasReceived set new given → HasReceived old new given
  has_received_set new _ came = grind arith
