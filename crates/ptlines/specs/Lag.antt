-- The part of an input that had come at most two blocks earlier, for bounds on the lag of the output.
use Rattle.std.specs.Prelude.{◌≡◌, ◌≤◌, ◌*◌, ℕ, true, List, ◌++◌, length}
use Rattle.ptlines.specs.Received.{Received}
use Rattle.ptlines.specs.declared.sizes.TheConstants.{BLOCK}

-- a prefix of what was received of an input, which lacks at most two blocks (16,384 bytes)
pub record LaggedInput (came : Received) : Type 0 where
  pub earlier : Received
  pub last : List ℕ
  pub split : came.bytes ≡ earlier.bytes ++ last
  pub short : length last ≤ 2 * BLOCK
  pub eof : earlier.eof ≡ true → came.eof ≡ true
