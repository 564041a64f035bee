-- The model of `Out`, a sink with a block of buffered output, and the effect of its calls.
use Rattle.std.specs.Prelude.{◌≡◌, ◌⊎◌, ℕ, ◌+◌, ◌≤◌, Bool, true, false, List, [], ◌++◌, Option, Result, OnOk, OnErr}
use Rattle.std.specs.Prelude.{length, max}
use Rattle.std.specs.Io.KnownBytes.{append_known}
use Rattle.ptlines.specs.Sinks.{unflushed_after}
use Rattle.ptlines.specs.declared.sizes.TheConstants.{BLOCK}

-- the bytes that the sink has accepted (`None` if unknown), the bytes buffered in the block, whether a write or a flush
-- has failed, whether the sink has accepted bytes that were not flushed yet, and how many flushes of it succeeded
pub record Output : Type 0 where
  pub accepted : Option (List ℕ)
  pub buffered : List ℕ
  pub write_failed : Bool
  pub unflushed : Bool
  pub flushes : ℕ

-- all output that is not lost: the bytes that the sink has accepted, followed by the buffered ones
abbrev pub output_bytes : Output → Option (List ℕ)
output_bytes o = append_known o.accepted o.buffered

-- the output with these bytes added to the block
abbrev pub with_buffered : Output → List ℕ → Output
with_buffered o bytes = record o { buffered = o.buffered ++ bytes }

-- the output after the block was written to the sink; nothing is buffered any more
abbrev pub with_written_out : Output → Output
with_written_out o = record {
  accepted = output_bytes o;
  buffered = [];
  write_failed = false;
  unflushed = unflushed_after o.unflushed o.buffered;
  flushes = o.flushes;
}

-- the block was written to the sink, or nothing happened
abbrev pub IsSameOrWrittenOut : Output → Output → Type 0
IsSameOrWrittenOut old new = (new ≡ old) ⊎ (new ≡ with_written_out old)

-- known bytes only grew: the old bytes are a prefix of the new ones
pub record IsKnownPrefix (old new : Option (List ℕ)) : Type 0 where
  pub front : List ℕ
  pub is : new ≡ append_known old front

-- The bytes were pushed: they were added to the output, or after a failed write the output is a prefix of what it would
-- have been. After a failed write nothing more is written. At most a block is buffered, or what was buffered before. The
-- sink is not flushed.
pub record PushEffect (old new : Output) (bytes : List ℕ) : Type 0 where
  pub kept : IsKnownPrefix old.accepted new.accepted
  pub beginning : IsKnownPrefix (output_bytes new) (append_known (output_bytes old) bytes)
  pub whole : new.write_failed ≡ false → output_bytes new ≡ append_known (output_bytes old) bytes
  pub stays : old.write_failed ≡ true → new ≡ old
  pub buffered : length new.buffered ≤ max BLOCK (length old.buffered)
  pub flushes : new.flushes ≡ old.flushes

-- the effect of `push` with its result, which is an error exactly if a write has failed
pub record PushPost {E : Type 0} (old new : Output) (bytes : List ℕ) (result : Result (Unit {0}) E) : Type 0 where
  pub wrote : PushEffect old new bytes
  pub clean : OnOk result (new.write_failed ≡ false)
  pub fault : OnErr result (new.write_failed ≡ true)

-- if the bytes fit into the block of 8,192 bytes, they are only buffered: nothing is written to the sink
abbrev pub BuffersIfRoom : Output → Output → List ℕ → Type 0
BuffersIfRoom old new bytes =
    old.write_failed ≡ false → length old.buffered + length bytes ≤ BLOCK → new ≡ with_buffered old bytes
