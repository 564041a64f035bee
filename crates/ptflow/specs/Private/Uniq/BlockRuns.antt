-- The runs of the lines of a block: their output that was pushed, and that which is deferred, as the contracts of the
-- functions that write runs state it. Also ranges of a block (its lines, and the deferred output), and lines that are
-- repeated.
use Rattle.std.specs.Prelude.{◌≡◌, ℕ, ◌-◌, ◌≤◌, ◌<◌, List, [], ◌∷◌, ◌++◌, Option, None, Some, IfSome, length}
use Rattle.std.specs.Prelude.{slice_range, zero, suc}
use Rattle.ptlines.specs.Calls.Outputs.{Output, PushEffect}
use Rattle.ptlangs.specs.Jobs.{Uniq}
use Rattle.ptflow.specs.Uniqs.{Run, output_of}
use Rattle.ptflow.specs.Private.Passes.LineLoop.{LinesWritten, LinesFailed}
use Rattle.ptflow.specs.Private.Uniq.RunsFrom.{count_of, runs_after}
use Rattle.ptflow.specs.declared.tools.uniq.block_runs.BlockRange.{BlockRange}

-- these lines were processed: some runs were written, and the current run is `after`
abbrev pub RunsWritten : Uniq → Run → Run → List (List ℕ) → Output → Output → Type 0
RunsWritten job before after ls was is = LinesWritten (runs_after job) (output_of job) count_of before after ls was is

-- a write failed at these lines
abbrev pub RunsFailed : Uniq → Run → List (List ℕ) → Output → Output → Type 0
RunsFailed job before ls was is = LinesFailed (runs_after job) (output_of job) before ls was is

-- these bytes, `n` times
abbrev pub repeated : ℕ → List ℕ → List ℕ
repeated zero bytes = []
repeated (suc n) bytes = bytes ++ repeated n bytes

-- the bytes of a range
abbrev pub bytes_in_range : List ℕ → BlockRange → List ℕ
bytes_in_range block range = slice_range block range.from range.to

-- the range is in the block
pub record IsRangeOf (block : List ℕ) (range : BlockRange) : Type 0 where
  pub ordered : range.from ≤ range.to
  pub within : range.to ≤ length block

-- the first line of a run, which is before a block or, with its terminator, in this range of it
abbrev pub first_of : List ℕ → List ℕ → Option BlockRange → List ℕ
first_of first block None = first
first_of first block (Some line) = slice_range block line.from (line.to - 1)

-- the range of a line with its terminator
pub record IsLineRange (end : ℕ) (block : List ℕ) (line : BlockRange) : Type 0 where
  pub some : line.from < line.to
  pub within : line.to ≤ length block
  pub text : bytes_in_range block line ≡ slice_range block line.from (line.to - 1) ++ end ∷ []

-- The deferred output is in the block. There is none if the first line of the run is before the block.
pub record EndRunPre (end : ℕ) (block : List ℕ) (line : Option BlockRange) (pending : BlockRange) : Type 0 where
  pub pending_in : IsRangeOf block pending
  pub line_in : IfSome line (IsLineRange end block)
  pub none : line ≡ None → bytes_in_range block pending ≡ []

-- Some of these bytes were pushed, and the others are this range of the block.
pub record IsPending (bytes block : List ℕ) (pending : BlockRange) (was is : Output) : Type 0 where
  pub pushed : List ℕ
  pub wrote : PushEffect was is pushed
  pub all : pushed ++ bytes_in_range block pending ≡ bytes
  pub in_block : IsRangeOf block pending
