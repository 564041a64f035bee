-- The output of `cut -b` for the rest of a text, if its first line begins in an earlier block, and the contracts of
-- the functions that cut the lines of a block: what was cut so far, and the line that is next. For `cut -f` the
-- output for some lines, and the contract of the function that copies it.
use Rattle.std.specs.Prelude.{◌≡◌, ◌<◌, ◌≤◌, ℕ, ◌+◌, ◌^◌, ◌==◌, List, [], ◌∷◌, ◌++◌, Bool, length, map, take, drop}
use Rattle.std.specs.Prelude.{if◌then◌else◌}
use Rattle.std.specs.List.{count_by}
use Rattle.std.specs.Simd.Lanes.{mask_l, chunk}
use Rattle.memchr.specs.Find.{is_byte}
use Rattle.ptlines.specs.Text.{unlines, lines, complete_lines}
use Rattle.ptlangs.specs.CutLists.{is_selected}
use Rattle.ptlangs.specs.Jobs.{Cut}
use Rattle.ptlangs.specs.declared.ranges.Interval.{Interval}
use Rattle.ptflow.specs.Cuts.{select_from, cut_lines}
use Rattle.ptflow.specs.declared.tools.cut.bytes.Line.{Line}
use Rattle.ptlines.specs.declared.sizes.TheConstants.{BLOCK}

-- ---- bytes: the state is how many bytes of the unfinished line were read

-- the selected bytes of each line with its terminator, if `line_offset` bytes of the first line were read before
abbrev pub cut_lines_from : ℕ → (ℕ → Bool) → ℕ → List (List ℕ) → List ℕ
cut_lines_from end selected line_offset [] = if line_offset == 0 then [] else end ∷ []
cut_lines_from end selected line_offset (line ∷ more) =
    select_from selected (line_offset + 1) line ++ end ∷ unlines end (map (select_from selected 1) more)

-- like `cut_lines_from`, for the lines of the rest of a text
abbrev pub cut_bytes_from : ℕ → (ℕ → Bool) → ℕ → List ℕ → List ℕ
cut_bytes_from end selected line_offset rest = cut_lines_from end selected line_offset (lines end rest)

-- like `cut_bytes_from`, for the positions of a list of intervals
abbrev pub cut_list_from : ℕ → List Interval → ℕ → List ℕ → List ℕ
cut_list_from end list = cut_bytes_from end (is_selected list)

-- all of these bytes but the rest were processed, with this output, for every continuation of the input
abbrev pub IsCutPart : ℕ → List Interval → ℕ → List ℕ → ℕ → List ℕ → List ℕ → Type 0
IsCutPart end list line_offset bytes now rest written =
    (more : List ℕ) → cut_list_from end list line_offset (bytes ++ more)
    ≡ written ++ cut_list_from end list now (rest ++ more)

-- output for a first part of the input is extended to the output with these bytes
abbrev pub ExtendsCut : ℕ → List Interval → ℕ → List ℕ → List ℕ → ℕ → List ℕ → List ℕ → Type 0
ExtendsCut end list line_offset rest was now left is =
    (start : ℕ) (bytes : List ℕ) → IsCutPart end list start bytes line_offset rest was
    → IsCutPart end list start bytes now left is

-- no line of the block ends between these two indices
abbrev pub IsSameLine : ℕ → List ℕ → ℕ → ℕ → Type 0
IsSameLine end block at start =
    (start ≤ at) × (count_by (is_byte end) (take start block) ≡ count_by (is_byte end) (take at block))

-- the selected bytes among the first `count` bytes of a line of the block
abbrev pub selected_bytes : List Interval → List ℕ → Line → ℕ → List ℕ
selected_bytes list block line count =
    select_from (is_selected list) (line.line_offset + 1) (take count (drop line.start block))

-- `mask` is the match mask of the terminators among the 64 bytes at index `from`; 16 bytes follow them.
pub record IsTerminatorMask (end : ℕ) (block : List ℕ) (from mask : ℕ) : Type 0 where
  pub within : from + 80 ≤ length block
  pub most : length block ≤ BLOCK
  pub is : mask ≡ mask_l (map (is_byte end) (chunk from 64 block))

-- This index is in the line. The output so far is not longer than the lines before.
pub record IsLineAt (end : ℕ) (block : List ℕ) (at : ℕ) (line : Line) : Type 0 where
  pub same : IsSameLine end block at line.start
  pub short : line.line_offset + length block < 2 ^ 63
  pub near : line.at ≤ line.start

-- The lines before `now` were cut, and their output was appended; it is not longer than the lines.
pub record CutPost (end : ℕ) (list : List Interval) (block : List ℕ) (was : Line) (old : List ℕ) (now : Line)
    (new : List ℕ) : Type 0 where
  pub cut : ExtendsCut end list was.line_offset (drop was.start block) old now.line_offset (drop now.start block) new
  pub bound : now.line_offset ≤ was.line_offset
  pub near : now.at ≤ now.start

-- ---- fields: no state is carried from line to line

-- the output for some lines
abbrev pub cut_fields_from : Cut → Unit {0} → List (List ℕ) → List ℕ
cut_fields_from job u ls = cut_lines job ls

-- The first lines of these bytes, which are `size` bytes, were processed, and their output appended, for every
-- continuation of the input.
pub record CopyLinesPost (job : Cut) (end : ℕ) (bytes : List ℕ) (size : ℕ) (old new : List ℕ) : Type 0 where
  pub some : 0 < size
  pub fits : size ≤ length bytes
  pub taken : unlines end (complete_lines end bytes)
      ≡ take size bytes ++ unlines end (complete_lines end (drop size bytes))
  pub on : (more : List (List ℕ))
      → old ++ cut_lines job (complete_lines end bytes ++ more)
      ≡ new ++ cut_lines job (complete_lines end (drop size bytes) ++ more)
