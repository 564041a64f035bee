-- Tools that work line by line: what `run_lines` requires of one (`IsLineFilter`), and the contracts of its calls,
-- for the output and for the slots. X is the state carried from line to line, and E the items that are made of lines.
use Rattle.std.specs.Prelude.{◌≡◌, ◌⊎◌, ◌+◌, ◌-◌, ◌*◌, ◌<◌, ◌≤◌, ◌^◌, ℕ, List, ◌++◌, true, false, length, take, drop}
use Rattle.std.specs.Prelude.{max, swap}
use Rattle.ptlines.specs.Received.{Received, IsPrefix, known_lines}
use Rattle.ptlines.specs.Calls.Outputs.{Output, PushEffect}
use Rattle.ptlines.specs.Readers.{Reader}
use Rattle.ptlines.specs.Calls.Readers.{IsSound}
use Rattle.ptlines.specs.Slots.{Slots, total_bytes}
use Rattle.ptlines.specs.Calls.Slots.{with_line}
use Rattle.ptlines.specs.Text.{unlines, lines, complete_lines, max_line_length}
use Rattle.ptflow.specs.ToolSpec.{ToolSpec}
use Rattle.ptflow.specs.Calls.Passes.{PassPre}
use Rattle.ptlines.specs.declared.sizes.TheConstants.{BLOCK}

-- the condition of a pass over lines: the reader and the store are ready, and no write has failed
pub record RunLinesPre (end : ℕ) (reader : Reader) (out : Output) (store : Slots) : Type 0 where
  pub ends : reader.terminator ≡ end
  pub ready : PassPre reader store
  pub sound : IsSound reader
  pub clean : out.write_failed ≡ false

-- The lines of a block can be processed. There was a line before, and the number of lines with no output yet is
-- bounded.
pub record ProcessLinesPre (buffered : ℕ) (block : List ℕ) : Type 0 where
  pub few : buffered ≤ 2 ^ 63
  pub waits : 0 < buffered
  pub short : length block ≤ BLOCK

-- The lines were processed. The written items, and then those of the rest, are the items, for every continuation. At
-- most the processed lines were added to those with no output yet.
pub record LinesWritten {X E : Type 0} (rest_from : X → List (List ℕ) → List E) (written : List E → List ℕ)
    (counted : X → ℕ) (before after : X) (ls : List (List ℕ)) (was is : Output) : Type 0 where
  pub passed : List E
  pub wrote : PushEffect was is (written passed)
  pub clean : was.write_failed ≡ false → is.write_failed ≡ false
  pub on : (more : List (List ℕ)) → rest_from before (ls ++ more) ≡ passed ++ rest_from after more
  pub count : counted after ≤ counted before + length ls
  pub some : 0 < length ls → 0 < counted after

-- A write failed at these lines: the written items are a prefix of all items for every continuation.
pub record LinesFailed {X E : Type 0} (rest_from : X → List (List ℕ) → List E) (written : List E → List ℕ) (before : X)
    (ls : List (List ℕ)) (was is : Output) : Type 0 where
  pub passed : List E
  pub wrote : PushEffect was is (written passed)
  pub fault : is.write_failed ≡ true
  pub is_prefix : (more : List (List ℕ)) → (rest : List E) × (rest_from before (ls ++ more) ≡ passed ++ rest)

-- the lines that end in a block are its first `count` bytes
abbrev pub IsLinesLength : ℕ → List ℕ → ℕ → Type 0
IsLinesLength end block count = (count ≤ length block) × (take count block ≡ unlines end (complete_lines end block))

-- the first and the last of some slots may have been swapped
abbrev pub IsSwapped : ℕ → Slots → Slots → Type 0
IsSwapped slots before after = (after ≡ before) ⊎ (after ≡ record before { lines = swap before.lines 0 (slots - 1) })

-- the first `count` slots were cleared
pub record SlotsCleared (count : ℕ) (before after : Slots) : Type 0 where
  pub size : length after.lines ≡ length before.lines
  pub denied : after.denied ≡ before.denied
  pub left : total_bytes after.lines ≡ total_bytes (drop count before.lines)
  pub peak : after.peak ≤ max before.peak (total_bytes before.lines)

-- A line tool that begins in the state `start`. In a state x the items of the rest are `rest_from x`, and `written` is
-- their output. The last slot is for the next line.
pub record IsLineFilter {S X E : Type 0} (tool : ToolSpec) (state : S → Slots → X)
    (rest_from : X → List (List ℕ) → List E) (written : List E → List ℕ) (counted : X → ℕ)
    (width : ℕ) (start : S) : Type 0 where
  pub apart : (xs ys : List E) → written (xs ++ ys) ≡ written xs ++ written ys
  pub stays : (now : S) (store : Slots) (bytes : List ℕ) → width ≤ length store.lines
      → state now (with_line store (width - 1) bytes) ≡ state now store
  pub fresh : (store : Slots) → counted (state start store) ≤ 1
  pub tool_text : (store : Slots) (bytes : List ℕ)
      → written (rest_from (state start store) (lines tool.end bytes)) ≡ tool.text bytes
  -- the output that some lines decide is written after them
  pub decided : (store : Slots) (given : Received) (passed : List E) (now : X)
      → ((more : List (List ℕ)) → rest_from (state start store) (known_lines tool.end given ++ more)
      ≡ passed ++ rest_from now more)
      → IsPrefix (tool.decided given) (written passed)
  pub size : (bytes : List ℕ) → tool.size bytes ≡ width * max_line_length tool.end bytes
  pub slots : tool.slots ≡ width
  pub some : 0 < width
