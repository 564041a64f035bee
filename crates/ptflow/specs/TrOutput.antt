-- The output of `tr` for a text (POSIX.1-2017, XCU, `tr`): first bytes are deleted, then the others translated, and
-- then repeats squeezed. Also the output that a part of an input decides. `tr_tool` has both.
use Rattle.std.specs.Prelude.{ℕ, ◌==◌, ◌&&◌, List, [], ◌∷◌, Bool, true, not, map, filter, zip}
use Rattle.ptlines.specs.Received.{Received}
use Rattle.ptlangs.specs.TrPlan.{ByteMap}
use Rattle.ptflow.specs.ToolSpec.{ToolSpec}

-- the second byte of a pair of neighbours is kept, unless it is squeezed and equal to the first
abbrev pub is_not_repeat : (ℕ → Bool) → ℕ × ℕ → Bool
is_not_repeat squeezed pair = not ((pair.0 == pair.1) && squeezed pair.1)

-- the bytes that are kept if `last` is the byte before them
abbrev pub squeeze_after : (ℕ → Bool) → ℕ → List ℕ → List ℕ
squeeze_after squeezed last bytes =
    map (λ (pair : ℕ × ℕ). pair.1) (filter (is_not_repeat squeezed) (zip (last ∷ bytes) bytes))

-- the bytes that are kept
abbrev pub squeeze : (ℕ → Bool) → List ℕ → List ℕ
squeeze squeezed [] = []
squeeze squeezed (b ∷ bytes) = b ∷ squeeze_after squeezed b bytes

-- the bytes that are not deleted, each replaced by its image
abbrev pub translation : ByteMap → List ℕ → List ℕ
translation m bytes = map m.image (filter (λ b. not (m.deletes b)) bytes)

-- The output of `tr` for a text, by what happens to each byte: the bytes that are deleted are left out, each other one
-- is replaced by its image, and of equal neighbours that are squeezed only the first is kept.
abbrev pub tr : ByteMap → List ℕ → List ℕ
tr m bytes = squeeze m.squeezes (translation m bytes)

-- the output that part of an input decides: the whole output for the bytes that were received
abbrev pub tr_decided : ByteMap → Received → List ℕ
tr_decided m given = tr m given.bytes

-- No line is kept in a slot.
abbrev pub tr_tool : ByteMap → ToolSpec
tr_tool m = record {
  text = tr m;
  decided = tr_decided m;
  size = λ input. 0;
  slots = 0;
  end = 10;
  keeps_end = true;
}
