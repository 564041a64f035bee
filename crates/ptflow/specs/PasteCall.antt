-- The specification of the engine of `paste` without `-s`. The parameter `cells` has, for each column, the index of the
-- reader of that column. The contract of a call is in Calls/PasteCall.
use Rattle.std.specs.Prelude.{ℕ, false, List, None, length}
use Rattle.ptflow.specs.PasteText.{paste, paste_decided, paste_size}
use Rattle.ptlangs.specs.Jobs.{Paste}
use Rattle.ptlines.specs.Engines.{EngineSpec}

-- The engine of `paste`, whose columns read the inputs at these indices. It has a slot for each column.
abbrev pub paste_engine : Paste → List ℕ → EngineSpec ℕ
paste_engine job cells = record {
  text = paste job cells;
  decided = paste_decided job cells;
  disorder = λ texts. None;
  size = paste_size job cells;
  slots = λ texts. length cells;
  first_slots = length cells;
  keeps_groups = false;
  terminator = job.terminator;
  keeps_terminator = false;
}
