-- The precondition and the postcondition of the engine of `paste` without `-s`. The parameter `cells` has, for each
-- column, the index of the reader of that column.
use Rattle.std.specs.Prelude.{◌≡◌, ◌<◌, ℕ, false, List, None, Result, Ok, Err, All, length}
use Rattle.ptflow.specs.PasteCall.{paste_engine}
use Rattle.ptflow.specs.declared.faults.FlowFault.{FlowFault}
use Rattle.ptflow.specs.declared.faults.FlowFault.TheVariants.{Memory, Read, Write}
use Rattle.ptlangs.specs.Jobs.{Paste}
use Rattle.ptlines.specs.Calls.Engines.{CallEnd, CallPost, Complete, MemoryFault, ReadFault, WriteFault, call_state}
use Rattle.ptlines.specs.Calls.Engines.{inputs_at}
use Rattle.ptlines.specs.Calls.Outputs.{Output}
use Rattle.ptlines.specs.Readers.{Reader, reader_at}
use Rattle.ptlines.specs.Slots.{Slots, total_bytes}

-- A reader that may be read: its file was opened, and it has reported no fault.
pub record IsReadable (reader : Reader) : Type 0 where
  pub opened : reader.refused ≡ false
  pub readable : reader.fault ≡ None

-- The precondition of `paste`: each column has a readable reader, and the store is empty and has not been denied
-- memory.
pub record PastePre (cells : List ℕ) (readers : List Reader) (store : Slots) : Type 0 where
  pub within : All (λ input. input < length readers) cells
  pub readable : All (λ input. IsReadable (reader_at readers input)) cells
  pub not_denied : store.denied ≡ false
  pub empty : total_bytes store.lines ≡ 0

-- How a call ended, by its result.
abbrev pub paste_end : Result (Unit {0}) FlowFault → CallEnd ℕ
paste_end (Ok u) = Complete
paste_end (Err (Read input)) = ReadFault input
paste_end (Err Write) = WriteFault
paste_end (Err Memory) = MemoryFault

-- The postcondition of `paste`.
abbrev pub PastePost : Paste → List ℕ → List Reader → List Reader → Output → Output → Slots → Slots
    → Result (Unit {0}) FlowFault → Type 0
PastePost job cells old new was is before store result = CallPost (inputs_at cells) (paste_engine job cells)
    (call_state (reader_at old) was before) (call_state (reader_at new) is store) (paste_end result)
