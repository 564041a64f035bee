-- `move_to_slot`: the first buffered bytes are appended to the slot, the others stay buffered, and the
-- reader stays sound.
use Rattle.ptlines.proofs
use proofs.Common.{line, usual}
use proofs.Consume.{rest_of_range}
use proofs.reader.LineReader.move_to_slot.Goals as goal

pub returns-in-Ok-clause-moves : goal.returns-in-Ok-clause-moves
returns-in-Ok-clause-moves g c = grind (usual, rest_of_range, line)

pub returns-in-Ok-clause-sound : goal.returns-in-Ok-clause-sound
returns-in-Ok-clause-sound g c = grind usual
