-- Proved in `PasteLemmas/BufferedRows/Rows/Grid`.
use Rattle.ptflow.proofs
use proofs.PasteLemmas.BufferedRows.Rows.Grid.{paste_of_parts}
use proofs.laws.parts_of_paste.Goals as goal

pub returns : goal.returns
returns c = paste_of_parts
