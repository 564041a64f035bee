-- A copy after the others is one more (`one_more`), and so is one at the start of the rest (`copied`).
use Rattle.ptflow.proofs
use proofs.Common.{◌≡◌, ℕ, ◌+◌, List, ◌++◌, zero, suc, take, drop, arith, usual, append_assoc, append-nil}
use proofs.Common.{take-append-drop, repeated}
use proofs.tools.uniq.block_runs.skip_repeats.Goals as goal

one_more : (n : ℕ) (bytes : List ℕ) → repeated n bytes ++ bytes ≡ repeated (n + 1) bytes
one_more zero bytes = grind (arith, append-nil)
one_more (suc n) bytes = grind (arith, append_assoc, one_more n bytes)

copied : (n size : ℕ) (line rest : List ℕ) → line ≡ take size rest
    → repeated n line ++ rest ≡ repeated (n + 1) line ++ drop size rest
copied n size line rest is = grind (arith, append_assoc, one_more n line, take-append-drop size rest)

pub loop-count-preserved : goal.loop-count-preserved
loop-count-preserved c = grind (usual, copied)
