-- Each byte so far has its image by the flags: `byte` if its flag is set, and else the byte itself.
use Rattle.ptflow.proofs
use proofs.Common.{◌≡◌, ◌<◌, ℕ, false, get_or, if◌then◌else◌, length}
use proofs.tools.tr.map_kind.MapSetToByte.of.Given as goal

abbrev pub invariant-loop-from : goal.invariant-loop-from
invariant-loop-from l = record {
  long : length l.flags ≡ 256;
  checked : (b : ℕ) → b < l.from → (if get_or l.flags b false then l.byte else b) ≡ get_or l.images b 0;
}
