-- `set`: bytes are appended to an empty line.
use Rattle.ptlines.proofs
use proofs.Common.{◌≡◌, ◌<◌, ◌++◌, ℕ, List, [], length, Slots, line, with_line, arith}
use Rattle.std.specs.Prelude.{Result, Ok, Err, OnOk}
use proofs.ReadLine.{appended_twice}
use proofs.store.Store.set.Goals as goal

set_if_ok : {E : Type 0} (r : Result (Unit {0}) E) (old mid new : Slots) (slot : ℕ) (bytes : List ℕ)
    → slot < length old.lines → mid ≡ with_line old slot [] → OnOk r (new ≡ with_line mid slot (line mid slot ++ bytes))
    → OnOk r (new ≡ with_line old slot bytes)
set_if_ok (Ok u) old mid new slot bytes within emptied appended =
    appended_twice old mid new slot [] bytes within emptied (grind arith)
set_if_ok (Err e) old mid new slot bytes within emptied appended = tt

pub returns-clause-ok : goal.returns-clause-ok
returns-clause-ok g c = set_if_ok c.append.result _ _ _ _ _ c.requires c.clear.ensures c.append.ensures.ok
