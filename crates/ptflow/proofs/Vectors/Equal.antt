-- Two slices of one length are equal if their first bytes are, up to an index, and their last ones, which may overlap.
use Rattle.ptflow.proofs
use proofs.Common.{◌≡◌, ◌≢◌, ℕ, ◌+◌, ◌≤◌, Bool, true, List, length, take, drop, sym, arith, bytes_eq, bytes_eq-Decides}
use proofs.Common.{chunk, take-append-drop, take-take, take_all, length-drop, MatchBool}

pub ended : (r : Bool) (n last at : ℕ) (a b : List ℕ) → length a ≡ length b → last + n ≡ length a → last ≤ at
    → take at a ≡ take at b → MatchBool r (chunk last n a ≡ chunk last n b) (a ≢ b) → r ≡ bytes_eq a b
ended true n last at a b long all past before here =
    sym ((bytes_eq-Decides a b).1 (grind (
      arith,
      take-append-drop last a,
      take-append-drop last b,
      take-take last at a,
      take-take last at b,
      take_all n (drop last a),
      take_all n (drop last b),
      length-drop,
    )))
ended _ n _ at a b long all past before other = grind (arith, bytes_eq-Decides)
