-- Bytes that may be unknown: appending twice, or prepending twice, is doing it once with the concatenation, and
-- appending nothing changes nothing. Also, whether a sink has unflushed bytes after two writes.
use Rattle.ptlines.proofs
use proofs.Common.{◌≡◌, ℕ, Bool, List, [], ◌++◌, Option, append_known, prepend_known, unflushed_after, arith, rules}
use proofs.Common.{usual}

pub append_known-append : (known : Option (List ℕ)) (xs ys : List ℕ)
    → append_known (append_known known xs) ys ≡ append_known known (xs ++ ys)
append_known-append = grind usual

pub append_known-nil : (known : Option (List ℕ)) → append_known known [] ≡ known
append_known-nil = search rules

pub prepend_known-append : (xs ys : List ℕ) (known : Option (List ℕ))
    → prepend_known xs (prepend_known ys known) ≡ prepend_known (xs ++ ys) known
prepend_known-append = grind usual

pub unflushed_after-append : (unflushed : Bool) (xs ys : List ℕ)
    → unflushed_after (unflushed_after unflushed xs) ys ≡ unflushed_after unflushed (xs ++ ys)
unflushed_after-append = grind arith
