-- If keys that compare as equal have the same bytes in an order, that also holds in its reverse.
use Rattle.std.specs.Prelude.{◌≡◌, ℕ, List}
use Rattle.std.proofs.Common.{sym}
use Rattle.std.specs.declared.cmp.Ordering.TheVariants.{Equal}
use Rattle.std.specs.Ordering.{flip_args}
use Rattle.ptlines.specs.ByteOrder.{Cmp}

-- If the law holds for `cmp`, it holds for its reverse.
pub reversed_same_bytes : (cmp : Cmp) → ((a b : List ℕ) → cmp a b ≡ Equal → a ≡ b) → (a b : List ℕ)
    → flip_args cmp a b ≡ Equal → a ≡ b
reversed_same_bytes cmp exact a b e = sym (exact b a e)
