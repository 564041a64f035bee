-- A common prefix of two byte strings; and only equal ones compare as equal.
use Rattle.std.specs.Prelude.{◌≡◌, ◌≤◌, ℕ, List, length, take, min}
use Rattle.std.proofs.Common.{sym, ap, ◌∙◌}
use Rattle.std.specs.declared.cmp.Ordering.TheVariants.{Equal}
use Rattle.std.specs.Ordering.{is_eq}
use Rattle.std.specs.Cmp.Lexicographic.{bytes_decides}
use Rattle.std.proofs.lemmas.Map.Text.{is_eq-slice_cmp}
use Rattle.ptlines.specs.ByteOrder.{byte_cmp}

-- both strings have at least `n` bytes, and their first `n` bytes are equal
pub record HaveCommonPrefix (n : ℕ) (a b : List ℕ) : Type 0 where
  pub long : n ≤ min (length a) (length b)
  pub same : take n a ≡ take n b

-- only equal strings compare as equal
pub byte_cmp_equal : (a b : List ℕ) → byte_cmp a b ≡ Equal → a ≡ b
byte_cmp_equal a b e = (bytes_decides a b).0 (sym (is_eq-slice_cmp a b) ∙ ap is_eq e)
