-- The buffered bytes once some of them were consumed: the range of the block that begins later by their number is what
-- was buffered without its first bytes.
use Rattle.ptlines.proofs
use proofs.Common.{◌≡◌, ℕ, ◌+◌, ◌-◌, ◌≤◌, List, length, drop, sym, arith, slice_range, drop-drop, drop-take, usual}

pub range_drop : (b : List ℕ) (s e n : ℕ) → s + n ≤ e → slice_range b (s + n) e ≡ drop n (slice_range b s e)
range_drop b s e n fits =
    let whole : n + (e - (s + n)) ≡ e - s = omega arith in
    sym (grind (arith, drop-take, drop-drop))

pub rest_of_range : (b : List ℕ) (s e n : ℕ) (buffered : List ℕ) → s ≤ e → e ≤ length b → slice_range b s e ≡ buffered
    → n ≤ length buffered → slice_range b (s + n) e ≡ drop n buffered
rest_of_range b s e n _ order fits is within = grind (usual, range_drop)
