-- The loop of `FilterSet::of`, whose count only has to tell no flag, one and more apart.
use Rattle.ptflow.proofs
use proofs.Common.{◌≡◌, ◌≤◌, ◌<◌, ◌+◌, ℕ, Bool, true, false, List, get_or, eqb, arith, cases_eq, eq-eqb, ne_eqb}

-- `count` of the first `n` flags are set, and `last` is the index of the last of them
pub record IsCounted (count last n : ℕ) (flags : List Bool) : Type 0 where
  pub few : count ≤ n
  pub within : last < 256
  pub low : 0 < count → last < n
  pub none : count ≡ 0 → (b : ℕ) → b < n → get_or flags b false ≡ false
  pub one : count ≡ 1 → (b : ℕ) → b < n → get_or flags b false ≡ eqb b last

module _ {count last n : ℕ} {flags : List Bool} (counted : IsCounted count last n flags) where
  pub after_set : get_or flags n false ≡ true → n < 256 → IsCounted (count + 1) n (n + 1) flags
  after_set is room = grind (arith, cases_eq, eq-eqb, ne_eqb)

  pub after_clear : get_or flags n false ≡ false → IsCounted count last (n + 1) flags
  after_clear is = grind (arith, cases_eq, ne_eqb)
