-- The n-th item of a list that passes a test, or none; a lemma for a ghost field with a first match; and
-- the mask of those that pass in a window of a list.
use Rattle.std.specs.Prelude.{◌≡◌, ℕ, ◌<◌, ◌≤◌, ◌+◌, ◌-◌, Bool, true, List, Option, length, map, take, drop}
use Rattle.std.specs.Prelude.{None, Some, slice_index_or, MatchOption}
use Rattle.std.specs.List.{count_by}
use Rattle.std.specs.Simd.Lanes.{mask_l}
use Rattle.std.proofs.Props.{props}
use Rattle.memchr.specs.Find.{IsFirstByte}
use Rattle.ptlines.specs.declared.scan.MatchWindow.{MatchWindow}

-- the item at this index passes, and `count` items before it do
abbrev pub IsNth : {X : Type 0} → (X → Bool) → X → ℕ → List X → ℕ → Type 0
IsNth test default count items at =
    (at < length items) × (test (slice_index_or items at default) ≡ true) × (count_by test (take at items) ≡ count)

-- the index of the item that passes after `count` others, or nothing if no more pass
abbrev pub IsNthResult : (ℕ → Bool) → ℕ → List ℕ → Option ℕ → Type 0
IsNthResult test count bytes result =
    MatchOption result (count_by test bytes ≤ count) (λ at. IsNth test 0 count bytes at)

-- there is one first match at most, so that this is a fact
pub IsFirstByte-prop : (test : ℕ → Bool) (bytes : List ℕ) (result : Option ℕ) → IsProp (IsFirstByte test bytes result)
IsFirstByte-prop test bytes None = Prim.hlevel props
IsFirstByte-prop test bytes (Some at) = Prim.hlevel props

-- the mask has a bit for each item of the window, which is set if the item passes
pub record IsMatchWindow (test : ℕ → Bool) (items : List ℕ) (window : MatchWindow) : Type 0 where
  pub order : window.at ≤ window.end
  pub within : window.end ≤ length items
  pub few : window.end ≤ window.at + 64
  pub is : window.mask ≡ mask_l (map test (take (window.end - window.at) (drop window.at items)))

-- Among the first `to` items, the one before the window passes, after `before` others from the old window on; or there
-- is no such item, and the window is after them.
pub record IsAfterNth (test : ℕ → Bool) (items : List ℕ) (to before : ℕ) (old window : MatchWindow) : Type 0 where
  pub found : window.at ≤ to
      → IsNth test 0 (before + count_by test (take old.at items)) (take to items) (window.at - 1)
  pub none : to < window.at → count_by test (take to items) ≤ before + count_by test (take old.at items)
  pub some : 0 < window.at
  pub moved : window.at ≤ to → IsMatchWindow test items window
