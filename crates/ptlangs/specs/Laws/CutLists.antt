-- The grammar of the list of `cut`, and the law that `cut_list` agrees with it.
use Rattle.std.specs.Prelude.{ℕ, ◌≤◌, ◌≡◌, ◌↔◌, List, [], ◌∷◌, ◌++◌, true}
use Rattle.std.specs.Prelude.{Ok, Result}
use Rattle.std.specs.Str.{byte}
use Rattle.ptlangs.specs.CutLists.{element_interval}
use Rattle.ptlangs.specs.Laws.Numbers.{IsListOf}
use Rattle.ptlangs.specs.Numbers.{elements, is_number, max_u64, traverse, value}
use Rattle.ptlangs.specs.declared.ranges.Interval.{Interval}
use Rattle.ptlangs.specs.declared.ranges.ListFault.{ListFault}

-- the bounds of an interval are positive, ascending, and fit into 64 bits
pub record IsValidInterval (r : Interval) : Type 0 where
  pub positive : 1 ≤ r.first
  pub ascending : r.first ≤ r.last
  pub fits : r.last ≤ max_u64

-- The grammar of one element: its text, and the interval that it denotes. Numbers are not checked here.
pub data SpellsInterval : List ℕ → Interval → Type 0 where
  One : (n : List ℕ) → is_number n ≡ true → SpellsInterval n (record { first = value n; last = value n })
  FromTo : (n m : List ℕ) → is_number n ≡ true → is_number m ≡ true
      → SpellsInterval (n ++ byte "-" ∷ m) (record { first = value n; last = value m })
  UpTo : (m : List ℕ) → is_number m ≡ true → SpellsInterval (byte "-" ∷ m) (record { first = 1; last = value m })
  From : (n : List ℕ) → is_number n ≡ true
      → SpellsInterval (n ++ byte "-" ∷ []) (record { first = value n; last = max_u64 })

-- an element whose interval is valid
abbrev pub IsIntervalElement : List ℕ → Interval → Type 0
IsIntervalElement e r = SpellsInterval e r × IsValidInterval r

-- the grammar of a list: its text, and the intervals of its elements
abbrev pub IsCutList : List ℕ → List Interval → Type 0
IsCutList = IsListOf IsIntervalElement

-- the intervals of a list, in the order of its elements, or the fault of the first faulty element
abbrev pub cut_list : List ℕ → Result (List Interval) ListFault
cut_list bs = traverse element_interval (elements bs)

-- `cut_list` accepts the lists of the grammar and no others, and gives the intervals that the grammar gives
abbrev pub CutListMatchesGrammar : Type 0
CutListMatchesGrammar = (bs : List ℕ) (rs : List Interval) → IsCutList bs rs ↔ (cut_list bs ≡ Ok rs)
