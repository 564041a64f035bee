-- The grammar of the output list of `join`, and the law that `out_list` agrees with it.
use Rattle.std.specs.Prelude.{ℕ, ◌≡◌, ◌≤◌, ◌↔◌, List, ◌++◌, true, Ok}
use Rattle.std.specs.Prelude.{codes}
use Rattle.ptlangs.specs.Laws.Numbers.{IsListOf}
use Rattle.ptlangs.specs.Numbers.{is_number, max_u64, value}
use Rattle.ptlangs.specs.OutLists.{out_list}
use Rattle.ptlangs.specs.declared.outlist.File.TheVariants.{First, Second}
use Rattle.ptlangs.specs.declared.outlist.OutField.{OutField}
use Rattle.ptlangs.specs.declared.outlist.OutField.TheVariants.{Field, Join}

-- The grammar of one element: its text, and the field that it denotes. Numbers are not checked here.
pub data SpellsField : List ℕ → OutField → Type 0 where
  JoinField : SpellsField (codes "0") Join
  FirstFileField : (n : List ℕ) → is_number n ≡ true → SpellsField (codes "1." ++ n) (Field First (value n))
  SecondFileField : (n : List ℕ) → is_number n ≡ true → SpellsField (codes "2." ++ n) (Field Second (value n))

-- the number of the field is positive and fits into 64 bits
abbrev pub IsValidField : OutField → Type 0
IsValidField Join = Unit {0}
IsValidField (Field file n) = (1 ≤ n) × (n ≤ max_u64)

-- an element whose field is valid
abbrev pub IsFieldElement : List ℕ → OutField → Type 0
IsFieldElement e f = SpellsField e f × IsValidField f

-- the grammar of a list: its text, and the fields of its elements
abbrev pub IsOutList : List ℕ → List OutField → Type 0
IsOutList = IsListOf IsFieldElement

-- `out_list` accepts the lists of the grammar and no others, and gives the fields that the grammar gives
abbrev pub OutListMatchesGrammar : Type 0
OutListMatchesGrammar = (bs : List ℕ) (fs : List OutField) → IsOutList bs fs ↔ (out_list bs ≡ Ok fs)
