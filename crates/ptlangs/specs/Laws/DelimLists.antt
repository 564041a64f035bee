-- The grammar of the list of delimiters of `paste`, and the law that `delim_list` agrees with it.
use Rattle.std.specs.Prelude.{ℕ, ◌==◌, ◌≡◌, ◌↔◌, List, [], ◌∷◌, ◌++◌, false, Option, Some, None}
use Rattle.std.specs.Prelude.{Ok, codes}
use Rattle.std.specs.Str.{byte}
use Rattle.ptlangs.specs.DelimLists.{delim_list}

-- the byte of a backslash
abbrev pub backslash : ℕ
backslash = byte "\\"

-- The grammar of one element: its text, and the delimiter that it denotes.
pub data IsDelim : List ℕ → Option ℕ → Type 0 where
  Plain : (b : ℕ) → (b == backslash) ≡ false → IsDelim (b ∷ []) (Some b)
  Newline : IsDelim (codes "\\n") (Some 10)
  Tab : IsDelim (codes "\\t") (Some 9)
  Backslash : IsDelim (codes "\\\\") (Some backslash)
  Nothing : IsDelim (codes "\\0") None

-- the grammar of a list: one element or more, one directly after another
pub data IsDelimList : List ℕ → List (Option ℕ) → Type 0 where
  Last : (e : List ℕ) (d : Option ℕ) → IsDelim e d → IsDelimList e (d ∷ [])
  More : (e bs : List ℕ) (d : Option ℕ) (ds : List (Option ℕ)) → IsDelim e d → IsDelimList bs ds
      → IsDelimList (e ++ bs) (d ∷ ds)

-- `delim_list` accepts the lists of the grammar and no others, and gives the delimiters that the grammar gives
abbrev pub DelimListMatchesGrammar : Type 0
DelimListMatchesGrammar = (bs : List ℕ) (ds : List (Option ℕ)) → IsDelimList bs ds ↔ (delim_list bs ≡ Ok ds)
