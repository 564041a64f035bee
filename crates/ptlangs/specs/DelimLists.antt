-- The list of delimiters of `paste`, which is the value of option `-d` (POSIX.1-2017, XCU, `paste`), as a parse, and
-- the delimiter after a column. Its grammar is in Laws/DelimLists.
use Rattle.std.specs.Prelude.{ℕ, ◌%◌, ◌==◌, List, [], ◌∷◌, length, Option, Some, None, Result}
use Rattle.std.specs.Prelude.{Ok, Err, if◌then◌else◌, slice_index_or, ok_or, option_map}
use Rattle.std.specs.List.{find}
use Rattle.std.specs.Str.{byte}
use Rattle.ptlangs.specs.Numbers.{and_then, cons_ok}
use Rattle.ptlangs.specs.declared.delims.DelimFault.{DelimFault}
use Rattle.ptlangs.specs.declared.delims.DelimFault.TheVariants.{Empty, Escape}

-- the delimiter that a backslash and this byte denote: a byte, or `None` for the empty string
abbrev pub escape : ℕ → Result (Option ℕ) DelimFault
escape b = ok_or (option_map (λ (e : ℕ × Option ℕ). e.1) (find (λ (e : ℕ × Option ℕ). e.0 == b) (
    (byte "n", Some 10) ∷ (byte "t", Some 9) ∷ (byte "\\", Some (byte "\\")) ∷ (byte "0", None) ∷ []))) Escape

-- the delimiters of a text, or the fault of its first faulty escape
abbrev pub delims : List ℕ → Result (List (Option ℕ)) DelimFault
delims [] = Ok []
delims (b ∷ []) = if b == byte "\\" then Err Escape else Ok (Some b ∷ [])
delims (b ∷ c ∷ more) =
    if b == byte "\\" then and_then (escape c) (λ d. cons_ok d (delims more))
    else cons_ok (Some b) (delims (c ∷ more))

-- the delimiters of a list, which is not empty, or the fault of its first faulty element
abbrev pub delim_list : List ℕ → Result (List (Option ℕ)) DelimFault
delim_list [] = Err Empty
delim_list (b ∷ bs) = delims (b ∷ bs)

-- the delimiter after a column, counted from 0; after the last delimiter comes the first one again
abbrev pub delim_at : List (Option ℕ) → ℕ → Option ℕ
delim_at ds column = slice_index_or ds (column % length ds) None
