-- The character classes of the POSIX locale, over ASCII (POSIX.1-2017, XBD 7.3.1).
use Rattle.std.specs.Prelude.{ℕ, Bool, true, false, ◌+◌, ◌-◌, List, [], ◌∷◌, ◌++◌, Option, codes, bytes_eq}
use Rattle.std.specs.List.{find, range_with_len}
use Rattle.std.specs.Option.{option_map}
use Rattle.std.specs.Str.{byte}
use Rattle.ptlangs.specs.declared.tr.classes.CharClass.{CharClass}
use Rattle.ptlangs.specs.declared.tr.classes.CharClass.TheVariants.{Alnum, Alpha, Blank, Cntrl, Digit, Graph, Lower}
use Rattle.ptlangs.specs.declared.tr.classes.CharClass.TheVariants.{Print, Punct, Space, Upper, Xdigit}

-- the bytes from `a` to `b`, both included
abbrev pub span : ℕ → ℕ → List ℕ
span a b = range_with_len a (b + 1 - a)

-- all 256 bytes, ascending
unfoldable pub all_bytes : List ℕ
all_bytes = span 0 255

-- the bytes of a class, ascending
abbrev pub class_bytes : CharClass → List ℕ
class_bytes Alnum = span (byte "0") (byte "9") ++ span (byte "A") (byte "Z") ++ span (byte "a") (byte "z")
class_bytes Alpha = span (byte "A") (byte "Z") ++ span (byte "a") (byte "z")
class_bytes Blank = 9 ∷ byte " " ∷ []
class_bytes Cntrl = span 0 31 ++ 127 ∷ []
class_bytes Digit = span (byte "0") (byte "9")
class_bytes Graph = span (byte "!") (byte "~")
class_bytes Lower = span (byte "a") (byte "z")
class_bytes Print = span (byte " ") (byte "~")
class_bytes Punct =
    span (byte "!") (byte "/") ++ span (byte ":") (byte "@") ++ span (byte "[") (byte "`") ++ span (byte "{") (byte "~")
class_bytes Space = span 9 13 ++ byte " " ∷ []
class_bytes Upper = span (byte "A") (byte "Z")
class_bytes Xdigit = span (byte "0") (byte "9") ++ span (byte "A") (byte "F") ++ span (byte "a") (byte "f")

-- each class with its name
abbrev pub class_names : List (List ℕ × CharClass)
class_names =
    (codes "alnum", Alnum) ∷ (codes "alpha", Alpha) ∷ (codes "blank", Blank) ∷ (codes "cntrl", Cntrl)
    ∷ (codes "digit", Digit) ∷ (codes "graph", Graph) ∷ (codes "lower", Lower) ∷ (codes "print", Print)
    ∷ (codes "punct", Punct) ∷ (codes "space", Space) ∷ (codes "upper", Upper) ∷ (codes "xdigit", Xdigit) ∷ []

-- the class with this name; `None` if there is none
abbrev pub class_named : List ℕ → Option CharClass
class_named name =
    option_map (λ (c : List ℕ × CharClass). c.1) (find (λ (c : List ℕ × CharClass). bytes_eq name c.0) class_names)

-- the two classes are `lower` and `upper`, in either order
abbrev pub are_opposite_cases : CharClass → CharClass → Bool
are_opposite_cases Lower Upper = true
are_opposite_cases Upper Lower = true
are_opposite_cases c d = false
