-- Each class by its name, over all 256 bytes. It is compared with the ASCII tests of the library, or else with the
-- bytes that POSIX lists. The examples hold by computation.
use Rattle.std.proofs.Common.{◌≡◌, ◌||◌, ℕ, Bool, List, [], ◌∷◌, Some, refl, eqb, codes, map}
use Rattle.std.specs.Prelude.{filter, option_map}
use Rattle.std.specs.Int.{is_in_range}
use Rattle.std.specs.Char.{is_ascii_alphanumeric, is_ascii_alphabetic, is_ascii_control, is_ascii_digit}
use Rattle.std.specs.Char.{is_ascii_graphic, is_ascii_lowercase}
use Rattle.std.specs.Char.{is_ascii_punctuation, is_ascii_uppercase, is_ascii_hexdigit}
use Rattle.ptlangs.specs.TrClasses.{span, class_bytes, class_named}

-- a space or a tab
abbrev is_blank : ℕ → Bool
is_blank b = eqb b 32 || eqb b 9

-- a space, or form-feed, newline, carriage-return, tab and vertical-tab
abbrev is_space : ℕ → Bool
is_space b = eqb b 32 || (is_in_range 9 13 b)

-- a graphic character or a space
abbrev is_print : ℕ → Bool
is_print b = is_ascii_graphic b || eqb b 32

abbrev examples : List (List ℕ × (ℕ → Bool))
examples =
    (codes "alnum", is_ascii_alphanumeric)
    ∷ (codes "alpha", is_ascii_alphabetic)
    ∷ (codes "blank", is_blank)
    ∷ (codes "cntrl", is_ascii_control)
    ∷ (codes "digit", is_ascii_digit)
    ∷ (codes "graph", is_ascii_graphic)
    ∷ (codes "lower", is_ascii_lowercase)
    ∷ (codes "print", is_print)
    ∷ (codes "punct", is_ascii_punctuation)
    ∷ (codes "space", is_space)
    ∷ (codes "upper", is_ascii_uppercase)
    ∷ (codes "xdigit", is_ascii_hexdigit)
    ∷ []

-- a class contains exactly the bytes that pass the test
are_classes : map (λ (row : List ℕ × (ℕ → Bool)). option_map class_bytes (class_named row.0)) examples
    ≡ map (λ (row : List ℕ × (ℕ → Bool)). Some (filter row.1 (span 0 255))) examples
are_classes = refl
