-- The characters of a string of `tr`: plain bytes and escapes (POSIX.1-2017, XCU, `tr`, "EXTENDED DESCRIPTION").
use Rattle.std.specs.Prelude.{ℕ, zero, suc, ◌+◌, ◌==◌, List, [], ◌∷◌, Bool, not}
use Rattle.std.specs.Prelude.{if◌then◌else◌, nat_le, take, take_while, drop, length, Result, Ok, Err, codes, zip}
use Rattle.std.specs.Prelude.{slice_index}
use Rattle.std.specs.List.{find}
use Rattle.std.specs.Option.{option_map_or}
use Rattle.std.specs.Int.{is_in_range}
use Rattle.std.specs.Str.Parse.{digits_value}
use Rattle.std.specs.Str.{byte}
use Rattle.ptlangs.specs.Numbers.{is_empty}
use Rattle.ptlangs.specs.declared.faults.SetFaultKind.{SetFaultKind}
use Rattle.ptlangs.specs.declared.faults.SetFaultKind.TheVariants.{Escape, Octal}

-- the byte is an octal digit
abbrev pub is_octal_digit : ℕ → Bool
is_octal_digit b = is_in_range (byte "0") (byte "7") b

-- the byte that a backslash before `c` denotes: `c` itself, unless it is the letter of a control character
abbrev pub byte_of_escape : ℕ → ℕ
byte_of_escape c = option_map_or (λ (p : ℕ × ℕ). p.1) (find (λ (p : ℕ × ℕ). p.0 == c) (
    zip (codes "abfnrtv") (7 ∷ 8 ∷ 12 ∷ 10 ∷ 13 ∷ 9 ∷ 11 ∷ []))) c

-- a character: its first byte, and the byte that it denotes, or its fault
abbrev pub Character : Type 0
Character = ℕ × Result ℕ SetFaultKind

-- the first character of a text, and the number of its bytes; a backslash begins an escape
abbrev pub first_char : List ℕ → Character × ℕ
first_char text =
    let b = slice_index text 0 in
    let octal = take_while is_octal_digit (take 3 (drop 1 text)) in
    if not (b == byte "\\") then ((b, Ok b), 1)
    else (if is_empty (drop 1 text) then ((b, Err Escape), 1)
    else (if is_empty octal then ((b, Ok (byte_of_escape (slice_index text 1))), 2)
    else ((b, if nat_le (digits_value 8 octal) 255 then Ok (digits_value 8 octal) else Err Octal), 1 + length octal)))

-- The values that `first` reads from a list, then from the rest of it, and so on, at most `n` times. It gives a value,
-- and the number of items that it has read.
abbrev pub read_all : {A B : Type 0} → (List A → B × ℕ) → ℕ → List A → List B
read_all first n [] = []
read_all first zero (x ∷ xs) = []
read_all first (suc n) (x ∷ xs) = (first (x ∷ xs)).0 ∷ read_all first n (drop (first (x ∷ xs)).1 (x ∷ xs))
