-- Decimal numbers, and lists of elements between separators: the elements, and the values of all of them or the
-- first fault.
use Rattle.std.specs.Prelude.{ℕ, ◌==◌, ◌||◌, ◌&&◌, List, [], ◌∷◌, Bool, true, false, not, Option, Some, None}
use Rattle.std.specs.Prelude.{Result, Ok, Err, if◌then◌else◌, nat_le}
use Rattle.std.specs.Char.{is_ascii_digit}
use Rattle.std.specs.List.{list_all, slice_split}
use Rattle.std.specs.Result.{result_map_both}
use Rattle.std.specs.Str.Parse.{digits_value}
use Rattle.std.specs.Str.{byte}

-- the greatest 64-bit number
abbrev pub max_u64 : ℕ
max_u64 = 18446744073709551615

-- the list has no item
abbrev pub is_empty : {X : Type 0} → List X → Bool
is_empty [] = true
is_empty (x ∷ xs) = false

-- one decimal digit or more, and nothing else
abbrev pub is_number : List ℕ → Bool
is_number bs = not (is_empty bs) && list_all is_ascii_digit bs

-- the value of decimal digits
abbrev pub value : List ℕ → ℕ
value bs = digits_value 10 bs

-- the value of a decimal number that fits into 64 bits; `None` for any other text
abbrev pub number : List ℕ → Option ℕ
number bs = if is_number bs && nat_le (value bs) max_u64 then Some (value bs) else None

-- the elements of a list, between single commas, spaces or tabs
abbrev pub elements : List ℕ → List (List ℕ)
elements bs = slice_split (λ b. (b == byte ",") || (b == byte " ") || (b == 9)) bs

-- the second step on the value of the first, or the fault of the first
abbrev pub and_then : {A B E : Type 0} → Result A E → (A → Result B E) → Result B E
and_then (Ok x) f = f x
and_then (Err e) f = Err e

-- the item before a list that was read, or the fault of the list
abbrev pub cons_ok : {A E : Type 0} → A → Result (List A) E → Result (List A) E
cons_ok {A} {E} x r = result_map_both (λ (xs : List A). x ∷ xs) (λ (e : E). e) r

-- the values of all items, in order, or the fault of the first faulty item
abbrev pub traverse : {A B E : Type 0} → (A → Result B E) → List A → Result (List B) E
traverse read [] = Ok []
traverse read (x ∷ xs) = and_then (read x) (λ y. cons_ok y (traverse read xs))
