-- The segments of a string of `tr`: single characters, ranges, and the bracketed forms `[x*n]`, `[:class:]` and `[=x=]`
-- (POSIX.1-2017, XCU, `tr`, "EXTENDED DESCRIPTION"). A character that begins with a backslash is never part of a form
-- or the dash of a range.
use Rattle.std.specs.Prelude.{ℕ, zero, suc, ◌+◌, ◌&&◌, ◌||◌, List, [], ◌∷◌, Bool, true, false, not, Option, Some, None}
use Rattle.std.specs.Prelude.{Result, Ok, Err, if◌then◌else◌, nat_lt, length, drop, take, take_while, codes, map}
use Rattle.std.specs.Prelude.{option_map, ok_or, slice_index_or, bytes_eq}
use Rattle.std.specs.List.{list_all}
use Rattle.std.specs.Result.{is_ok}
use Rattle.std.specs.Char.{is_ascii_digit, is_ascii_lowercase}
use Rattle.std.specs.Str.Parse.{digits_value}
use Rattle.ptlangs.specs.Numbers.{and_then, cons_ok, is_empty}
use Rattle.ptlangs.specs.TrChars.{Character, first_char, is_octal_digit, read_all}
use Rattle.ptlangs.specs.TrClasses.{class_named}
use Rattle.ptlangs.specs.declared.faults.SetFaultKind.{SetFaultKind}
use Rattle.ptlangs.specs.declared.faults.SetFaultKind.TheVariants.{Descending, Empty, EquivPlace, RepeatPlace}
use Rattle.ptlangs.specs.declared.faults.SetFaultKind.TheVariants.{RepeatSize}
use Rattle.ptlangs.specs.declared.faults.SetFaultKind.TheVariants.{SecondFill, UnknownClass}
use Rattle.ptlangs.specs.declared.tr.segments.Segment.{Segment}
use Rattle.ptlangs.specs.declared.tr.segments.Segment.TheVariants.{Class, Fill, Range, Repeat}
use Rattle.ptlangs.specs.declared.tr.segments.SetRole.{SetRole}
use Rattle.ptlangs.specs.declared.tr.segments.SetRole.TheVariants.{First, Images}

-- the count of a repeat: octal after a leading zero, else decimal; 0 without digits; `None` if it is no valid count
abbrev pub repeat_count : List ℕ → Option ℕ
repeat_count digits =
    let is_octal = bytes_eq (take 1 digits) (codes "0") in
    let count = digits_value (if is_octal then 8 else 10) digits in
    if (is_octal && not (list_all is_octal_digit digits)) || nat_lt 65535 count then None else Some count

-- `[x*n]` by its count: 0 is a fill, which fills the array. The first string has no repeats.
abbrev pub repeated : SetRole → Option ℕ → ℕ → Result Segment SetFaultKind
repeated First count b = Err RepeatPlace
repeated role None b = Err RepeatSize
repeated role (Some zero) b = Ok (Fill b)
repeated role (Some (suc n)) b = Ok (Repeat b (suc n))

-- `[=x=]`, which a string that translates must not have
abbrev pub equivalent : SetRole → ℕ → Result Segment SetFaultKind
equivalent Images b = Err EquivPlace
equivalent role b = Ok (Range b b)

-- `a-b`
abbrev pub range : ℕ → ℕ → Result Segment SetFaultKind
range a b = if nat_lt b a then Err Descending else Ok (Range a b)

-- the text has `mark` at this position
abbrev pub is_at : ℕ → List ℕ → List ℕ → Bool
is_at position mark text = bytes_eq (take (length mark) (drop position text)) mark

-- The segment of the first element of characters, or its fault, and the number of its characters. It is the first that
-- is there: `[x*n]`, `[:class:]`, `[=x=]`, a range, or a character alone. `bs` has their first bytes, so that an escape
-- is no part of a form; `denoted` gives the byte at a position.
abbrev pub first_segment : SetRole → List Character → Result Segment SetFaultKind × ℕ
first_segment role chars =
    let bs = map (λ (c : Character). c.0) chars in
    let denoted = λ (position : ℕ). slice_index_or (map (λ (c : Character). c.1) chars) position (Err Empty) in
    let digits = take_while is_ascii_digit (drop 3 bs) in
    let name = take_while is_ascii_lowercase (drop 2 bs) in
    if is_at 0 (codes "[") bs && is_ok (denoted 1) && is_at 2 (codes "*") bs && is_at (3 + length digits) (codes "]") bs
    then (and_then (denoted 1) (repeated role (repeat_count digits)), 4 + length digits)
    else (if is_at 0 (codes "[:") bs && not (is_empty name) && is_at (2 + length name) (codes ":]") bs
    then (ok_or (option_map Class (class_named name)) UnknownClass, 4 + length name)
    else (if is_at 0 (codes "[=") bs && is_ok (denoted 2) && is_at 3 (codes "=]") bs
    then (and_then (denoted 2) (equivalent role), 5)
    else (if is_at 1 (codes "-") bs && not (is_empty (drop 2 bs))
    then (and_then (denoted 0) (λ a. and_then (denoted 2) (range a)), 3)
    else (and_then (denoted 0) (λ b. Ok (Range b b)), 1))))

-- the segments, or the first fault; `has_fill` says whether a fill came before, since a string has at most one
abbrev pub with_one_fill : Bool → List (Result Segment SetFaultKind) → Result (List Segment) SetFaultKind
with_one_fill has_fill [] = Ok []
with_one_fill true (Ok (Fill b) ∷ more) = Err SecondFill
with_one_fill false (Ok (Fill b) ∷ more) = cons_ok (Fill b) (with_one_fill true more)
with_one_fill has_fill (r ∷ more) = and_then r (λ x. cons_ok x (with_one_fill has_fill more))

-- the segments of a string, which is not empty, or its leftmost fault
abbrev pub read_string : SetRole → List ℕ → Result (List Segment) SetFaultKind
read_string role text =
    if is_empty text then Err Empty
    else with_one_fill false (read_all (first_segment role) (length text) (read_all first_char (length text) text))
