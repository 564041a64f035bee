-- A string of `tr` read in three steps: its characters, the elements of these, and the segments of the elements. The
-- grammars in TrChars and TrElements are about these steps.
use Rattle.std.specs.Prelude.{ℕ, zero, suc, ◌-◌, ◌==◌, ◌||◌, List, [], ◌∷◌, Bool, true, false, Option, Some, None}
use Rattle.std.specs.Prelude.{Result, Ok, Err, if◌then◌else◌, nat_le, nat_lt, length, drop, option_map, take, take_while}
use Rattle.std.specs.Option.{option_and_then, option_or}
use Rattle.std.specs.Char.{is_ascii_digit, is_ascii_lowercase}
use Rattle.std.specs.Str.Parse.{digits_value}
use Rattle.std.specs.Str.{byte}
use Rattle.ptlangs.specs.Numbers.{traverse}
use Rattle.ptlangs.specs.TrChars.{byte_of_escape, is_octal_digit}
use Rattle.ptlangs.specs.TrClasses.{class_named}
use Rattle.ptlangs.specs.TrElements.{repeat_count}
use Rattle.ptlangs.specs.declared.faults.SetFaultKind.{SetFaultKind}
use Rattle.ptlangs.specs.declared.faults.SetFaultKind.TheVariants.{Descending, Empty, EquivPlace, Escape, Octal}
use Rattle.ptlangs.specs.declared.faults.SetFaultKind.TheVariants.{RepeatPlace, RepeatSize, SecondFill, UnknownClass}
use Rattle.ptlangs.specs.declared.tr.classes.CharClass.{CharClass}
use Rattle.ptlangs.specs.declared.tr.elements.SetElement.{SetElement}
use Rattle.ptlangs.specs.declared.tr.elements.SetElement.TheVariants as element
use Rattle.ptlangs.specs.declared.tr.segments.Segment.{Segment}
use Rattle.ptlangs.specs.declared.tr.segments.Segment.TheVariants.{Class, Fill, Range, Repeat}
use Rattle.ptlangs.specs.declared.tr.segments.SetRole.{SetRole}
use Rattle.ptlangs.specs.declared.tr.segments.SetRole.TheVariants.{First, Images, Squeezed}

-- ---- characters

-- a character: a plain byte, an escape with the byte that it denotes, or an escape that denotes none, with its fault
pub data SetChar : Type 0 where
  Plain : ℕ → SetChar
  Escaped : ℕ → SetChar
  Invalid : SetFaultKind → SetChar

-- the byte that a character denotes, or the fault of its escape
abbrev pub byte_of : SetChar → Result ℕ SetFaultKind
byte_of (Plain b) = Ok b
byte_of (Escaped b) = Ok b
byte_of (Invalid k) = Err k

-- the octal digits after a backslash: at most three
abbrev pub octal_run : List ℕ → List ℕ
octal_run bs = take_while is_octal_digit (take 3 bs)

-- the character of an octal escape; a value above 255 is a fault
abbrev pub octal : ℕ → SetChar
octal value = if nat_le value 255 then Escaped value else Invalid Octal

-- the character of a backslash before these bytes, and the number of these bytes that it takes
abbrev pub after_backslash : List ℕ → SetChar × ℕ
after_backslash [] = (Invalid Escape, 0)
after_backslash (c ∷ bs) =
    if is_octal_digit c then (octal (digits_value 8 (octal_run (c ∷ bs))), length (octal_run (c ∷ bs))) else
    (Escaped (byte_of_escape c), 1)

-- the character that starts with byte `b`, and the number of the bytes after `b` that it takes
abbrev pub char_at : ℕ → List ℕ → SetChar × ℕ
char_at b bs = if b == byte "\\" then after_backslash bs else (Plain b, 0)

-- the characters of the bytes after the first `skip` bytes
abbrev pub chars_after : List ℕ → ℕ → List SetChar
chars_after [] skip = []
chars_after (b ∷ bs) zero = (char_at b bs).0 ∷ chars_after bs (char_at b bs).1
chars_after (b ∷ bs) (suc skip) = chars_after bs skip

-- the characters of the bytes
abbrev pub chars : List ℕ → List SetChar
chars bs = chars_after bs 0

-- ---- elements: the first one, and the characters after it

-- the character is this plain byte
abbrev pub is_plain : ℕ → SetChar → Bool
is_plain c (Plain b) = b == c
is_plain c (Escaped b) = false
is_plain c (Invalid k) = false

-- the characters after plain byte `c`, if it is the first character
abbrev pub after_plain : ℕ → List SetChar → Option (List SetChar)
after_plain c [] = None
after_plain c (u ∷ us) = if is_plain c u then Some us else None

-- the characters after plain bytes `c` and `d`, if these are the first two characters
abbrev pub after_two : ℕ → ℕ → List SetChar → Option (List SetChar)
after_two c d us = option_and_then (after_plain d) (after_plain c us)

-- the longest run of plain bytes at the start that pass the test
abbrev pub plain_run : (ℕ → Bool) → List SetChar → List ℕ
plain_run test [] = []
plain_run test (Plain b ∷ us) = if test b then b ∷ plain_run test us else []
plain_run test (Escaped b ∷ us) = []
plain_run test (Invalid k ∷ us) = []

-- the characters after that run
abbrev pub after_run : (ℕ → Bool) → List SetChar → List SetChar
after_run test us = drop (length (plain_run test us)) us

-- the element with the rest, if there is a rest
abbrev pub with_rest : SetElement → Option (List SetChar) → Option (SetElement × List SetChar)
with_rest p rest = option_map (λ (us : List SetChar). (p, us)) rest

-- The three bracketed forms, each from the character after its opening bracket. First `[x*n]`: after the star, after
-- `x`, and from `x` on.
abbrev pub repeat_after_star : ℕ → List SetChar → Option (SetElement × List SetChar)
repeat_after_star v us = with_rest (element.Repeat v (repeat_count (plain_run is_ascii_digit us)))
    (after_plain (byte "]")
    (after_run is_ascii_digit us))

abbrev pub repeat_after_byte : Result ℕ SetFaultKind → List SetChar → Option (SetElement × List SetChar)
repeat_after_byte (Ok v) us = option_and_then (repeat_after_star v) (after_plain (byte "*") us)
repeat_after_byte (Err k) us = None

abbrev pub repeat_at : List SetChar → Option (SetElement × List SetChar)
repeat_at [] = None
repeat_at (u ∷ us) = repeat_after_byte (byte_of u) us

-- `[:class:]`: the name and the rest after it
abbrev pub class_with_name : List ℕ → List SetChar → Option (SetElement × List SetChar)
class_with_name [] us = None
class_with_name (c ∷ name) us = with_rest (element.Class (class_named (c ∷ name))) (after_two (byte ":") (byte "]") us)

-- from the first letter of the name on
abbrev pub class_after_colon : List SetChar → Option (SetElement × List SetChar)
class_after_colon us = class_with_name (plain_run is_ascii_lowercase us) (after_run is_ascii_lowercase us)

-- from the first colon on
abbrev pub class_at : List SetChar → Option (SetElement × List SetChar)
class_at us = option_and_then class_after_colon (after_plain (byte ":") us)

-- `[=x=]`: the byte of `x` and the rest after it
abbrev pub equivalence_with_byte : Result ℕ SetFaultKind → List SetChar → Option (SetElement × List SetChar)
equivalence_with_byte (Ok v) us = with_rest (element.Equivalence v) (after_two (byte "=") (byte "]") us)
equivalence_with_byte (Err k) us = None

-- from `x` on
abbrev pub equivalence_after_equals : List SetChar → Option (SetElement × List SetChar)
equivalence_after_equals [] = None
equivalence_after_equals (u ∷ us) = equivalence_with_byte (byte_of u) us

-- from the first equals sign on
abbrev pub equivalence_at : List SetChar → Option (SetElement × List SetChar)
equivalence_at us = option_and_then equivalence_after_equals (after_plain (byte "=") us)

-- one of the three forms, after its opening bracket
abbrev pub bracketed_inside : List SetChar → Option (SetElement × List SetChar)
bracketed_inside us = option_or (repeat_at us) (option_or (class_at us) (equivalence_at us))

-- a bracketed form at the start
abbrev pub bracketed_at : List SetChar → Option (SetElement × List SetChar)
bracketed_at us = option_and_then bracketed_inside (after_plain (byte "[") us)

-- the range from byte `a` to the byte of a character, which must not be below `a`
abbrev pub range_to : ℕ → Result ℕ SetFaultKind → List SetChar → Result (SetElement × List SetChar) SetFaultKind
range_to a (Err k) us = Err k
range_to a (Ok b) us = if nat_lt b a then Err Descending else Ok (element.Range a b, us)

-- byte `a` alone, or a range that starts with `a`: the last argument is the rest after a dash, if a dash follows
abbrev pub single_or_range : ℕ → List SetChar → Option (List SetChar) → Result (SetElement × List SetChar) SetFaultKind
single_or_range a us None = Ok (element.Single a, us)
single_or_range a us (Some []) = Ok (element.Single a, us)
single_or_range a us (Some (v ∷ rest)) = range_to a (byte_of v) rest

-- a character alone, or a range that starts with it
abbrev pub char_or_range : Result ℕ SetFaultKind → List SetChar → Result (SetElement × List SetChar) SetFaultKind
char_or_range (Ok a) us = single_or_range a us (after_plain (byte "-") us)
char_or_range (Err k) us = Err k

-- the bracketed form, if there is one, else a character or a range
abbrev pub or_char : Option (SetElement × List SetChar) → SetChar → List SetChar
    → Result (SetElement × List SetChar) SetFaultKind
or_char (Some found) u us = Ok found
or_char None u us = char_or_range (byte_of u) us

-- the first element of the characters, and the rest after it, or a fault
abbrev pub first_set_element : List SetChar → Result (SetElement × List SetChar) SetFaultKind
first_set_element [] = Err Empty
first_set_element (u ∷ us) = or_char (bracketed_at (u ∷ us)) u us

-- the first element and those of the rest; after a fault nothing is read
abbrev pub elements_from : Result (SetElement × List SetChar) SetFaultKind
    → (List SetChar → List (Result SetElement SetFaultKind)) → List (Result SetElement SetFaultKind)
elements_from (Ok found) more = Ok found.0 ∷ more found.1
elements_from (Err k) more = Err k ∷ []

-- the elements of the characters after the first `skip` characters
abbrev pub elements_after : List SetChar → ℕ → List (Result SetElement SetFaultKind)
elements_after [] skip = []
elements_after (u ∷ us) zero =
    elements_from (first_set_element (u ∷ us)) (λ rest. elements_after us (length us - length rest))
elements_after (u ∷ us) (suc skip) = elements_after us skip

-- the elements of the characters, in order, up to and including the first fault
abbrev pub set_elements : List SetChar → List (Result SetElement SetFaultKind)
set_elements us = elements_after us 0

-- ---- segments

-- `[b*n]`; with a count of 0 it fills the array, which only one repeat of a string may do
abbrev pub repeat_or_fill : Bool → ℕ → ℕ → Result Segment SetFaultKind
repeat_or_fill has_fill b zero = if has_fill then Err SecondFill else Ok (Fill b)
repeat_or_fill has_fill b (suc n) = Ok (Repeat b (suc n))

-- the segment of a repeat with this count; `None` is no valid count
abbrev pub repeat_segment : Bool → ℕ → Option ℕ → Result Segment SetFaultKind
repeat_segment has_fill b None = Err RepeatSize
repeat_segment has_fill b (Some n) = repeat_or_fill has_fill b n

-- the segment of a class; `None` is an unknown class
abbrev pub class_segment : Option CharClass → Result Segment SetFaultKind
class_segment None = Err UnknownClass
class_segment (Some class) = Ok (Class class)

-- The segment of an element, or its fault. `role` says which string of which form it is, `has_fill` whether a fill came
-- before.
abbrev pub segment : SetRole → Bool → SetElement → Result Segment SetFaultKind
segment role has_fill (element.Single b) = Ok (Range b b)
segment role has_fill (element.Range a b) = Ok (Range a b)
segment role has_fill (element.Class class) = class_segment class
segment Images has_fill (element.Equivalence b) = Err EquivPlace
segment First has_fill (element.Equivalence b) = Ok (Range b b)
segment Squeezed has_fill (element.Equivalence b) = Ok (Range b b)
segment First has_fill (element.Repeat b count) = Err RepeatPlace
segment Images has_fill (element.Repeat b count) = repeat_segment has_fill b count
segment Squeezed has_fill (element.Repeat b count) = repeat_segment has_fill b count

-- the segment is a fill
abbrev pub is_fill : Result Segment SetFaultKind → Bool
is_fill (Ok (Range a b)) = false
is_fill (Ok (Class class)) = false
is_fill (Ok (Repeat b n)) = false
is_fill (Ok (Fill b)) = true
is_fill (Err k) = false

-- the segment of each element, or its fault
abbrev pub segments : SetRole → Bool → List (Result SetElement SetFaultKind) → List (Result Segment SetFaultKind)
segments role has_fill [] = []
segments role has_fill (Err k ∷ more) = Err k ∷ []
segments role has_fill (Ok p ∷ more) =
    segment role has_fill p ∷ segments role (has_fill || is_fill (segment role has_fill p)) more

-- the segments of a string, or their faults
abbrev pub segments_of : SetRole → List ℕ → List (Result Segment SetFaultKind)
segments_of role text = segments role false (set_elements (chars text))

-- the values of all results, or the first fault
abbrev pub sequence : {A E : Type 0} → List (Result A E) → Result (List A) E
sequence rs = traverse (λ r. r) rs

-- the segments of a string, or its leftmost fault; a string is not empty
abbrev pub string_segments : SetRole → List ℕ → Result (List Segment) SetFaultKind
string_segments role [] = Err Empty
string_segments role (b ∷ text) = sequence (segments_of role (b ∷ text))
