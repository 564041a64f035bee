-- Definitions for the contracts of the private functions that read a string of `tr`: the first character and the first
-- element, the bytes still to be read, and the pairs of the two arrays.
use Rattle.std.specs.Prelude.{◌≡◌, ◌+◌, ◌*◌, ◌++◌, ◌&&◌, ℕ, Bool, true, false, List, [], ◌∷◌, Option, None, Some}
use Rattle.std.specs.Prelude.{Result, Ok, Err, drop, length, map, take, if◌then◌else◌}
use Rattle.std.specs.List.{flat_map, last_or}
use Rattle.std.specs.Option.{option_or}
use Rattle.ptlangs.specs.Laws.TrReading.{SetChar, byte_of, chars}
use Rattle.ptlangs.specs.TrClasses.{all_bytes, are_opposite_cases}
use Rattle.ptlangs.specs.Laws.TrReading.{class_at, equivalence_at, set_elements}
use Rattle.ptlangs.specs.TrPlan.{array, complement_of, has_byte, image_by, members}
use Rattle.ptlangs.specs.Laws.TrReading.{segments, sequence}
use Rattle.ptlangs.specs.declared.faults.SetFaultKind.{SetFaultKind}
use Rattle.ptlangs.specs.declared.faults.SetFaultKind.TheVariants.{ClassPlace, Empty}
use Rattle.ptlangs.specs.declared.tr.bytes.Bytes.{Bytes}
use Rattle.ptlangs.specs.declared.tr.classes.CharClass.{CharClass}
use Rattle.ptlangs.specs.declared.tr.contents.Contents.{Contents}
use Rattle.ptlangs.specs.declared.tr.elements.ParsedElement.{ParsedElement}
use Rattle.ptlangs.specs.declared.tr.elements.SetElement.{SetElement}
use Rattle.ptlangs.specs.declared.tr.images.Images.{Images}
use Rattle.ptlangs.specs.declared.tr.segments.Member.{Member}
use Rattle.ptlangs.specs.declared.tr.segments.Segment.{Segment}
use Rattle.ptlangs.specs.declared.tr.segments.Segment.TheVariants.{Class, Fill, Range, Repeat}

-- the byte of the first character, or its fault; without a character, that the text is empty
abbrev pub first_byte : List SetChar → Result ℕ SetFaultKind
first_byte [] = Err Empty
first_byte (u ∷ us) = byte_of u

-- `[:class:]` or `[=x=]`, from the character after its opening bracket
abbrev pub enclosed_at : List SetChar → Option (SetElement × List SetChar)
enclosed_at us = option_or (class_at us) (equivalence_at us)

-- an element that was read, with the characters after it
abbrev pub element_and_rest : ParsedElement → SetElement × List SetChar
element_and_rest found = (found.element, chars found.rest.now)

-- ---- the bytes of an array

-- the class of a segment, if it is one
abbrev pub class_of : Segment → Option CharClass
class_of (Range a b) = None
class_of (Class class) = Some class
class_of (Repeat b n) = None
class_of (Fill b) = None

-- bytes with which no class starts
abbrev pub plain_members : List ℕ → List Member
plain_members bytes = map (λ b. record { byte = b; class = None }) bytes

-- bytes with the class that starts with the first of them
abbrev pub members_from : Option CharClass → List ℕ → List Member
members_from class [] = []
members_from class (b ∷ bytes) = record { byte = b; class = class } ∷ plain_members bytes

-- the bytes of a segment, with its class, if a fill has `n` bytes
abbrev pub marked_members : ℕ → Segment → List Member
marked_members n x = members_from (class_of x) (members n x)

-- the array of segments, with the classes that start in it
abbrev pub marked_array : ℕ → List Segment → List Member
marked_array n ps = flat_map (marked_members n) ps

-- the first array, or its complement, in which no class starts
abbrev pub first_members : Bool → List Segment → List Member
first_members complement ps = if complement then plain_members (complement_of (array 0 ps)) else marked_array 0 ps

-- the bytes alone
abbrev pub member_bytes : List Member → List ℕ
member_bytes ms = map (λ (m : Member). m.byte) ms

-- the bytes of segments, and the faults between them
abbrev pub member_results : ℕ → List (Result Segment SetFaultKind) → List (Result Member SetFaultKind)
member_results n [] = []
member_results n (Ok x ∷ rs) = map Ok (marked_members n x) ++ member_results n rs
member_results n (Err k ∷ rs) = Err k ∷ member_results n rs

-- the bytes that are left to read, and the faults between them
abbrev pub bytes_left : Bytes → List (Result Member SetFaultKind)
bytes_left b =
    map Ok (drop b.index (marked_members b.fill b.segment))
    ++ member_results b.fill (segments b.role b.has_fill (set_elements (chars b.text.now)))

-- a bound on the number of bytes that are left: each byte of the text gives fewer than 65,536; one segment is a fill
abbrev pub most_left : Bytes → ℕ
most_left b =
    length (drop b.index (marked_members b.fill b.segment)) + 65536 * length b.text.now
    + (if b.has_fill then 0 else b.fill)

-- one item of a list of results is read: `old` is the list before, `new` the rest after it; a fault ends the list
abbrev pub NextItemPost : {A E : Type 0} → List (Result A E) → List (Result A E) → Result (Option A) E → Type 0
NextItemPost old new (Ok None) = (old ≡ []) × (new ≡ [])
NextItemPost old new (Ok (Some x)) = old ≡ Ok x ∷ new
NextItemPost old new (Err e) = sequence old ≡ Err e

-- which bytes the array contains, and its length
abbrev pub contents_of : List ℕ → Contents
contents_of bytes = record { has = map (λ b. has_byte b bytes) all_bytes; length = length bytes }

-- ---- pairs of two arrays

-- the class `to`, if one starts in the second array, has its other case `from` at the same index of the first
abbrev pub classes_match : Option CharClass → Option CharClass → Bool
classes_match from None = true
classes_match None (Some to) = false
classes_match (Some from) (Some to) = are_opposite_cases from to

-- each class that starts in the second array has its other case at the same index of the first
abbrev pub all_paired : List Member → List Member → Bool
all_paired from [] = true
all_paired [] (t ∷ to) = classes_match None t.class && all_paired [] to
all_paired (f ∷ from) (t ∷ to) = classes_match f.class t.class && all_paired from to

-- the bytes `before` of the first array are paired with those of `to`, and each class so far is paired
pub record HasPaired (before to : List Member) (images : Images) : Type 0 where
  pub left : bytes_left images.second ≡ map Ok (drop (length before) to)
  pub last : images.last ≡ last_or None (member_bytes (take (length before) to))
  pub table : images.table ≡ map (image_by (member_bytes before) (member_bytes to)) all_bytes
  pub decides : (more : List Member) → all_paired (before ++ more) to ≡ all_paired more (drop (length before) to)

-- all bytes of the first array are paired, or a class has no other case
abbrev pub PairPost : List Member → List Member → Images → Result Unit SetFaultKind → Type 0
PairPost from to new (Ok _) = HasPaired from to new
PairPost from to new (Err k) = (k ≡ ClassPlace) × (all_paired from to ≡ false)
