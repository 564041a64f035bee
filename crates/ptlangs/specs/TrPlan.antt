-- The plan of `tr`: the array of bytes of each string, and which bytes are deleted, translated and squeezed
-- (POSIX.1-2017, XCU, `tr`).
use Rattle.std.specs.Prelude.{ℕ, ◌+◌, ◌-◌, ◌==◌, ◌&&◌, List, [], ◌∷◌, Bool, true}
use Rattle.std.specs.Prelude.{false, not, Option, Some, None, Result, Ok, Err, if◌then◌else◌, length, filter}
use Rattle.std.specs.Prelude.{min, nat_lt, replicate, unwrap_or, slice_get, option_map}
use Rattle.std.specs.List.{flat_map, list_all, list_any}
use Rattle.std.specs.Option.{option_and_then, option_or}
use Rattle.std.specs.Result.{result_map_both}
use Rattle.ptlangs.specs.Numbers.{and_then}
use Rattle.ptlangs.specs.TrClasses.{all_bytes, are_opposite_cases, class_bytes, span}
use Rattle.ptlangs.specs.TrElements.{read_string}
use Rattle.ptlangs.specs.declared.faults.SetFault.{SetFault}
use Rattle.ptlangs.specs.declared.faults.SetFaultKind.{SetFaultKind}
use Rattle.ptlangs.specs.declared.faults.SetFaultKind.TheVariants.{ClassPlace}
use Rattle.ptlangs.specs.declared.faults.SetString.{SetString}
use Rattle.ptlangs.specs.declared.tr.classes.CharClass.{CharClass}
use Rattle.ptlangs.specs.declared.tr.plan.Form.{Form}
use Rattle.ptlangs.specs.declared.tr.plan.Form.TheVariants.{Delete, DeleteSqueeze, Squeeze, Translate}
use Rattle.ptlangs.specs.declared.tr.plan.Form.TheVariants.{TranslateSqueeze}
use Rattle.ptlangs.specs.declared.tr.segments.Segment.{Segment}
use Rattle.ptlangs.specs.declared.tr.segments.Segment.TheVariants.{Class, Fill, Range, Repeat}
use Rattle.ptlangs.specs.declared.tr.segments.SetRole.{SetRole}
use Rattle.ptlangs.specs.declared.tr.segments.SetRole.TheVariants.{First, Images, Squeezed}
use Rattle.ptlangs.specs.declared.faults.SetString.TheVariants as string

-- ---- arrays

-- the bytes of a segment, if a fill has `n` bytes
abbrev pub members : ℕ → Segment → List ℕ
members n (Range a b) = span a b
members n (Class class) = class_bytes class
members n (Repeat b count) = replicate count b
members n (Fill b) = replicate n b

-- the array of a string: the bytes of its segments, one after another
abbrev pub array : ℕ → List Segment → List ℕ
array n ps = flat_map (members n) ps

-- the array contains the byte
abbrev pub has_byte : ℕ → List ℕ → Bool
has_byte c bytes = list_any (λ b. b == c) bytes

-- all bytes that the array does not contain, ascending
abbrev pub complement_of : List ℕ → List ℕ
complement_of bytes = filter (λ b. not (has_byte b bytes)) all_bytes

-- the array of the first string, or its complement (`-c`)
abbrev pub first_array : Bool → List Segment → List ℕ
first_array complement ps = if complement then complement_of (array 0 ps) else array 0 ps

-- the classes of a string, each with its offset in the array
abbrev pub class_offsets : ℕ → ℕ → List Segment → List (ℕ × CharClass)
class_offsets n at [] = []
class_offsets n at (Class class ∷ ps) = (at, class) ∷ class_offsets n (at + length (class_bytes class)) ps
class_offsets n at (x ∷ ps) = class_offsets n (at + length (members n x)) ps

-- each class of the second string has its other case at the same offset of the first string
abbrev pub are_paired : List (ℕ × CharClass) → List (ℕ × CharClass) → Bool
are_paired firsts seconds = list_all (λ (s : ℕ × CharClass).
    list_any (λ (f : ℕ × CharClass). (f.0 == s.0) && are_opposite_cases f.1 s.1) firsts) seconds

-- ---- the plan

-- what happens to a byte, by arrays: a byte of `deleted` is deleted, a byte of `from` becomes the byte of `to` with the
-- same index, and repeats of a byte of `squeezed` are squeezed to one
pub record Plan : Type 0 where
  pub deleted : List ℕ
  pub from : List ℕ
  pub to : List ℕ
  pub squeezed : List ℕ

-- the plan of a form, from the arrays of its strings
abbrev pub plan_of : Form → List ℕ → List ℕ → Plan
plan_of Translate first second = record { deleted = []; from = first; to = second; squeezed = [] }
plan_of TranslateSqueeze first second = record { deleted = []; from = first; to = second; squeezed = second }
plan_of Squeeze first second = record { deleted = []; from = []; to = []; squeezed = first }
plan_of Delete first second = record { deleted = first; from = []; to = []; squeezed = [] }
plan_of DeleteSqueeze first second = record { deleted = first; from = []; to = []; squeezed = second }

-- the last position of a byte in an array; `None` if the array does not contain it
abbrev pub last_position : ℕ → List ℕ → Option ℕ
last_position c [] = None
last_position c (b ∷ bytes) =
    option_or (option_map (λ i. i + 1) (last_position c bytes)) (if b == c then Some 0 else None)

-- the image of byte `b`: the byte of `to` at the last position of `b` in `from`, or the last one if `to` is shorter; a
-- byte that `from` does not contain is its own image
abbrev pub image_by : List ℕ → List ℕ → ℕ → ℕ
image_by from to b = unwrap_or (option_and_then (λ i. slice_get to (min i (length to - 1))) (last_position b from)) b

-- what happens to each byte: is it deleted, its image, and are repeats of it squeezed to one
pub record ByteMap : Type 0 where
  pub deletes : ℕ → Bool
  pub image : ℕ → ℕ
  pub squeezes : ℕ → Bool

-- a function of bytes, for any number: it is `other` for a number above 255, which is no byte
abbrev pub of_bytes : {X : Type 0} → X → (ℕ → X) → ℕ → X
of_bytes other f b = if nat_lt b 256 then f b else other

-- the plan, byte by byte
abbrev pub byte_map : Plan → ByteMap
byte_map plan = record {
  deletes = of_bytes false (λ b. has_byte b plan.deleted);
  image = of_bytes 0 (image_by plan.from plan.to);
  squeezes = of_bytes false (λ b. has_byte b plan.squeezed);
}

-- the fault, with the string in which it is
abbrev pub in_string : {A : Type 0} → SetString → Result A SetFaultKind → Result A SetFault
in_string {A} string r = result_map_both (λ (x : A). x) (λ (k : SetFaultKind). record { string = string; kind = k }) r

-- the role of the second string of a form
abbrev pub second_role : Form → SetRole
second_role DeleteSqueeze = Squeezed
second_role _ = Images

-- The second string has only classes that are allowed. If it is only squeezed, every class is. If it translates, each
-- class needs its other case at the same offset of the first string; a complement has no classes.
abbrev pub has_valid_classes : Form → Bool → List (ℕ × CharClass) → List (ℕ × CharClass) → Bool
has_valid_classes DeleteSqueeze complement firsts seconds = true
has_valid_classes form complement firsts seconds = are_paired (if complement then [] else firsts) seconds

-- the plan of two strings, from the segments of the first and the text of the second; a fill has as many bytes as make
-- the second array as long as the first
abbrev pub second_plan : Form → Bool → List Segment → List ℕ → Result Plan SetFaultKind
second_plan form complement firsts text =
    and_then (read_string (second_role form) text) (λ seconds.
    let first = first_array complement firsts in
    let n = length first - length (array 0 seconds) in
    if has_valid_classes form complement (class_offsets 0 0 firsts) (class_offsets n 0 seconds)
    then Ok (plan_of form first (array n seconds)) else Err ClassPlace)

-- the plan of one string or two, from the segments of the first
abbrev pub plan_from : Form → Bool → List Segment → Option (List ℕ) → Result Plan SetFault
plan_from form complement firsts None = Ok (plan_of form (first_array complement firsts) [])
plan_from form complement firsts (Some text) = in_string string.Second (second_plan form complement firsts text)

-- the plan of a form, with or without a complement, of these strings; or the first fault
abbrev pub plan : Form → Bool → List ℕ → Option (List ℕ) → Result Plan SetFault
plan form complement s1 s2 =
    and_then (in_string string.First (read_string First s1)) (λ firsts. plan_from form complement firsts s2)
