-- The fields of a line as `join` finds and writes them: the rest of the line after a field, the span of the field with
-- a number, the first window of separators or blanks, words with single spaces between them, and lines that are written
-- unchanged.
use Rattle.std.specs.Prelude.{◌≡◌, ◌≤◌, ◌++◌, ℕ, length, take, drop, min, IfSome, MatchOption, ◌==◌, List, [], ◌∷◌}
use Rattle.std.specs.Prelude.{Option, Some, None, Bool, false, true, not, ◌||◌, ◌&&◌, ◌-◌, if◌then◌else◌, unwrap_or}
use Rattle.std.specs.List.{flat_map, join_with_byte, slice_range, slice_split}
use Rattle.ptlangs.specs.Jobs.{Join}
use Rattle.ptlangs.specs.declared.outlist.OutField.{OutField}
use Rattle.ptlines.specs.Text.{is_blank}
use Rattle.ptlines.specs.declared.scan.MatchWindow.{MatchWindow}
use Rattle.ptmerge.specs.Join.{join_fields, output_fields, output_separator}
use Rattle.ptmerge.specs.Calls.Join.{join_key}
use Rattle.ptmerge.specs.MergeSpec.{Lines}
use Rattle.ptmerge.specs.Calls.Sides.{both}
use Rattle.ptmerge.specs.declared.key_order.Side.{Side}
use Rattle.ptmerge.specs.declared.key_order.Side.TheVariants.{First, Second}
use Rattle.ptmerge.specs.declared.key_order.Span.{Span}

-- The byte separates fields: it is the separator of `-t`, or a blank.
abbrev pub is_separator : Option ℕ → ℕ → Bool
is_separator (Some c) = λ b. b == c
is_separator None = is_blank

-- The fields in the rest of a line, or none if the line is used up.
abbrev pub remaining_fields : Option ℕ → Option (List ℕ) → Lines
remaining_fields separator None = []
remaining_fields separator (Some bytes) = join_fields separator bytes

-- `k` is the join field of the line, if there is a line.
abbrev pub IsKeyOf : Join → Side → List ℕ → Option (List ℕ) → Type 0
IsKeyOf job side k line = IfSome line (λ bytes. join_key job side bytes ≡ k)

-- The concatenation of the fields, each after this byte.
abbrev pub with_prefix : ℕ → Lines → List ℕ
with_prefix byte fs = flat_map (λ f. byte ∷ f) fs

-- The output line, without its terminator, of the join field `k` and one or two lines, by the output list `list`.
abbrev pub entry_with_list : Join → Option (List OutField) → List ℕ → Option (List ℕ) → Option (List ℕ) → List ℕ
entry_with_list job list k one two =
    join_with_byte (output_separator job.separator)
    (output_fields job k (remaining_fields job.separator one) (remaining_fields job.separator two) list)

-- The fields of this line of a file are written as they are in it: there is no output list, the join field is the
-- first, and the line equals the output of its own fields.
pub record IsUnchanged (job : Join) (side : Side) (line : List ℕ) : Type 0 where
  pub list : job.list ≡ None
  pub first : both job.field1 job.field2 side - 1 ≡ 0
  pub is : with_prefix (output_separator job.separator) (join_fields job.separator line)
      ≡ output_separator job.separator ∷ line

-- This line is the only one, of its file.
abbrev pub HasOneLine : Side → List ℕ → Option (List ℕ) → Option (List ℕ) → Type 0
HasOneLine First line one two = (one ≡ Some line) × (two ≡ None)
HasOneLine Second line one two = (one ≡ None) × (two ≡ Some line)

-- The bytes are words with a single space between them, and without blanks at either end. `blank` is true if a blank
-- precedes the bytes.
abbrev pub is_single_spaced : Bool → List ℕ → Bool
is_single_spaced blank [] = not blank
is_single_spaced blank (b ∷ bytes) =
    if (b == 9) || (blank && (b == 32)) then false else is_single_spaced (b == 32) bytes

-- None of the bytes is a tab, or a space after a blank. `blank` is true if a blank precedes the bytes.
abbrev pub has_single_spaces : Bool → List ℕ → Bool
has_single_spaces blank [] = true
has_single_spaces blank (b ∷ bytes) =
    if (b == 9) || (blank && (b == 32)) then false else has_single_spaces (b == 32) bytes

-- The line is its fields with one output separator between each two.
abbrev pub is_evenly_separated : Option ℕ → List ℕ → Bool
is_evenly_separated (Some c) line = true
is_evenly_separated None line = is_single_spaced true line

-- The field with this number, counted from 1, is at this span of the line, and `more` are the fields after it.
pub record IsFieldAt (separator : Option ℕ) (number : ℕ) (line : List ℕ) (span : Span) : Type 0 where
  pub more : Lines
  pub is : drop (number - 1) (join_fields separator line) ≡ slice_range line span.start span.end ∷ more
  pub ordered : span.start ≤ span.end
  pub within : span.end ≤ length line
  pub after : is_evenly_separated separator line ≡ true
      → with_prefix (output_separator separator) more ≡ drop span.end line

-- The field with this number is at the span, or it does not exist and there is no span.
abbrev pub IsFieldFound : Option ℕ → ℕ → List ℕ → Option Span → Type 0
IsFieldFound separator number line found =
    MatchOption found (drop (number - 1) (join_fields separator line) ≡ []) (IsFieldAt separator number line)

-- The window of the first 64 bytes of a line, or of all if there are fewer, with this mask.
abbrev pub first_window : List ℕ → ℕ → MatchWindow
first_window line mask = record { at = 0; mask = mask; end = min (length line) 64 }

-- The line without the span and the separator before it, if there is a span, each field after a separator.
abbrev pub around : ℕ → List ℕ → Option Span → List ℕ
around prefix line None = prefix ∷ line
around prefix line (Some span) =
    if span.start == 0 then drop span.end line else prefix ∷ take (span.start - 1) line ++ drop span.end line

-- `field` is part of `line`, and `remainder` is the rest of the line after it: the field is followed by one separator
-- and the rest, or it ends the line and there is no rest.
pub record IsPiece (separator : Option ℕ) (line field : List ℕ) (remainder : Option (List ℕ)) : Type 0 where
  pub front : List ℕ
  pub tail : List ℕ
  pub is : line ≡ front ++ (field ++ tail)
  pub ends : MatchOption remainder (tail ≡ []) (λ left. (byte : ℕ) × (tail ≡ byte ∷ left)
      × (is_separator separator byte ≡ true))

-- Like `IsPiece`, for a field in the rest of a line.
abbrev pub IsFieldIn : Option ℕ → Option (List ℕ) → List ℕ → Option (List ℕ) → Type 0
IsFieldIn separator left field remainder = MatchOption left ⊥ (λ bytes. IsPiece separator bytes field remainder)

-- The first separator or blank in `bytes` is at the index `end`, or there is none and `end` is their length.
pub record IsFirstPieceEnd (separator : Option ℕ) (bytes : List ℕ) (end : ℕ) : Type 0 where
  pub remainder : Lines
  pub is : slice_split (is_separator separator) bytes ≡ take end bytes ∷ remainder
  pub within : end ≤ length bytes

-- These are the separator and the line that is split, which is empty if there is no line.
pub record IsSplit (separator : Option ℕ) (line : Option (List ℕ)) (by : Option ℕ) (bytes : List ℕ) : Type 0 where
  pub separator_is : by ≡ separator
  pub line_is : bytes ≡ unwrap_or line []
