-- Worked examples of `comm`: its columns, which input is out of order and at which line, lines that end with byte 0,
-- descending order, and the part of the output that is determined by what was received.
use Rattle.std.proofs.Common.{◌≡◌, ℕ, List, Option, Some, Bool, true, false, refl}
use Rattle.std.specs.Prelude.{codes}
use Rattle.ptlangs.specs.Jobs.{Comm}
use Rattle.ptlangs.specs.Private.Jobs.{default_comm}
use Rattle.ptmerge.specs.declared.key_order.Side.TheVariants.{First, Second}
use Rattle.ptmerge.specs.Calls.Comm.{comm_tool}
use Rattle.ptmerge.specs.MergeSpec.{MergeDisorder}
use Rattle.ptmerge.specs.Calls.MergeSpec.{decided_output, disorder, lines_of, merge_output}
use Rattle.ptmerge.specs.Calls.Sides.{both}

abbrev hides : Bool → Bool → Bool → Comm
hides one two three = record default_comm { hide1 = one; hide2 = two; hide3 = three }

abbrev zero : Comm
zero = record default_comm { terminator = 0 }

abbrev descending : Comm
descending = record default_comm { descending = true }

abbrev writes : Comm → List ℕ → List ℕ → List ℕ
writes job f g = merge_output (comm_tool job) (both f g)

-- The input that is out of order, and its line.
abbrev disorder_of : Comm → List ℕ → List ℕ → Option MergeDisorder
disorder_of job f g = disorder (comm_tool job) (lines_of (comm_tool job) (both f g))

abbrev decided_of : Comm → List ℕ → Bool → List ℕ → Bool → List ℕ
decided_of job f ended1 g ended2 = decided_output (comm_tool job)
    (both (record { bytes = f; eof = ended1 }) (record { bytes = g; eof = ended2 }))

-- ---- columns

common_lines_first : writes default_comm (codes "a\na\nb\n") (codes "a\nc\n") ≡ codes "\t\ta\na\nb\n\tc\n"
common_lines_first = refl

only_common_lines : writes (hides true true false) (codes "a\na\nb\n") (codes "a\nc\n") ≡ codes "a\n"
only_common_lines = refl

first_column_left_out : writes (hides true false false) (codes "a\nb\n") (codes "b\nc\n") ≡ codes "\tb\nc\n"
first_column_left_out = refl

second_column_left_out : writes (hides false true false) (codes "a\nb\n") (codes "b\nc\n") ≡ codes "a\n\tb\n"
second_column_left_out = refl

common_column_left_out : writes (hides false false true) (codes "a\nb\n") (codes "b\nc") ≡ codes "a\n\tc\n"
common_column_left_out = refl

no_input : writes default_comm (codes "") (codes "") ≡ codes ""
no_input = refl

a_beginning_comes_first : writes default_comm (codes "a\nab\n") (codes "\na\n") ≡ codes "\t\n\t\ta\nab\n"
a_beginning_comes_first = refl

-- ---- disorder

first_out_of_order : writes default_comm (codes "b\na\nc\n") (codes "a\nb\nb\nd\n") ≡ codes "\ta\n\t\tb\n\tb\n"
first_out_of_order = refl

first_out_of_order_at : disorder_of default_comm (codes "b\na\nc\n") (codes "a\nb\nb\nd\n")
    ≡ Some (record { file = First; first_disorder = record { last_key = codes "b"; line = 2 } })
first_out_of_order_at = refl

lesser_last_line_first : writes default_comm (codes "b\na\n") (codes "c\nb\n") ≡ codes "b\n"
lesser_last_line_first = refl

lesser_last_line_first_at : disorder_of default_comm (codes "b\na\n") (codes "c\nb\n")
    ≡ Some (record { file = First; first_disorder = record { last_key = codes "b"; line = 2 } })
lesser_last_line_first_at = refl

lesser_last_line_second : writes default_comm (codes "c\nb\n") (codes "b\na\n") ≡ codes "\tb\n"
lesser_last_line_second = refl

lesser_last_line_second_at : disorder_of default_comm (codes "c\nb\n") (codes "b\na\n")
    ≡ Some (record { file = Second; first_disorder = record { last_key = codes "b"; line = 2 } })
lesser_last_line_second_at = refl

second_is_longer : writes default_comm (codes "b\na\n") (codes "b\nb\na\n") ≡ codes "\t\tb\n\tb\n"
second_is_longer = refl

first_is_named_at_a_tie : disorder_of default_comm (codes "b\na\n") (codes "b\nb\na\n")
    ≡ Some (record { file = First; first_disorder = record { last_key = codes "b"; line = 2 } })
first_is_named_at_a_tie = refl

first_is_longer : writes default_comm (codes "b\nb\na\n") (codes "b\na\n") ≡ codes "\t\tb\nb\n"
first_is_longer = refl

first_is_longer_at : disorder_of default_comm (codes "b\nb\na\n") (codes "b\na\n")
    ≡ Some (record { file = First; first_disorder = record { last_key = codes "b"; line = 3 } })
first_is_longer_at = refl

second_out_of_order : writes default_comm (codes "a\nab\n") (codes "ab\na\n") ≡ codes "a\n\t\tab\n"
second_out_of_order = refl

second_out_of_order_at : disorder_of default_comm (codes "a\nab\n") (codes "ab\na\n")
    ≡ Some (record { file = Second; first_disorder = record { last_key = codes "ab"; line = 2 } })
second_out_of_order_at = refl

-- ---- lines that end with byte 0

disorder_with_zero : writes zero (codes "b\0a\0") (codes "") ≡ codes "b\0"
disorder_with_zero = refl

newline_within_lines : writes zero (codes "a\nb\0c") (codes "a\0c\0") ≡ codes "\ta\0a\nb\0\t\tc\0"
newline_within_lines = refl

-- ---- descending order

descending_lines : writes descending (codes "b\na\na\n") (codes "c\na\n") ≡ codes "\tc\nb\n\t\ta\na\n"
descending_lines = refl

longer_before_its_beginning : writes descending (codes "a\nab\n") (codes "") ≡ codes "a\n"
longer_before_its_beginning = refl

longer_before_its_beginning_at : disorder_of descending (codes "a\nab\n") (codes "")
    ≡ Some (record { file = First; first_disorder = record { last_key = codes "a"; line = 2 } })
longer_before_its_beginning_at = refl

rises_in_descending_order : writes descending (codes "b\nc\n") (codes "a\nb\n") ≡ codes "b\n"
rises_in_descending_order = refl

first_is_named_in_descending_order : disorder_of descending (codes "b\nc\n") (codes "a\nb\n")
    ≡ Some (record { file = First; first_disorder = record { last_key = codes "b"; line = 2 } })
first_is_named_in_descending_order = refl

-- ---- the part of the output that is determined

below_received : decided_of default_comm (codes "a\nc\n") false (codes "b\n") false ≡ codes "a\n"
below_received = refl

below_eof : decided_of default_comm (codes "a\nc\n") true (codes "b\n") false ≡ codes "a\n"
below_eof = refl

below_a_disorder : decided_of default_comm (codes "a\nb\na\n") false (codes "a\nb\n") false ≡ codes "\t\ta\n"
below_a_disorder = refl

after_both_ends : decided_of default_comm (codes "a\nc") true (codes "b\n") true ≡ codes "a\n\tb\nc\n"
after_both_ends = refl

nothing_received_of_one : decided_of default_comm (codes "a\n") true (codes "") false ≡ codes ""
nothing_received_of_one = refl
