-- Worked examples of `join`: the fields of a line, pairs and unpaired lines, which input is out of order and at which
-- line, lines that end with byte 0, descending order, the part of the output that is determined by what was received,
-- and the bounds on the memory.
use Rattle.std.proofs.Common.{◌≡◌, ℕ, ◌+◌, ◌*◌, List, [], ◌∷◌, Option, Some, None, Bool, true, false, refl}
use Rattle.std.specs.Prelude.{codes}
use Rattle.std.specs.Str.{byte}
use Rattle.ptlangs.specs.Jobs.{Join}
use Rattle.ptlangs.specs.Calls.Jobs.{default_join}
use Rattle.ptlines.specs.Text.{lines}
use Rattle.ptmerge.specs.declared.key_order.Side.TheVariants.{First, Second}
use Rattle.ptmerge.specs.Join.{join_fields}
use Rattle.ptmerge.specs.Calls.Join.{join_tool}
use Rattle.ptmerge.specs.MergeSpec.{MergeDisorder}
use Rattle.ptmerge.specs.Calls.MergeSpec.{decided_output, disorder, lines_of, merge_output}
use Rattle.ptmerge.specs.Calls.Sides.{both}
use Rattle.ptlangs.specs.declared.outlist.File.TheVariants as files
use Rattle.ptlangs.specs.declared.outlist.OutField.TheVariants as items

abbrev writes : Join → List ℕ → List ℕ → List ℕ
writes job f g = merge_output (join_tool job) (both f g)

-- The input that is out of order, and its line.
abbrev disorder_of : Join → List ℕ → List ℕ → Option MergeDisorder
disorder_of job f g = disorder (join_tool job) (lines_of (join_tool job) (both f g))

abbrev decided_of : Join → List ℕ → Bool → List ℕ → Bool → List ℕ
decided_of job f ended1 g ended2 = decided_output (join_tool job)
    (both (record { bytes = f; eof = ended1 }) (record { bytes = g; eof = ended2 }))

-- The bound on the bytes in the store.
abbrev holds : Join → List ℕ → List ℕ → ℕ
holds job f g = let tool = join_tool job in tool.size (both (lines 10 f) (lines 10 g))

-- The bound on the number of slots.
abbrev slots_for : Join → List ℕ → List ℕ → ℕ
slots_for job f g = let tool = join_tool job in tool.slots (both (lines 10 f) (lines 10 g))

-- ---- fields

blanks_in_a_row : join_fields None (codes " \ta  bc\t") ≡ codes "a" ∷ codes "bc" ∷ []
blanks_in_a_row = refl

only_blanks : join_fields None (codes " \t") ≡ []
only_blanks = refl

newline_is_no_blank : join_fields None (codes "a\nb c") ≡ codes "a\nb" ∷ codes "c" ∷ []
newline_is_no_blank = refl

each_separator_counts : join_fields (Some (byte ",")) (codes ",a,,") ≡ [] ∷ codes "a" ∷ [] ∷ [] ∷ []
each_separator_counts = refl

an_empty_line_has_one_field : join_fields (Some (byte ",")) [] ≡ [] ∷ []
an_empty_line_has_one_field = refl

-- ---- pairs

first_files_line_first : writes default_join (codes "a 1\na 2\nc 9\n") (codes "a x\na y\nb z\n")
    ≡ codes "a 1 x\na 1 y\na 2 x\na 2 y\n"
first_files_line_first = refl

output_list :
    writes (record default_join {
      unpaired2 = true;
      empty = codes "-";
      list = Some
          (items.Join ∷ items.Field files.First 2 ∷ items.Field files.Second 2 ∷ []);
    }) (codes "a 1\na 2\nc 9\n") (codes "a x\na y\nb z\n")
    ≡ codes "a 1 x\na 1 y\na 2 x\na 2 y\nb - z\n"
output_list = refl

only_unpaired : writes (record default_join { pairs = false; unpaired1 = true; separator = Some (byte ",") })
    (codes ",1\nk\n") (codes "k,2\n") ≡ codes ",1\n"
only_unpaired = refl

another_field : writes (record default_join { field1 = 2 }) (codes "x a\ny b\n") (codes "a 1\nb 2\n")
    ≡ codes "a x 1\nb y 2\n"
another_field = refl

unpaired_of_both : writes (record default_join { unpaired1 = true; unpaired2 = true }) (codes "a 1\nc 3\n")
    (codes "b 2\nc 4\n") ≡ codes "a 1\nb 2\nc 3 4\n"
unpaired_of_both = refl

empty_fields_replaced :
    writes (record default_join {
      separator = Some (byte ":");
      list = Some
          (items.Field files.First 2 ∷ items.Join ∷ items.Field files.Second 3 ∷ []);
      empty = codes "X";
      unpaired1 = true;
    }) (codes "a:\nb:q\n") (codes "b:r\n") ≡ codes "X:a:X\nq:b:X\n"
empty_fields_replaced = refl

no_replacement_without_a_list : writes (record default_join { separator = Some (byte ","); empty = codes "X" })
    (codes "a,\n") (codes "a,b\n") ≡ codes "a,,b\n"
no_replacement_without_a_list = refl

missing_keys_pair : writes default_join (codes "\na 1\n") (codes " \na 2\n") ≡ codes "\na 1 2\n"
missing_keys_pair = refl

an_empty_field_is_written : writes (record default_join { separator = Some (byte ",") }) (codes "a,1\n")
    (codes "a,\n") ≡ codes "a,1,\n"
an_empty_field_is_written = refl

no_such_field : writes (record default_join { unpaired1 = true; field1 = 5 }) (codes "x y\n") [] ≡ codes " x y\n"
no_such_field = refl

greatest_field : writes (record default_join { unpaired1 = true; field1 = 18446744073709551615 }) (codes "x y\n") []
    ≡ codes " x y\n"
greatest_field = refl

nothing_in_both : writes (record default_join { unpaired1 = true; unpaired2 = true }) [] [] ≡ []
nothing_in_both = refl

-- ---- disorder

first_out_of_order : writes default_join (codes "b 1\na 2\n") (codes "a x\nb y\n") ≡ codes "b 1 y\n"
first_out_of_order = refl

first_out_of_order_at : disorder_of default_join (codes "b 1\na 2\n") (codes "a x\nb y\n")
    ≡ Some (record { file = First; first_disorder = record { last_key = codes "b"; line = 2 } })
first_out_of_order_at = refl

second_out_of_order : writes default_join (codes "a\n") (codes "b\na\n") ≡ []
second_out_of_order = refl

second_out_of_order_at : disorder_of default_join (codes "a\n") (codes "b\na\n")
    ≡ Some (record { file = Second; first_disorder = record { last_key = codes "b"; line = 2 } })
second_out_of_order_at = refl

-- ---- lines that end with byte 0, and descending order

newline_within_lines : writes (record default_join { terminator = 0 }) (codes "a 1\nq\0") (codes "a x\0")
    ≡ codes "a 1\nq x\0"
newline_within_lines = refl

descending_keys : writes (record default_join { descending = true }) (codes "b 1\na 2\n") (codes "b x\na y\n")
    ≡ codes "b 1 x\na 2 y\n"
descending_keys = refl

empty_key_last : writes (record default_join {
  descending = true;
  separator = Some (byte ",");
  unpaired1 = true;
}) (codes "k\n,1\n") [] ≡ codes "k\n,1\n"
empty_key_last = refl

-- ---- the part of the output that is determined, and the memory used

below_received : decided_of default_join (codes "a 1\nb 2\n") false (codes "a x\na y\nb z\n") true
    ≡ codes "a 1 x\na 1 y\n"
below_received = refl

a_group_that_may_go_on : decided_of (record default_join { unpaired1 = true }) (codes "0\na 1\n") true
    (codes "a x\n") false ≡ codes "0\n"
a_group_that_may_go_on = refl

largest_group_counts : holds default_join (codes "a 1\n") (codes "a xy\na z\nb 12345\n") ≡ 2 * 3 + 2 * 7 + 7
largest_group_counts = refl

most_lines_count : slots_for default_join (codes "a 1\na 2\na 3\n") (codes "a xy\na z\nb 12345\n") ≡ 4 + 2
most_lines_count = refl

no_group_without_pairs : holds (record default_join { pairs = false }) (codes "a 1\n") (codes "a xy\na z\nb 12345\n")
    ≡ 2 * 3 + 2 * 7
no_group_without_pairs = refl

no_slots_without_pairs : slots_for (record default_join { pairs = false }) (codes "a 1\na 2\na 3\n")
    (codes "a xy\na z\nb 12345\n") ≡ 4
no_slots_without_pairs = refl
