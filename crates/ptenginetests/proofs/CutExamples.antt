-- Worked examples of `cut` by bytes and by fields: the output, and the part of it that is determined by what was
-- received.
use Rattle.std.proofs.Common.{◌≡◌, ℕ, List, [], ◌∷◌, Bool, true, false, refl}
use Rattle.std.specs.Prelude.{codes}
use Rattle.std.specs.Str.{byte}
use Rattle.ptlangs.specs.CutLists.{is_selected}
use Rattle.ptlangs.specs.Jobs.{Cut}
use Rattle.ptlangs.specs.Numbers.{max_u64}
use Rattle.ptlangs.specs.declared.ranges.Interval.{Interval}
use Rattle.ptflow.specs.Cuts.{cut, cut_decided}

abbrev from_to : ℕ → ℕ → Interval
from_to n m = record { first = n; last = m }

abbrev by_bytes : ℕ → List Interval → Cut
by_bytes end list = record {
  fields = false;
  selected = is_selected list;
  delimiter = byte "\t";
  only = false;
  terminator = end;
}

-- With a delimiter, and with `-s` or without.
abbrev cut_by : Bool → ℕ → ℕ → List Interval → Cut
cut_by only end delimiter list = record {
  fields = true;
  selected = is_selected list;
  delimiter = delimiter;
  only = only;
  terminator = end;
}

record CutExamples : Type 0 where
  in_input_order : cut (by_bytes 10 (from_to 3 max_u64 ∷ from_to 1 1 ∷ [])) (codes "abcd\n") ≡ codes "acd\n"
  three_elements : cut (by_bytes 10 (from_to 2 2 ∷ from_to 4 4 ∷ from_to 1 1 ∷ [])) (codes "abcd\n") ≡ codes "abd\n"
  last_line_unended : cut (by_bytes 10 (from_to 1 2 ∷ [])) (codes "abc") ≡ codes "ab\n"
  short_lines : cut (by_bytes 10 (from_to 2 max_u64 ∷ [])) (codes "a\nbcd") ≡ codes "\ncd\n"
  far_byte : cut (by_bytes 10 (from_to max_u64 max_u64 ∷ [])) (codes "abc\n") ≡ codes "\n"
  no_bytes : cut (by_bytes 10 (from_to 1 1 ∷ [])) [] ≡ []
  lines_end_with_zero : cut (by_bytes 0 (from_to 1 1 ∷ [])) (codes "ab\0\ncd") ≡ codes "a\0\n\0"
  repeated_field_once : cut (cut_by false 10 (byte ":") (from_to 2 2 ∷ from_to 2 2 ∷ from_to 1 1 ∷ []))
      (codes "a:b:c\nxyz\n") ≡ codes "a:b\nxyz\n"
  no_field_selected : cut (cut_by true 10 (byte ":") (from_to 5 5 ∷ [])) (codes "a:b\nxyz\n") ≡ codes "\n"
  to_the_last_field : cut (cut_by false 10 (byte ",") (from_to 2 max_u64 ∷ [])) (codes "a,b,c\n") ≡ codes "b,c\n"
  no_delimiter : cut (cut_by false 10 (byte ",") (from_to 2 max_u64 ∷ [])) (codes "x\n") ≡ codes "x\n"
  empty_fields : cut (cut_by false 10 (byte ",") (from_to 2 max_u64 ∷ [])) (codes ",\n") ≡ codes "\n"
  tab_between : cut (cut_by false 10 (byte "\t") (from_to 1 1 ∷ [])) (codes "a\tb") ≡ codes "a\n"
  fields_apart : cut (cut_by false 10 (byte ",") (from_to 1 1 ∷ from_to 3 3 ∷ [])) (codes "a,b,c,d\n,,\n\n")
      ≡ codes "a,c\n,\n\n"
  newline_between : cut (cut_by false 0 10 (from_to 2 2 ∷ [])) (codes "a\nb\0") ≡ codes "b\0"
  amid_a_line : cut_decided (cut_by false 10 (byte ":") (from_to 1 1 ∷ []))
      (record { bytes = codes "a:b\nc:d"; eof = false }) ≡ codes "a\n"
  at_the_end : cut_decided (cut_by false 10 (byte ":") (from_to 1 1 ∷ []))
      (record { bytes = codes "a:b\nc:d"; eof = true }) ≡ codes "a\nc\n"

examples : CutExamples
examples = record {
  in_input_order = refl;
  three_elements = refl;
  last_line_unended = refl;
  short_lines = refl;
  far_byte = refl;
  no_bytes = refl;
  lines_end_with_zero = refl;
  repeated_field_once = refl;
  no_field_selected = refl;
  to_the_last_field = refl;
  no_delimiter = refl;
  empty_fields = refl;
  tab_between = refl;
  fields_apart = refl;
  newline_between = refl;
  amid_a_line = refl;
  at_the_end = refl;
}
