-- The faults of options and operands, one check after another, as the code looks for them.
use Rattle.std.specs.Prelude.{ℕ, ◌==◌, ◌&&◌, ◌||◌, List, [], ◌∷◌, Bool, true, false, not, Option, Some, None}
use Rattle.std.specs.Prelude.{Result, if◌then◌else◌, map, find, length, nat_le, codes, bytes_eq, is_some, is_ok}
use Rattle.std.specs.Prelude.{option_map, option_and_then, slice_get, slice_index_or}
use Rattle.std.specs.List.{list_all}
use Rattle.std.specs.Option.{option_or, option_map_or}
use Rattle.std.specs.Result.{result_err}
use Rattle.std.specs.Str.{byte}
use Rattle.ptlangs.specs.CutLists.{selection}
use Rattle.ptlangs.specs.DelimLists.{delim_list}
use Rattle.ptlangs.specs.OutLists.{out_list}
use Rattle.ptlangs.specs.Numbers.{number}
use Rattle.ptlangs.specs.TrPlan.{Plan, plan}
use Rattle.ptlangs.specs.declared.faults.SetFault.{SetFault}
use Rattle.ptlangs.specs.declared.tr.plan.Form.{Form}
use Rattle.ptlangs.specs.declared.tr.plan.Form.TheVariants.{Translate, TranslateSqueeze, Squeeze, Delete}
use Rattle.ptlangs.specs.declared.tr.plan.Form.TheVariants.{DeleteSqueeze}
use Rattle.ptopts.specs.declared.tool.Tool.{Tool}
use Rattle.ptopts.specs.declared.tool.Tool.TheVariants.{Tr}
use Rattle.ptopts.specs.declared.tool.Constraint.{Constraint}
use Rattle.ptopts.specs.declared.tool.Constraint.TheVariants.{Conflict, Required}
use Rattle.ptopts.specs.Private.Syntax.{syntax}
use Rattle.ptopts.specs.Args.{ParsedOption, has_option, value_of, values_of}
use Rattle.ptopts.specs.Faults.{Fault, InString, NeedsList, Operands, StandardTwice, Together, Value, is_standard}

-- the first value that is there
abbrev pub first_some : {A : Type 0} → List (Option A) → Option A
first_some [] = None
first_some (o ∷ os) = option_or o (first_some os)

-- the value of the first of these options that has one
abbrev pub first_value : List ℕ → List ParsedOption → Option (List ℕ)
first_value letters options = first_some (map (λ letter. value_of letter options) letters)

-- two options are present that conflict, or none of those of which one is required
abbrev pub constraint_fault : List ParsedOption → Constraint → Option Fault
constraint_fault options (Conflict a b) =
    if has_option a options && has_option b options then Some (Together a b) else None
constraint_fault options (Required a b c) =
    if is_some (first_value (a ∷ b ∷ c ∷ []) options) then None else Some NeedsList

-- the fault of the first constraint that the options do not meet
abbrev pub constraints_fault : Tool → List ParsedOption → Option Fault
constraints_fault tool options = first_some (map (constraint_fault options) (syntax tool).constraints)

-- the list of `cut`: the value of `-b`, `-c` or `-f`
abbrev pub cut_list_value : List ParsedOption → Option (List ℕ)
cut_list_value options = first_value (codes "bcf") options

-- the value of an option fails the test
abbrev pub value_fault : List ParsedOption → ℕ × (List ℕ → Bool) → Option Fault
value_fault options (letter, is_good) =
    option_and_then (λ value. if is_good value then None else Some (Value letter value)) (value_of letter options)

-- the first value of a repeatable option that fails the test
abbrev pub each_value_fault : List ParsedOption → ℕ × (List ℕ → Bool) → Option Fault
each_value_fault options (letter, is_good) =
    option_map (Value letter) (find (λ value. not (is_good value)) (values_of letter options))

-- the text is a list of `cut`
abbrev pub is_cut_list : List ℕ → Bool
is_cut_list value = is_ok (selection value)

-- the text is a list of `paste`
abbrev pub is_delimiter_list : List ℕ → Bool
is_delimiter_list value = is_ok (delim_list value)

-- the text is an output list of `join`
abbrev pub is_output_list : List ℕ → Bool
is_output_list value = is_ok (out_list value)

-- one byte that is not the line terminator
abbrev pub is_delimiter_value : ℕ → List ℕ → Bool
is_delimiter_value terminator (b ∷ []) = not (b == terminator)
is_delimiter_value terminator _ = false

-- a number, which may be 0
abbrev pub is_count : List ℕ → Bool
is_count value = is_some (number value)

-- a positive number
abbrev pub is_field_number : List ℕ → Bool
is_field_number value = option_map_or (λ n. not (n == 0)) (number value) false

-- the number of one of the two files
abbrev pub is_file_number : List ℕ → Bool
is_file_number value = bytes_eq value (codes "1") || bytes_eq value (codes "2")

-- the number is at least `low` and at most `high`
abbrev pub is_within : ℕ → ℕ → ℕ → Bool
is_within low high n = nat_le low n && nat_le n high

-- `tr -d` has one string, `tr -s` one or two, and `tr` and `tr -ds` two
abbrev pub fits_form : Tool → List ParsedOption → ℕ → Bool
fits_form Tr options n =
    if has_option (byte "d") options then (if has_option (byte "s") options then n == 2 else n == 1)
    else has_option (byte "s") options || n == 2
fits_form _ options n = true

-- the tool accepts this number of operands
abbrev pub has_valid_count : Tool → List ParsedOption → ℕ → Bool
has_valid_count tool options n =
    is_within (syntax tool).min_operands (syntax tool).max_operands n && fits_form tool options n

-- the number of operands is wrong, or both operands are standard input
abbrev pub operands_fault : Tool → List ParsedOption → List (List ℕ) → Option Fault
operands_fault tool options operands =
    if not (has_valid_count tool options (length operands)) then Some Operands
    else (if (syntax tool).stdin_once && list_all is_standard operands then Some StandardTwice else None)

-- the form of `tr`, from `-d`, `-s` and the number of strings
abbrev pub form : Bool → Bool → ℕ → Form
form false false n = Translate
form false true n = if n == 1 then Squeeze else TranslateSqueeze
form true false n = Delete
form true true n = DeleteSqueeze

-- the form of `tr`, from its options and operands
abbrev pub form_of_options : List ParsedOption → List (List ℕ) → Form
form_of_options options operands =
    form (has_option (byte "d") options) (has_option (byte "s") options) (length operands)

-- the first string is complemented (`-c`, `-C`)
abbrev pub is_complemented : List ParsedOption → Bool
is_complemented options = has_option (byte "c") options || has_option (byte "C") options

-- the plan of `tr`, or the first fault of its strings
abbrev pub plan_of_operands : List ParsedOption → List (List ℕ) → Result Plan SetFault
plan_of_operands options operands =
    plan (form_of_options options operands) (is_complemented options) (slice_index_or operands 0 [])
    (slice_get operands 1)

-- the first fault of the strings
abbrev pub strings_fault : Tool → List ParsedOption → List (List ℕ) → Option Fault
strings_fault Tr options operands = option_map InString (result_err (plan_of_operands options operands))
strings_fault _ options operands = None
