-- The options of each tool, and the first fault of their values, as the code makes them.
use Rattle.std.specs.Prelude.{ℕ, ◌||◌, List, [], ◌∷◌, Bool, false, not, Option, Some, None, Result, Ok, Err}
use Rattle.std.specs.Prelude.{unwrap_or, option_and_then, option_map, codes, bytes_eq, map}
use Rattle.std.specs.List.{list_any}
use Rattle.std.specs.Result.{result_unwrap_or}
use Rattle.std.specs.Str.{byte}
use Rattle.ptlangs.specs.CutLists.{selection}
use Rattle.ptlangs.specs.DelimLists.{delim_list}
use Rattle.ptlangs.specs.Numbers.{number}
use Rattle.ptlangs.specs.OutLists.{out_list}
use Rattle.ptlangs.specs.TrPlan.{ByteMap, Plan, byte_map}
use Rattle.ptlangs.specs.declared.outlist.OutField.{OutField}
use Rattle.ptopts.specs.Args.{ParsedOption, has_option, value_of, values_of}
use Rattle.ptopts.specs.Commands.{Job, RunComm, RunCut, RunJoin, RunPaste, RunTr, RunUniq, byte_value, show}
use Rattle.ptopts.specs.Faults.{Fault, terminator_of}
use Rattle.ptopts.specs.Private.Faults.{cut_list_value, each_value_fault, first_some, is_count, is_cut_list}
use Rattle.ptopts.specs.Private.Faults.{is_delimiter_list, is_delimiter_value, is_field_number, is_file_number}
use Rattle.ptopts.specs.Private.Faults.{is_output_list, plan_of_operands, value_fault}
use Rattle.ptopts.specs.declared.tool.Tool.{Tool}
use Rattle.ptopts.specs.declared.tool.Tool.TheVariants.{Comm, Cut, Join, Paste, Tr, Uniq}
use Rattle.ptlangs.specs.Jobs as jobs

-- the set of numbers that a list of `cut` selects
abbrev pub selected_set : List ℕ → ℕ → Bool
selected_set text = result_unwrap_or (selection text) (λ n. false)

-- the number that is the value of an option
abbrev pub number_value : ℕ → List ParsedOption → Option ℕ
number_value letter os = option_and_then number (value_of letter os)

-- the options of `cut`
abbrev pub cut_from_options : List ParsedOption → jobs.Cut
cut_from_options os = record {
  fields = has_option (byte "f") os;
  selected = unwrap_or (option_map selected_set (cut_list_value os)) (λ n. false);
  delimiter = unwrap_or (byte_value (byte "d") os) 9;
  only = has_option (byte "s") os;
  terminator = terminator_of os;
}

-- the delimiters of a list of `paste`
abbrev pub delimiters_of : List ℕ → List (Option ℕ)
delimiters_of text = result_unwrap_or (delim_list text) []

-- the options of `paste`
abbrev pub paste_from_options : List ParsedOption → jobs.Paste
paste_from_options os = record {
  serial = has_option (byte "s") os;
  delimiters = unwrap_or (option_map delimiters_of (value_of (byte "d") os)) (Some 9 ∷ []);
  terminator = terminator_of os;
}

-- the options of `uniq`
abbrev pub uniq_from_options : List ParsedOption → jobs.Uniq
uniq_from_options os = record {
  show = show os;
  fields = unwrap_or (number_value (byte "f") os) 0;
  chars = unwrap_or (number_value (byte "s") os) 0;
  terminator = terminator_of os;
}

-- the options of `comm`
abbrev pub comm_from_options : List ParsedOption → jobs.Comm
comm_from_options os = record {
  hide1 = has_option (byte "1") os;
  hide2 = has_option (byte "2") os;
  hide3 = has_option (byte "3") os;
  terminator = terminator_of os;
  descending = has_option (byte "r") os;
}

-- a value of this option names the file
abbrev pub names_file : List ℕ → ℕ → List ParsedOption → Bool
names_file file letter os = list_any (bytes_eq file) (values_of letter os)

-- `-a` or `-v` selects the unpairable lines of the file
abbrev pub selects_unpaired : List ℕ → List ParsedOption → Bool
selects_unpaired file os = names_file file (byte "a") os || names_file file (byte "v") os

-- the fields of an output list of `join`
abbrev pub fields_of : List ℕ → List OutField
fields_of text = result_unwrap_or (out_list text) []

-- the options of `join`
abbrev pub join_from_options : List ParsedOption → jobs.Join
join_from_options os = record {
  pairs = not (has_option (byte "v") os);
  unpaired1 = selects_unpaired (codes "1") os;
  unpaired2 = selects_unpaired (codes "2") os;
  empty = unwrap_or (value_of (byte "e") os) [];
  list = option_map fields_of (value_of (byte "o") os);
  separator = byte_value (byte "t") os;
  field1 = unwrap_or (number_value (byte "1") os) 1;
  field2 = unwrap_or (number_value (byte "2") os) 1;
  terminator = terminator_of os;
  descending = has_option (byte "r") os;
}

-- the plan that changes nothing
abbrev pub identity_plan : Plan
identity_plan = record { deleted = []; from = []; to = []; squeezed = [] }

-- the plan of `tr`, byte by byte
abbrev pub char_map : List ParsedOption → List (List ℕ) → ByteMap
char_map os operands = byte_map (result_unwrap_or (plan_of_operands os operands) identity_plan)

-- the first value that fails its test
abbrev pub values_fault : Tool → List ParsedOption → Option Fault
values_fault Cut options = first_some (map (value_fault options) (
    (byte "b", is_cut_list) ∷ (byte "c", is_cut_list) ∷ (byte "f", is_cut_list)
    ∷ (byte "d", is_delimiter_value (terminator_of options)) ∷ []))
values_fault Paste options = value_fault options (byte "d", is_delimiter_list)
values_fault Uniq options = first_some (map (value_fault options) ((byte "f", is_count) ∷ (byte "s", is_count) ∷ []))
values_fault Join options = first_some (
    each_value_fault options (byte "a", is_file_number)
    ∷ each_value_fault options (byte "v", is_file_number)
    ∷ map (value_fault options) (
    (byte "o", is_output_list) ∷ (byte "t", is_delimiter_value (terminator_of options))
    ∷ (byte "1", is_field_number) ∷ (byte "2", is_field_number) ∷ []))
values_fault _ options = None

-- the options of a tool
abbrev pub job : Tool → List ParsedOption → List (List ℕ) → Job
job Cut os operands = RunCut (cut_from_options os)
job Paste os operands = RunPaste (paste_from_options os)
job Uniq os operands = RunUniq (uniq_from_options os)
job Comm os operands = RunComm (comm_from_options os)
job Join os operands = RunJoin (join_from_options os)
job Tr os operands = RunTr (char_map os operands)

-- the value, or the fault if there is one
abbrev pub ok_unless : {A E : Type 0} → Option E → A → Result A E
ok_unless None x = Ok x
ok_unless (Some e) x = Err e
