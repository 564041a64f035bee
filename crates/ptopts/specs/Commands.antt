-- The command that the words of a command line specify, or the first fault: the job that the options of each tool
-- give, its inputs and its output. Also the words and the commands of the code, as values of these definitions.
use Prim.Native.String.{String}
use Rattle.std.specs.Prelude.{ℕ, ◌+◌, List, [], ◌∷◌, ◌++◌, Bool, false, not, Option, Some, None, Result, Ok, Err}
use Rattle.std.specs.Prelude.{if◌then◌else◌, option_and_then, slice_get, unwrap_or, option_map, codes, bytes_eq, filter}
use Rattle.std.specs.Prelude.{drop, take, map, ok_or}
use Rattle.std.specs.Borrow.{Bor}
use Rattle.std.specs.List.{list_any}
use Rattle.std.specs.Result.{result_unwrap_or}
use Rattle.std.specs.Str.{byte}
use Rattle.ptlangs.specs.CutLists.{selection}
use Rattle.ptlangs.specs.DelimLists.{delim_list}
use Rattle.ptlangs.specs.Numbers.{and_then, is_empty, number}
use Rattle.ptlangs.specs.OutLists.{out_list}
use Rattle.ptlangs.specs.TrPlan.{ByteMap, byte_map}
use Rattle.ptlangs.specs.TrTables.{byte_map_of}
use Rattle.ptlangs.specs.declared.jobs.Show.{Show}
use Rattle.ptlangs.specs.declared.jobs.Show.TheVariants.{All, Counts, Repeated, Single}
use Rattle.ptopts.specs.Args.{ParsedOption, has, is_flag, is_option_arg, takes_value, tool_of_name, value_of}
use Rattle.ptopts.specs.Args.{values_of, with_value}
use Rattle.ptopts.specs.Faults.{Fault, NeedsValue, NoTool, Twice, Unknown, cut_list, faults, is_repeated, is_standard}
use Rattle.ptopts.specs.Faults.{terminator_of, tr_plan}
use Rattle.ptopts.specs.declared.inputs.Input.{Input}
use Rattle.ptopts.specs.declared.inputs.Input.TheVariants.{File, Standard}
use Rattle.ptopts.specs.declared.inputs.Inputs.{Inputs}
use Rattle.ptopts.specs.declared.tool.Tool.{Tool}
use Rattle.ptopts.specs.declared.tool.Tool.TheVariants.{Comm, Cut, Join, Paste, Tr, Uniq}
use Rattle.ptopts.specs.declared.command.Command as code
use Rattle.ptlangs.specs.Jobs as jobs
use Rattle.ptopts.specs.declared.command.Command.TheVariants as parsed

-- the options of a tool
pub data Job : Type 0 where
  RunCut : jobs.Cut → Job
  RunPaste : jobs.Paste → Job
  RunUniq : jobs.Uniq → Job
  RunComm : jobs.Comm → Job
  RunJoin : jobs.Join → Job
  -- what happens to each byte
  RunTr : ByteMap → Job

-- the options of a tool, with its inputs and its output
pub record Command : Type 0 where
  pub job : Job
  -- the inputs in operand order: standard input, or the file with this index in `names`
  pub order : List Input
  -- the names of the input files
  pub names : List (List ℕ)
  -- the output file, if the output is not standard output
  pub output : Option (List ℕ)

-- ---- the options of each tool

-- the single byte that is the value of an option
abbrev pub byte_value : ℕ → List ParsedOption → Option ℕ
byte_value letter os = option_and_then (λ value. slice_get value 0) (value_of letter os)

-- the number that is the value of an option, or else a default
abbrev pub number_or : ℕ → List ParsedOption → String → ℕ
number_or default os option = unwrap_or (option_and_then number (value_of (byte option) os)) default

-- the lines that `uniq` writes
abbrev pub show : List ParsedOption → Show
show os = if has os "c" then Counts else (if has os "d" then Repeated else (if has os "u" then Single else All))

-- `-a` or `-v` selects the unpairable lines of the file
abbrev pub selects : List ParsedOption → List ℕ → Bool
selects os file = list_any (bytes_eq file) (values_of (byte "a") os ++ values_of (byte "v") os)

-- the options of a tool, which have no fault
abbrev pub job : Tool → List ParsedOption → List (List ℕ) → Job
job Cut os operands = RunCut (record {
  fields = has os "f";
  selected = result_unwrap_or (selection (unwrap_or (cut_list os) [])) (λ n. false);
  delimiter = unwrap_or (byte_value (byte "d") os) 9;
  only = has os "s";
  terminator = terminator_of os;
})
job Paste os operands = RunPaste (record {
  serial = has os "s";
  delimiters = result_unwrap_or (delim_list (unwrap_or (value_of (byte "d") os) (9 ∷ []))) [];
  terminator = terminator_of os;
})
job Uniq os operands = RunUniq
    (record { show = show os; fields = number_or 0 os "f"; chars = number_or 0 os "s"; terminator = terminator_of os })
job Comm os operands = RunComm (record {
  hide1 = has os "1";
  hide2 = has os "2";
  hide3 = has os "3";
  terminator = terminator_of os;
  descending = has os "r";
})
job Join os operands = RunJoin (record {
  pairs = not (has os "v");
  unpaired1 = selects os (codes "1");
  unpaired2 = selects os (codes "2");
  empty = unwrap_or (value_of (byte "e") os) [];
  list = option_map (λ value. result_unwrap_or (out_list value) []) (value_of (byte "o") os);
  separator = byte_value (byte "t") os;
  field1 = number_or 1 os "1";
  field2 = number_or 1 os "2";
  terminator = terminator_of os;
  descending = has os "r";
})
job Tr os operands = RunTr (byte_map
    (result_unwrap_or (tr_plan os operands) (record { deleted = []; from = []; to = []; squeezed = [] })))

-- ---- inputs and output

-- standard input if there is no operand
abbrev pub or_stdin : List (List ℕ) → List (List ℕ)
or_stdin operands = if is_empty operands then codes "-" ∷ [] else operands

-- the operands that are inputs of the tool
abbrev pub input_operands : Tool → List (List ℕ) → List (List ℕ)
input_operands Cut operands = or_stdin operands
input_operands Uniq operands = take 1 (or_stdin operands)
input_operands Tr operands = codes "-" ∷ []
input_operands _ operands = operands

-- the output file of `uniq`; `None` for standard output
abbrev pub output : Tool → List (List ℕ) → Option (List ℕ)
output Uniq (input ∷ written ∷ more) = if is_standard written then None else Some written
output _ operands = None

-- the operands that name files
abbrev pub file_names : List (List ℕ) → List (List ℕ)
file_names operands = filter (λ operand. not (is_standard operand)) operands

-- each operand as an input; files are numbered from `n`
abbrev pub order_from : ℕ → List (List ℕ) → List Input
order_from n [] = []
order_from n (operand ∷ operands) =
    if is_standard operand then Standard ∷ order_from n operands else File n ∷ order_from (n + 1) operands

-- the command of a job with these inputs and this output
abbrev pub command_over : Job → List (List ℕ) → Option (List ℕ) → Command
command_over job inputs output =
    record { job = job; order = order_from 0 inputs; names = file_names inputs; output = output }

-- ---- commands of the code

-- the words, as lists of bytes
abbrev pub words_view : List (Bor (List ℕ)) → List (List ℕ)
words_view words = map (λ w. w.now) words

-- a job with the inputs and the output of the code
abbrev pub with_inputs : {A : Type 0} → Job → Inputs A → Command
with_inputs job inputs = record {
  job = job;
  order = inputs.order.items;
  names = words_view inputs.names.items;
  output = option_map (λ w. w.now) inputs.output;
}

-- the command
abbrev pub command_view : {A : Type 0} → code.Command A → Command
command_view (parsed.Cut job inputs) = with_inputs (RunCut (jobs.cut_job job)) inputs
command_view (parsed.Paste job inputs) = with_inputs (RunPaste (jobs.paste_job job)) inputs
command_view (parsed.Uniq job inputs) = with_inputs (RunUniq (jobs.uniq_job job)) inputs
command_view (parsed.Comm job inputs) = with_inputs (RunComm (jobs.comm_job job)) inputs
command_view (parsed.Join job inputs) = with_inputs (RunJoin (jobs.join_job job)) inputs
command_view (parsed.Tr plan inputs) = with_inputs (RunTr (byte_map_of plan)) inputs

-- ---- words, from left to right, up to the first fault

-- The options of a word, after those before: the letters after its dash are read in turn. A letter with a value takes
-- the rest of the word. If that is empty, it takes the next word: then it is the second part of the result.
abbrev pub read_letters : Tool → List ℕ → List ParsedOption → List ℕ
    → Result (List ParsedOption × Option ℕ) Fault
read_letters tool word before [] = Ok (before, None)
read_letters tool word before (letter ∷ rest) =
    if is_flag tool letter then read_letters tool word (before ++ record { letter = letter; value = None } ∷ []) rest
    else (if not (takes_value tool letter) then Err (Unknown word)
    else (if is_repeated tool before letter then Err (Twice letter)
    else (if is_empty rest then Ok (before, Some letter) else Ok (before ++ with_value letter rest ∷ [], None))))

-- The options, after those before, and the operands of these words. The first word is the value of a given letter.
abbrev pub read_words : Tool → List ParsedOption → Option ℕ → List (List ℕ)
    → Result (List ParsedOption × List (List ℕ)) Fault
read_words tool before None [] = Ok (before, [])
read_words tool before (Some letter) [] = Err (NeedsValue letter)
read_words tool before (Some letter) (value ∷ words) =
    read_words tool (before ++ with_value letter value ∷ []) None words
read_words tool before None (word ∷ words) =
    if bytes_eq word (codes "--") then Ok (before, words)
    else (if not (is_option_arg word) then Ok (before, word ∷ words)
    else and_then (read_letters tool word before (drop 1 word))
    (λ (read : List ParsedOption × Option ℕ). read_words tool read.0 read.1 words))

-- ---- commands

-- the command of options and operands that have no fault
abbrev pub command : Tool → List ParsedOption → List (List ℕ) → Command
command tool os operands = command_over (job tool os operands) (input_operands tool operands) (output tool operands)

-- the value, or the first of the faults
abbrev pub unless_faulty : {A : Type 0} → List Fault → A → Result A Fault
unless_faulty [] x = Ok x
unless_faulty (fault ∷ more) x = Err fault

-- the command, or the first fault
abbrev pub checked_command : Tool → List ParsedOption × List (List ℕ) → Result Command Fault
checked_command tool (os, operands) = unless_faulty (faults tool os operands) (command tool os operands)

-- the command of words, or their first fault
abbrev pub command_of_args : List (List ℕ) → Result Command Fault
command_of_args [] = Err NoTool
command_of_args (name ∷ words) = and_then (ok_or (tool_of_name name) NoTool)
    (λ (tool : Tool). and_then (read_words tool [] None words) (checked_command tool))
