-- The texts of the messages. Each ends with newline.
use Rattle.std.specs.Prelude.{ℕ, ◌-◌, ◌==◌, List, [], ◌∷◌, codes, decimal, encode_utf8}
use Rattle.std.specs.Prelude.{if◌then◌else◌, slice_index_or}
use Rattle.ptflow.specs.declared.faults.FlowFault.{FlowFault}
use Rattle.ptflow.specs.declared.faults.FlowFault.TheVariants.{Memory, Read, Write}
use Rattle.ptlangs.specs.declared.faults.SetFaultKind.{SetFaultKind}
use Rattle.ptlangs.specs.declared.faults.SetString.{SetString}
use Rattle.ptopts.specs.Faults.{Fault, InString, NeedsList, NeedsValue, NoTool, Operands, StandardTwice, Together}
use Rattle.ptopts.specs.Faults.{Twice, Unknown, Value}
use Rattle.ptrun.specs.MessageWrites.{line_of}
use Rattle.ptlangs.specs.declared.faults.SetFaultKind.TheVariants as kind
use Rattle.ptlangs.specs.declared.faults.SetString.TheVariants as string

-- The name of a string operand in the synopsis of `tr`.
abbrev pub string_word : SetString → List ℕ
string_word string.First = codes "string1"
string_word string.Second = codes "string2"

-- The reason why a string operand of `tr` is invalid, in one word.
abbrev pub kind_word : SetFaultKind → List ℕ
kind_word kind.Empty = codes "empty"
kind_word kind.Octal = codes "octal"
kind_word kind.Escape = codes "escape"
kind_word kind.Descending = codes "descending"
kind_word kind.UnknownClass = codes "class"
kind_word kind.ClassPlace = codes "pairing"
kind_word kind.EquivPlace = codes "equivalence"
kind_word kind.RepeatPlace = codes "repeat"
kind_word kind.RepeatSize = codes "size"
kind_word kind.SecondFill = codes "fill"
kind_word kind.Memory = codes "memory"

-- The message about a usage fault in the arguments of `tool`.
abbrev pub usage_text : List ℕ → Fault → List ℕ
usage_text tool NoTool = line_of (codes "ptext: first word: " ∷ codes "cut, paste, join, comm, uniq or tr" ∷ [])
usage_text tool (Unknown word) = line_of (tool ∷ codes ": unknown option in " ∷ word ∷ [])
usage_text tool (NeedsValue l) = line_of (tool ∷ codes ": option -" ∷ encode_utf8 l ∷ codes " needs a value" ∷ [])
usage_text tool (Twice l) = line_of (tool ∷ codes ": option -" ∷ encode_utf8 l ∷ codes " is given twice" ∷ [])
usage_text tool (Together a b) = line_of (tool ∷ codes ": options -" ∷ encode_utf8 a ∷ codes " and -" ∷ encode_utf8 b
    ∷ codes " do not go together" ∷ [])
usage_text tool (Value l value) =
    line_of (tool ∷ codes ": wrong value for option -" ∷ encode_utf8 l ∷ codes ": " ∷ value ∷ [])
usage_text tool Operands = line_of (tool ∷ codes ": wrong number of operands" ∷ [])
usage_text tool StandardTwice = line_of (tool ∷ codes ": standard input is named twice" ∷ [])
usage_text tool NeedsList = line_of (codes "cut: one of -b, -c and -f is needed" ∷ [])
usage_text tool (InString f) = line_of (codes "tr: wrong " ∷ string_word f.string ∷ codes ": " ∷ kind_word f.kind ∷ [])

-- The message about a lack of memory.
abbrev pub memory_message : List ℕ → List ℕ
memory_message tool = line_of (tool ∷ codes ": out of memory" ∷ [])

-- The name of the input at a position: `standard input` at 0, that of the file elsewhere.
abbrev pub name_of : List (List ℕ) → ℕ → List ℕ
name_of names position = if position == 0 then codes "standard input" else slice_index_or names (position - 1) []

-- The message about a file that could not be opened.
abbrev pub unopened_message : List ℕ → List ℕ → List ℕ
unopened_message tool name = line_of (tool ∷ codes ": " ∷ name ∷ codes ": cannot be opened" ∷ [])

-- The message about a line out of order. Lines count from 1.
abbrev pub disorder_message : List ℕ → List (List ℕ) → ℕ → ℕ → List ℕ
disorder_message tool names position line = line_of (tool ∷ codes ": " ∷ name_of names position ∷ codes ": line "
    ∷ decimal line ∷ codes " is out of order" ∷ [])

-- The message about a failed call. A failed read names its input.
abbrev pub fault_message : List ℕ → List (List ℕ) → FlowFault → List ℕ
fault_message tool names (Read position) =
    line_of (tool ∷ codes ": " ∷ name_of names position ∷ codes ": read failed" ∷ [])
fault_message tool names Write = line_of (tool ∷ codes ": output: write failed" ∷ [])
fault_message tool names Memory = memory_message tool
