-- The faults of a command line, in the order in which they are looked for (POSIX leaves the order unspecified, which
-- options conflict beyond the synopsis, and the limit of 512 operands).
use Prim.Native.String.{String}
use Rattle.std.specs.Prelude.{ℕ, ◌==◌, ◌&&◌, ◌||◌, List, [], ◌∷◌, ◌++◌, Bool, true, false, not, Option, Some, None}
use Rattle.std.specs.Prelude.{Result, if◌then◌else◌, map, filter, length, nat_le, nat_lt, codes, bytes_eq, is_some, is_ok}
use Rattle.std.specs.Prelude.{flat_map, ok_or, option_to_list, slice_get, slice_index_or, unwrap_or}
use Rattle.std.specs.List.{list_all}
use Rattle.std.specs.Option.{option_or}
use Rattle.std.specs.Result.{result_err, result_map_both}
use Rattle.std.specs.Str.{byte}
use Rattle.ptlangs.specs.CutLists.{selection}
use Rattle.ptlangs.specs.DelimLists.{delim_list}
use Rattle.ptlangs.specs.OutLists.{out_list}
use Rattle.ptlangs.specs.Numbers.{and_then, number}
use Rattle.ptlangs.specs.Jobs.{terminator}
use Rattle.ptlangs.specs.TrPlan.{Plan, plan}
use Rattle.ptlangs.specs.declared.faults.SetFault.{SetFault}
use Rattle.ptlangs.specs.declared.tr.plan.Form.{Form}
use Rattle.ptlangs.specs.declared.tr.plan.Form.TheVariants.{Translate, TranslateSqueeze, Squeeze, Delete}
use Rattle.ptlangs.specs.declared.tr.plan.Form.TheVariants.{DeleteSqueeze}
use Rattle.ptopts.specs.Syntax.{letters}
use Rattle.ptopts.specs.Args.{ParsedOption, has, has_letter, has_option, value_of, values_of}
use Rattle.ptopts.specs.declared.tool.Tool.{Tool}
use Rattle.ptopts.specs.declared.tool.Tool.TheVariants.{Comm, Cut, Join, Paste, Tr, Uniq}

-- a fault; the letters are those of the options at fault
pub data Fault : Type 0 where
  NoTool : Fault
  Unknown : List ℕ → Fault
  NeedsValue : ℕ → Fault
  Twice : ℕ → Fault
  Together : ℕ → ℕ → Fault
  Value : ℕ → List ℕ → Fault
  Operands : Fault
  StandardTwice : Fault
  NeedsList : Fault
  -- in a string of `tr`
  InString : SetFault → Fault

-- the option was given before, and must not be repeated
abbrev pub is_repeated : Tool → List ParsedOption → ℕ → Bool
is_repeated tool before letter = has_option letter before && not (has_letter letter (letters tool).2)

-- ---- options that do not go together, and values

-- each of the first options that is there with the other one
abbrev pub together : List ParsedOption → String → String → List Fault
together os firsts other =
    map (λ a. Together a (byte other)) (filter (λ a. has_option a os && has os other) (codes firsts))

-- the list of `cut`: the value of `-b`, `-c` or `-f`
abbrev pub cut_list : List ParsedOption → Option (List ℕ)
cut_list os = option_or (value_of (byte "b") os) (option_or (value_of (byte "c") os) (value_of (byte "f") os))

-- the values of these options that fail the test
abbrev pub wrong : List ParsedOption → String → (List ℕ → Bool) → List Fault
wrong os options is_good =
    flat_map (λ letter. map (Value letter) (filter (λ value. not (is_good value)) (values_of letter os))) (codes options)

-- the line terminator
abbrev pub terminator_of : List ParsedOption → ℕ
terminator_of os = terminator (has os "z")

-- one byte that is not the line terminator
abbrev pub is_delimiter : List ParsedOption → List ℕ → Bool
is_delimiter os value = (length value == 1) && not (has_letter (terminator_of os) value)

-- ---- operands

-- the operand means standard input
abbrev pub is_standard : List ℕ → Bool
is_standard word = bytes_eq word (codes "-")

-- the number of operands is less than `least` or greater than `most`
abbrev pub count : ℕ → ℕ → List (List ℕ) → List Fault
count least most operands =
    if nat_le least (length operands) && nat_le (length operands) most then [] else Operands ∷ []

-- there are not two operands, or both are standard input
abbrev pub two_inputs : List (List ℕ) → List Fault
two_inputs operands = count 2 2 operands ++ (if list_all is_standard operands then StandardTwice ∷ [] else [])

-- the form of `tr`: with `-d` or not, with `-s` or not, and its strings
abbrev pub form : Bool → Bool → List (List ℕ) → Option Form
form false false (first ∷ second ∷ []) = Some Translate
form false true (first ∷ []) = Some Squeeze
form false true (first ∷ second ∷ []) = Some TranslateSqueeze
form true false (first ∷ []) = Some Delete
form true true (first ∷ second ∷ []) = Some DeleteSqueeze
form _ _ _ = None

-- the plan of `tr`, or the fault of its operands
abbrev pub tr_plan : List ParsedOption → List (List ℕ) → Result Plan Fault
tr_plan os strings = and_then (ok_or (form (has os "d") (has os "s") strings) Operands)
    (λ (f : Form). result_map_both (λ (p : Plan). p) InString
    (plan f (has os "c" || has os "C") (slice_index_or strings 0 []) (slice_get strings 1)))

-- ---- all faults

-- the faults of options and operands in the order of the checks
abbrev pub faults : Tool → List ParsedOption → List (List ℕ) → List Fault
faults Cut os operands =
    together os "b" "c" ++ together os "bc" "f" ++ (if is_some (cut_list os) then [] else NeedsList ∷ [])
    ++ together os "cf" "n" ++ together os "bc" "d" ++ together os "bc" "s"
    ++ wrong os "bcf" (λ value. is_ok (selection value)) ++ wrong os "d" (is_delimiter os) ++ count 0 512 operands
faults Paste os operands = wrong os "d" (λ value. is_ok (delim_list value)) ++ count 1 512 operands
faults Uniq os operands =
    together os "c" "d" ++ together os "cd" "u" ++ wrong os "fs" (λ value. is_some (number value)) ++ count 0 2 operands
faults Comm os operands = two_inputs operands
faults Join os operands =
    together os "a" "v" ++ wrong os "av" (λ value. bytes_eq value (codes "1") || bytes_eq value (codes "2"))
    ++ wrong os "o" (λ value. is_ok (out_list value)) ++ wrong os "t" (is_delimiter os)
    ++ wrong os "12" (λ value. nat_lt 0 (unwrap_or (number value) 0)) ++ two_inputs operands
faults Tr os operands = together os "c" "C" ++ option_to_list (result_err (tr_plan os operands))
