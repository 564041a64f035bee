-- The first fault of options and operands that were read is that of the code's checks, one after another
-- (`same_faults`), and without a fault their job is that of the code, so that they give the same command
-- (`same_command`).
use Rattle.ptopts.proofs
use Rattle.ptopts.specs
use proofs.Common.{Bool, Comm, Command, Cut, Err, Fault, Job, Join, List, None, Ok, Operands, Option, ParsedOption}
use proofs.Common.{Paste, Result, RunPaste, Some, StandardTwice, Tool, Tr, Uniq, Valid, [], ap, arith, codes}
use proofs.Common.{constraint_fault, constraints_fault, each_value_fault, false, find, first_some, has_option}
use proofs.Common.{input_operands, is_file_number, is_some, is_standard, is_within, length, list_all, map, not}
use proofs.Common.{ok_unless, operands_fault, option_and_then, option_map, parse_fault, refl, result_err}
use proofs.Common.{selected_set, sym, true, usual, value_of, ℕ, ◌&&◌, ◌++◌, ◌==◌, ◌∙◌, ◌∷◌, ◌≡◌}
use proofs.CommandGrammar.{once_to, step_once}
use specs.Args.{has_letter, values_of}
use specs.Commands.{RunCut, RunTr, checked_command, command, command_over, output, unless_faulty}
use specs.Commands as commands
use specs.Faults as read
use specs.Faults.{InString, NeedsList, Together, Value, count, cut_list, faults, is_delimiter}
use specs.Faults.{terminator_of, tr_plan, two_inputs}
use specs.Laws.Theorems.{AreGivenOnce}
use specs.Private.Faults.{cut_list_value, form, is_count, is_cut_list, is_delimiter_list, is_delimiter_value}
use specs.Private.Faults.{is_field_number, is_output_list, strings_fault, value_fault}
use specs.Private.Jobs.{cut_from_options, delimiters_of, identity_plan, job, paste_from_options, values_fault}
use specs.Private.Syntax.{constraints}
use specs.Syntax.{letters}
use specs.declared.tool.Constraint.TheVariants.{Conflict, Required}
use Rattle.ptlangs.specs.CutLists.{selection}
use Rattle.ptlangs.specs.DelimLists.{delim_list}
use Rattle.ptlangs.specs.Numbers.{and_then, number}
use Rattle.ptlangs.specs.TrPlan.{Plan, byte_map, plan}
use Rattle.ptlangs.specs.declared.faults.SetFault.{SetFault}
use Rattle.ptlangs.specs.declared.tr.plan.Form.{Form}
use Rattle.ptlangs.specs.declared.tr.plan.Form.TheVariants.{Delete, DeleteSqueeze, Squeeze, Translate}
use Rattle.ptlangs.specs.declared.tr.plan.Form.TheVariants.{TranslateSqueeze}
use Rattle.std.proofs.lemmas.List.Folds.{list_any-append}
use Rattle.std.specs.Option.{option_map_or, option_or}
use Rattle.std.specs.Prelude.{bytes_eq, filter, flat_map, if◌then◌else◌, nat_lt, ok_or, option_to_list}
use Rattle.std.specs.Prelude.{slice_get, slice_index_or, unwrap_or, ◌||◌}
use Rattle.std.specs.Result.{result_map_both, result_unwrap_or}

-- ---- the first fault of a list

abbrev first_of : List Fault → Option Fault
first_of [] = None
first_of (f ∷ fs) = Some f

both : (xs ys : List Fault) → first_of (xs ++ ys) ≡ option_or (first_of xs) (first_of ys)
both [] ys = refl
both (x ∷ xs) ys = refl

all : (xs ys : List (Option Fault)) → first_some (xs ++ ys) ≡ option_or (first_some xs) (first_some ys)
all [] ys = refl
all (None ∷ xs) ys = all xs ys
all (Some x ∷ xs) ys = refl

-- the first fault of a list is that of these checks
record IsFirst (fs : List Fault) (checks : List (Option Fault)) : Type 0 where
  is : first_of fs ≡ first_some checks

none : IsFirst [] []
none = record { is = refl }

next : {xs ys : List Fault} {ps qs : List (Option Fault)} → IsFirst xs ps → IsFirst ys qs → IsFirst (xs ++ ys) (ps ++ qs)
next {xs} {ys} {ps} {qs} first others = record {
  is = both xs ys ∙ rw (first.is, others.is) (sym (all ps qs));
}

-- ---- two options

pair_is : (os : List ParsedOption) (a b : ℕ)
    → first_of (map (λ x. Together x b) (filter (λ x. has_option x os && has_option b os) (a ∷ [])))
    ≡ first_some (constraint_fault os (Conflict a b) ∷ [])
pair_is = grind arith

pair : (os : List ParsedOption) (a b : ℕ)
    → IsFirst (map (λ x. Together x b) (filter (λ x. has_option x os && has_option b os) (a ∷ [])))
    (constraint_fault os (Conflict a b) ∷ [])
pair os a b = record { is = pair_is os a b }

pairs_are : (os : List ParsedOption) (a b c : ℕ)
    → first_of (map (λ x. Together x c) (filter (λ x. has_option x os && has_option c os) (a ∷ b ∷ [])))
    ≡ first_some (constraint_fault os (Conflict a c) ∷ constraint_fault os (Conflict b c) ∷ [])
pairs_are = grind arith

pairs : (os : List ParsedOption) (a b c : ℕ)
    → IsFirst (map (λ x. Together x c) (filter (λ x. has_option x os && has_option c os) (a ∷ b ∷ [])))
    (constraint_fault os (Conflict a c) ∷ constraint_fault os (Conflict b c) ∷ [])
pairs os a b c = record { is = pairs_are os a b c }

listed_is : (os : List ParsedOption)
    → first_of (if is_some (cut_list os) then [] else NeedsList ∷ [])
    ≡ first_some (constraint_fault os (Required 98 99 102) ∷ [])
listed_is = grind arith

listed : (os : List ParsedOption)
    → IsFirst (if is_some (cut_list os) then [] else NeedsList ∷ []) (constraint_fault os (Required 98 99 102) ∷ [])
listed os = record { is = listed_is os }

-- ---- values

module _ (tool : Tool) (letter : ℕ) (once : has_letter letter (letters tool).2 ≡ false) where
  no_more : (before os : List ParsedOption) → has_option letter before ≡ true
      → parse_fault tool before (map Valid os) ≡ None → values_of letter os ≡ []
  no_more before [] has none = refl
  no_more before (o ∷ os) has none =
      let (fresh, later) = step_once tool before os o none in
      let more = no_more (before ++ o ∷ []) os (grind (usual, has)) later in
      grind (arith, fresh, more, has, once)

  one_value : (before os : List ParsedOption) → parse_fault tool before (map Valid os) ≡ None
      → values_of letter os ≡ option_to_list (value_of letter os)
  one_value before [] none = refl
  one_value before (o ∷ os) none =
      let (fresh, later) = step_once tool before os o none in
      let more = one_value (before ++ o ∷ []) os later in
      let last : o.letter ≡ letter → values_of letter os ≡ [] =
      λ same. no_more (before ++ o ∷ []) os (grind (usual, same)) later in
      grind (arith, more, last)

each : (letter : ℕ) (good other : List ℕ → Bool) → ((value : List ℕ) → good value ≡ other value) → (vs : List (List ℕ))
    → first_of (map (Value letter) (filter (λ value. not (good value)) vs))
    ≡ option_map (Value letter) (find (λ value. not (other value)) vs)
each letter good other same [] = refl
each letter good other same (v ∷ vs) = grind (arith, same v, each letter good other same vs)

-- the wrong values of options, one option after another
wrong_next : (os : List ParsedOption) (letter : ℕ) (letters : List ℕ) (good other : List ℕ → Bool) (v : Option Fault)
    {rest : List (Option Fault)}
    → ((value : List ℕ) → good value ≡ other value) → each_value_fault os (letter, other) ≡ v
    → IsFirst (flat_map (λ l. map (Value l) (filter (λ value. not (good value)) (values_of l os))) letters) rest
    → IsFirst (flat_map (λ l. map (Value l) (filter (λ value. not (good value)) (values_of l os))) (letter ∷ letters))
    (v ∷ rest)
wrong_next os letter letters good other v {rest} same is more =
    record {
      is = both (map (Value letter) (filter (λ value. not (good value)) (values_of letter os)))
          (flat_map (λ l. map (Value l) (filter (λ value. not (good value)) (values_of l os))) letters)
          ∙ rw (each letter good other same (values_of letter os), is, more.is) refl;
    }

given_once : (os : List ParsedOption) (letter : ℕ) (good : List ℕ → Bool)
    → values_of letter os ≡ option_to_list (value_of letter os)
    → each_value_fault os (letter, good) ≡ value_fault os (letter, good)
given_once os letter good is = rw is (by_value (value_of letter os))
  where
    by_value : (v : Option (List ℕ)) → option_map (Value letter) (find (λ value. not (good value)) (option_to_list v))
        ≡ option_and_then (λ value. if good value then None else Some (Value letter value)) v
    by_value None = refl
    by_value (Some value) = grind arith

same_delimiter : (t : ℕ) (value : List ℕ) → ((length value == 1) && not (has_letter t value)) ≡ is_delimiter_value t value
same_delimiter t [] = refl
same_delimiter t (b ∷ []) = grind arith
same_delimiter t (b ∷ c ∷ bs) = grind arith

same_number : (value : List ℕ) → nat_lt 0 (unwrap_or (number value) 0) ≡ is_field_number value
same_number value = by_number (number value)
  where
    by_number : (v : Option ℕ) → nat_lt 0 (unwrap_or v 0) ≡ option_map_or (λ n. not (n == 0)) v false
    by_number None = refl
    by_number (Some n) = grind arith

-- ---- operands

counted : (least most : ℕ) (operands : List (List ℕ)) (x : Bool)
    → first_of (count least most operands)
    ≡ first_some ((if not (is_within least most (length operands) && true) then Some Operands
    else (if false && x then Some StandardTwice else None)) ∷ None ∷ [])
counted = grind arith

two : (operands : List (List ℕ))
    → first_of (two_inputs operands)
    ≡ first_some ((if not (is_within 2 2 (length operands) && true) then Some Operands
    else (if true && list_all is_standard operands then Some StandardTwice else None)) ∷ None ∷ [])
two = grind arith

-- ---- the strings of `tr`

of_strings : (r : Result Plan SetFault)
    → first_of (option_to_list (result_err (result_map_both (λ (p : Plan). p) InString r)))
    ≡ option_or (option_map InString (result_err r)) None
of_strings (Ok p) = refl
of_strings (Err e) = refl

plan_or : (r : Result Plan SetFault)
    → result_unwrap_or (result_map_both (λ (p : Plan). p) InString r) identity_plan ≡ result_unwrap_or r identity_plan
plan_or (Ok p) = refl
plan_or (Err e) = refl

-- `-d`, `-s` and the strings of `tr`, which are complemented or not
abbrev wrong_number : Bool → Bool → List (List ℕ) → Option Fault
wrong_number d s strings = let n = length strings in
    if not (is_within 1 2 n && (if d then (if s then n == 2 else n == 1) else s || n == 2)) then Some Operands
    else (if false && list_all is_standard strings then Some StandardTwice else None)

abbrev new_plan : Bool → Bool → Bool → List (List ℕ) → Result Plan Fault
new_plan d s c strings = and_then (ok_or (read.form d s strings) Operands) (λ (f : Form).
    result_map_both (λ (p : Plan). p) InString (plan f c (slice_index_or strings 0 []) (slice_get strings 1)))

abbrev old_plan : Bool → Bool → Bool → List (List ℕ) → Result Plan SetFault
old_plan d s c strings = plan (form d s (length strings)) c (slice_index_or strings 0 []) (slice_get strings 1)

too_many : (d s : Bool) (a b e : List ℕ) (more : List (List ℕ)) → wrong_number d s (a ∷ b ∷ e ∷ more) ≡ Some Operands
too_many = grind arith

not_none : {o : Option Fault} → o ≡ Some Operands → o ≡ None → ⊥
not_none is none = cc

abbrev IsSamePlan : Bool → Bool → Bool → List (List ℕ) → Type 0
IsSamePlan d s c strings = (first_of (option_to_list (result_err (new_plan d s c strings)))
    ≡ option_or (wrong_number d s strings) (option_or (option_map InString (result_err (old_plan d s c strings))) None))
    × (wrong_number d s strings ≡ None → result_unwrap_or (new_plan d s c strings) identity_plan
    ≡ result_unwrap_or (old_plan d s c strings) identity_plan)

same_plan : (d s c : Bool) (strings : List (List ℕ)) → IsSamePlan d s c strings
same_plan false false c [] = (refl, λ none. cc)
same_plan false true c [] = (refl, λ none. cc)
same_plan true false c [] = (refl, λ none. cc)
same_plan true true c [] = (refl, λ none. cc)
same_plan false false c (a ∷ []) = (refl, λ none. cc)
same_plan false true c (a ∷ []) = (of_strings (plan Squeeze c a None), λ none. plan_or (plan Squeeze c a None))
same_plan true false c (a ∷ []) = (of_strings (plan Delete c a None), λ none. plan_or (plan Delete c a None))
same_plan true true c (a ∷ []) = (refl, λ none. cc)
same_plan false false c (a ∷ b ∷ []) =
    (of_strings (plan Translate c a (Some b)), λ none. plan_or (plan Translate c a (Some b)))
same_plan false true c (a ∷ b ∷ []) =
    (of_strings (plan TranslateSqueeze c a (Some b)), λ none. plan_or (plan TranslateSqueeze c a (Some b)))
same_plan true false c (a ∷ b ∷ []) = (refl, λ none. cc)
same_plan true true c (a ∷ b ∷ []) =
    (of_strings (plan DeleteSqueeze c a (Some b)), λ none. plan_or (plan DeleteSqueeze c a (Some b)))
same_plan false false c (a ∷ b ∷ e ∷ more) =
    (rw (too_many false false a b e more) refl, λ none. absurd (not_none (too_many false false a b e more) none))
same_plan false true c (a ∷ b ∷ e ∷ more) =
    (rw (too_many false true a b e more) refl, λ none. absurd (not_none (too_many false true a b e more) none))
same_plan true false c (a ∷ b ∷ e ∷ more) =
    (rw (too_many true false a b e more) refl, λ none. absurd (not_none (too_many true false a b e more) none))
same_plan true true c (a ∷ b ∷ e ∷ more) =
    (rw (too_many true true a b e more) refl, λ none. absurd (not_none (too_many true true a b e more) none))

-- ---- all faults

grouped : (cs vs : List (Option Fault)) (n s : Option Fault)
    → first_some (cs ++ (vs ++ n ∷ s ∷ [])) ≡ first_some (first_some cs ∷ first_some vs ∷ n ∷ s ∷ [])
grouped cs vs n s = all cs (vs ++ n ∷ s ∷ []) ∙ ap (option_or (first_some cs)) (all vs (n ∷ s ∷ []))

alone : (v : Option Fault) → option_or v None ≡ v
alone None = refl
alone (Some f) = refl

abbrev pub checks : Tool → List ParsedOption → List (List ℕ) → Option Fault
checks tool os operands = first_some (
    constraints_fault tool os ∷ values_fault tool os ∷ operands_fault tool os operands
    ∷ strings_fault tool os operands ∷ [])

module _ (os : List ParsedOption) (operands : List (List ℕ)) where
  abbrev conflicts : Tool → List (Option Fault)
  conflicts tool = map (constraint_fault os) (constraints tool)

  number_is : (least most : ℕ) (x : Bool) → IsFirst (count least most operands)
      ((if not (is_within least most (length operands) && true) then Some Operands
      else (if false && x then Some StandardTwice else None)) ∷ None ∷ [])
  number_is least most x = record { is = counted least most operands x }

  two_are : IsFirst (two_inputs operands)
      ((if not (is_within 2 2 (length operands) && true) then Some Operands
      else (if true && list_all is_standard operands then Some StandardTwice else None)) ∷ None ∷ [])
  two_are = record { is = two operands }

  module _ (tool : Tool) (once : AreGivenOnce tool os) where
    single : (letter : ℕ) (good : List ℕ → Bool) → has_letter letter (letters tool).2 ≡ false
        → each_value_fault os (letter, good) ≡ value_fault os (letter, good)
    single letter good not_repeated =
        given_once os letter good (one_value tool letter not_repeated [] os (once_to tool [] os once))

  delimiter_is : (tool : Tool) (once : AreGivenOnce tool os) (letter : ℕ) → has_letter letter (letters tool).2 ≡ false
      → IsFirst (flat_map (λ l. map (Value l) (filter (λ value. not (is_delimiter os value)) (values_of l os)))
      (letter ∷ []))
      (value_fault os (letter, is_delimiter_value (terminator_of os)) ∷ [])
  delimiter_is tool once letter not_repeated =
      wrong_next os letter [] (is_delimiter os) (is_delimiter_value (terminator_of os)) _ (same_delimiter (terminator_of os))
      (single tool once letter (is_delimiter_value (terminator_of os)) not_repeated) none

  cut_faults : AreGivenOnce Cut os → first_of (faults Cut os operands) ≡ checks Cut os operands
  cut_faults once = (next (next (next (next (next (next (next (next (pair os 98 99) (pairs os 98 99 102)) (listed os))
      (pairs os 99 102 110)) (pairs os 98 99 100)) (pairs os 98 99 115))
      (wrong_next os 98 (99 ∷ 102 ∷ []) is_cut_list is_cut_list _ (λ v. refl) (single Cut once 98 is_cut_list refl)
      (wrong_next os 99 (102 ∷ []) is_cut_list is_cut_list _ (λ v. refl) (single Cut once 99 is_cut_list refl)
      (wrong_next os 102 [] is_cut_list is_cut_list _ (λ v. refl) (single Cut once 102 is_cut_list refl) none))))
      (delimiter_is Cut once 100 refl)) (number_is 0 512 (list_all is_standard operands))).is
      ∙ grouped (conflicts Cut) (map (value_fault os) (
      (98, is_cut_list) ∷ (99, is_cut_list) ∷ (102, is_cut_list)
      ∷ (100, is_delimiter_value (terminator_of os)) ∷ [])) (operands_fault Cut os operands) None

  paste_faults : AreGivenOnce Paste os → first_of (faults Paste os operands) ≡ checks Paste os operands
  paste_faults once = (next
      (wrong_next os 100 [] is_delimiter_list is_delimiter_list _ (λ v. refl)
      (single Paste once 100 is_delimiter_list refl) none)
      (number_is 1 512 (list_all is_standard operands))).is
      ∙ grouped [] (value_fault os (100, is_delimiter_list) ∷ []) (operands_fault Paste os operands) None
      ∙ ap (λ v. option_or v (option_or (operands_fault Paste os operands) None))
      (alone (value_fault os (100, is_delimiter_list)))

  uniq_faults : AreGivenOnce Uniq os → first_of (faults Uniq os operands) ≡ checks Uniq os operands
  uniq_faults once = (next (next (next (pair os 99 100) (pairs os 99 100 117))
      (wrong_next os 102 (115 ∷ []) is_count is_count _ (λ v. refl) (single Uniq once 102 is_count refl)
      (wrong_next os 115 [] is_count is_count _ (λ v. refl) (single Uniq once 115 is_count refl) none)))
      (number_is 0 2 (list_all is_standard operands))).is
      ∙ grouped (conflicts Uniq) (map (value_fault os) ((102, is_count) ∷ (115, is_count) ∷ []))
      (operands_fault Uniq os operands) None

  join_faults : AreGivenOnce Join os → first_of (faults Join os operands) ≡ checks Join os operands
  join_faults once = (next (next (next (next (next (pair os 97 118)
      (wrong_next os 97 (118 ∷ []) is_file_number is_file_number _ (λ v. refl) refl
      (wrong_next os 118 [] is_file_number is_file_number _ (λ v. refl) refl none)))
      (wrong_next os 111 [] is_output_list is_output_list _ (λ v. refl)
      (single Join once 111 is_output_list refl) none))
      (delimiter_is Join once 116 refl))
      (wrong_next os 49 (50 ∷ []) (λ value. nat_lt 0 (unwrap_or (number value) 0)) is_field_number _ same_number
      (single Join once 49 is_field_number refl)
      (wrong_next os 50 [] (λ value. nat_lt 0 (unwrap_or (number value) 0)) is_field_number _ same_number
      (single Join once 50 is_field_number refl) none)))
      two_are).is
      ∙ grouped (conflicts Join) (
      each_value_fault os (97, is_file_number) ∷ each_value_fault os (118, is_file_number)
      ∷ map (value_fault os) (
      (111, is_output_list) ∷ (116, is_delimiter_value (terminator_of os)) ∷ (49, is_field_number)
      ∷ (50, is_field_number) ∷ [])) (operands_fault Join os operands) None

  strings_are : IsFirst (option_to_list (result_err (tr_plan os operands)))
      (operands_fault Tr os operands ∷ strings_fault Tr os operands ∷ [])
  strings_are = record {
    is = (same_plan (has_option 100 os) (has_option 115 os) (has_option 99 os || has_option 67 os) operands).0;
  }

  pub same_faults : (tool : Tool) → AreGivenOnce tool os → first_of (faults tool os operands) ≡ checks tool os operands
  same_faults Cut once = cut_faults once
  same_faults Paste once = paste_faults once
  same_faults Uniq once = uniq_faults once
  same_faults Comm once = two_are.is ∙ grouped [] [] (operands_fault Comm os operands) None
  same_faults Join once = join_faults once
  same_faults Tr once = (next (pair os 99 67) strings_are).is
      ∙ grouped (conflicts Tr) [] (operands_fault Tr os operands) (strings_fault Tr os operands)

-- ---- the command

selected_same : (v : Option (List ℕ))
    → result_unwrap_or (selection (unwrap_or v [])) (λ n. false) ≡ unwrap_or (option_map selected_set v) (λ n. false)
selected_same None = refl
selected_same (Some value) = refl

delimiters_same : (v : Option (List ℕ))
    → result_unwrap_or (delim_list (unwrap_or v (9 ∷ []))) [] ≡ unwrap_or (option_map delimiters_of v) (Some 9 ∷ [])
delimiters_same None = refl
delimiters_same (Some value) = refl

cut_list_same : (os : List ParsedOption) → cut_list os ≡ cut_list_value os
cut_list_same = grind arith

module _ (os : List ParsedOption) (operands : List (List ℕ)) where
  job_same : (tool : Tool) → operands_fault tool os operands ≡ None → commands.job tool os operands ≡ job tool os operands
  job_same Cut none = ap (λ (v : ℕ → Bool). RunCut (record (cut_from_options os) { selected = v }))
      (selected_same (cut_list os) ∙ ap (λ v. unwrap_or (option_map selected_set v) (λ n. false)) (cut_list_same os))
  job_same Paste none = ap (λ (v : List (Option ℕ)). RunPaste (record (paste_from_options os) { delimiters = v }))
      (delimiters_same (value_of 100 os))
  job_same Uniq none = refl
  job_same Comm none = refl
  job_same Join none = rw (
    list_any-append (bytes_eq (codes "1")) (values_of 97 os) (values_of 118 os),
    list_any-append (bytes_eq (codes "2")) (values_of 97 os) (values_of 118 os),
  ) refl
  job_same Tr none = ap (λ p. RunTr (byte_map p))
      ((same_plan (has_option 100 os) (has_option 115 os) (has_option 99 os || has_option 67 os) operands).1 none)

  abbrev pub old_command : Tool → Command
  old_command tool = command_over (job tool os operands) (input_operands tool operands) (output tool operands)

  no_fault_of_operands : (a b c d : Option Fault) → first_some (a ∷ b ∷ c ∷ d ∷ []) ≡ None → c ≡ None
  no_fault_of_operands = grind arith

  by_first : (tool : Tool) (fs : List Fault) → first_of fs ≡ checks tool os operands
      → unless_faulty fs (command tool os operands) ≡ ok_unless (checks tool os operands) (old_command tool)
  by_first tool (f ∷ fs) is = rw (sym is) refl
  by_first tool [] is = rw (sym is) (ap (λ (j : Job). Ok (command_over j (input_operands tool operands) (output tool operands)))
      (job_same tool (no_fault_of_operands _ _ _ _ (sym is))))

  -- options and operands give the command, or the fault, that the code's checks give
  pub same_command : (tool : Tool) → AreGivenOnce tool os
      → checked_command tool (os, operands) ≡ ok_unless (checks tool os operands) (old_command tool)
  same_command tool once = by_first tool (faults tool os operands) (same_faults os operands tool once)
