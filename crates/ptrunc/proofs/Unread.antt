-- A command that is given no sink to write to reads and writes nothing. And no command has status 4.
use Rattle.std.proofs.Common.{◌≡◌, ℕ, Bool, true, false, List, [], ◌∷◌, Option, Some, None, Result, Ok, Err, ap, refl}
use Rattle.std.proofs.Common.{arith, if◌then◌else◌, is_none, not, sym, ◌∙◌, take, bytes_eq, find, option_map}
use Rattle.std.specs.Prelude.{⊤}
use Rattle.std.proofs.lemmas.Bool.{true≢false}
use Rattle.std.specs.List.{list_any}
use Rattle.ptlines.specs.Sources.{SourceState}
use Rattle.ptlangs.specs.Numbers.{and_then}
use Rattle.ptopts.specs.Args.{ParsedOption}
use Rattle.ptopts.specs.Commands.{Command, command, command_of_args, file_names, or_stdin}
use Rattle.ptopts.specs.Commands.{order_from, output, read_words, unless_faulty}
use Rattle.ptopts.specs.Faults.{Fault, faults, is_standard}
use Rattle.ptopts.specs.Private.Commands.{command_of_tool}
use Rattle.ptopts.specs.declared.inputs.Input.TheVariants.{File, Standard}
use Rattle.ptopts.specs.Syntax.{tools}
use Rattle.ptrun.specs.Files.{InputBytes, is_reader_unopened}
use Rattle.ptrun.specs.Operands.{positions}
use Rattle.ptrun.specs.SpecOfArgs.{spec_of_args, spec_of_result, spec_unless_memory, tool_name}
use Rattle.ptfiles.specs.Files.{AreContents, Content, Input, new_readers}
use Rattle.ptfiles.specs.Shell.{command_to_run, has_standard_output, input_names, name_of_output, output_names}
use Rattle.ptfiles.specs.Shell.{valid_command}

-- ---- a command without a sink

abbrev Each : {T : Type 0} → (Option T → Type 0) → List (List ℕ × T) → Type 0
Each P [] = ⊤
Each P (t ∷ ts) = P (Some t.1) × Each P ts

of_each : {T : Type 0} (P : Option T → Type 0) (test : List ℕ × T → Bool) (ts : List (List ℕ × T)) → P None → Each P ts
    → P (option_map (λ t. t.1) (find test ts))
of_each P test [] none each = none
of_each {T} P test (t ∷ ts) none each = by_test (test t) (of_each P test ts none each.1)
  where
    by_test : (found : Bool) → P (option_map (λ t. t.1) (find test ts))
        → P (option_map (λ t. t.1) (if found then Some t else find test ts))
    by_test true others = each.0
    by_test false others = others

-- A property that every tool has, the tools of a list have, too. Their names do not matter here.
abbrev Every : {T : Type 0} → (T → Type 0) → List (List ℕ × T) → Type 0
Every P [] = ⊤
Every P (t ∷ ts) = P t.1 × Every P ts

every : {T : Type 0} (P : T → Type 0) → ((t : T) → P t) → (ts : List (List ℕ × T)) → Every P ts
every P of [] = tt
every P of (t ∷ ts) = (of t.1, every P of ts)

module _ (standard : SourceState) (content : ℕ → List ℕ → Option Content) (count : ℕ) where
  is_cons : {X : Type 0} {x : X} → x ∷ [] ≡ [] → ⊥
  is_cons is = cc

  -- `from_standard` says whether the operand is standard input, and `to_standard` whether the output is standard output.
  uniq_by : (from_standard to_standard : Bool) (input written : List ℕ) (inputs : List Input)
      → AreContents content count (if not from_standard then input ∷ [] else []) inputs
      → is_none (if to_standard then None else Some written) ≡ false
      → (if list_any (λ r. r.refused) (new_readers standard inputs) then []
      else name_of_output (if to_standard then None else Some written)) ≡ []
      → list_any (is_reader_unopened (new_readers standard inputs))
      (positions (if from_standard then Standard ∷ [] else File 0 ∷ [])) ≡ true
  uniq_by from_standard true input written inputs are some none = absurd (true≢false some)
  uniq_by true false input written [] are some none = absurd (is_cons none)
  uniq_by true false input written (i ∷ inputs) are some none = absurd (is_cons' are)
    where
      is_cons' : i ∷ inputs ≡ [] → ⊥
      is_cons' is = cc
  uniq_by false false input written [] are some none = absurd are
  uniq_by false false input written (None ∷ inputs) are some none = refl
  uniq_by false false input written (Some s ∷ []) are some none = absurd (is_cons none)
  uniq_by false false input written (Some s ∷ i ∷ inputs) are some none = absurd (is_cons' are.1)
    where
      is_cons' : i ∷ inputs ≡ [] → ⊥
      is_cons' is = cc

  module _ (word : List ℕ) (inputs : List Input) where
    abbrev IsUnread : Result Command Fault → Type 0
    IsUnread r = AreContents content count (input_names (valid_command r)) inputs
        → has_standard_output (valid_command r) ≡ false
        → output_names (valid_command r) (new_readers standard inputs) ≡ []
        → (spec_of_result word r).beyond.reads_nothing (is_reader_unopened (new_readers standard inputs)) ≡ true

    -- `uniq` has one input, and an output file if its second operand names one.
    abbrev IsUniq : (List (List ℕ) → Option (List ℕ)) → List (List ℕ) → Type 0
    IsUniq out operands = out [] ≡ None → ((input : List ℕ) → out (input ∷ []) ≡ None)
        → ((input written : List ℕ) (more : List (List ℕ))
        → out (input ∷ written ∷ more) ≡ (if is_standard written then None else Some written))
        → AreContents content count (file_names (take 1 (or_stdin operands))) inputs → is_none (out operands) ≡ false
        → (if list_any (λ r. r.refused) (new_readers standard inputs) then [] else name_of_output (out operands)) ≡ []
        → list_any (is_reader_unopened (new_readers standard inputs)) (positions (order_from 0 (take 1 (or_stdin operands))))
        ≡ true

    of_uniq : (out : List (List ℕ) → Option (List ℕ)) (operands : List (List ℕ)) → IsUniq out operands
    of_uniq out [] zero one two are some none = absurd (true≢false (ap is_none (sym zero) ∙ some))
    of_uniq out (input ∷ []) zero one two are some none = absurd (true≢false (ap is_none (sym (one input)) ∙ some))
    of_uniq out (input ∷ written ∷ more) zero one two are some none =
        uniq_by (is_standard input) (is_standard written) input written inputs are (rw (two input written more) at some)
        (rw (two input written more) at none)

    of_fault : (command : Command) (found : List Fault) → IsUnread (Ok command) → IsUnread (unless_faulty found command)
    of_fault command [] unread = unread
    of_fault command (fault ∷ more) unread = λ are some none. refl

    of_read : {T : Type 0} (reads : T → Result (List ParsedOption × List (List ℕ)) Fault)
        (check : T → List ParsedOption × List (List ℕ) → List Fault)
        (made : T → List ParsedOption → List (List ℕ) → Command) (tool : T)
        → ((os : List ParsedOption) (operands : List (List ℕ)) → IsUnread (Ok (made tool os operands)))
        → IsUnread (and_then (reads tool) (λ (o : List ParsedOption × List (List ℕ)).
        unless_faulty (check tool o) (made tool o.0 o.1)))
    of_read reads check made tool unread = by_result (reads tool)
      where
        by_result : (read : Result (List ParsedOption × List (List ℕ)) Fault)
            → IsUnread (and_then read (λ (o : List ParsedOption × List (List ℕ)).
            unless_faulty (check tool o) (made tool o.0 o.1)))
        by_result (Ok (os, operands)) =
            of_fault (made tool os operands) (check tool (os, operands)) (unread os operands)
        by_result (Err fault) = λ are some none. refl

    -- Each tool but `uniq`, the fifth, writes to standard output.
    of_args : (words : List (List ℕ)) → IsUnread (command_of_args words)
    of_args [] = λ are some none. refl
    of_args (name ∷ words) =
        let (cut, (paste, (join, (comm, (uniq, (tr, _)))))) =
        every (λ tool. ((os : List ParsedOption) (operands : List (List ℕ)) → IsUnread (Ok (command tool os operands)))
        → IsUnread (command_of_tool (Some tool) words))
        (λ tool unread. of_read (λ t. read_words t [] None words) (λ t o. faults t o.0 o.1) command tool unread) tools in
        of_each (λ tool. IsUnread (command_of_tool tool words)) (λ t. bytes_eq name t.0) tools (λ are some none. refl) (
          cut (λ os operands are some none. absurd {0} (true≢false some)),
          (
            paste (λ os operands are some none. absurd {0} (true≢false some)),
            (
              join (λ os operands are some none. absurd {0} (true≢false some)),
              (
                comm (λ os operands are some none. absurd {0} (true≢false some)),
                (
                  uniq (λ os operands.
                      let (_, (_, (_, (_, (is, _))))) = every (λ tool. IsUniq (output tool) operands)
                      (λ tool. of_uniq (output tool) operands) tools in
                      is refl (λ input. refl) (λ input written more. refl)),
                  (tr (λ os operands are some none. absurd {0} (true≢false some)), tt),
                ),
              ),
            ),
          ),
        )

pub nothing_is_read : (words : List (List ℕ)) (out_of_memory : Bool) (standard : SourceState) (inputs : List Input)
    (count : ℕ) (content : ℕ → List ℕ → Option Content)
    → AreContents content count (input_names (command_to_run words out_of_memory)) inputs
    → has_standard_output (command_to_run words out_of_memory) ≡ false
    → output_names (command_to_run words out_of_memory) (new_readers standard inputs) ≡ []
    → (spec_unless_memory words out_of_memory).beyond.reads_nothing (is_reader_unopened (new_readers standard inputs)) ≡ true
nothing_is_read words true standard inputs count content are some none = refl
nothing_is_read words false standard inputs count content are some none =
    of_args standard content count (tool_name words) inputs words are some none

-- ---- the status of a command

status_of_run : (failed : Bool) → ◌≡◌ {A = ℕ} (if failed then 1 else 0) 4 → ⊥
status_of_run true is = absurd (omega (arith, is))
status_of_run false is = absurd (omega (arith, is))

pub status_is_low : (words : List (List ℕ)) (w : InputBytes) → (spec_of_args words).status w ≡ 4 → ⊥
status_is_low words w = of_result (command_of_args words)
  where
    of_result : (r : Result Command Fault) → (spec_of_result (tool_name words) r).status w ≡ 4 → ⊥
    of_result (Ok c) is = status_of_run _ is
    of_result (Err fault) is = absurd (omega (arith, is))
