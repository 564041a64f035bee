-- A run without a failure has a message if and only if its status is not 0. Each message ends with newline, so none is
-- empty; and what gives a message gives the status.
use Rattle.std.proofs.Common.{◌≡◌, ℕ, List, [], ◌∷◌, ◌++◌, Bool, true, false, refl, length, arith, Option, Some}
use Rattle.std.proofs.Common.{None, Result, Ok, Err, take, subst, sym, ◌∙◌, ap, length-append}
use Rattle.std.proofs.lemmas.List.{append-nil, take_all}
use Rattle.std.specs.Prelude.{◌||◌, codes, ◌↔◌, if◌then◌else◌, flat_map}
use mathlib.Core.Bool.{true≢false}
use Rattle.std.specs.List.{list_any}
use Rattle.ptrun.proofs.SameSpecs.{spec_same}
use Rattle.ptrun.specs.Files.{is_unopened}
use Rattle.ptrun.specs.Messages.{string_word, kind_word}
use Rattle.ptrun.specs.Calls.Runs.{usage_message}
use Rattle.ptrun.specs.Private.Messages.{disorder_status, disorder_text, unopened_messages}
use Rattle.ptrun.specs.Private.Tools.{ToolInRun, OneByOne, Together, spec_of_tool, tool_of_job}
use Rattle.ptopts.specs.Faults.{Fault, NoTool, Unknown, NeedsValue, Twice, Together as Conflict, Value, Operands}
use Rattle.ptopts.specs.Faults.{StandardTwice, NeedsList, InString}
use Rattle.ptopts.specs.Commands.{Command, command_of_args}
use Rattle.ptrun.specs.SpecOfArgs.{spec_of_result, tool_name}
use Rattle.ptrun.specs.Laws.Silence.{SilentIfZero, IsSilentIfZero}

not_empty : (xs : List ℕ) → xs ++ 10 ∷ [] ≡ [] → ⊥
not_empty xs e = omega (arith, length-append xs (10 ∷ []), ap (λ l. length l) e)

front_empty : (xs ys : List ℕ) → xs ++ ys ≡ [] → length xs ≡ 0
front_empty xs ys e = omega (arith, length-append xs ys, ap (λ l. length l) e)

message_step : (b any : Bool) (text rest : List ℕ) → (any ≡ false) ↔ (rest ≡ [])
    → ((b || any) ≡ false) ↔ ((if b then text ++ 10 ∷ [] else []) ++ rest ≡ [])
message_step true any text rest known = (
  λ e. absurd (true≢false e),
  λ e. absurd (omega (
    arith,
    length-append text (10 ∷ []),
    front_empty (text ++ 10 ∷ []) rest e,
  )),
)
message_step false any text rest known = known

message_iff : (tool : List ℕ) (names : List (List ℕ)) (test : ℕ → Bool) (ps : List ℕ)
    → (list_any test ps ≡ false) ↔ (unopened_messages tool names test ps ≡ [])
message_iff tool names test [] = (λ e. refl, λ e. refl)
message_iff tool names test (p ∷ ps) =
    message_step (test p) (list_any test ps) _ _ (message_iff tool names test ps)

ends_with_line : (front text : List ℕ) → front ++ (text ++ 10 ∷ []) ≡ [] → ⊥
ends_with_line front text e =
    omega (arith, length-append front (text ++ 10 ∷ []), length-append text (10 ∷ []), ap (λ l. length l) e)

one≢zero : {A : Type 0} → ◌≡◌ {A = ℕ} 1 0 → A
one≢zero e = absurd (omega (arith, e))

-- the rest of the messages: about a line out of order
joint_step : (u : Bool) (text : List ℕ) (word : List ℕ) (names : List (List ℕ)) (found : Option (ℕ × ℕ))
    → (u ≡ false) ↔ (text ≡ [])
    → ((if u then 1 else disorder_status found) ≡ 0)
    ↔ (text ++ (if u then [] else disorder_text word names found) ≡ [])
joint_step true text word names found known =
    (λ e. one≢zero e, λ e. absurd (true≢false (known.1 (sym (append-nil text) ∙ e))))
joint_step false text word names None known = (λ e. append-nil text ∙ known.0 refl, λ e. refl)
joint_step false text word names (Some found) known =
    (λ e. one≢zero e, λ e. absurd (ends_with_line text _ e))

sequential_step : (u : Bool) (text : List ℕ) → (u ≡ false) ↔ (text ≡ [])
    → (◌≡◌ {A = ℕ} (if u then 1 else 0) 0) ↔ (text ++ [] ≡ [])
sequential_step true text known = (λ e. one≢zero e, λ e. absurd (true≢false (known.1 (sym (append-nil text) ∙ e))))
sequential_step false text known = (λ e. append-nil text ∙ known.0 refl, λ e. refl)

all_messages_iff : (tool : List ℕ) (names : List (List ℕ)) (test : ℕ → Bool) (ps : List ℕ)
    → (list_any test ps ≡ false) ↔ (unopened_messages tool names test (take (length ps) ps) ≡ [])
all_messages_iff tool names test ps = rw (take_all (length ps) ps (omega arith)) (message_iff tool names test ps)

of_tool : (word : List ℕ) (names : List (List ℕ)) (tool : ToolInRun) (ps : List ℕ)
    → IsSilentIfZero (spec_of_tool word tool names ps)
of_tool word names (OneByOne t) ps w =
    sequential_step (list_any (is_unopened w) ps) _ (all_messages_iff word names (is_unopened w) ps)
of_tool word names (Together t) ps w =
    joint_step (list_any (is_unopened w) ps) _ word names _ (all_messages_iff word names (is_unopened w) ps)

usage_not_empty : (tool : List ℕ) (fault : Fault) → usage_message tool (Some fault) ≡ [] → ⊥
usage_not_empty tool NoTool e = omega (arith, ap (λ l. length l) e)
usage_not_empty tool (Unknown word) e = not_empty _ e
usage_not_empty tool (NeedsValue l) e = not_empty _ e
usage_not_empty tool (Twice l) e = not_empty _ e
usage_not_empty tool (Conflict a b) e = not_empty _ e
usage_not_empty tool (Value l value) e = not_empty _ e
usage_not_empty tool Operands e = not_empty _ e
usage_not_empty tool StandardTwice e = not_empty _ e
usage_not_empty tool NeedsList e = omega (arith, ap (λ l. length l) e)
usage_not_empty tool (InString fault) e =
    not_empty (flat_map (λ p. p) (codes "tr: wrong " ∷ string_word fault.string ∷ codes ": " ∷ kind_word fault.kind ∷
    [])) e

of_result : (tool : List ℕ) (r : Result Command Fault) → IsSilentIfZero (spec_of_result tool r)
of_result tool (Ok c) w =
    subst (λ m. IsSilentIfZero m) (sym (spec_same tool c)) (of_tool tool c.names (tool_of_job c.job) _) w
of_result tool (Err fault) w =
    (λ e. absurd (omega (arith, e)), λ e. absurd (usage_not_empty tool fault e))

pub silent_if_zero : SilentIfZero
silent_if_zero words = of_result (tool_name words) (command_of_args words)
