-- Words are read as the grammar spells them (`read_as_spelled`), and specify a command exactly if it gives them options
-- and operands without a fault.
use Rattle.ptopts.proofs
use proofs.Common.{Command, Err, Fault, IsTrue, List, None, Ok, Option, ParsedOption, ReadingMatchesGrammar, Result}
use proofs.Common.{Some}
use proofs.Common.{Spells, Tool, Valid, [], ap, append-nil, append_assoc, arith, command_of_args, false}
use proofs.Common.{is_repeated, is_some, map, ok_unless, options, parse_fault, parsed_args, refl, subst}
use proofs.Common.{sym}
use proofs.Common.{tool_of_name, ℕ, ◌++◌, ◌∙◌, ◌∷◌, ◌≡◌}
use proofs.ParsedIsSpelled.{options-map, spelled_if_fine}
use proofs.ReadWords.{read_is_told}
use proofs.SpelledIsParsed.{spelled}
use Rattle.ptlangs.specs.Numbers.{and_then}
use Rattle.ptopts.specs.Faults.{NoTool}
use Rattle.std.specs.Prelude.{ok_or}
use Rattle.ptopts.specs.Commands.{checked_command, read_words, unless_faulty}
use Rattle.ptopts.specs.Laws.Theorems.{AreGivenOnce, CommandsMatchGrammar, Spelled, SpellsCommand}

-- like `AreGivenOnce`, for options after others
abbrev AreGivenOnceAfter : Tool → List ParsedOption → List ParsedOption → Type 0
AreGivenOnceAfter tool first os = (before after : List ParsedOption) (o : ParsedOption)
    → os ≡ before ++ o ∷ after → IsTrue (is_some o.value) → is_repeated tool (first ++ before) o.letter ≡ false

pub step_once : (tool : Tool) (first os : List ParsedOption) (x : ParsedOption)
    → parse_fault tool first (map Valid (x ∷ os)) ≡ None
    → (IsTrue (is_some x.value) → is_repeated tool first x.letter ≡ false)
    × (parse_fault tool (first ++ x ∷ []) (map Valid os) ≡ None)
step_once = grind arith

once_in : (tool : Tool) (first before after : List ParsedOption) (o : ParsedOption)
    → parse_fault tool first (map Valid (before ++ o ∷ after)) ≡ None
    → IsTrue (is_some o.value) → is_repeated tool (first ++ before) o.letter ≡ false
once_in tool first [] after o none = rw append-nil (step_once tool first after o none).0
once_in tool first (x ∷ before) after o none =
    rw append_assoc at (once_in tool (first ++ x ∷ []) before after o
    (step_once tool first (before ++ o ∷ after) x none).1)

pub once_to : (tool : Tool) (first os : List ParsedOption) → AreGivenOnceAfter tool first os
    → parse_fault tool first (map Valid os) ≡ None
once_to _ _ [] once = refl
once_to tool first (x ∷ os) once =
    let later = once_to tool (first ++ x ∷ []) os (λ before after o is some. rw append_assoc
    (once (x ∷ before) after o (ap (λ ys. x ∷ ys) is) some)) in
    grind (arith, append-nil, once [] os x refl, later)

unless_ok : {A E : Type 0} (e : Option E) (x y : A) → ok_unless e x ≡ Ok y → (e ≡ None) × (x ≡ y)
unless_ok = grind arith

read_from : (tool : Tool) (words : List (List ℕ)) (os : List ParsedOption) (operands : List (List ℕ))
    → Spells tool words os operands × AreGivenOnce tool os → read_words tool [] None words ≡ Ok (os, operands)
read_from tool words os operands (s, once) =
    grind (arith, read_is_told, spelled, options-map, once_to tool [] os once)

pub read_to : (tool : Tool) (words : List (List ℕ)) (os : List ParsedOption) (operands : List (List ℕ))
    → read_words tool [] None words ≡ Ok (os, operands) → Spells tool words os operands × AreGivenOnce tool os
read_to tool words os operands is =
    let r = parsed_args tool words in
    let (faultless, same) = unless_ok (parse_fault tool [] r.tokens) (options r, r.operands) (os, operands)
    (sym (read_is_told tool words) ∙ is) in
    let s = spelled_if_fine tool words faultless in
    let all : (Spells tool words (options r) r.operands × AreGivenOnce tool (options r)) =
    (s, λ before after o is. once_in tool [] before after o (rw is at (rw (spelled _ s) at faultless))) in
    subst (λ (p : List ParsedOption × List (List ℕ)). Spells tool words p.0 p.1 × AreGivenOnce tool p.0) same all

pub read_as_spelled : ReadingMatchesGrammar
read_as_spelled tool words os operands = (read_from tool words os operands, read_to tool words os operands)

faultless_ok : {A : Type 0} (fs : List Fault) (x y : A) → unless_faulty fs x ≡ Ok y → (fs ≡ []) × (x ≡ y)
faultless_ok = grind arith

checked_ok : (name : List ℕ) (words : List (List ℕ)) (tool : Tool) (os : List ParsedOption) (operands : List (List ℕ))
    (c : Command) → tool_of_name name ≡ Some tool → Spells tool words os operands × AreGivenOnce tool os
    → checked_command tool (os, operands) ≡ Ok c → SpellsCommand (name ∷ words) c
checked_ok name words tool os operands c named (s, once) is =
    let (none, same) = faultless_ok _ _ c is in
    rw (sym same) (Spelled name words tool os operands named s (record { once = once; faultless = none }))

spelled_if_meant : (name : List ℕ) (words : List (List ℕ)) (tool : Tool) (c : Command)
    (r : Result (List ParsedOption × List (List ℕ)) Fault) → tool_of_name name ≡ Some tool
    → read_words tool [] None words ≡ r → and_then r (checked_command tool) ≡ Ok c → SpellsCommand (name ∷ words) c
spelled_if_meant name words tool c (Err e) named read is = cc
spelled_if_meant name words tool c (Ok (os, operands)) named read is =
    checked_ok name words tool os operands c named (read_to tool words os operands read) is

meant_from : (words : List (List ℕ)) (c : Command) → SpellsCommand words c → command_of_args words ≡ Ok c
meant_from _ c (Spelled name rest tool os operands named s a) = grind (arith, read_from)

from_name : (name : List ℕ) (words : List (List ℕ)) (c : Command) (found : Option Tool) → tool_of_name name ≡ found
    → and_then (ok_or found NoTool) (λ (tool : Tool). and_then (read_words tool [] None words) (checked_command tool))
    ≡ Ok c → SpellsCommand (name ∷ words) c
from_name name words c None named is = cc
from_name name words c (Some tool) named is = spelled_if_meant name words tool c _ named refl is

spelled_from : (words : List (List ℕ)) (c : Command) → command_of_args words ≡ Ok c → SpellsCommand words c
spelled_from [] c is = cc
spelled_from (name ∷ words) c is = from_name name words c (tool_of_name name) refl is

pub meant_as_spelled : CommandsMatchGrammar
meant_as_spelled words c = (meant_from _ c, spelled_from _ c)
