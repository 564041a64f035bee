-- A fault of `Delims::read` becomes the fault of the option.
use Rattle.ptopts.proofs
use proofs.Common.{Bor, List, Option, Result, ap, false, is_ok, option_map, refl, result_err, rules, sym, true, ℕ, ◌∙◌}
use proofs.Common.{◌≡◌, arith}
use Rattle.ptlangs.specs.Calls.DelimLists.{delim_list_fault}
use Rattle.ptlangs.specs.DelimLists.{delim_list}
use Rattle.ptlangs.specs.declared.delims.DelimFault.TheVariants.{Memory}
use Rattle.ptlangs.specs.declared.delims.DelimFault.{DelimFault}
use proofs.parsing.ParsedArgs.delimiter_list.Goals as goal

valid : (e : DelimFault) (r : Result (List (Option ℕ)) DelimFault) → result_err r ≡ delim_list_fault e → e ≡ Memory
    → is_ok r ≡ true
valid = grind arith

invalid : (e : DelimFault) (r : Result (List (Option ℕ)) DelimFault) → result_err r ≡ delim_list_fault e
    → (e ≡ Memory → ⊥) → is_ok r ≡ false
invalid = grind arith

pub returns-in-Err-Memory-clause-fault : goal.returns-in-Err-Memory-clause-fault
returns-in-Err-Memory-clause-fault g c =
    let given = sym c.value.ensures ∙ ap (option_map (λ (v : Bor (List ℕ)). v.now)) c.in-Some.is in
    let fault = c.in-Err-Memory in
    rw (given, ← c.as_bytes.ensures.value, valid _ (delim_list c.as_bytes.result.now) fault.ensures fault.field-0-is) refl

pub returns-in-Err-clause-fault : goal.returns-in-Err-clause-fault
returns-in-Err-clause-fault g c =
    let given = sym c.value.ensures ∙ ap (option_map (λ (v : Bor (List ℕ)). v.now)) c.in-Some.is in
    let fault = c.in-Err in
    rw (
      given,
      ← c.as_bytes.ensures.value,
      invalid fault.field-0 (delim_list c.as_bytes.result.now) fault.ensures (search rules),
    ) refl
