-- Worked examples of `tr`, given its string operands.
use Rattle.std.proofs.Common.{◌≡◌, ℕ, List, [], true, false, refl, codes, Option, Some, None, Result, Ok, Err}
use Rattle.ptlangs.specs.declared.faults.SetFault.{SetFault}
use Rattle.ptlangs.specs.declared.tr.plan.Form.TheVariants.{Translate, TranslateSqueeze, Squeeze, Delete}
use Rattle.ptlangs.specs.declared.tr.plan.Form.TheVariants.{DeleteSqueeze}
use Rattle.ptlangs.specs.TrClasses.{all_bytes}
use Rattle.ptlangs.specs.TrPlan.{Plan, plan}
use Rattle.ptlangs.specs.TrPlan.{byte_map}
use Rattle.ptflow.specs.TrOutput.{tr}

-- The output of `tr` for some bytes; `None` if the strings are invalid.
abbrev run : Result Plan SetFault → List ℕ → Option (List ℕ)
run (Ok p) bytes = Some (tr (byte_map p) bytes)
run (Err fault) bytes = None

record TrExamples : Type 0 where
  words_on_lines : run (plan TranslateSqueeze true (codes "[:alpha:]") (Some (codes "[\\n*]"))) (codes "one, two.\n")
      ≡ Some (codes "one\ntwo\n")
  second_filled_with_its_last : run (plan Translate false (codes "a-c") (Some (codes "x-y"))) (codes "abcd")
      ≡ Some (codes "xyyd")
  deleted_then_squeezed : run (plan DeleteSqueeze false (codes "0-9") (Some (codes "ab"))) (codes "a1ab2bb")
      ≡ Some (codes "ab")
  octal_escape_and_count : run (plan Translate false (codes "\\055a-b") (Some (codes "x[y*02]z"))) (codes "-ab")
      ≡ Some (codes "xyy")
  complement_deleted : run (plan Delete true (codes "0-9") None) (codes "a1b2\n") ≡ Some (codes "12")
  repeats_squeezed : run (plan Squeeze false (codes "a") None) (codes "aabaa") ≡ Some (codes "aba")
  nothing_of_nothing : run (plan TranslateSqueeze false (codes "a") (Some (codes "b"))) [] ≡ Some []

examples : TrExamples
unfolding all_bytes
examples = record {
  words_on_lines = refl;
  second_filled_with_its_last = refl;
  deleted_then_squeezed = refl;
  octal_escape_and_count = refl;
  complement_deleted =
      refl;
  repeats_squeezed = refl;
  nothing_of_nothing = refl;
}
