-- Each search moves back to the last terminator before `at`, so it lowers the count by one. If it finds none, none is
-- left.
use Rattle.ptflow.proofs
use proofs.Common.{◌≡◌, ℕ, zero, suc, ◌+◌, ◌-◌, ◌<◌, ◌≤◌, Bool, true, List, length, take, get_or, sym, ◌∙◌, ap, arith}
use proofs.Common.{get_or-take, count_by, false_from_ne_true, length-take-le, take_all, take-take, count_by_more_no}
use proofs.Common.{count_by_more_yes, eqb-true, is_byte}
use proofs.tools.paste.shared_input.rows_end.Goals as goal

none_after : (test : ℕ → Bool) (xs : List ℕ) (from n : ℕ) → from + n ≡ length xs
    → ((k : ℕ) → from ≤ k → k < length xs → test (get_or xs k 0) ≡ true → ⊥)
    → count_by test xs ≡ count_by test (take from xs)
none_after test xs from zero all none = ap (count_by test) (sym (take_all from xs (omega arith)))
none_after test xs from (suc n) all none =
    none_after _ xs (from + 1) n (omega arith) (λ k over. none k (omega arith))
    ∙ count_by_more_no _ xs _ 0 (omega arith) (false_from_ne_true _ (none from (omega arith) (omega arith)))

pub returns-in-None-clause-counted : goal.returns-in-None-clause-counted
returns-in-None-clause-counted c =
    let searched = take c.loop-found.at c.args.bytes.now in
    omega (arith, none_after (is_byte c.args.terminator) searched 0 (length searched) (omega arith) c.in-None.ensures)

pub loop-found-preserved : goal.loop-found-preserved
loop-found-preserved c =
    let test = is_byte c.args.terminator in
    let bytes = c.args.bytes.now in
    let at = c.loop-found.at in
    let last = c.in-Some.last in
    let searched = take at bytes in
    let (highest, passes) = c.in-Some.ensures in
    let low : last < at = omega (arith, length-take-le at bytes c.loop-found.invariant.within) in
    record {
      counted = omega (
        arith,
        none_after test searched (last + 1) (length searched - (last + 1)) (omega arith)
            highest.after,
        count_by_more_yes test _ _ 0 highest.high passes,
        ap (count_by test) (take-take last at bytes (omega arith)),
      );
      within = omega arith;
      found = λ some. (omega arith, eqb-true (get_or bytes last 0) _ (rw (get_or-take at bytes last 0 low) at passes));
    }
