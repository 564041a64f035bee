-- The cycle has the delimiters between the columns, then the terminator.
use Rattle.ptflow.proofs
use proofs.Common.{nat_tests, ◌≡◌, ◌<◌, [], ◌∷◌, length, get_or, sym, ◌∙◌, ap, arith, All-from_get_or, length-append}
use proofs.Common.{get_or_append_left, get_or_push, mod-eq_of_lt, eqb-false, shape_of}
use proofs.tools.paste.shared_input.shared_cycle.Goals as goal

pub returns : goal.returns
returns c =
    let row = shape_of c.args.row in
    let n = length row.cells in
    let some : 0 < n = omega (arith, eqb-false n 0 (sym c.if-is_empty.ensures)) in
    let list = c.in_ok-bytes.ensures in
    let long : length c.deref.result.now ≡ n =
    omega (
      arith,
      ap length (c.deref.ensures.0 ∙ c.push.ensures.items),
      length-append c.in_ok-bytes.bytes.items (row.terminator ∷ []),
    ) in
    record {
      some = some;
      same = All-from_get_or (λ p. p ≡ get_or row.cells 0 0) _ 0
          (λ k low. c.loop-input.invariant.same k (omega arith));
      terminator = c.new.ensures.terminator;
      len = cc;
      bytes = λ k low.
          let small : k < length c.deref.result.now = omega arith in
          let here = mod-eq_of_lt small in
          grind (arith, nat_tests, c.new.ensures.bytes k, list.at k, get_or_append_left, get_or_push);
    }
