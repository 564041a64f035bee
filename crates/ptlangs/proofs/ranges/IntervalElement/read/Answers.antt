-- The first dash splits the element into its bounds; without a dash the element is one number.
use Rattle.ptlangs.proofs
use proofs.Common.{YieldsList-from_slice, is_dash, position_from_yields_List, rules, sym, ◌∙◌, ◌≡◌}
use proofs.ListElements.{element_is, not_empty, parts_around_dash, split_whole}
use Rattle.ptlangs.specs.Private.CutLists.{checked_element}
use proofs.ranges.IntervalElement.read.Goals as goal

pub returns-in-None : goal.returns-in-None
returns-in-None c =
    let some = not_empty c.args.text.now c.is_empty.ensures c.if-is_empty.false in
    let at = position_from_yields_List _ _ _ _ c.position.ensures.ran
    (YieldsList-from_slice c.args.text.now (cc)) (λ x b q k. search rules) in
    let steps : c.read_single.result ≡ checked_element c.args.text.now =
    rw (some, split_whole is_dash _ (sym at ∙ c.in-None.is)) c.read_single.ensures in
    steps ∙ sym (element_is c.args.text.now)

pub returns-in-Some : goal.returns-in-Some
returns-in-Some c =
    let some = not_empty c.args.text.now c.is_empty.ensures c.if-is_empty.false in
    let at = position_from_yields_List _ _ _ _ c.position.ensures.ran
    (YieldsList-from_slice c.args.text.now (cc)) (λ x b q k. search rules) in
    let steps : c.read_bounds.result ≡ checked_element c.args.text.now =
    rw (some, parts_around_dash _ _ (sym at ∙ c.in-Some.is)) c.read_bounds.ensures in
    steps ∙ sym (element_is c.args.text.now)
