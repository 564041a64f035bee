-- Without a fault, the values are those of the elements.
use Rattle.ptlangs.proofs
use proofs.Common.{YieldsList-at, YieldsList-from_filter_map, YieldsList-from_slice_split, arith}
use proofs.Common.{elements, is_list_separator, items_from_extend, result_ok, rules}
use proofs.ListElements.{values_are}
use proofs.lists.read_elements.Goals as goal

pub returns : goal.returns
returns g c =
    let s = c.split-elements.ensures in
    let values = items_from_extend _ c.extend.ensures.ran
    (YieldsList-from_filter_map _ (λ e. result_ok (g.T.Element.meaning e))
    (YieldsList-at c.filter_map.ensures.source
    (YieldsList-from_slice_split _ is_list_separator c.args.text.now s.rest s.done s.closure
    (λ b r q k. search rules)))
    c.filter_map.ensures.closure (λ x r q k. search rules)) in
    let all = values_are g.T.Element.meaning (elements c.args.text.now) c.requires in
    grind arith
