-- The fault is that of the first element that has one.
use Rattle.ptlangs.proofs
use proofs.Common.{YieldsList-at, YieldsList-from_map, YieldsList-from_slice_split, arith, elements}
use proofs.Common.{find_from_yields_List, is_err, is_list_separator, rules}
use proofs.ListElements.{first_fault_is}
use proofs.lists.first_fault.Goals as goal

pub returns : goal.returns
returns g c =
    let s = c.split.ensures in
    let found = find_from_yields_List is_err _ _ c.find.result c.find.ensures.ran
    (YieldsList-from_map _ g.T.Element.meaning
    (YieldsList-at c.map-read.ensures.source
    (YieldsList-from_slice_split _ is_list_separator c.args.text.now s.rest s.done s.closure
    (λ b r q k. search rules)))
    c.map-read.ensures.closure (λ x r q k. search rules))
    (λ x b q k. search rules) in
    let first = first_fault_is g.T.Element.meaning (elements c.args.text.now) in
    grind arith
