-- Answer for `identity`: in the table that `from_fn` makes, each byte is its own image.
use Rattle.ptlangs.proofs
use proofs.Common.{get_or, rules, ◌≡◌}
use proofs.TrArrays.{same_table}
use proofs.tr.images.identity.Goals as goal

pub returns : goal.returns
returns c = λ to. same_table _ _ 0 c.from_fn.ensures.items.long (λ k h.
    let (p, q, called) = c.from_fn.ensures.items.at k 0 h in
    let same : get_or c.from_fn.result k 0 ≡ k = search rules in
    same)
