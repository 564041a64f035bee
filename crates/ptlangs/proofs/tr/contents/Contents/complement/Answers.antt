-- A byte is in the complement exactly if the array does not contain it.
use Rattle.ptlangs.proofs
use proofs.Common.{count_by, false, get_or, not, arith, ◌≡◌}
use proofs.TrArrays.{complement-is}
use proofs.tr.contents.Contents.complement.Goals as goal

pub returns-clause-is : goal.returns-clause-is
returns-clause-is c = λ bytes e.
    let count : c.count.result ≡ count_by not c.args.self.now.has = grind arith in
    complement-is _ _ _ _ e c.map.ensures.items.long (λ k h.
    let (p, q, called) = c.map.ensures.items.at k false false h in
    let same : get_or c.map.result k false ≡ not _ = grind arith in
    same) count
