-- Answer for `tables_have_map`: the law that the tables of a plan have its map, a lemma of `TrArrays`.
use Rattle.ptlangs.proofs
use proofs.TrArrays.{tables_have_map}
use proofs.tr.plan.tables_have_map.Goals as goal

pub returns : goal.returns
returns c = tables_have_map
