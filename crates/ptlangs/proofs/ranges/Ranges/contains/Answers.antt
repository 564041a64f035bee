-- Answer for `Ranges::contains`: a number is selected if one of the intervals contains it.
use Rattle.ptlangs.proofs
use proofs.Common.{Interval, YieldsList-from_slice, rules}
use Rattle.std.specs.Prelude.{nat_le, ◌&&◌}
use Rattle.std.proofs.lemmas.Iterator.Search.{any_from_yields_List}
use proofs.ranges.Ranges.contains.Goals as goal

pub returns : goal.returns
returns g c =
    any_from_yields_List (λ (r : Interval). nat_le r.first c.args.number && nat_le c.args.number r.last) _ _ _
    c.any.ensures.ran (YieldsList-from_slice c.args.self.now cc) (λ x b q k. search rules)
