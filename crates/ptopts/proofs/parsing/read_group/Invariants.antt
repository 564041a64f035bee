-- The loop of `read_group`: the options so far and the tokens of the remaining letters are those of the
-- word (`GroupRead`).
use Rattle.ptopts.proofs
use proofs.Common.{drop, option_map, options_view}
use proofs.GroupInvariant.{GroupRead}
use proofs.parsing.read_group.Given as goal

abbrev pub invariant-loop-index : goal.invariant-loop-index
invariant-loop-index g l =
    GroupRead l.tool l.word (option_map (λ w. w.now) l.next) (options_view l.fn.options.items)
    (options_view l.options.items) (drop l.index l.word)
