-- `valued_option`: the word may be cut after the letter of the option, since that is at the boundary of a character.
use Rattle.ptopts.proofs
use proofs.Common.{arith}
use Rattle.std.proofs.lemmas.Str.{IsCharBoundary-after_ascii}
use proofs.parsing.valued_option.Goals as goal

-- an option with a value is ASCII, so its word may be cut after it
pub range_from-attached-requires : goal.range_from-attached-requires
range_from-attached-requires c = grind (arith, IsCharBoundary-after_ascii)
