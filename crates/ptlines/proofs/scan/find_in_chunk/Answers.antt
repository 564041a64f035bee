-- A match mask of zero means that the chunk has no match; otherwise its lowest bit is the first one.
use Rattle.ptlines.proofs
use proofs.Common.{rules}
use proofs.MatchMasks.{none_if_zero_mask, first_at_lowest_bit}
use proofs.scan.find_in_chunk.Goals as goal

pub returns-then-mask-eq0 : goal.returns-then-mask-eq0
returns-then-mask-eq0 g c = search (rules, none_if_zero_mask)

pub returns : goal.returns
returns g c = search (rules, first_at_lowest_bit)
