-- `consume`: what the block still has are the bytes that were buffered, without the first ones.
use Rattle.ptlines.proofs
use proofs.Common.{rules}
use proofs.Consume.{rest_of_range}
use proofs.reader.LineReader.consume.Goals as goal

pub returns-clause-consumed : goal.returns-clause-consumed
returns-clause-consumed g c = search (rules, rest_of_range)
