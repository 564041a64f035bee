-- `first_char`: the text is a backslash or another byte, before the rest of it.
use Rattle.ptlangs.proofs
use proofs.Common.{usual}
use proofs.TrGrammar.{chars-cons, chars-plain}
use proofs.tr.chars.first_char.Goals as goal

pub returns-in-92-clause-byte : goal.returns-in-92-clause-byte
returns-in-92-clause-byte c = grind (usual, chars-cons)

pub returns-in-92-clause-rest : goal.returns-in-92-clause-rest
returns-in-92-clause-rest c = grind (usual, chars-cons)

pub returns-in-len1-up-clause-byte : goal.returns-in-len1-up-clause-byte
returns-in-len1-up-clause-byte c = grind (usual, chars-plain)

pub returns-in-len1-up-clause-rest : goal.returns-in-len1-up-clause-rest
returns-in-len1-up-clause-rest c = grind (usual, chars-plain)
