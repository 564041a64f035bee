-- Words that are not UTF-8 are refused. If there is no memory for the lists, nothing was run.
use Rattle.std.proofs.Common.{arith, inl, inr}
use Rattle.ptrunc.proofs.GivenLemmas.{nothing_ran}
use Rattle.ptrunc.proofs.run_given.Goals as goal

pub returns-in_default : goal.returns-in_default
returns-in_default c = inl (c.in_default.ensures.cases.0, c.refuse.ensures)

pub returns-in_default-words_of : goal.returns-in_default-words_of
returns-in_default-words_of c = inr (inr (
  search (arith, c.are_ends.ensures, c.if-not-are_ends.false),
  nothing_ran _ _ _ _ _ c.refuse-in_default-words_of.ensures,
))

pub returns : goal.returns
returns c = inr (inr (
  search (arith, c.are_ends.ensures, c.if-not-are_ends.false),
  nothing_ran _ _ _ _ _ c.refuse-in-Err.ensures,
))
