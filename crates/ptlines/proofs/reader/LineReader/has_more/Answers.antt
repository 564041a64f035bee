-- Each exit is a result of a read: the end of input, the limit of 2^63 bytes, bytes, or a failed read. After each of
-- them the reader is sound.
use Rattle.ptlines.proofs
use proofs.Common.{arith, rules, sym, usual, ◌∙◌}
use proofs.Refill.{RefillPre, nothing_left, refill_end, refill_more, refill_long}
use proofs.reader.LineReader.has_more.Given as given
use Rattle.ptlines.proofs.reader.LineReader.has_more.Goals.{After-read_block}
use proofs.reader.LineReader.has_more.Goals as goal

due : (g : given.Over) (c : After-read_block g) → RefillPre c.args.self.now
due g c = record {
  empty = nothing_left c.buffered.ensures.buffered c.is_empty.ensures c.if-not-is_empty.false;
  clean = c.requires;
  going = sym c.at_eof.ensures.eof ∙ c.if-at_eof.false;
}

pub returns-then-count-eq0-clause-refills : goal.returns-then-count-eq0-clause-refills
returns-then-count-eq0-clause-refills g c =
    let due = due g (goal.at.returns-then-count-eq0-clause-refills g c).After-read_block in
    refill_end _ _ _ _ c.self.view_is due c.in-Ok.ensures.refused c.if-count-eq0.true c.in-Ok.ensures.pulled

pub returns-then-self-clause-refills : goal.returns-then-self-clause-refills
returns-then-self-clause-refills g c =
    let due = due g (goal.at.returns-then-self-clause-refills g c).After-read_block in
    search (rules, c.in-Ok.ensures.few, refill_long, due, c.in-Ok.ensures.pulled)

pub returns-else-self-clause-refills : goal.returns-else-self-clause-refills
returns-else-self-clause-refills g c =
    let due = due g (goal.at.returns-else-self-clause-refills g c).After-read_block in
    refill_more _ _ _ _ c.self.view_is due c.in-Ok.ensures.refused
    c.in-Ok.ensures.pulled c.in-Ok.ensures.few (omega arith) (omega arith)

pub returns-in-Err-clause-refills : goal.returns-in-Err-clause-refills
returns-in-Err-clause-refills g c = grind arith

pub invariant_of-self-then-self : goal.invariant_of-self-then-self
invariant_of-self-then-self g c = grind usual

pub returns-then-self-clause-sound : goal.returns-then-self-clause-sound
returns-then-self-clause-sound g c = (invariant_of-self-then-self g c).sound

pub invariant_of-self-else-self : goal.invariant_of-self-else-self
invariant_of-self-else-self g c = grind usual

pub returns-else-self-clause-sound : goal.returns-else-self-clause-sound
returns-else-self-clause-sound g c = (invariant_of-self-else-self g c).sound
