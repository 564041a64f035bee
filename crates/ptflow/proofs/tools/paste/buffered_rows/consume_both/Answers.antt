-- The readers are at different indices, so the second one is still as it was after the first one was changed.
use Rattle.ptflow.proofs
use proofs.Common.{get_or-set_other, length-set, set, sym}
use borrow.Author.Rules.{scaled_Fits}
use proofs.PasteLemmas.BufferedRows.Rows.{at_index}
use proofs.tools.paste.buffered_rows.consume_both.Goals as goal

pub offset_bounds-readers-first : goal.offset_bounds-readers-first
offset_bounds-readers-first g c = let (low, _) = c.requires.within in search scaled_Fits

pub bounds-readers-first : goal.bounds-readers-first
bounds-readers-first g c = c.requires.within.0

pub consume-requires : goal.consume-requires
consume-requires g c = rw (at_index _ _ _ c.requires.within.0) c.requires.first_count

pub offset_bounds-readers-second : goal.offset_bounds-readers-second
offset_bounds-readers-second g c = let (_, low) = c.requires.within in search scaled_Fits

pub bounds-readers-second : goal.bounds-readers-second
bounds-readers-second g c = rw length-set c.requires.within.1

pub consume-requires-2 : goal.consume-requires-2
consume-requires-2 g c =
    rw (get_or-set_other _ _ _ _ _ (λ e. c.requires.apart (sym e)), at_index _ _ _ c.requires.within.1)
    c.requires.second_count

pub returns : goal.returns
returns g c =
    let first = rw (at_index _ _ _ c.requires.within.0) at c.consume.ensures.consumed in
    let second = rw (get_or-set_other _ _ _ _ _ (λ e. c.requires.apart (sym e)), at_index _ _ _ c.requires.within.1) at
    c.consume-2.ensures.consumed in
    λ i. set (set c.args.readers.now c.args.first (first i)) c.args.second (second i)
