-- For `copy_rows_of_two`: the first column of a row (`first`), and both, are copied from readers of which all bytes so
-- far were consumed.
use Rattle.ptflow.proofs
use proofs.Common.{◌≡◌, Bool, subst, ◌≤◌, ◌+◌, ◌-◌, ◌∙◌, ◌++◌, ℕ, List, Some, arith, refl, rules, sym, ap, take, drop}
use proofs.Common.{length, true, ◌∷◌, [], false, length-drop, length-set, take_rest, take_more_set, CopyColumnsPost}
use proofs.Common.{shape_of, is_byte}
use Rattle.memchr.specs.Find.{IsFirstByte}
use Rattle.ptflow.specs.Private.Paste.RowCells.{after_cell}
use Rattle.ptlines.specs.Readers.{Reader}
use proofs.PasteLemmas.BufferedRows.{columns_start, consumed_none, consumed_trans, rows_taken_none, still_readable}
use proofs.PasteLemmas.Segments.{row_more}
use proofs.PasteLemmas.TwoColumns.{none_yet, rows_begun, field_copied, both_in, begun, exchanged}
use borrow.Author.Rules.{scaled_Fits}
use proofs.tools.paste.buffered_rows.copy_rows_of_two.Given as given
use proofs.tools.paste.buffered_rows.copy_rows_of_two.Goals as goal
use Rattle.ptflow.proofs.tools.paste.buffered_rows.copy_rows_of_two.Goals.{After-copy_option-middle}

past_line : (end at size : ℕ) (bytes : List ℕ)
    → IsFirstByte (is_byte end) (take (length bytes - at) (drop at bytes)) (Some size) → at + (size + 1) ≤ length bytes
past_line end at size bytes found =
    let (first, _) = rw (take_rest bytes at) at found in omega (arith, first.high, length-drop at bytes)

first : (g : given.Over) (c : After-copy_option-middle g) → let row = shape_of c.args.row in
    let readers = c.args.readers.now in CopyColumnsPost row
    (begun row readers c.rows.first_count c.rows.second_count 0 false (take c.rows.end c.rows.into))
    (begun row readers (c.rows.first_count + (c.in-Some.first_size + 1)) c.rows.second_count 1 true
    (take c.copy_option-middle.result c.copy_option-middle.new.into))
first g c =
    field_copied c.requires.readable 0 _ _ _ (omega (arith, c.requires.two)) c.requires.apart
    (still_readable c.rows.invariant.consumed c.requires.readable) columns_start
    c.index-readers-first.is c.buffered-first_bytes.ensures.sound c.buffered-first_bytes.ensures.buffered
    c.in-Some.ensures.line
    (c.copy_option-middle.ensures.copied
    ∙ ap (λ after. take (c.rows.end + c.in-Some.first_size) c.copy_line.new.into ++ after) c.byte_after-delim.ensures)

pub rows-init : goal.rows-init
rows-init g c =
    rw (none_yet c.requires.readable c.requires.two) (search (rules, rows_taken_none, consumed_none))

pub consume_both-requires-clause-within : goal.consume_both-requires-clause-within
consume_both-requires-clause-within g c = both_in c.requires.readable c.requires.two

pub consume_both-requires-in_default-copy_line-clause-within :
    goal.consume_both-requires-in_default-copy_line-clause-within
consume_both-requires-in_default-copy_line-clause-within g c = both_in c.requires.readable c.requires.two

pub returns-in_default-clause-rows : goal.returns-in_default-clause-rows
returns-in_default-clause-rows g c =
    let none = c.in_default.ensures in
    rows_begun c.rows.end c.rows.end c.rows.into c.copy_line.new.into (omega arith) (omega arith) c.rows.invariant.rows
    c.rows.invariant.consumed (rw (c.consume_both.ensures, none.none) columns_start)

pub returns-in_default-copy_line-clause-rows : goal.returns-in_default-copy_line-clause-rows
returns-in_default-copy_line-clause-rows g c =
    let none = c.in_default-copy_line.ensures in
    let p = first g (goal.at.returns-in_default-copy_line-clause-rows g c).After-copy_option-middle in
    rows_begun c.rows.end c.copy_option-middle.result c.rows.into c.copy_line-in-rows.new.into (omega arith)
    (omega arith) c.rows.invariant.rows c.rows.invariant.consumed
    (rw (c.consume_both-in_default-copy_line.ensures, none.none) p)

pub rows-preserved : goal.rows-preserved
rows-preserved g c =
    let p = first g (goal.at.rows-preserved g c).After-copy_option-middle in
    let line = c.in-Some-copy_line.ensures.line in
    let row = shape_of c.args.row in
    let readers = c.args.readers.now in
    let start = begun row readers c.rows.first_count c.rows.second_count 0 false (take c.rows.end c.rows.into) in
    let copied : ℕ → Bool → List ℕ → List Reader → Type 0 = λ count any_line text now. CopyColumnsPost row start
    (record { readers = now; count = count; any_line = any_line; text = text }) in
    let n = c.rows.first_count + (c.in-Some.first_size + 1) in
    let m = c.rows.second_count + (c.in-Some-copy_line.second_size + 1) in
    let after_last : after_cell row 1 ≡ row.terminator ∷ [] = grind (arith, c.requires.two) in
    let both = subst (copied 2 true _) (sym (exchanged row readers c.requires.apart n m))
    (field_copied c.requires.readable 1 _ _ _ (omega (arith, c.requires.two)) (λ e. c.requires.apart (sym e))
    (still_readable c.rows.invariant.consumed c.requires.readable)
    (subst (copied 1 true _) (exchanged row readers c.requires.apart n c.rows.second_count) p) c.index-readers-second.is
    c.buffered-second_bytes.ensures.sound c.buffered-second_bytes.ensures.buffered line
    (rw (after_last) (take_more_set _ _ _ (omega (arith, line.fits))))) in
    record {
      rows = row_more c.rows.invariant.rows both (sym c.requires.two) refl;
      consumed = consumed_trans c.rows.invariant.consumed both.consumed;
      within = (past_line _ _ _ _ c.in-Some.ensures.line.found, past_line _ _ _ _ line.found);
      size_bound = omega (arith, line.fits);
      buffer_size = length-set _ _ _ ∙ c.copy_line-in-rows.array_long;
    }

-- ---- what is in range

pub bounds-row-0 : goal.bounds-row-0
bounds-row-0 g c = omega (arith, c.requires.two)

pub byte_after-delim-requires : goal.byte_after-delim-requires
byte_after-delim-requires g c = omega (arith, c.requires.two)

pub bounds-row-1 : goal.bounds-row-1
bounds-row-1 g c = omega (arith, c.requires.two)

pub bounds-readers-first : goal.bounds-readers-first
bounds-readers-first g c = (both_in c.requires.readable c.requires.two).0

pub offset_bounds-readers-first : goal.offset_bounds-readers-first
offset_bounds-readers-first g c = let (low, _) = both_in c.requires.readable c.requires.two in search scaled_Fits

pub bounds-readers-second : goal.bounds-readers-second
bounds-readers-second g c = (both_in c.requires.readable c.requires.two).1

pub offset_bounds-readers-second : goal.offset_bounds-readers-second
offset_bounds-readers-second g c = let (_, low) = both_in c.requires.readable c.requires.two in search scaled_Fits
