-- Each step copies the bytes up to a terminator, and then a delimiter. The rest is a part of a line, which is copied as
-- it is.
use Rattle.ptflow.proofs
use proofs.Common.{◌≡◌, ◌+◌, ◌-◌, ◌++◌, length, take, sym, ◌∙◌, ap, arith, length-drop, take_rest, take_all}
use proofs.Common.{line_if_not_found, mod-eq_of_lt, count_by, is_byte, take-append-drop}
use proofs.Vectors.NextTerminator.{none_counted}
use proofs.PasteLemmas.Replaced.{replaced_none, line_copied, copied_more}
use proofs.tools.paste.serial.SerialFormat.copy_cells_slow.Goals as goal

pub pieces-preserved : goal.pieces-preserved
pieces-preserved c =
    let inv = c.pieces.invariant in
    let count = c.in-Some.count in
    let rest = c.pieces.rest.now in
    let all : count - 0 ≡ count = omega arith in
    let piece = line_copied {format = c.args.self.now} c.pieces.index rest (take c.pieces.at c.pieces.into)
    c.in-Some.ensures c.next_index-index.ensures (rw all at c.copy_short.ensures.copied)
    (rw (mod-eq_of_lt inv.low) c.copy_option-at.ensures.copied) in
    rw take_rest (record {
      on = λ next after more. inv.on next after (rw (take-append-drop (count + 1) rest) at (copied_more piece more));
      low = omega arith;
      size_bound = omega (arith, length-drop (count + 1) rest, c.in-Some.ensures.0.high);
      buffer_size = c.copy_option-at.array_long;
    })

pub returns-clause-copied : goal.returns-clause-copied
returns-clause-copied c =
    let end = c.args.self.now.terminator in
    let inv = c.pieces.invariant in
    let rest = c.pieces.rest.now in
    let all : length rest - 0 ≡ length rest = omega arith in
    let free = line_if_not_found end _ c.in_default.ensures in
    let none : c.pieces.index + count_by (is_byte end) rest ≡ c.pieces.index = omega (arith, none_counted end _ free) in
    inv.on _ _ (record {
      is = rw all at c.copy_short-2.ensures.copied
          ∙ ap (◌++◌ (take c.pieces.at c.pieces.into)) (take_all (length rest) rest (omega arith)
          ∙ sym (replaced_none end _ _ _ free));
      later = rw (none, mod-eq_of_lt inv.low);
    })
