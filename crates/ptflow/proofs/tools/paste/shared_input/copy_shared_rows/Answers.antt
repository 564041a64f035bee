-- Up to `rows_end` the buffer has a multiple of a row's number of terminators and ends with one, so it is complete
-- rows. Their copy is the first part of that of the whole buffer.
use Rattle.ptflow.proofs
use proofs.Common.{◌+◌, ◌/◌, ◌-◌, length, take, ap, ◌∙◌, arith, get_or-take, take-append-le, length-take-le, count_by}
use proofs.Common.{is_byte}
use proofs.PasteLemmas.BufferedRows.{whole_rows_counted}
use proofs.PasteLemmas.Replaced.{take-replaced}
use proofs.tools.paste.shared_input.copy_shared_rows.Goals as goal

pub returns-clause-rows : goal.returns-clause-rows
returns-clause-rows g c =
    let cycle = c.args.cycle.now in
    let bytes = c.buffered-bytes.result.now in
    let at = c.rows_end.result in
    let long = length-take-le at bytes c.rows_end.ensures.within in
    rw (← c.buffered-bytes.ensures.buffered)
    (whole_rows_counted _ _ ((0 + count_by (is_byte cycle.terminator) bytes) / cycle.len) (take at bytes)
    (λ some. cc (
      get_or-take at bytes (length (take at bytes) - 1) 0 (omega arith),
      c.rows_end.ensures.ends (omega arith),
    ))
    (omega arith))

pub returns-clause-copied : goal.returns-clause-copied
returns-clause-copied g c =
    let cycle = c.args.cycle.now in
    let at = c.rows_end.result in
    let made = c.replace-extra in
    rw (← c.buffered-bytes.ensures.buffered)
    (take-append-le at made.new.to _ (omega arith)
    ∙ ap (take at) made.ensures.replaced ∙ take-replaced _ _ at 0 _ c.rows_end.ensures.within)
