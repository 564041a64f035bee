-- A line with the delimiter is copied by its fields; adjacent lines without it are copied at once, or skipped.
use Rattle.ptflow.proofs
use proofs.Common.{◌≡◌, ◌-◌, arith, cut_job, usual}
use proofs.CutLemmas.Fields.{puts_kept, puts_dropped}
use proofs.tools.cut.fields.copy_lines.Goals as goal
use proofs.Passes.Exits.{ended_next}

pub returns-then-first-to-clause-put : goal.returns-then-first-to-clause-put
returns-then-first-to-clause-put g c = grind (usual, ended_next)

pub returns-then-job-clause-put : goal.returns-then-job-clause-put
returns-then-job-clause-put g c =
    let size = c.whole_lines_len-len in
    let selection = c.args.selection.now in
    puts_dropped (cut_job selection.job.now) selection.by_fields selection.ends c.args.bytes.now _ c.requires.first
    size.ensures.within.0 size.ensures.within.1 size.ensures.eof size.ensures.up_to c.if-first-to.false _
    c.unwrap_or-first.ensures (rw (c.new-delimiters.ensures.needle, c.new-delimiters.ensures.bytes, selection.delimits)
    at c.first.ensures) c.if-job.true

pub returns-clause-put : goal.returns-clause-put
returns-clause-put g c =
    let size = c.whole_lines_len-len in
    let selection = c.args.selection.now in
    let whole : size.result - 0 ≡ size.result = omega arith in
    puts_kept (cut_job selection.job.now) selection.by_fields selection.ends c.args.bytes.now _ c.requires.first
    size.ensures.within.0 size.ensures.within.1 size.ensures.eof size.ensures.up_to c.if-first-to.false _
    c.unwrap_or-first.ensures (rw (c.new-delimiters.ensures.needle, c.new-delimiters.ensures.bytes, selection.delimits)
    at c.first.ensures) c.if-job.false (rw whole at c.copy_short.ensures.copied)
