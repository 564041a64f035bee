-- The buffered output is written before each read, so each exit comes after that. Beside the goals: the states after
-- the write and after the line in the last slot, and the line that was read.
use Rattle.ptflow.proofs
use proofs.Passes.LineLoop.{run_starts, run_unslotted, run_sent, run_count, run_room, run_flush_failed, run_line}
use proofs.Passes.LineLoop.{run_line_halts, Run, run_read, run_memory, run_done, run_unended, run_block}
use proofs.Passes.LineLoop.{run_block_halts, bounds_start}
use proofs.Passes.Exits.{is_fault}
use proofs.line_loop.run_lines.Given as given
use proofs.line_loop.run_lines.Goals as goal
use Rattle.ptflow.proofs.line_loop.run_lines.Goals.{After-fill, In-Ok-true, In_ok-process_line}
use proofs.Common.{refl, rules, arith, usual, ◌∙◌, ◌-◌, FillLine}

-- the state after the write
written_out : (g : given.Over) (c : After-fill g)
    → Run c.requires.tool c.args.reader.now c.reading.reader c.args.out.now c.write_out_before_blocking.new.out
    c.args.store.now c.reading.store (g.T.LineFilter.model c.reading.tool c.reading.store)
written_out g c =
    run_sent c.requires.tool c.reading.invariant.run c.write_out_before_blocking.ensures.pushed.wrote
    c.in_ok-write_out_before_blocking.ensures.pushed.clean

-- the line that was read
line_read : (g : given.Over) (c : In-Ok-true g)
    → FillLine c.reading.reader c.fill.new.self c.reading.store c.fill.new.store (g.T.LineFilter.SLOTS - 1)
line_read g c = rw (c.in-Ok-true.field-0-test, c.requires.slots) at
    (c.in-Ok-true.ensures.fills c.reading.invariant.run.reached.advance_ok.fault)

-- the state after the line in the last slot
line_taken : (g : given.Over) (c : In_ok-process_line g)
    → Run c.requires.tool c.args.reader.now c.fill.new.self c.args.out.now c.process_line.new.out c.args.store.now
    c.process_line.new.store (g.T.LineFilter.model c.process_line.new.self c.process_line.new.store)
line_taken g c =
    let r = written_out g (goal.at.In_ok-process_line g c).After-fill in
    let e = line_read g (goal.at.In_ok-process_line g c).In-Ok-true in
    run_line c.requires.tool r e {next = g.T.LineFilter.model c.process_line.new.self c.process_line.new.store}
    (grind arith) c.in_ok-process_line.ensures.swapped

pub returns-in_err-ensure_slots : goal.returns-in_err-ensure_slots
returns-in_err-ensure_slots g c =
    rw (is_fault c.from_residual.ensures, c.in_err-ensure_slots.ensures.err)
    (run_unslotted c.requires.tool c.requires.begins (rw c.requires.slots at c.ensure_slots.ensures.adds) (grind arith)
    c.ensure_slots.ensures.same_peak c.in_err-ensure_slots.ensures.denied)

pub reading-init : goal.reading-init
reading-init g c = record { same_job = refl; run = search (rules, run_starts, bounds_start) }

pub returns-in_err-write_out_before_blocking : goal.returns-in_err-write_out_before_blocking
returns-in_err-write_out_before_blocking g c =
    rw (is_fault c.from_residual-in_err-write_out_before_blocking.ensures)
    (run_flush_failed c.requires.tool c.reading.invariant.run c.write_out_before_blocking.ensures.sound
    c.write_out_before_blocking.ensures.pushed.wrote c.in_err-write_out_before_blocking.ensures.pushed.fault)

pub process_line-requires-clause-few : goal.process_line-requires-clause-few
process_line-requires-clause-few g c =
    let r = c.reading.invariant.run in
    let e = line_read g (goal.at.process_line-requires-clause-few g c).In-Ok-true in
    rw (e.stored, c.requires.tool.stays c.reading.tool c.reading.store e.line (run_room c.requires.tool r))
    (run_count c.requires.tool r c.fill.ensures.was_sound)

pub returns-in_err-process_line : goal.returns-in_err-process_line
returns-in_err-process_line g c =
    let r = written_out g (goal.at.returns-in_err-process_line g c).After-fill in
    let e = line_read g (goal.at.returns-in_err-process_line g c).In-Ok-true in
    rw (is_fault c.from_residual-in_err-process_line.ensures, c.in_err-process_line.ensures.same)
    (run_line_halts c.requires.tool r e c.fill.ensures.was_sound c.fill.ensures.is_sound (grind arith))

pub returns-in_err-finish-in-Ok-false : goal.returns-in_err-finish-in-Ok-false
returns-in_err-finish-in-Ok-false g c =
    let r = written_out g (goal.at.returns-in_err-finish-in-Ok-false g c).After-fill in
    let ended = rw (c.in-Ok-false.field-0-test, c.requires.slots) at
    (c.in-Ok-false.ensures.fills r.reached.advance_ok.fault) in
    let end = rw c.reading.invariant.same_job at (c.in_err-finish-in-Ok-false.ensures.pushed r.reached.clean) in
    rw (is_fault c.from_residual-in_err-finish-in-Ok-false.ensures, c.in_err-finish-in-Ok-false.ensures.same)
    (run_unended c.requires.tool r c.fill.ensures.was_sound c.fill.ensures.is_sound ended end.wrote end.fault)

pub returns-in-Ok-false : goal.returns-in-Ok-false
returns-in-Ok-false g c =
    let r = written_out g (goal.at.returns-in-Ok-false g c).After-fill in
    let ended = rw (c.in-Ok-false.field-0-test, c.requires.slots) at
    (c.in-Ok-false.ensures.fills r.reached.advance_ok.fault) in
    let end = c.in_ok-finish-in-Ok-false.ensures in
    let pushed = rw c.reading.invariant.same_job at (end.pushed r.reached.clean) in
    run_done c.requires.tool r c.fill.ensures.was_sound c.fill.ensures.is_sound ended pushed.wrote end.emptied
    pushed.clean

pub returns-in-Err-Read : goal.returns-in-Err-Read
returns-in-Err-Read g c =
    let r = written_out g (goal.at.returns-in-Err-Read g c).After-fill in
    run_read c.requires.tool r c.fill.ensures.was_sound c.fill.ensures.is_sound (grind arith)

pub returns-in-Err-Memory : goal.returns-in-Err-Memory
returns-in-Err-Memory g c =
    let r = written_out g (goal.at.returns-in-Err-Memory g c).After-fill in
    run_memory c.requires.tool r c.fill.ensures.was_sound c.fill.ensures.is_sound (grind arith)

pub reading-smaller : goal.reading-smaller
reading-smaller g c = grind usual

pub reading-preserved-then-is_long : goal.reading-preserved-then-is_long
reading-preserved-then-is_long g c = record {
  same_job = c.process_line.ensures.same_job ∙ c.reading.invariant.same_job;
  run = line_taken g (goal.at.reading-preserved-then-is_long g c).In_ok-process_line;
}

pub process_lines-requires-clause-buffered : goal.process_lines-requires-clause-buffered
process_lines-requires-clause-buffered g c =
    let v = line_taken g (goal.at.process_lines-requires-clause-buffered g c).In_ok-process_line in
    record {
      few = run_count c.requires.tool v c.fill.ensures.is_sound;
      waits = c.in_ok-process_line.ensures.continues.some (omega arith);
      short = grind usual;
    }

pub returns-in_err-passed : goal.returns-in_err-passed
returns-in_err-passed g c =
    let v = line_taken g (goal.at.returns-in_err-passed g c).In_ok-process_line in
    rw (is_fault c.from_residual-in_err-passed.ensures)
    (run_block_halts c.requires.tool v c.fill.ensures.is_sound c.buffered.ensures.buffered (grind arith))

pub reading-preserved : goal.reading-preserved
reading-preserved g c =
    let v = line_taken g (goal.at.reading-preserved g c).In_ok-process_line in
    let same = c.process_line.ensures.same_job ∙ c.reading.invariant.same_job in
    record { same_job = c.process_lines.ensures.same_job ∙ same; run = grind (arith, run_block) }

pub reading-smaller-then-is_long : goal.reading-smaller-then-is_long
reading-smaller-then-is_long g c = grind usual
