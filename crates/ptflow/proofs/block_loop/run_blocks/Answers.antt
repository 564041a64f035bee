-- Each exit is a lemma of `Exits`. No block is empty, so the budget decreases.
use Rattle.ptflow.proofs
use proofs.Common.{refl, arith, reads_nothing, usual, rules, Ok}
use Rattle.ptlines.specs.Calls.ReadLine.{BlockResult}
use proofs.Passes.Exits.{BlockLoopState, blocks_start, block_sent, block_taken, Ending, ending, is_fault, pass_read}
use proofs.Passes.Exits.{nothing_more, pass_write, pass_done, pass_unended}
use proofs.block_loop.run_blocks.Given as given
use proofs.block_loop.run_blocks.Goals as goal
use Rattle.ptflow.proofs.block_loop.run_blocks.Goals.{In-Ok}

-- the state after the write, the end of a pass there, and what was read
read : (g : given.Over) (c : In-Ok g)
    → (run : BlockLoopState g.T.BlockFilter.rest g.T.BlockFilter.IsUnchanged c.args.tool.now c.reading.tool
    c.args.reader.now c.reading.reader c.args.out.now c.write_out_before_blocking.new.out)
    × Ending run c.block.follows.lender-at-none
    × BlockResult c.reading.reader c.block.follows.lender-at-none (Ok c.in-Ok.block)
read g c =
    let b = c.block.follows.holds-at-none in
    let run = block_sent c.reading.invariant.run c.write_out_before_blocking.ensures.pushed.wrote
    c.in_ok-write_out_before_blocking.ensures.pushed.clean in
    let shown = (rw c.in-Ok.is at b.shows) run.reached.advance_ok.fault in
    (run, ending run b.was_sound shown.0.reads b.is_sound, shown)

pub reading-init : goal.reading-init
reading-init g c = search (rules, blocks_start)

pub returns-in_err-write_out_before_blocking : goal.returns-in_err-write_out_before_blocking
returns-in_err-write_out_before_blocking g c =
    let sound = c.write_out_before_blocking.ensures.sound in
    rw (is_fault c.from_residual.ensures) (λ t tool ends store ready.
    let end = ending c.reading.invariant.run sound (reads_nothing _) sound t tool ends store ready in
    pass_write end c.write_out_before_blocking.ensures.pushed.wrote (nothing_more end)
    c.in_err-write_out_before_blocking.ensures.pushed.fault refl ready.not_denied)

pub returns-in-Err : goal.returns-in-Err
returns-in-Err g c =
    let b = c.block.follows.holds-at-none in
    let run = block_sent c.reading.invariant.run c.write_out_before_blocking.ensures.pushed.wrote
    c.in_ok-write_out_before_blocking.ensures.pushed.clean in
    let (failed, cause, _) = (rw c.in-Err.is at b.shows) run.reached.advance_ok.fault in
    λ tool filter ends store ready.
    pass_read (ending run b.was_sound failed.reads b.is_sound tool filter ends store ready) cause ready.not_denied
    (search rules)

pub returns-in_err-process_block-in-Ok : goal.returns-in_err-process_block-in-Ok
returns-in_err-process_block-in-Ok g c =
    let (_, end, (refilled, shown, _)) = read g (goal.at.returns-in_err-process_block-in-Ok g c).In-Ok in
    let halted = c.in_err-process_block-in-Ok.ensures.halts in
    rw (is_fault c.from_residual-in_err-process_block-in-Ok.ensures) (λ t tool ends store ready.
    pass_write (end t tool ends store ready) halted.wrote (λ rest may. rw shown (halted.is_prefix rest)) halted.fault
    refilled.failed ready.not_denied)

pub returns-then-is_empty : goal.returns-then-is_empty
returns-then-is_empty g c =
    let (_, end, (refilled, _, ended)) = read g (goal.at.returns-then-is_empty g c).In-Ok in
    λ t tool ends store ready. pass_done (end t tool ends store ready) c.finish.ensures.wrote
    (ended (grind usual)) refl refilled.failed ready.not_denied c.in_ok-finish-in-Ok.ensures.clean
    refilled.fault (c.block.follows.holds-at-none.is_sound.long refilled.fault) ready.empty

pub returns-in_err-finish-in-Ok : goal.returns-in_err-finish-in-Ok
returns-in_err-finish-in-Ok g c =
    let (_, end, (refilled, _, ended)) = read g (goal.at.returns-in_err-finish-in-Ok g c).In-Ok in
    rw (is_fault c.from_residual-in_err-finish-in-Ok.ensures) (λ t tool ends store ready.
    pass_unended (end t tool ends store ready) c.finish.ensures.wrote (ended (grind usual)) refl
    refilled.failed ready.not_denied c.in_err-finish-in-Ok.ensures.fault)

pub reading-preserved : goal.reading-preserved
reading-preserved g c =
    let (run, _, (refilled, shown, _)) = read g (goal.at.reading-preserved g c).In-Ok in
    record { run = grind (arith, block_taken); counted = grind usual }

pub reading-smaller : goal.reading-smaller
reading-smaller g c = grind usual
