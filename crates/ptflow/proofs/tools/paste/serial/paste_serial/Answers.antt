-- `SerialPaste` is a block filter: at the start of a row the rest of the row is the whole output.
use Rattle.ptflow.proofs
use proofs.Common.{[], Reader, ap, arith, refl, paste_job, paste_serial_tool, row_rest, sym, ◌∙◌}
use proofs.Passes.Exits.{pass_unchanged, pass_set, ready_set}
use proofs.PasteLemmas.Replaced.{serial_is_decided}
use proofs.tools.paste.serial.paste_serial.Goals as goal

pub returns-in_err-terminator : goal.returns-in_err-terminator
returns-in_err-terminator g c = grind (arith, pass_unchanged)

pub returns : goal.returns
returns g c =
    let start = c.in_ok-terminator.ensures in
    let end = start.set.0 in
    let delims = c.as_slice-delims.ensures.all in
    pass_set _
    (c.run_blocks.ensures (paste_serial_tool (paste_job c.args.job.now))
    (record {
      text = λ bytes i. row_rest (end i) (delims i) 0 bytes;
      decided = λ given pushed now same on.
          serial_is_decided (paste_job c.args.job.now) _ _ end delims same _ _ _ (on []);
      holds = refl;
      slots = refl;
    })
    (sym (ap (λ (r : Reader). r.terminator) start.set.1 ∙ end)) c.args._store.now
    (ready_set _ c.requires start.set.1))
    start.set.1 end refl start.clean
