-- `readers` makes a reader for standard input and for each file of a case. Each iteration appends the reader of one
-- file, which is new or could not be opened, as those before it.
use Rattle.std.proofs.Common.{arith}
use Rattle.std.proofs.lemmas.List.Elements.{All-push}
use Rattle.ptrun.specs.Files.{IsNewOrUnopened}
use Rattle.pttests.proofs.harness.readers.Goals as goal

pub loop-position-preserved : goal.loop-position-preserved
loop-position-preserved c = record {
  count = omega (arith, c.in_ok-push-2.ensures.len, c.loop-position.invariant.count);
  fresh = rw (c.in_ok-push-2.ensures.items)
      (All-push IsNewOrUnopened c.loop-position.inputs.items c.file_at.result
      c.loop-position.invariant.fresh c.file_at.ensures);
}
