-- There is a reader for standard input and for each file so far. Each was just made, so none was read.
use Rattle.std.proofs.Common.{◌≡◌, ◌+◌, All, vec_len}
use Rattle.ptrun.specs.Files.{IsNewOrUnopened}
use Rattle.pttests.proofs.harness.readers.Given as goal

abbrev pub invariant-loop-position : goal.invariant-loop-position
invariant-loop-position l = record {
  count : vec_len l.inputs ≡ l.position + 1;
  fresh : All IsNewOrUnopened l.inputs.items;
}
