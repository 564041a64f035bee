-- The names so far were opened, and there is room for the readers of all.
use Rattle.std.proofs.Common.{◌≡◌, ◌+◌, length, take, vec_len}
use Rattle.std.specs.Prelude.{vec_capacity}
use Rattle.ptopts.specs.Commands.{words_view}
use Rattle.ptfiles.specs.Private.Shell.{HaveOpened}
use Rattle.ptfiles.proofs.shell.open_inputs.Given as goal

abbrev pub invariant-loop-name : goal.invariant-loop-name
invariant-loop-name g l = record {
  opened : HaveOpened (g.F.Files.state l.fn.files) (g.F.Files.state l.files) (take l.name-index (words_view l.names))
      (g.S.Source.state l.fn.standard) l.readers.items;
  room : vec_capacity l.readers ≡ length l.names + 1;
  count : vec_len l.readers ≡ l.name-index + 1;
}
