-- Each turn opens the next name, and adds its reader. There is room for it, so nothing fails after the first request.
use Rattle.std.proofs.Common.{◌∙◌, arith, subst}
use Rattle.ptfiles.proofs.Inputs.{none_opened, next_opened, all_names}
use Rattle.ptfiles.specs.Private.Shell.{HaveOpened}
use Rattle.ptfiles.proofs.shell.open_inputs.Goals as goal

pub loop-name-init : goal.loop-name-init
loop-name-init g c = record {
  opened = rw (c.push_reserved.ensures.items, c.in_ok-readers.ensures.items)
      (none_opened (g.F.Files.state c.args.files.now) (g.S.Source.state c.args.standard) c.standard.result
      c.standard.ensures);
  room = c.push_reserved.ensures.capacity ∙ c.in_ok-readers.ensures.exact;
  count = omega (arith, c.push_reserved.ensures.len, c.in_ok-readers.ensures.len);
}

pub push_reserved-requires-in-loop-name : goal.push_reserved-requires-in-loop-name
push_reserved-requires-in-loop-name g c =
    omega (arith, c.loop-name.invariant.room, c.loop-name.invariant.count, c.loop-name-test.true)

pub loop-name-preserved : goal.loop-name-preserved
loop-name-preserved g c = record {
  opened = rw c.push_reserved-in-loop-name.ensures.items
      (next_opened c.args.names.now c.loop-name.name-index _ c.loop-name-test.true c.loop-name.invariant.opened
      c.open.ensures c.reader_of.ensures);
  room = c.push_reserved-in-loop-name.ensures.capacity ∙ c.loop-name.invariant.room;
  count = omega (arith, c.push_reserved-in-loop-name.ensures.len, c.loop-name.invariant.count);
}

pub returns-clause-opened : goal.returns-clause-opened
returns-clause-opened g c =
    subst (λ names. HaveOpened (g.F.Files.state c.args.files.now) (g.F.Files.state c.loop-name.files) names
    (g.S.Source.state c.args.standard) c.loop-name.readers.items)
    (all_names c.args.names.now c.loop-name.name-index c.loop-name.auto.name-index-end c.loop-name-test.false)
    c.loop-name.invariant.opened
