-- Bytes that fit are copied after those of the row, and nothing is pushed.
use Rattle.ptmerge.proofs
use proofs.Common.{◌++◌, [], ap, append_assoc, sym, ◌∙◌}
use Rattle.std.proofs.Common.{take}
use Rattle.ptlines.proofs.Push.{push_nothing}
use proofs.tools.join.row.Row.add.Goals as goal

pub returns : goal.returns
returns g c = record {
  pushed = [];
  split = rw (← c.self.view_is) (sym (c.copy_all-2.ensures.copied
      ∙ ap (λ l. l ++ c.args.field.now) c.copy_all.ensures.copied
      ∙ append_assoc (take c.self.inside.end c.self.inside.bytes) c.args.prefix.now c.args.field.now));
  wrote = record { wrote = push_nothing _; clean = λ fine. fine; fault = tt };
}
