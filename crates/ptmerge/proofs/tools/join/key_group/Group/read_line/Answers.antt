-- Both inputs are ready for the next call, since the copy changes only slots from 4 on. A line that is not copied stays
-- in its slot.
use Rattle.ptmerge.proofs
use proofs.Common.{arith, inl, refl, rules}
use proofs.MergeLemmas.{kept_line, valid_cursors_kept}
use proofs.tools.join.key_group.Group.read_line.Goals as goal

pub returns-in-Ok-clause-continues : goal.returns-in-Ok-clause-continues
returns-in-Ok-clause-continues g c =
    let now = c.in_ok-write_out_and_advance.ensures.advances.continues in
    assumption (
      now,
      valid_cursors_kept _ _ _ _ c.copy_to_group.new.store now.valid_cursors (search rules)
          (λ slot small. kept_line _ _ _ _ _ (omega (arith, c.requires.group.0)) c.in-Ok.ensures.ok),
    )

pub returns-in-Ok-clause-reads_line : goal.returns-in-Ok-clause-reads_line
returns-in-Ok-clause-reads_line g c = grind arith

pub returns-else-keep-clause-reads_line : goal.returns-else-keep-clause-reads_line
returns-else-keep-clause-reads_line g c = (
  c.has_same_key-has_more.ensures,
  record {
    made = c.write_out_and_advance.new.store;
    came = c.in_ok-write_out_and_advance.ensures.advances.came;
    kept = inl record { stays = grind arith; end_is = refl; store_is = refl };
  },
)
