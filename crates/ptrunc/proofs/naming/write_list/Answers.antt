-- The room with one name more: `append_name` adds this name and byte 0 to the names so far, and what does not fit is
-- added to the count.
use Rattle.std.proofs.Common.{◌∙◌}
use Rattle.ptrunc.proofs.NamingLemmas.{next_list}
use Rattle.ptrunc.proofs.naming.write_list.Goals as goal

pub loop-name-preserved : goal.loop-name-preserved
loop-name-preserved c =
    let so_far = c.loop-name.invariant in
    let more = c.append_name.ensures in
    record {
      same_room = more.same_room ∙ so_far.same_room;
      holds = next_list c.loop-name.room c.append_name.new.room c.args.names.now c.loop-name.name-index _ c.loop-name.lacking c.append_name.result c.in_ok-lacking.lacking c.loop-name-test.true
          so_far.holds more (c.in_ok-lacking.ensures).1;
    }
