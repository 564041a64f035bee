-- The caller's memory ends as the rooms that the run has filled, since these still have the ghost names of its borrows.
use Rattle.std.proofs.Common.{sym, ◌∙◌}
use Rattle.ptrunc.proofs.running.run_in_memory.Goals as goal

pub returns : goal.returns
returns g c =
    let ran = c.run_into.ensures in
    let out_is = c.out-2-1.given.1.1 (sym (ran.same_out ∙ c.new-out.ensures.same_room)) in
    let messages_are = c.messages-2-1.given.1.1 (sym (ran.same_messages ∙ c.new-messages.ensures.same_room)) in
    rw (out_is, messages_are) ran.run
