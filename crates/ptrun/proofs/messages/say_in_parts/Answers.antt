-- Each part extends the prefix of the message that the sink has taken; a part that fails ends it.
use Rattle.ptrun.proofs
use proofs.Common.{arith, usual, rules}
use proofs.MessageWrites.{joined_all, joined_more, line_split, say_post_all, say_post_part}
use Rattle.ptlines.proofs.KnownBytes.{append_known-append}
use proofs.messages.say_in_parts.Goals as goal

pub returns-in-Err : goal.returns-in-Err
returns-in-Err g c =
    let split = line_split _ _ c.loop-part-test.true in
    search (rules, say_post_part)

pub loop-part-preserved : goal.loop-part-preserved
loop-part-preserved g c = rw (joined_more _ c.loop-part.part-index c.loop-part-test.true) (grind usual)

pub returns-in-Ok-write_out : goal.returns-in-Ok-write_out
returns-in-Ok-write_out g c = grind (arith, joined_all, say_post_all, append_known-append)

pub returns-in-Err-write_out : goal.returns-in-Err-write_out
returns-in-Err-write_out g c = grind (usual, joined_all)
