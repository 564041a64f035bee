-- Each fault has one message, which its branch says.
use Rattle.ptrun.proofs.driver.say_final_message.Goals as goal

pub returns-in-Err-Read-clause-message : goal.returns-in-Err-Read-clause-message
returns-in-Err-Read-clause-message g c =
    rw (c.in-Err-Read.is, rw c.in-Err-Read.is at c.in-Err-Read.field-0-is)
    (rw c.name_at-in-Err-Read.ensures at c.say-in-Err-Read.ensures)

pub returns-in-Err-Write-clause-message : goal.returns-in-Err-Write-clause-message
returns-in-Err-Write-clause-message g c =
    rw (c.in-Err-Write.is, rw c.in-Err-Write.is at c.in-Err-Write.field-0-is) c.say-in-Err-Write.ensures

pub returns-in-Err-Memory-clause-message : goal.returns-in-Err-Memory-clause-message
returns-in-Err-Memory-clause-message g c =
    rw (c.in-Err-Memory.is, rw c.in-Err-Memory.is at c.in-Err-Memory.field-0-is) c.say-in-Err-Memory.ensures
