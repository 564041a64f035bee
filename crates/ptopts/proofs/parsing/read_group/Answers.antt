-- A flag is appended. The first letter that is not a flag ends the word, as an option with its value or as a fault.
use Rattle.ptopts.proofs
use proofs.Common.{arith, usual, is_flag, length, slice_index, true, ◌<◌, ◌≡◌}
use proofs.GroupInvariant.{fault_read, flag_read, value_read}
use proofs.parsing.read_group.Goals as goal

pub returns-in_err-option-clause-err : goal.returns-in_err-option-clause-err
returns-in_err-option-clause-err g c = grind (arith, fault_read)

pub returns-then-not-has_flag-clause-ok : goal.returns-then-not-has_flag-clause-ok
returns-then-not-has_flag-clause-ok g c = grind (arith, value_read)

pub loop-index-preserved : goal.loop-index-preserved
loop-index-preserved g c =
    let word = c.args.word.now in
    let within : c.loop-index.index < length word = grind arith in
    let is : is_flag c.args.tool (slice_index word c.loop-index.index) ≡ true = grind (arith, is_flag, slice_index) in
    flag_read c.args.tool word _ _ _ _ _ _ within is (grind arith) c.in_ok-push-2.ensures.items c.loop-index.invariant

pub returns-clause-ok : goal.returns-clause-ok
returns-clause-ok g c = grind usual
