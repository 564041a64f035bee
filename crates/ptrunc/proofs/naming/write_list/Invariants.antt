-- The room holds the names so far.
use Rattle.std.proofs.Common.{◌≡◌, take}
use Rattle.ptrunc.specs.Results.{Holds}
use Rattle.ptlines.specs.Text.{unlines}
use Rattle.ptopts.specs.Commands.{words_view}
use Rattle.ptrunc.proofs.naming.write_list.Given as goal

abbrev pub invariant-loop-name : goal.invariant-loop-name
invariant-loop-name l = record {
  same_room : l.room.bytes.ghost_name ≡ l.initial.room.bytes.ghost_name;
  holds : Holds l.room.bytes.now (record { written = l.room.written; lacking = l.lacking })
      (unlines 0 (words_view (take l.name-index l.names)));
}
