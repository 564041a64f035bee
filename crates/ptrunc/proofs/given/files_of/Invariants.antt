-- The files so far, and those that the other ends give, are all files. The other ends are in order.
use Rattle.std.proofs.Common.{◌≡◌, ◌++◌, true, drop, length}
use Rattle.ptrunc.specs.Calls.Given.{are_ascending, cut_at}
use Rattle.ptrunc.specs.Inputs.{files_view}
use Rattle.ptrunc.proofs.given.files_of.Given as goal

abbrev pub invariant-loop-end : goal.invariant-loop-end
invariant-loop-end g l = record {
  files : files_view l.files.items ++ cut_at l.begin (drop l.end-index l.ends) l.bytes ≡ cut_at 0 l.ends l.bytes;
  in_order : are_ascending l.begin (drop l.end-index l.ends) (length l.bytes) ≡ true;
}
