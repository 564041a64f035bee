-- The precondition of `comm` and `join` in one order, whose readers have their terminator already.
use Rattle.std.specs.Prelude.{◌≡◌, ℕ, false}
use Rattle.ptlines.specs.Calls.Outputs.{Output}
use Rattle.ptlines.specs.Calls.Readers.{IsSound}
use Rattle.ptlines.specs.Readers.{Reader}
use Rattle.ptlines.specs.Slots.{Slots}
use Rattle.ptmerge.specs.Calls.MergeCall.{MergePre}

-- The precondition of the engine in one order: besides, the terminator of both readers is set, and no write has failed.
pub record MergeRunPre (end : ℕ) (first second : Reader) (out : Output) (store : Slots) : Type 0 where
  pub ready : MergePre first second store
  pub sound1 : IsSound first
  pub sound2 : IsSound second
  pub terminator1 : first.terminator ≡ end
  pub terminator2 : second.terminator ≡ end
  pub writable : out.write_failed ≡ false
