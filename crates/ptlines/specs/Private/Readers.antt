-- The invariant of `LineReader`, and the effect of `has_more`.
use Rattle.std.specs.Prelude.{◌≡◌, ℕ, ◌<◌, ◌≤◌, Bool, true, false, []}
use Rattle.std.specs.Prelude.{Result, Ok, Err, length}
use Rattle.ptlines.specs.Calls.Readers.{AdvanceErr, AdvanceOk, HasReadCause, IsSound}
use Rattle.ptlines.specs.Readers.{IsDone, Reader}
use Rattle.ptlines.specs.declared.store.LineFault.{LineFault}
use Rattle.ptlines.specs.declared.store.LineFault.TheVariants.{Read}
use Rattle.ptlines.specs.declared.sizes.TheConstants.{BLOCK}

-- The invariant of `LineReader`: its bounds lie in the block, and its model is sound.
pub record IsValidReader (start end : ℕ) (at_eof : Bool) (r : Reader) : Type 0 where
  pub order : start ≤ end
  pub within : end ≤ BLOCK
  pub eof : at_eof ≡ r.eof
  pub sound : IsSound r

-- the effect of `has_more`: `true` if bytes are buffered now, `false` at the end of input
abbrev pub HasMorePost : Reader → Reader → Result Bool LineFault → Type 0
HasMorePost old new (Ok true) = AdvanceOk old new [] × (0 < length new.buffered)
HasMorePost old new (Ok false) = AdvanceOk old new [] × IsDone new
HasMorePost old new (Err fault) = AdvanceErr old new [] Read × HasReadCause old new × (fault ≡ Read)
