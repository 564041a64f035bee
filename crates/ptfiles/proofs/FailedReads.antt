-- A read of a reader has failed only if a source of its type can fail.
use Rattle.std.proofs.Common.{◌≡◌, ℕ, zero, suc, ◌<◌, ◌≤◌, ◌⊎◌, inl, inr, ⊎_elim, false, List, Option, Some, None}
use Rattle.std.proofs.Common.{All, ap, sym, ◌∙◌, arith, length}
use Rattle.std.proofs.lemmas.Bool.{false≢true}
use Rattle.std.proofs.lemmas.List.{get_or_past}
use Rattle.ptlines.specs.Readers.{Reader, reader_at, no_reader}
use Rattle.ptlines.specs.Received.{Received}
use Rattle.ptlines.specs.Sources.{SourceState}
use Rattle.ptrun.specs.Files.{HasReadFailed, HasReceivedAt, HaveReceived, ReceivedInputs, at}
use Rattle.ptfiles.specs.Private.Failures.{FailedAsSource}
use Rattle.ptfiles.specs.Shell.{MayFail}

below_or_not : (a b : ℕ) → (a < b) ⊎ (b ≤ a)
below_or_not a zero = inr (omega arith)
below_or_not zero (suc b) = inl (omega arith)
below_or_not (suc a) (suc b) = ⊎_elim (λ below. inl (omega (arith, below))) (λ above. inr (omega (arith, above)))
    (below_or_not a b)

still_opened : (old new : Reader) (g : Option Received) → HasReceivedAt old new g → old.refused ≡ false
    → new.refused ≡ false
still_opened old new None received opened = absurd (false≢true (sym opened ∙ received.0))
still_opened old new (Some g) received opened = received.1.refused ∙ opened

-- After the last reader there is none whose read could fail.
pub failed_reads : {S R : Type 0} (s : S → SourceState) (r : R → SourceState) (old new : List Reader)
    → All (FailedAsSource s r) new → (received : ReceivedInputs) → HaveReceived old new received
    → (position : ℕ) → HasReadFailed old new position → MayFail s r
failed_reads {S} {R} s r old new all received came position failed =
    let opened = still_opened (reader_at old position) (reader_at new position) (at received position)
    (came position) failed.0 in
    ⊎_elim (λ within. of_source (all position no_reader within opened))
    (λ past. absurd (false≢true (sym (ap (λ (x : Reader). x.failed) (get_or_past new position no_reader past)) ∙ failed.2)))
    (below_or_not position (length new))
  where
    of_source : (((x : S) × ((reader_at new position).failed ≡ (s x).failed))
        ⊎ ((x : R) × ((reader_at new position).failed ≡ (r x).failed))) → MayFail s r
    of_source (inl x) = inl (x.0, sym x.1 ∙ failed.2)
    of_source (inr x) = inr (x.0, sym x.1 ∙ failed.2)
