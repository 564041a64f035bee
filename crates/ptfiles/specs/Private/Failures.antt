-- When a reader has failed.
use Rattle.std.specs.Prelude.{◌≡◌, ◌⊎◌, false}
use Rattle.ptlines.specs.Sources.{SourceState}
use Rattle.ptlines.specs.Readers.{Reader}

-- An opened reader has failed exactly if some source says so, of the type of standard input or of that of the files.
abbrev pub FailedAsSource : {S R : Type 0} → (S → SourceState) → (R → SourceState) → Reader → Type 0
FailedAsSource {S} {R} s r reader =
    reader.refused ≡ false
    → ((x : S) × (reader.failed ≡ (s x).failed)) ⊎ ((x : R) × (reader.failed ≡ (r x).failed))
