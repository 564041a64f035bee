-- The input of a reader: standard input, a file, or a file that could not be opened.
use Rattle.std.specs.Prelude.{Bool, true, false}
use Rattle.ptlines.specs.Sources.{SourceState, unopened_state}
use Rattle.ptlines.specs.declared.source.InputSource.{InputSource}
use Rattle.ptlines.specs.declared.source.InputSource.TheVariants.{File, Standard, Unopened}

-- the state of the source of an input
abbrev pub input_state : {S R : Type 0} → (S → SourceState) → (R → SourceState) → InputSource S R → SourceState
input_state s r (Standard x) = s x
input_state s r (File x) = r x
input_state s r Unopened = unopened_state

-- whether the input is a file that could not be opened
abbrev pub is_unopened_source : {S R : Type 0} → InputSource S R → Bool
is_unopened_source (Standard x) = false
is_unopened_source (File x) = false
is_unopened_source Unopened = true
