-- Counterexamples for `BoundedLag`: an output that is held back for more than two blocks of input, or in more than one
-- block of output, does not have it.
use Rattle.std.proofs.Common.{◌≡◌, ℕ, false, List, [], Option, Some, length, refl, sym, ◌∙◌, ap, arith, length-append}
use Rattle.std.specs.Io.KnownBytes.{append_known}
use Rattle.std.specs.Prelude.{replicate}
use Rattle.std.proofs.lemmas.List.{length-replicate}
use Rattle.ptlines.specs.Calls.Outputs.{Output}
use Rattle.ptlines.specs.Calls.Lag.{BoundedLag}
use Rattle.ptlines.proofs.Lag.{known_length}
use Rattle.ptlines.specs.declared.sizes.TheConstants.{BLOCK}

-- The bounds of the contracts name the block, whose size they do not say.
size_of_a_block : BLOCK ≡ 8192
size_of_a_block = refl

-- nothing was pushed although 20,000 bytes of decided output were received
nothing_pushed : (was is : Output) → BoundedLag {I = Unit {0}} (λ given. (given tt).bytes)
    (λ u. record { bytes = replicate 20000 120; eof = false }) was is [] → ⊥
nothing_pushed was is k = omega (
  arith,
  (k.processing.before tt).short,
  ap length (k.processing.before tt).split,
  length-append (k.processing.before tt).earlier.bytes (k.processing.before tt).last,
  length-replicate {A = ℕ} 20000 120,
  ap length k.processing.begins.is,
  length-append (k.processing.before tt).earlier.bytes k.processing.begins.rest,
)

-- all of 30,000 bytes were pushed, and none was written to the sink
nothing_sent : (was is : Output) (t : List ℕ) → was.accepted ≡ Some t → is.accepted ≡ Some t → was.buffered ≡ []
    → BoundedLag {I = Unit {0}} (λ given. (given tt).bytes)
    (λ u. record { bytes = replicate 30000 120; eof = false }) was is (replicate 30000 120) → ⊥
unfolding known_length
nothing_sent was is t took takes empty k = omega (
  arith,
  (k.processing.before tt).short,
  k.buffering.most,
  ap length (k.processing.before tt).split,
  length-append (k.processing.before tt).earlier.bytes (k.processing.before tt).last,
  length-replicate {A = ℕ} 30000 120,
  ap length empty,
  ap known_length (sym takes ∙ k.buffering.accepted
      ∙ ap (λ (b : Option (List ℕ)). append_known b k.buffering.written_out) took),
  length-append t k.buffering.written_out,
)
