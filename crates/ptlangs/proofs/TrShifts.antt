-- The stretches of a table of images give these images: a prepended byte is below all stretches after it, so only
-- its own stretch adds to it. And the bytes from an index on have no more stretches than all bytes.
use Rattle.ptlangs.proofs
use Rattle.std.proofs.lemmas
use proofs.Common.{Bool, List, Stretch, [], ap, arith, usual, cond_both, drop, get_or, length, prepend_shift, refl}
use proofs.Common.{shift_at, shift_of, stretches_from, suc, sum_by, zero, ℕ, ◌+◌, ◌-◌, ◌<◌, ◌∙◌, ◌∷◌, ◌≡◌, ◌≤◌}
use Rattle.std.proofs.Common.{reverse, ◌&&◌, ◌==◌, rules}
use lemmas.List.Sorted.{IsPermutation-reverse, sum_by-IsPermutation}
use lemmas.List.Sums.{sum_by-cons}

-- the sum of what the stretches add to a byte
abbrev pub moved : List Stretch → ℕ → ℕ
moved ss b = sum_by (λ s. shift_at s b) ss

pub moved_reversed : (ss : List Stretch) (b : ℕ) → moved (reverse ss) b ≡ moved ss b
moved_reversed ss b = sum_by-IsPermutation _ ss _ (IsPermutation-reverse ss)

abbrev AreFrom : ℕ → List Stretch → Type 0
AreFrom b [] = Unit {0}
AreFrom b (s ∷ ss) = ((b ≤ s.first) × (s.first ≤ s.last)) × AreFrom b ss

none_below : (b x : ℕ) (ss : List Stretch) → AreFrom b ss → x < b → moved ss x ≡ 0
none_below b x [] from low = refl
none_below b x (s ∷ ss) from low =
    let ((above, _), others) = from in
    let out : shift_at s x ≡ 0 = grind arith in
    sum_by-cons _ s ss ∙ (λ i. out i + none_below b x ss others low i)

weaker : (b : ℕ) (ss : List Stretch) → AreFrom (b + 1) ss → AreFrom b ss
weaker b [] from = tt
weaker b (s ∷ ss) from =
    let ((above, ascending), others) = from in ((omega arith, ascending), weaker b ss others)

module _ (b by : ℕ) where
  -- the byte extends the stretch after it
  abbrev goes_on : Stretch → Bool
  goes_on s = (s.by == by) && (s.first == b + 1)

  alone : (last : ℕ) (more : List Stretch) → b ≤ last → AreFrom (b + 1) more
      → moved (record { first = b; last = last; by = by } ∷ more) b ≡ by
  alone = grind (usual, none_below)

  at_front : (ss : List Stretch) → AreFrom (b + 1) ss → moved (prepend_shift b by ss) b ≡ by
  at_front [] from = alone b [] (omega arith) tt
  at_front (s ∷ ss) from =
      let ((above, ascending), others) = from in
      cond_both (goes_on s) _ _ (λ (all : List Stretch). moved all b ≡ by)
      (grind (arith, alone)) (search (rules, alone))

-- ---- the stretches of images

are_from : (b : ℕ) (images : List ℕ) → AreFrom b (stretches_from b images)
are_from b [] = tt
are_from b (image ∷ images) = grind (arith, weaker, are_from (b + 1) images)

-- a byte has no effect on those above it
above : (b j image : ℕ) (images : List ℕ) → b < j
    → moved (stretches_from b (image ∷ images)) j ≡ moved (stretches_from (b + 1) images) j
above = grind arith

pub moves_by : (b k : ℕ) (images : List ℕ) → k < length images
    → moved (stretches_from b images) (b + k) ≡ shift_of (b + k) (get_or images k 0)
moves_by b k [] low = absurd (omega arith)
moves_by b zero (image ∷ images) low = grind (arith, none_below, are_from, at_front)
moves_by b (suc k) (image ∷ images) low = grind (arith, above, moves_by (b + 1) k images (omega arith))

no_more : (b n : ℕ) (images : List ℕ)
    → length (stretches_from (b + n) (drop n images)) ≤ length (stretches_from b images)
no_more b zero images = grind arith
no_more b (suc n) [] = omega arith
no_more b (suc n) (image ∷ images) = grind (arith, no_more (b + 1) n images)

-- a byte that is not its own image is prepended to the stretches after it
pub moved_one : (n : ℕ) (images : List ℕ) → 0 < n → n ≤ length images
    → (shift_of (n - 1) (get_or images (n - 1) 0) ≡ 0 → ⊥)
    → stretches_from (n - 1) (drop (n - 1) images)
    ≡ prepend_shift (n - 1) (shift_of (n - 1) (get_or images (n - 1) 0)) (stretches_from n (drop n images))
moved_one = grind usual

pub no_more_behind : (n : ℕ) (images : List ℕ)
    → length (stretches_from n (drop n images)) ≤ length (stretches_from 0 images)
no_more_behind n images = grind (arith, no_more 0 n images, ap)
