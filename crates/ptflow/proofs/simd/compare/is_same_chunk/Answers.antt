-- No bit of the mask is set if and only if all lanes are equal.
use Rattle.ptflow.proofs
use proofs.Common.{◌≡◌, ℕ, Bool, not, true, false, List, [], ◌∷◌, length, take, drop, refl, ◌∙◌, arith, eqb, nat_tests}
use proofs.Common.{mask_l, mask_l-mod, zip2, length-zip2, tops_compared, w8, length-take-le, length-drop, eqb-true}
use proofs.Common.{eqb-false, MatchBool}
use proofs.simd.compare.is_same_chunk.Goals as goal

abbrev differ : ℕ → ℕ → Bool
differ x y = not (eqb x y)

equal_if_no_bit : (xs ys : List ℕ) → length xs ≡ length ys → mask_l (zip2 differ xs ys) ≡ 0 → xs ≡ ys
equal_if_no_bit [] [] long none = refl
equal_if_no_bit [] (y ∷ ys) long none = cc
equal_if_no_bit _ [] long none = cc
equal_if_no_bit (x ∷ xs) (y ∷ ys) long none = grind (arith, nat_tests, equal_if_no_bit xs ys)

no_bit_if_equal : (xs : List ℕ) → mask_l (zip2 differ xs xs) ≡ 0
no_bit_if_equal [] = refl
no_bit_if_equal (x ∷ xs) = grind (arith, nat_tests, no_bit_if_equal xs)

decided : (t : Bool) {P Q : Type 0} → (t ≡ true → P) → (t ≡ false → Q) → MatchBool t P Q
decided true positive negative = positive refl
decided false positive negative = negative refl

pub returns : goal.returns
returns g c =
    let n = g.row.N in
    let xs = take n (drop c.args.at c.args.a.now) in
    let ys = take n (drop c.args.at c.args.b.now) in
    let long : length xs ≡ n = length-take-le n _ (omega (arith, length-drop c.args.at c.args.a.now)) in
    let also_long : length ys ≡ n = length-take-le n _ (omega (arith, length-drop c.args.at c.args.b.now)) in
    let size = length-zip2 differ xs ys (cc) ∙ long in
    rw (tops_compared w8 differ xs ys, mask_l-mod (zip2 differ xs ys) 64 (omega (arith, size)))
    (decided _ (λ is_zero. equal_if_no_bit xs ys (cc) (eqb-true _ _ is_zero))
    (λ is_not same. eqb-false _ _ is_not (cc (no_bit_if_equal xs))))
