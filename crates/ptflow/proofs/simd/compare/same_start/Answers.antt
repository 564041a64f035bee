-- The lanes before the lowest bit that is not set are equal.
use Rattle.ptflow.proofs
use Rattle.std.proofs.lemmas
use proofs.Common.{◌≡◌, ◌<◌, ◌≤◌, ℕ, ◌+◌, ◌^◌, Bool, true, false, cond, zero, suc, List, [], ◌∷◌, length, take, get_or}
use proofs.Common.{refl, ◌∙◌, arith, eqb, eqb-true, nat_tests, mask_l, mask_l-mod, mask_l-lt, zip2, length-zip2}
use proofs.Common.{bit_mask_l, tops_compared, w8, take-take, length-take-le, bytes_eq-Decides, usual, w64}
use proofs.Common.{trailing_ones}
use lemmas.Nat.Bits.{bit_at-trailing_ones}
use proofs.simd.compare.same_start.Goals as goal

is_set : (b : Bool) (n : ℕ) → n ≡ cond b 1 0 → n ≡ 1 → b ≡ true
is_set true n bit one = refl
is_set false n bit one = grind arith

same_before : (n : ℕ) (xs ys : List ℕ) → length xs ≡ length ys → n ≤ length xs
    → ((i : ℕ) → i < n → get_or (zip2 eqb xs ys) i false ≡ true) → take n xs ≡ take n ys
same_before zero xs ys long few same = refl
same_before (suc n) [] ys long few same = grind arith
same_before _ _ [] long few same = cc
same_before (suc n) (x ∷ xs) (y ∷ ys) long few same = cc (
  eqb-true x y (same 0 (omega arith)),
  same_before n xs ys (omega arith) (omega arith) (λ i low. same (suc i) (omega arith)),
)

pub returns-clause-same : goal.returns-clause-same
returns-clause-same c same =
    let len = c.args.len in
    let few : len ≤ 16 = omega arith in
    let enough : 16 ≤ length c.args.b.now = omega arith in
    let xs = take 16 c.args.a.now in
    let ys = take 16 c.args.b.now in
    let long = length-take-le 16 c.args.a.now (omega arith) in
    let also_long = length-take-le 16 c.args.b.now enough in
    let lanes = zip2 eqb xs ys in
    let sixteen = length-zip2 eqb xs ys (cc) ∙ long in
    let below : mask_l lanes + 1 < 2 ^ 64 = omega (arith, rw sixteen at (mask_l-lt lanes)) in
    let count : c.trailing_ones.result ≡ trailing_ones w64 (mask_l lanes) =
    rw (tops_compared w8 eqb xs ys, mask_l-mod lanes 64 (omega (arith, sixteen))) at c.trailing_ones.ensures in
    let least : len ≤ c.trailing_ones.result = grind (arith, nat_tests) in
    let (_, _, ones) = bit_at-trailing_ones w64 (mask_l lanes) below in
    cc (
      same_before len xs ys (cc) (omega (arith, long))
          (λ i low. is_set _ _ (bit_mask_l lanes i) (ones i (omega (arith, count, least)))),
      take-take len 16 c.args.a.now few,
      take-take len 16 c.args.b.now few,
    )

pub returns-then-len-b-clause-same : goal.returns-then-len-b-clause-same
returns-then-len-b-clause-same c same = grind (usual, bytes_eq-Decides)
