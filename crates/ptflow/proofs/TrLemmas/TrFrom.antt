-- The output of `tr` for the rest of a text, block by block. The last output byte is the only state, since squeezing
-- looks back no further. Then the laws of a text that is cut in two.
use Rattle.ptflow.proofs
use proofs.Common.{usual, ◌≡◌, ℕ, ◌-◌, not, Bool, false, List, [], ◌∷◌, ◌++◌, Option, None, Some, length, refl, ap}
use proofs.Common.{arith, filter, slice_get, last_or, option_or, append-nil, map-append, filter-append, IsPrefix}
use proofs.Common.{is_not_repeat, squeeze_after, tr_decided, squeeze_from, tr_from, eq-eqb, squeeze, BeginsWith, Each1}
use proofs.Common.{Fits, w8, suc, ◌<◌, get_or, EndsWith}
use proofs.Vectors.Lanes.{bytes_fit}
use Rattle.ptlangs.specs.TrPlan.{ByteMap}
use Rattle.ptflow.specs.Laws.Parts.{TrAfterByte, TrMeetsTwice, TrOfAnyParts, TrOfParts}

module _ (squeezed : ℕ → Bool) where
  pub repeats : (last b : ℕ) → is_not_repeat squeezed (last, b) ≡ false → last ≡ b
  repeats _ b h = grind arith

  after_split : (last : ℕ) (xs ys : List ℕ) → squeeze_after squeezed last (xs ++ ys) ≡ squeeze_after squeezed last xs
      ++ squeeze_from squeezed (last_or (Some last) (squeeze_after squeezed last xs)) ys
  after_split _ [] ys = refl
  after_split last (b ∷ xs) ys = grind (arith, after_split b xs ys, repeats last b)

  from_append : (last : Option ℕ) (xs ys : List ℕ)
      → squeeze_from squeezed last (xs ++ ys) ≡ squeeze_from squeezed last xs
      ++ squeeze_from squeezed (last_or last (squeeze_from squeezed last xs)) ys
  from_append = grind (arith, after_split)

-- ---- the last output byte

at_end : (b : ℕ) (bytes : List ℕ) → slice_get (b ∷ bytes) (length bytes) ≡ last_or (Some b) bytes
at_end b [] = refl
at_end b (c ∷ bytes) = at_end c bytes

some_last : (last : Option ℕ) (b : ℕ) (bytes : List ℕ)
    → option_or (last_or (Some b) bytes) last ≡ last_or (Some b) bytes
some_last _ b [] = refl
some_last last b (c ∷ bytes) = some_last last c bytes

last_is : (last : Option ℕ) (bytes : List ℕ) → option_or (slice_get bytes (length bytes - 1)) last ≡ last_or last bytes
last_is _ [] = refl
last_is last (b ∷ bytes) =
    let less : length (b ∷ bytes) - 1 ≡ length bytes = omega arith in
    cc (at_end b bytes, some_last last b bytes)

module _ (t : ByteMap) where
  pub front_on : (last : Option ℕ) (block rest : List ℕ)
      → tr_from t last (block ++ rest) ≡ tr_from t last block ++ tr_from t (last_or last (tr_from t last block)) rest
  front_on _ _ _ = simp (from_append, filter-append, map-append)

  pub block_on : (last : Option ℕ) {after : Option ℕ} (block : List ℕ) {written : List ℕ} (rest : List ℕ)
      → written ≡ tr_from t last block → after ≡ option_or (slice_get written (length written - 1)) last
      → tr_from t last (block ++ rest) ≡ written ++ tr_from t after rest
  block_on = grind (arith, front_on, last_is)

  pub rest_decided : (given pushed : List ℕ) (now : Option ℕ)
      → ((rest : List ℕ) → tr_from t None (given ++ rest) ≡ pushed ++ tr_from t now rest)
      → IsPrefix (tr_decided t (record { bytes = given; eof = false })) pushed
  rest_decided given pushed now on = record { rest = []; is = grind (usual, on [], append-nil given) }

-- ---- nothing is deleted or squeezed

after_all : (squeezed : ℕ → Bool) → ((b : ℕ) → squeezed b ≡ false) → (last : ℕ) (bytes : List ℕ)
    → squeeze_after squeezed last bytes ≡ bytes
after_all _ none _ [] = refl
after_all squeezed none last (b ∷ bytes) = grind (arith, after_all squeezed none b bytes)

pub from_all : (squeezed : ℕ → Bool) → ((b : ℕ) → squeezed b ≡ false) → (last : Option ℕ) (bytes : List ℕ)
    → squeeze_from squeezed last bytes ≡ bytes
from_all = grind (arith, after_all)

pub filter_all : (test : ℕ → Bool) → ((b : ℕ) → test b ≡ false) → (bytes : List ℕ)
    → filter (λ b. not (test b)) bytes ≡ bytes
filter_all test none [] = refl
filter_all test none (b ∷ bytes) = cc (none b, filter_all test none bytes)

-- ---- a text that is cut anywhere

last_of : {X : Type 0} (x : X) (xs : List X) → (last : X) × (last_or (Some x) xs ≡ Some last) × EndsWith last (x ∷ xs)
last_of x [] = (x, refl, ([], refl))
last_of x (y ∷ xs) =
    let (last, is, ends) = last_of y xs in
    let (front, split) = ends in (last, is, (x ∷ front, ap (◌∷◌ x) split))

from_two_parts : (squeezed : ℕ → Bool) (written bytes : List ℕ)
    → ((byte : ℕ) → EndsWith byte written → BeginsWith byte (squeeze squeezed bytes) → squeezed byte ≡ false)
    → squeeze_from squeezed (last_or None written) bytes ≡ squeeze squeezed bytes
from_two_parts _ [] bytes apart = refl
from_two_parts squeezed (b ∷ written) bytes apart =
    let (last, is, ends) = last_of b written in
    grind usual

pub tr_of_parts : TrOfParts
tr_of_parts m a b apart = cc (front_on _ None a b, from_two_parts _ _ _ apart)

pub tr_of_any_parts : TrOfAnyParts
tr_of_any_parts = grind (arith, tr_of_parts)

-- ---- the last output byte

last_after : {X : Type 0} (o : Option X) (front : List X) (x : X) → last_or o (front ++ x ∷ []) ≡ Some x
last_after o [] x = refl
last_after o (y ∷ front) x = last_after (Some y) front x

pub tr_after_byte : TrAfterByte
tr_after_byte m byte a b (front, ends) kept unsqueezed = grind (usual, tr_of_parts)

pub tr_meets_twice : TrMeetsTwice
tr_meets_twice m byte a b rest is (front, ends) begins =
    grind (arith, front_on m None a b, last_after None front byte, eq-eqb)

same_after : (p q : ℕ → Bool) → ((b : ℕ) → b < 256 → p b ≡ q b) → (last : ℕ) (bytes : List ℕ) → Each1 (Fits w8) bytes
    → squeeze_after p last bytes ≡ squeeze_after q last bytes
same_after p q same _ [] fit = refl
same_after p q same last (b ∷ bytes) (first, others) = grind (arith, same_after p q same b bytes others)

pub same_from : (p q : ℕ → Bool) → ((b : ℕ) → b < 256 → p b ≡ q b) → (last : Option ℕ) (bytes : List ℕ)
    → ((k : ℕ) → Fits w8 (get_or bytes k 0)) → squeeze_from p last bytes ≡ squeeze_from q last bytes
same_from p q same None [] fit = refl
same_from p q same None (b ∷ bytes) fit = ap (◌∷◌ b) (same_after p q same b _ (bytes_fit _ (λ k. fit (suc k))))
same_from p q same _ _ fit = grind (arith, same_after, bytes_fit)

pub ruleset tr_laws = (tr_of_any_parts, tr_of_parts, tr_after_byte, tr_meets_twice)
