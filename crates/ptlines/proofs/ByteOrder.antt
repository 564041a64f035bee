-- Byte order by words of 1, 4 or 8 bytes: read as big-endian numbers, two words compare as their bytes do. Words at
-- one index of two strings, which are equal before it, decide the order if they differ; otherwise the strings are
-- equal up to the end of the words. If one string is a prefix of the other, the lengths decide.
use Rattle.ptlines.proofs
use proofs.Common.{◌≡◌, ℕ, zero, suc, ◌+◌, ◌*◌, ◌<◌, ◌≤◌, List, [], ◌∷◌, length, take, drop, min, refl, sym, ◌∙◌, ap}
use proofs.Common.{arith, get_or, Fits, take-add, take-take, chunk-fits, length-chunk, Each1, usual}
use Rattle.std.proofs.lemmas.Cmp.{nat_list_cmp_total, tied_itself}
use Rattle.std.specs.Int.{w8, w32, w64, from_be_bytes}
use Rattle.std.specs.Ordering.{nat_cmp, ordering_then}
use Rattle.std.specs.declared.cmp.Ordering.{Ordering}
use Rattle.std.specs.declared.cmp.Ordering.TheVariants.{Equal}
use Rattle.ptlines.specs.ByteOrder.{byte_cmp}
use Rattle.ptlines.specs.Private.ByteOrder.{byte_cmp_equal}

-- the number with the digits of `p`, and then these, to the base of 256
abbrev number : ℕ → List ℕ → ℕ
number p [] = p
number p (x ∷ xs) = number (p * 256 + x) xs

number_lt : (p q : ℕ) (xs ys : List ℕ) → length xs ≡ length ys → Each1 (Fits w8) xs → p < q → number p xs < number q ys
number_lt p q [] [] long fit less = less
number_lt p q (x ∷ xs) (y ∷ ys) long (first, fit) less =
    number_lt (p * 256 + x) (q * 256 + y) xs ys (omega arith) fit (omega arith)
number_lt p q _ _ long fit less = absurd (omega arith)

nat_cmp_equal : (x : ℕ) → nat_cmp x x ≡ Equal
nat_cmp_equal x = grind arith

digits_cmp : (p : ℕ) (xs ys : List ℕ) → length xs ≡ length ys → Each1 (Fits w8) xs → Each1 (Fits w8) ys
    → nat_cmp (number p xs) (number p ys) ≡ byte_cmp xs ys
digits_cmp p [] [] long fx fy = nat_cmp_equal p
digits_cmp p (x ∷ xs) (y ∷ ys) long (x_fits, xs_fit) (y_fits, ys_fit) =
    grind (arith, number_lt, digits_cmp (p * 256 + x) xs ys (omega arith) xs_fit ys_fit)
digits_cmp p _ _ long fx fy = absurd (omega arith)

pub word_1 : (xs : List ℕ) → length xs ≡ 1 → get_or xs 0 0 ≡ number 0 xs
word_1 = grind usual

pub byte_at : (at : ℕ) (xs : List ℕ) → get_or xs at 0 ≡ get_or (take 1 (drop at xs)) 0 0
byte_at zero [] = refl
byte_at zero (x ∷ xs) = refl
byte_at _ [] = refl
byte_at (suc at) (x ∷ xs) = byte_at at xs

pub word_4 : (xs : List ℕ) → length xs ≡ 4 → from_be_bytes w32 xs ≡ number 0 xs
word_4 = grind usual

pub word_8 : (xs : List ℕ) → length xs ≡ 8 → from_be_bytes w64 xs ≡ number 0 xs
word_8 = grind usual

-- ---- byte order, chunk by chunk

byte_cmp_split : (k : ℕ) (a b : List ℕ) → k ≤ length a → k ≤ length b
    → byte_cmp a b ≡ ordering_then (byte_cmp (take k a) (take k b)) (byte_cmp (drop k a) (drop k b))
byte_cmp_split zero a b la lb = refl
byte_cmp_split (suc k) (x ∷ a) (y ∷ b) la lb = grind (arith, byte_cmp_split k a b (omega arith) (omega arith))
byte_cmp_split _ _ _ la lb = absurd (omega arith)

first_decides : (r o k : Ordering) → o ≡ r → (r ≡ Equal → ⊥) → r ≡ ordering_then o k
first_decides = grind arith

-- Words of `n` bytes at the same index of two slices.
module _ {n : ℕ} {read : List ℕ → ℕ} (is_number : (xs : List ℕ) → length xs ≡ n → read xs ≡ number 0 xs)
    (at : ℕ) (a b : List ℕ) {x y : ℕ} (fits : at + n ≤ min (length a) (length b))
    (fa : (k : ℕ) → Fits w8 (get_or a k 0)) (fb : (k : ℕ) → Fits w8 (get_or b k 0)) (same : take at a ≡ take at b)
    (first : x ≡ read (take n (drop at a))) (second : y ≡ read (take n (drop at b))) where
  abbrev xs : List ℕ
  xs = take n (drop at a)

  abbrev ys : List ℕ
  ys = take n (drop at b)

  words_cmp : nat_cmp x y ≡ byte_cmp xs ys
  words_cmp =
      let long_a = length-chunk at n a (omega arith) in
      let long_b = length-chunk at n b (omega arith) in
      ap (λ z. nat_cmp z y) (first ∙ is_number xs long_a) ∙ ap (nat_cmp (number 0 xs)) (second ∙ is_number ys long_b)
      ∙ digits_cmp 0 xs ys (long_a ∙ sym long_b) (chunk-fits w8 at n a fa) (chunk-fits w8 at n b fb)

  pub words_differ : (x ≡ y → ⊥) → nat_cmp x y ≡ byte_cmp a b
  words_differ other =
      first_decides (nat_cmp x y) (byte_cmp xs ys) (byte_cmp (drop n (drop at a)) (drop n (drop at b)))
      (sym words_cmp) (grind arith)
      ∙ sym (grind (usual, byte_cmp_split))
      ∙ sym (byte_cmp_split at a b (omega arith) (omega arith)
      ∙ ap (λ o. ordering_then o (byte_cmp (drop at a) (drop at b)))
      (ap (byte_cmp (take at a)) (sym same) ∙ tied_itself nat_list_cmp_total (take at a)))

  pub words_same : x ≡ y → take (at + n) a ≡ take (at + n) b
  words_same is = grind (arith, take-add, xs, take, byte_cmp_equal, ys, words_cmp)

pub shorter_prefix_same : (m n : ℕ) (a b : List ℕ) → m ≤ n → take n a ≡ take n b → take m a ≡ take m b
shorter_prefix_same m n a b less same = sym (take-take m n a less) ∙ ap (take m) same ∙ take-take m n b less

pub cmp_by_length : (n : ℕ) (a b : List ℕ) → n ≡ min (length a) (length b) → take n a ≡ take n b
    → nat_cmp (length a) (length b) ≡ byte_cmp a b
cmp_by_length n [] [] least same = refl
cmp_by_length n [] (y ∷ b) least same = grind arith
cmp_by_length n _ [] least same = grind arith
cmp_by_length zero (x ∷ a) (y ∷ b) least same = absurd (omega arith)
cmp_by_length (suc n) (x ∷ a) (y ∷ b) least same = grind (arith, cmp_by_length n a b (omega arith) (ap (drop 1) same))
