-- The distinct keys of a merge: each key is among them once, so a sum over lines is the sum over the lines of each key.
use Rattle.ptmerge.proofs
use Rattle.std.proofs.Common.{sum_by}
use Rattle.std.proofs.lemmas.List.Sums.{sum_by-append, sum_by-cons}
use proofs.MergeLemmas.Exits.Invariant.{ap, flat_map, [], ◌≡◌, ◌⊎◌, inl, inr, ℕ, ◌+◌, List, ◌∷◌, ◌++◌, refl, arith}
use proofs.MergeLemmas.Exits.Invariant.{tied_itself, Cmp, Key, Lines, distinct_keys, insert_key, lines_with_key}
use proofs.MergeLemmas.Exits.Invariant.{same_bytes, IsKeyOrder, Each, EachKey, Above, Ascends, not_same}

-- the key is in the list
abbrev pub Has : List ℕ → Lines → Type 0
Has k [] = ⊥
Has k (x ∷ xs) = (k ≡ x) ⊎ Has k xs

pub has_left : (k : List ℕ) (xs ys : Lines) → Has k xs → Has k (xs ++ ys)
has_left k [] ys h = absurd h
has_left k (x ∷ xs) ys h = grind (arith, has_left k xs ys)

pub each_of : (P : List ℕ → Type 0) (xs : Lines) → ((k : List ℕ) → Has k xs → P k) → Each P xs
each_of P [] f = tt
each_of P (x ∷ xs) f = (f x (inl refl), each_of P xs (λ k h. f k (inr h)))

pub none_of_each : (ks : Lines) → flat_map {A = List ℕ} (λ (k : List ℕ). []) ks ≡ []
none_of_each [] = refl
none_of_each (k ∷ ks) = none_of_each ks

module _ (cmp : Cmp) (o : IsKeyOrder cmp) where
  has_inserted : (k l : List ℕ) (xs : Lines) → Has k (l ∷ xs) → Has k (insert_key cmp l xs)
  has_inserted k l [] h = h
  has_inserted k l (x ∷ xs) h = grind (arith, o.exact l x, has_inserted k l xs)

  pub has_distinct : (k : List ℕ) (xs : Lines) → Has k xs → Has k (distinct_keys cmp xs)
  has_distinct k [] h = absurd h
  has_distinct k (x ∷ xs) h = grind (arith, has_inserted k x (distinct_keys cmp xs), has_distinct k xs)

  pub above_at : (k l : List ℕ) (xs : Lines) → Each (Above cmp k) xs → Has l xs → Above cmp k l
  above_at k l [] a h = absurd h
  above_at k l (x ∷ xs) (here, more) h = grind (arith, above_at k l xs more)

  pub above_differs : (k l : List ℕ) → Above cmp k l → l ≡ k → ⊥
  above_differs k l a e = grind (arith, tied_itself o.total k, a, e)

  -- a line whose key is below all of these
  pub others : (key : Key) (x : List ℕ) (ls ks : Lines) → Each (Above cmp (key x)) ks
      → flat_map (lines_with_key key (x ∷ ls)) ks ≡ flat_map (lines_with_key key ls) ks
  others key x ls [] a = refl
  others key x ls (k ∷ ks) (here, more) =
      grind (arith, not_same (key x) k, above_differs (key x) k here, others key x ls ks more)

  module _ (f : List ℕ → ℕ) (key : Key) where
    line_once : (x : List ℕ) (ls ks : Lines) → Ascends cmp ks → Has (key x) ks
        → sum_by f (flat_map (lines_with_key key (x ∷ ls)) ks) ≡ f x + sum_by f (flat_map (lines_with_key key ls) ks)
    line_once x ls [] a h = absurd h
    line_once x ls (k ∷ ks) (above, a) (inl e) =
        rw (same_bytes e, others key x ls ks (rw e above)) (sum_by-cons f x (flat_map (lines_with_key key ls) (k ∷ ks)))
    line_once x ls (k ∷ ks) (above, a) (inr h) =
        rw (not_same (key x) k (above_differs k (key x) (above_at k (key x) ks above h))) (omega (
          arith,
          sum_by-append f (lines_with_key key ls k),
          line_once x ls ks a h,
        ))

    -- A sum over lines is the sum over the lines of each key.
    pub sum_by_keys : (ls ks : Lines) → Ascends cmp ks → EachKey (λ k. Has k ks) key ls
        → sum_by f (flat_map (lines_with_key key ls) ks) ≡ sum_by f ls
    sum_by_keys [] ks a h = ap (sum_by f) (none_of_each ks)
    sum_by_keys (x ∷ ls) ks a (here, more) =
        omega (arith, line_once x ls ks a here, sum_by_keys ls ks a more, sum_by-cons f x ls)
