-- The laws of the columns of `comm`. An input and itself have all lines in the third column, since sorted lines are
-- those of each key. Exchanged inputs have exchanged columns, since keys may be inserted in any order.
use Rattle.ptmerge.proofs
use Rattle.ptmerge.specs
use Rattle.std.proofs.Common.{◌-◌, bytes_eq, min, replicate}
use Rattle.std.proofs.lemmas.List.{map-append}
use specs.Calls.Comm.{comm_tool}
use specs.Calls.Sides.{both, whole_line}
use specs.Comm.{tab_if_shown}
use Rattle.ptlangs.specs.Jobs.{Comm}
use specs.Laws.Outputs.{CommOfItself, CommSwapped}
use proofs.MergeLemmas.Exits.Invariant.{[], ◌≡◌, inl, inr, ℕ, zero, suc, Bool, true, false, List, ◌∷◌, ◌++◌, refl, ap}
use proofs.MergeLemmas.Exits.Invariant.{sym, ◌∙◌, arith, length, map, filter, Option, Some, None, if◌then◌else◌}
use proofs.MergeLemmas.Exits.Invariant.{flat_map, tied_itself, append-nil, keys, Lines, distinct_keys, lines_with_key}
use proofs.MergeLemmas.Exits.Invariant.{FirstDisorder, Key, earlier_disorder, entries_of_key, is_up_to, first_disorder}
use proofs.MergeLemmas.Exits.Invariant.{sorted_prefix, Cmp, line_cmp, First, Second, IsKeyOrder, EachKey, Each-weaker}
use proofs.MergeLemmas.Exits.Invariant.{Above, AtMost, Ascends, same_bytes, not_same, insert_key, IsSortedFrom}
use proofs.MergeLemmas.Exits.Invariant.{greater_flips, less_flips, ascends_distinct, line_order, sorted_from_none}
use proofs.MergeLemmas.Exits.Invariant.{at_most_trans, from_key, kept_none}
use proofs.Parts.{none_disordered}
use proofs.CommLemmas.{no_entries}
use proofs.OutputLaws.Keys.{Has, above_at, above_differs, none_of_each, others}
use proofs.OutputLaws.Counts.{all_of, first_has, copies, in_order}

-- ---- sorted lines by their keys

module _ (cmp : Cmp) (o : IsKeyOrder cmp) where
  above_later : (k x y : List ℕ) → Above cmp k x → AtMost cmp x y → Above cmp k y
  above_later k x y a m = grind (arith, at_most_trans cmp o x y k m, a)

  module _ (key : Key) where
    one_more : (x : List ℕ) (ls ks : Lines) → Ascends cmp ks → Has (key x) ks → EachKey (AtMost cmp (key x)) key ls
        → flat_map (lines_with_key key (x ∷ ls)) ks ≡ x ∷ flat_map (lines_with_key key ls) ks
    one_more x ls [] a h m = absurd h
    one_more x ls (k ∷ ks) (above, a) (inl e) m =
        rw (same_bytes e) (ap (λ l. x ∷ lines_with_key key ls k ++ l) (others cmp o key x ls ks (rw e above)))
    one_more x ls (k ∷ ks) (above, a) (inr h) m =
        let here = above_at cmp o k (key x) ks above h in
        let other = λ (y : List ℕ) (a : Above cmp k y). not_same y k (above_differs cmp o k y a) in
        let later = Each-weaker _ _ (λ y g. other y (above_later k (key x) y here g)) _ m in
        rw (other (key x) here, kept_none (λ y. bytes_eq y k) key ls later) (one_more x ls ks a h m)

    -- Sorted lines are those of each key, one key after another.
    by_groups : (last : Option (List ℕ)) (ls ks : Lines) → Ascends cmp ks → EachKey (λ k. Has k ks) key ls
        → IsSortedFrom cmp key last ls → flat_map (lines_with_key key ls) ks ≡ ls
    by_groups last [] ks a h s = none_of_each ks
    by_groups last (x ∷ ls) ks a (here, more) (_, s) = one_more x ls ks a here (from_key cmp o key (key x) ls s)
        ∙ ap (λ l. x ∷ l) (by_groups (Some (key x)) ls ks a more s)

-- ---- an input and itself

map_copies : (f : List ℕ → List ℕ) (n : ℕ) (k : List ℕ) → map f (replicate n k) ≡ replicate n (f k)
map_copies f zero k = refl
map_copies f (suc n) k = cc (map_copies f n k)

abbrev third : Comm → List ℕ → List ℕ
third job line = tab_if_shown job.hide1 ++ tab_if_shown job.hide2 ++ line

entries_of_group : (job : Comm) (ls : Lines) (k : List ℕ) → entries_of_key (comm_tool job) (both ls ls) k
    ≡ (if job.hide3 then [] else map (third job) (lines_with_key (whole_line First) ls k))
entries_of_group job ls k =
    let n = length (lines_with_key (whole_line First) ls k) in
    let same : min n n ≡ n = omega arith in
    let none : n - n ≡ 0 = omega arith in
    rw (same, none, no_entries job.hide1 [] k, no_entries job.hide2 (tab_if_shown job.hide1) k) (append-nil _
    ∙ append-nil _ ∙ ap (λ l. if job.hide3 then [] else l) (sym (map_copies (third job) n k)
    ∙ ap (map (third job)) (sym (copies k ls))))

shown_of_each : (hidden : Bool) (f : List ℕ → List ℕ) (g : List ℕ → Lines) (ks : Lines)
    → flat_map (λ k. if hidden then [] else map f (g k)) ks ≡ (if hidden then [] else map f (flat_map g ks))
shown_of_each true f g ks = none_of_each ks
shown_of_each false f g [] = refl
shown_of_each false f g (k ∷ ks) = rw (shown_of_each false f g ks) (sym (map-append f (g k) (flat_map g ks)))

pub comm_of_itself : CommOfItself
comm_of_itself job ls e =
    let tool = comm_tool job in
    let o = line_order job.descending in
    let key = whole_line First in
    in_order tool o (both ls ls) e ∙ (λ i. flat_map (λ k. entries_of_group job ls k i) (all_of tool (both ls ls)))
    ∙ shown_of_each job.hide3 (third job) (lines_with_key key ls) _
    ∙ ap (λ l. if job.hide3 then [] else map (third job) l) (by_groups tool.cmp o key None ls _
    (ascends_distinct tool.cmp o (keys tool (both ls ls))) (first_has tool o (both ls ls))
    (sorted_from_none tool.cmp key ls (none_disordered tool o (both ls ls) e First)))

-- ---- the inputs exchanged

module _ (cmp : Cmp) (o : IsKeyOrder cmp) where
  inserts_swap : (x y : List ℕ) (ks : Lines)
      → insert_key cmp x (insert_key cmp y ks) ≡ insert_key cmp y (insert_key cmp x ks)
  inserts_swap x y [] = grind (arith, o.exact, tied_itself o.total, greater_flips cmp o, less_flips cmp o)
  inserts_swap x y (k ∷ ks) = grind (
    arith,
    o.exact,
    tied_itself o.total,
    greater_flips cmp o,
    less_flips cmp o,
    at_most_trans cmp o,
    inserts_swap x y ks,
  )

  one_inserted : (x : List ℕ) (xs ys : Lines)
      → distinct_keys cmp (xs ++ x ∷ ys) ≡ insert_key cmp x (distinct_keys cmp (xs ++ ys))
  one_inserted x [] ys = refl
  one_inserted x (z ∷ xs) ys = ap (insert_key cmp z) (one_inserted x xs ys) ∙ inserts_swap z x _

  -- the distinct keys of two lists in either order
  distinct_swapped : (xs ys : Lines) → distinct_keys cmp (xs ++ ys) ≡ distinct_keys cmp (ys ++ xs)
  distinct_swapped [] ys = ap (distinct_keys cmp) (sym (append-nil ys))
  distinct_swapped (x ∷ xs) ys = ap (insert_key cmp x) (distinct_swapped xs ys) ∙ sym (one_inserted x ys xs)

  same_wanted : (fa fb : Option FirstDisorder) (k : List ℕ)
      → is_up_to cmp (earlier_disorder cmp fa fb) k ≡ is_up_to cmp (earlier_disorder cmp fb fa) k
  same_wanted (Some a) (Some b) k = grind (
    arith,
    less_flips cmp o a.last_key b.last_key,
    greater_flips cmp o a.last_key b.last_key,
    o.exact a.last_key b.last_key,
    tied_itself o.total a.last_key,
  )
  same_wanted fa fb k = grind arith

pub comm_swapped : CommSwapped
comm_swapped job a b =
    let cmp = line_cmp job.descending in
    let o = line_order job.descending in
    let sa = sorted_prefix cmp (whole_line First) a in
    let sb = sorted_prefix cmp (whole_line Second) b in
    let own = λ (k : List ℕ). replicate (length (lines_with_key (whole_line Second) sb k)
    - length (lines_with_key (whole_line First) sa k)) k in
    let wanted = same_wanted cmp o (first_disorder cmp (whole_line First) a) (first_disorder cmp (whole_line Second) b)
    in
    let ks = distinct_swapped cmp o (map (whole_line First) sa) (map (whole_line Second) sb) in
    λ i. flat_map (λ k. sym (append-nil (own k)) i) (filter (λ k. wanted k i) (ks i))
