-- Output of inputs in parts. If they are split at the same key, the entries of the first parts come first, and a
-- disorder can only be in the second. If they are distributed by keys, each part has the entries of its keys, since a
-- filter by keys commutes with computing the distinct keys.
use Rattle.ptmerge.proofs
use Rattle.ptmerge.specs
use Rattle.std.proofs.lemmas
use proofs.Common.{arith, ◌≡◌, ℕ, ◌+◌, List, [], ◌∷◌, ◌++◌, Bool, true, false, Option, Some, None, refl, ap, sym, ◌∙◌}
use proofs.Common.{filter, Less, Side, First, Second, Lines, MergeTool, FirstDisorder, entries_by_key, disorder, usual}
use proofs.Common.{first_disorder, keys, merged_entries, sorted_prefixes, sorted_prefix, is_up_to, lines_of, Cmp, Key}
use proofs.Common.{unlines, unlines-append, ◌&&◌, not, tied_itself, flat_map, is_lt, distinct_keys, entries_of_key}
use proofs.Common.{IsLine, zero, suc, ◌<◌, ◌==◌, nat_lt, append_assoc, range_with_len, lines, rules}
use proofs.MergeLemmas.Exits.Invariant.{IsDisorderFrom, after_from, disorder_after, first_disorder_is, IsSortedFrom}
use proofs.MergeLemmas.Exits.Invariant.{sorted_from_start, sorted_from_none, is_disordered, sorted_after}
use proofs.MergeLemmas.Exits.Invariant.{sorted_prefix_is, IsDownwardClosed, all_keys, all_wanted, by_keys_kept}
use proofs.MergeLemmas.Exits.Invariant.{downward_splits, up_to_from, Each, Each-weaker, EachKey, Each-all, Each-parts}
use proofs.MergeLemmas.Exits.Invariant.{IsKeyOrder, AtMost, line_order}
use lemmas.List.Elements.{All-filter, recursion_from_All}
use lemmas.List.Sorted.{IsPermutation-refl, IsPermutation-trans, IsPermutation-append_left, IsPermutation-append_right}
use lemmas.List.Sorted.{IsPermutation-append_comm}
use Rattle.std.specs.List.Sorted.{IsPermutation}
use Rattle.ptlines.proofs.TextLaws.{lines-unlines, lines_are}
use Rattle.ptlines.proofs.PartLaws.{the_lines_of_parts}
use specs.Laws.Parts.{CommByKey, IsSplittableByKey, IsConcatOfParts, JoinByKey, CommOfParts, JoinOfParts, text_of_part}
use specs.Laws.Parts.{output_lines}

kept_parts : (p : List ℕ → Bool) (key : Key) (xs ys : Lines) → EachKey (λ k. p k ≡ true) key xs
    → EachKey (λ k. p k ≡ false) key ys
    → (filter (λ line. p (key line)) (xs ++ ys) ≡ xs) × (filter (λ line. not (p (key line))) (xs ++ ys) ≡ ys)
kept_parts p key [] [] e f = (refl, refl)
kept_parts p key [] (y ∷ ys) e (here, more) = search (rules, kept_parts p key [] ys tt more)
kept_parts p key (x ∷ xs) ys (here, more) f = search (rules, kept_parts p key xs ys more f)

-- ---- keys below others

key_split : (tool : MergeTool) (P : List ℕ → Type 0) (ls : Side → Lines) → Each P (keys tool ls) → (side : Side)
    → EachKey P (tool.key side) (ls side)
key_split _ P ls e = let (first, second) = Each-parts P _ _ e in elim [ First ↦ first | Second ↦ second ]

abbrev is_under : Cmp → Lines → List ℕ → Bool
is_under cmp [] k = true
is_under cmp (x ∷ ls) k = is_lt (cmp k x) && is_under cmp ls k

module _ (cmp : Cmp) (o : IsKeyOrder cmp) where
  below_under : (ls : Lines) (k : List ℕ) → Each (λ l. cmp k l ≡ Less) ls → is_under cmp ls k ≡ true
  below_under [] k e = refl
  below_under (x ∷ ls) k (here, more) = rw here (below_under ls k more)

  downward_under : (ls : Lines) → IsDownwardClosed cmp (is_under cmp ls)
  downward_under [] a b g h = refl
  downward_under (x ∷ ls) a b g h = search (rules, downward_under ls a b g)

  none_under : (ls : Lines) → Each (λ l. is_under cmp ls l ≡ false) ls
  none_under [] = tt
  none_under (x ∷ ls) = (rw (tied_itself o.total x), Each-weaker _ _ (λ l h. grind arith) ls (none_under ls))

abbrev without_line_number : Option FirstDisorder → Option FirstDisorder
without_line_number None = None
without_line_number (Some d) = Some (record { last_key = d.last_key; line = 0 })

module _ (cmp : Cmp) (o : IsKeyOrder cmp) (key : Key) where
  -- only the line number depends on the number of lines before
  uncounted : (last : Option (List ℕ)) (n m : ℕ) (ys : Lines)
      → without_line_number (disorder_after cmp key last n ys) ≡ without_line_number (disorder_after cmp key last m ys)
  uncounted _ n m [] = refl
  uncounted last n m (y ∷ ys) = grind (arith, uncounted (Some (key y)) (n + 1) (m + 1) ys)

  appended : (last : Option (List ℕ)) (n : ℕ) (xs ys : Lines) → IsSortedFrom cmp key last xs
      → EachKey (λ k. is_disordered cmp last k ≡ false) key ys → EachKey (λ k. EachKey (AtMost cmp k) key ys) key xs
      → (sorted_after cmp key last (xs ++ ys) ≡ xs ++ sorted_after cmp key None ys)
      × (without_line_number (disorder_after cmp key last n (xs ++ ys))
      ≡ without_line_number (disorder_after cmp key None 0 ys))
  appended _ n [] [] e h b = grind arith
  appended _ n [] (y ∷ ys) e (here, _) b = grind (arith, uncounted)
  appended last n (x ∷ xs) ys (here, more) h (below, below_all) =
      grind (arith, appended (Some (key x)) (n + 1) xs ys more below below_all)

  together : (xs ys : Lines) → first_disorder cmp key xs ≡ None → EachKey (λ k. EachKey (AtMost cmp k) key ys) key xs
      → (sorted_prefix cmp key (xs ++ ys) ≡ xs ++ sorted_prefix cmp key ys)
      × (without_line_number (first_disorder cmp key (xs ++ ys)) ≡ without_line_number (first_disorder cmp key ys))
  together xs ys e b =
      let all = appended _ 0 xs ys (sorted_from_none cmp key xs e) (Each-all _ (λ k. refl) _) b in
      grind (arith, first_disorder_is, sorted_prefix_is)

  each_ordered : (P : List ℕ → Type 0) (ys : Lines) → EachKey P key ys → EachKey P key (sorted_prefix cmp key ys)
  each_ordered P (x ∷ y ∷ ys) (here, more) = grind (arith, each_ordered P (y ∷ ys) more)
  each_ordered P _ e = e

  from_below : (k : List ℕ) (ys : Lines) → EachKey (AtMost cmp k) key ys
      → IsDisorderFrom cmp k (first_disorder cmp key ys)
  from_below k [] e = tt
  from_below k _ (here, _) = rw (first_disorder_is cmp key _) (grind (arith, after_from))

  kept_after : (p : List ℕ → Bool) (last from : Option (List ℕ)) (xs : Lines)
      → ((k : List ℕ) → is_disordered cmp last k ≡ false → is_disordered cmp from k ≡ false)
      → IsSortedFrom cmp key last xs → IsSortedFrom cmp key from (filter p xs)
  kept_after p _ _ [] up s = tt
  kept_after p last from (x ∷ xs) up (here, more) =
      let left_out = kept_after p (Some (key x)) from xs (λ k g. grind (arith, g)) more in
      grind (arith, kept_after p (Some (key x)) (Some (key x)) xs (λ k g. g) more)

  in_order_kept : (p : List ℕ → Bool) (xs : Lines) → first_disorder cmp key xs ≡ None
      → first_disorder cmp key (filter p xs) ≡ None
  in_order_kept p xs e = grind (arith, sorted_from_start, kept_after, sorted_from_none)

module _ (tool : MergeTool) (o : IsKeyOrder tool.cmp) where
  open tool use {cmp, key}

  pub none_disordered : (ls : Side → Lines) → disorder tool ls ≡ None → (side : Side)
      → first_disorder cmp (key side) (ls side) ≡ None
  none_disordered = grind arith

  pub merged_in_order : (ls : Side → Lines) → disorder tool ls ≡ None
      → merged_entries tool ls ≡ entries_by_key tool all_keys ls
  merged_in_order = grind (arith, sorted_from_start, sorted_from_none)

  -- the keys of the sorted lists `a` pass the test; those of `b`, which are higher, do not
  module _ (p : List ℕ → Bool) (down : IsDownwardClosed cmp p) (a b : Side → Lines) (in_order : disorder tool a ≡ None)
      (low : (side : Side) → EachKey (λ k. p k ≡ true) (key side) (a side))
      (high : (side : Side) → EachKey (λ k. p k ≡ false) (key side) (b side)) where
    at_most_high : (side : Side) (k : List ℕ) → p k ≡ true → EachKey (AtMost cmp k) (key side) (b side)
    at_most_high side k h = Each-weaker _ _ (λ l g. grind arith) _ (high side)

    both_go_on : (side : Side)
        → (sorted_prefix cmp (key side) (a side ++ b side) ≡ a side ++ sorted_prefix cmp (key side) (b side))
        × (without_line_number (first_disorder cmp (key side) (a side ++ b side))
        ≡ without_line_number (first_disorder cmp (key side) (b side)))
    both_go_on side = together cmp o _ _ _ (none_disordered a in_order _)
        (Each-weaker _ _ (at_most_high _) _ (low side))

    same_wanted : (k : List ℕ)
        → is_up_to cmp (disorder tool (λ side. a side ++ b side)) k ≡ is_up_to cmp (disorder tool b) k
    same_wanted = grind (arith, both_go_on)

    entries_together : merged_entries tool (λ side. a side ++ b side) ≡ merged_entries tool a ++ merged_entries tool b
    entries_together =
        let w = is_up_to cmp (disorder tool b) in
        let first_wanted = λ (side : Side).
        Each-weaker _ _ (λ k h. search (rules, from_below, at_most_high, up_to_from)) _ (low side) in
        let all : Side → Lines = λ side. a side ++ sorted_prefixes tool b side in
        let parts = λ (side : Side). kept_parts p (key side) (a side) (sorted_prefixes tool b side) (low side)
        (each_ordered cmp o (key side) (λ k. p k ≡ false) (b side) (high side)) in
        (λ i. entries_by_key tool (λ k. same_wanted k i) (λ side. (both_go_on side).0 i))
        ∙ downward_splits tool o w p down all
        ∙ (λ i. sym (by_keys_kept p tool o all w) i ++ sym (by_keys_kept (λ k. not (p k)) tool o all w) i)
        ∙ (λ i. entries_by_key tool w (λ side. (parts side).0 i) ++ entries_by_key tool w (λ side. (parts side).1 i))
        ∙ ap (λ l. l ++ merged_entries tool b) (all_wanted tool w a first_wanted ∙ sym (merged_in_order a in_order))

-- ---- texts in parts

of_parts : (tool : MergeTool) → IsKeyOrder tool.cmp → IsConcatOfParts tool
of_parts tool o first second cut =
    let a = lines_of tool first in
    let b = lines_of tool second in
    let p = is_under tool.cmp (keys tool b) in
    let low = key_split tool (λ k. p k ≡ true) a (Each-weaker _ _ (below_under tool.cmp o (keys tool b)) _ cut.below) in
    let high = key_split tool (λ k. p k ≡ false) b (none_under tool.cmp o (keys tool b)) in
    ap (unlines tool.terminator)
    ((λ i. merged_entries tool (λ side. the_lines_of_parts tool.terminator (first side) (second side)
    (cut.whole side) i))
    ∙ entries_together tool o p (downward_under tool.cmp o (keys tool b)) a b cut.in_order low high)
    ∙ unlines-append _ _ _

pub comm_of_parts : CommOfParts
comm_of_parts = search (rules, of_parts, line_order)

pub join_of_parts : JoinOfParts
join_of_parts = search (rules, of_parts, line_order)

-- ---- permutations

module _ {A : Type 0} where
  changed : (u v w : List A) → IsPermutation (u ++ (v ++ w)) (v ++ (u ++ w))
  changed u v w = rw (← append_assoc u v w, ← append_assoc v u w)
      (IsPermutation-append_left w _ _ (IsPermutation-append_comm u v))

  of_some : (f : List ℕ → List A) (p q : List ℕ → Bool) → ((k : List ℕ) → q k ≡ true → p k ≡ true) → (ks : Lines)
      → IsPermutation (flat_map f (filter p ks))
      (flat_map f (filter q ks) ++ flat_map f (filter (λ k. p k && not (q k)) ks))
  of_some f p q all [] = IsPermutation-refl []
  of_some f p q all (k ∷ ks) =
      let own = flat_map f (filter q ks) in
      let first = IsPermutation-append_right (f k) _ _ (of_some f p q all ks) in
      let second = IsPermutation-trans _ _ _ first (changed _ own _) in
      grind (arith, append_assoc, of_some f p q all ks, first, second)

  of_each : (f : List ℕ → List A) (part_of : List ℕ → ℕ) (w : List ℕ → Bool) (a n : ℕ)
      → ((k : List ℕ) → (w k ≡ not (nat_lt (part_of k) a)) × part_of k < a + n) → (ks : Lines)
      → IsPermutation (flat_map f (filter w ks))
      (flat_map (λ i. flat_map f (filter (λ k. part_of k == i) ks)) (range_with_len a n))
  of_each f part_of w a zero h [] = IsPermutation-refl []
  of_each f part_of w a zero h (k ∷ ks) = let out : w k ≡ false = grind (arith, h k) in
      rw out (of_each f _ w a _ h ks)
  of_each f part_of w a (suc n) h ks =
      IsPermutation-trans _ _ _ (of_some f w (λ k. part_of k == a) (λ k here. grind (arith, h k, here)) ks)
      (IsPermutation-append_right _ _ _ (of_each f part_of (λ k. w k && not (part_of k == a)) (a + 1) n
      (λ k. (grind (arith, h k), omega (arith, h k))) ks))

lines_of_each : (end : ℕ) (f : List ℕ → Lines) (ks es : Lines)
    → lines end (unlines end (es ++ flat_map f ks)) ≡ flat_map (λ e. lines end (e ++ end ∷ [])) es ++ flat_map
    (λ k. flat_map (λ e. lines end (e ++ end ∷ [])) (f k)) ks
lines_of_each end f [] [] = refl
lines_of_each end f (k ∷ ks) [] = lines_of_each end f ks (f k)
lines_of_each end f ks (e ∷ es) = search (rules, the_lines_of_parts, lines_of_each end f ks es, append_assoc)

lines_dealt : (end : ℕ) (q : List ℕ → Bool) (bytes : List ℕ)
    → lines end (unlines end (filter q (lines end bytes))) ≡ filter q (lines end bytes)
lines_dealt end q _ = lines-unlines end _
    (recursion_from_All _ _ (All-filter q (IsLine end) _ (grind (usual, lines_are))))

split_by_key : (tool : MergeTool) → IsKeyOrder tool.cmp → IsSplittableByKey tool
split_by_key tool o inputs part_of parts in_order below = simp (whole, of_part)
    (of_each each part_of all_keys 0 parts (λ k. (grind arith, omega arith)) ds)
  where
    ls : Side → Lines
    ls = lines_of tool inputs

    ds : Lines
    ds = distinct_keys tool.cmp (keys tool ls)

    each : List ℕ → Lines
    each k = flat_map (λ e. lines tool.terminator (e ++ tool.terminator ∷ [])) (entries_of_key tool ls k)

    of_part : (i : ℕ)
        → output_lines tool (text_of_part tool part_of inputs i) ≡ flat_map each (filter (λ k. part_of k == i) ds)
    of_part i =
        let own : List ℕ → Bool = λ k. part_of k == i in
        let in_part : Side → List ℕ → Bool = λ side line. own (tool.key side line) in
        let entries = merged_in_order tool o (λ side. filter (in_part side) (ls side))
        (grind (arith, in_order_kept, in_order)) ∙ by_keys_kept own tool o ls all_keys in
        (λ t. lines tool.terminator (unlines tool.terminator
        (merged_entries tool (λ side. lines_dealt tool.terminator (in_part side) (inputs side) t))))
        ∙ ap (λ es. lines tool.terminator (unlines tool.terminator es)) entries
        ∙ lines_of_each _ (entries_of_key tool ls) (filter own ds) []

    whole : output_lines tool inputs ≡ flat_map each (filter all_keys ds)
    whole = ap (λ es. lines tool.terminator (unlines tool.terminator es)) (merged_in_order tool o ls in_order)
        ∙ lines_of_each _ _ (filter all_keys ds) []

pub comm_of_keys : CommByKey
comm_of_keys = search (rules, split_by_key, line_order)

pub join_of_keys : JoinByKey
join_of_keys = search (rules, split_by_key, line_order)
