-- The invariant of a merge. No line that may follow in an input (`Bound`) has a lesser key than a processed one, so the
-- output for the processed lines is a prefix of the output for all inputs that begin with the lines read.
use Rattle.ptmerge.proofs
use Rattle.ptmerge.specs
use Rattle.std.proofs.lemmas
pub use proofs.Common.{◌≡◌, ◌⊎◌, inr, ℕ, List, Bool, true, false, refl, ◌∙◌, ap, arith, bytes_eq, Less, Equal, Greater}
pub use proofs.Common.{is_eq, is_gt, is_le, bytes_decides, tied_itself, Cmp, line_cmp, ◌<◌, length, get_or}
pub use proofs.Common.{suc, zero, [], ◌∷◌, ◌++◌, cond, map, append_assoc, append-nil, filter, flat_map, Side, First}
pub use proofs.Common.{Second, Lines, MergeTool, distinct_keys, keys, lines_with_key, entries_of_key, entries_by_key}
pub use proofs.Common.{Key, ◌+◌, Option, Some, None, nat_lt, unwrap_or, if◌then◌else◌, last_or, sorted_prefix, usual}
pub use proofs.Common.{first_disorder, FirstDisorder, ◌&&◌, not, sym, flat_map-append, is_up_to, subst, is_lt, Output}
pub use proofs.Common.{PushEffect, unlines, push_trans, push_nothing, unlines-append, disorder, merged_entries}
pub use proofs.Common.{option_map, with_side, disordered_line, inl}
use Rattle.std.specs.Cmp.{IsTotalOrder}
use Rattle.ptlines.specs.Private.ByteOrder.{byte_cmp_equal}
pub use Rattle.std.proofs.Common.{rules}
pub use specs.Private.BlockLines.{AtMost, Each, EachKey, HaveKey, IsSortedFrom, is_disordered}
pub use specs.MergeSpec.{MergeDisorder, is_past, earlier_disorder, insert_key, is_below}
pub use specs.Calls.MergeSpec.{is_decided}
use lemmas.Cmp.{back_total, nat_list_cmp_total, upto}
pub use lemmas.List.Elements.{filter-append}
pub use Rattle.std.specs.declared.cmp.Ordering.{Ordering}

pub record IsKeyOrder (cmp : Cmp) : Type 0 where
  pub total : IsTotalOrder cmp
  pub exact : (a b : List ℕ) → cmp a b ≡ Equal → a ≡ b

-- y is greater than k
abbrev pub Above : Cmp → List ℕ → List ℕ → Type 0
Above cmp k y = cmp y k ≡ Greater

pub is_greater : (r : Ordering) → is_gt r ≡ true → r ≡ Greater
is_greater = grind arith

pub same_bytes : {a b : List ℕ} → a ≡ b → bytes_eq a b ≡ true
same_bytes = search rules

pub not_same : (a b : List ℕ) → (a ≡ b → ⊥) → bytes_eq a b ≡ false
not_same a b n = grind (arith, bytes_decides a b)

module _ (cmp : Cmp) (o : IsKeyOrder cmp) where
  pub self_at_most : (a : List ℕ) → AtMost cmp a a
  self_at_most a = ap is_gt (tied_itself o.total a)

  pub equal_is : (a b : List ℕ) → is_eq (cmp a b) ≡ bytes_eq a b
  equal_is a b = grind (arith, not_same, bytes_decides)

  pub at_most_trans : (a b c : List ℕ) → AtMost cmp a b → AtMost cmp b c → AtMost cmp a c
  at_most_trans a b c p q = upto o.total a b c p q

  pub greater_flips : (a b : List ℕ) → cmp a b ≡ Greater → cmp b a ≡ Less
  greater_flips = search rules

  pub less_flips : (a b : List ℕ) → cmp a b ≡ Less → cmp b a ≡ Greater
  less_flips = search rules

  pub above_of : (k x : List ℕ) → AtMost cmp k x → ¬ (x ≡ k) → is_gt (cmp x k) ≡ true
  above_of k x = grind (arith, less_flips x k, o.exact x k)

pub line_order : (descending : Bool) → IsKeyOrder (line_cmp descending)
line_order = grind (arith, back_total, nat_list_cmp_total, byte_cmp_equal)

-- ---- the least key

pub Each-weaker : (P Q : List ℕ → Type 0) → ((x : List ℕ) → P x → Q x) → (xs : Lines) → Each P xs → Each Q xs
Each-weaker P Q f [] e = tt
Each-weaker P Q f (x ∷ xs) (here, more) = (f x here, Each-weaker P Q f xs more)

pub EachKey-at : (P : List ℕ → Type 0) (key : Key) (xs : Lines) (i : ℕ) → i < length xs → EachKey P key xs
    → P (key (get_or xs i []))
EachKey-at P key [] i low e = absurd (omega arith)
EachKey-at P key (x ∷ xs) zero low (here, _) = here
EachKey-at P key (x ∷ xs) (suc i) low (_, more) = EachKey-at P key xs i (omega arith) more

pub Each-all : (P : List ℕ → Type 0) → ((x : List ℕ) → P x) → (xs : Lines) → Each P xs
Each-all P f [] = tt
Each-all P f (x ∷ xs) = (f x, Each-all P f xs)

Each-append : (P : List ℕ → Type 0) (xs ys : Lines) → Each P xs → Each P ys → Each P (xs ++ ys)
Each-append P [] ys e h = h
Each-append P (x ∷ xs) ys (here, more) h = (here, Each-append P xs ys more h)

pub Each-parts : (P : List ℕ → Type 0) (xs ys : Lines) → Each P (xs ++ ys) → Each P xs × Each P ys
Each-parts P [] ys e = (tt, e)
Each-parts P (x ∷ xs) ys (here, more) = search (rules, Each-parts P xs ys more)

pub EachKey-append : (P : List ℕ → Type 0) (key : Key) (xs ys : Lines) → EachKey P key xs → EachKey P key ys
    → EachKey P key (xs ++ ys)
EachKey-append = grind usual

Each-insert : (cmp : Cmp) (P : List ℕ → Type 0) (k : List ℕ) (xs : Lines) → P k → Each P xs
    → Each P (insert_key cmp k xs)
Each-insert cmp P k [] h e = (h, tt)
Each-insert cmp P k (x ∷ xs) h (here, more) = grind (arith, Each-insert cmp P k xs h more)

Each-distinct : (cmp : Cmp) (P : List ℕ → Type 0) (xs : Lines) → Each P xs → Each P (distinct_keys cmp xs)
Each-distinct cmp P [] e = tt
Each-distinct cmp P (x ∷ xs) (here, more) = Each-insert cmp P x (distinct_keys cmp xs) here (Each-distinct _ P xs more)

insert_least : (cmp : Cmp) → IsKeyOrder cmp → (k : List ℕ) (ds : Lines) → Each (Above cmp k) ds
    → insert_key cmp k ds ≡ k ∷ ds
insert_least cmp o k [] a = refl
insert_least cmp o k (d ∷ ds) (here, _) = rw (greater_flips cmp o d k here)

pub kept_none : (w : List ℕ → Bool) (key : Key) (ls : Lines) → EachKey (λ k. w k ≡ false) key ls
    → filter (λ line. w (key line)) ls ≡ []
kept_none w key [] e = refl
kept_none w key (x ∷ ls) (here, more) = rw here (kept_none w key ls more)

module _ (tool : MergeTool) (o : IsKeyOrder tool.cmp) where
  open tool use {cmp}

  pub lines_with_key-above : (key : Key) (k : List ℕ) (r : Lines) → EachKey (Above cmp k) key r
      → lines_with_key key r k ≡ []
  lines_with_key-above key k r a =
      kept_none (λ y. bytes_eq y k) key r (Each-weaker _ _ (λ y g. (grind (arith, not_same y k))) _ a)

-- ---- lines in order

abbrev pub disorder_at : Option (List ℕ) → ℕ → FirstDisorder
disorder_at last n = record { last_key = unwrap_or last []; line = n + 1 }

module _ (cmp : Cmp) (key : Key) where
  -- after a line with the key `last`, if there is one
  abbrev pub sorted_after : Option (List ℕ) → Lines → Lines
  sorted_after last [] = []
  sorted_after last (x ∷ w) = cond (is_disordered cmp last (key x)) [] (x ∷ sorted_after (Some (key x)) w)

  abbrev pub disorder_after : Option (List ℕ) → ℕ → Lines → Option FirstDisorder
  disorder_after last n [] = None
  disorder_after last n (x ∷ w) =
      cond (is_disordered cmp last (key x)) (Some (disorder_at last n)) (disorder_after (Some (key x)) (n + 1) w)

  pub sorted_prefix_is : (ls : Lines) → sorted_prefix cmp key ls ≡ sorted_after None ls
  sorted_prefix_is (x ∷ y ∷ more) = grind (arith, sorted_prefix_is (y ∷ more))
  sorted_prefix_is _ = grind arith

  -- the first disorder, by the length of the sorted prefix
  abbrev by_length : Option (List ℕ) → ℕ → Lines → Lines → Option FirstDisorder
  by_length last n part ls = if nat_lt (length part) (length ls) then Some
      (record { last_key = unwrap_or (last_or last (map key part)) []; line = (n + length part) + 1 }) else None

  by_length_is : (last : Option (List ℕ)) (n : ℕ) (ls : Lines)
      → by_length last n (sorted_after last ls) ls ≡ disorder_after last n ls
  by_length_is last n [] = refl
  by_length_is last n (x ∷ w) = search (rules, by_length_is (Some (key x)) (n + 1) w)

  pub first_disorder_is : (ls : Lines) → first_disorder cmp key ls ≡ disorder_after None 0 ls
  first_disorder_is ls = grind (arith, sorted_prefix_is ls, by_length_is None 0 ls)

  sorted_from_whole : (last : Option (List ℕ)) (n : ℕ) (ls : Lines) → IsSortedFrom cmp key last ls
      → (sorted_after last ls ≡ ls) × (disorder_after last n ls ≡ None)
  sorted_from_whole last n [] r = (refl, refl)
  sorted_from_whole last n (x ∷ ls) (here, more) = grind (arith, sorted_from_whole (Some (key x)) (n + 1) ls more)

  pub sorted_from_start : (ls : Lines) → IsSortedFrom cmp key None ls
      → (sorted_prefix cmp key ls ≡ ls) × (first_disorder cmp key ls ≡ None)
  sorted_from_start ls r = grind (arith, sorted_from_whole _ 0 ls r, sorted_prefix_is)

  none_disordered : (last : Option (List ℕ)) (n : ℕ) (ls : Lines) → disorder_after last n ls ≡ None
      → IsSortedFrom cmp key last ls
  none_disordered last n [] e = tt
  none_disordered last n (x ∷ ls) e = grind (arith, none_disordered (Some (key x)) (n + 1) ls)

  pub sorted_from_none : (ls : Lines) → first_disorder cmp key ls ≡ None → IsSortedFrom cmp key None ls
  sorted_from_none ls e = grind (arith, none_disordered, first_disorder_is)

pub record IsSortedUpTo (cmp : Cmp) (key : Key) (q : Lines) (last : Option (List ℕ)) : Type 0 where
  pub ordered : (w : Lines) → sorted_prefix cmp key (q ++ w) ≡ q ++ sorted_after cmp key last w
  pub may_disorder : (w : Lines) → first_disorder cmp key (q ++ w) ≡ disorder_after cmp key last (length q) w

-- the disorder, if there is one, comes after a key that is at least k
abbrev pub IsDisorderFrom : Cmp → List ℕ → Option FirstDisorder → Type 0
IsDisorderFrom cmp k None = Unit {0}
IsDisorderFrom cmp k (Some d) = AtMost cmp k d.last_key

module _ (cmp : Cmp) (o : IsKeyOrder cmp) (key : Key) where
  pub from_key : (k : List ℕ) (ls : Lines) → IsSortedFrom cmp key (Some k) ls → EachKey (AtMost cmp k) key ls
  from_key k [] r = tt
  from_key k (x ∷ ls) (here, more) =
      (here, Each-weaker _ _ (λ y h. at_most_trans cmp o k (key x) y here h) _ (from_key (key x) ls more))

  pub after_from : (k : List ℕ) (n : ℕ) (w : Lines) → EachKey (AtMost cmp k) key (sorted_after cmp key (Some k) w)
      × IsDisorderFrom cmp k (disorder_after cmp key (Some k) n w)
  after_from k n [] = (tt, tt)
  after_from k n (x ∷ w) =
      let ih = after_from (key x) (n + 1) w in
      let (more, _) = ih in
      let weaker : is_gt _ ≡ false → EachKey (AtMost cmp k) key _ =
      λ h. Each-weaker _ _ (λ y a. at_most_trans cmp o k _ y h a) _ more in
      grind (arith, weaker)

-- The lines that may follow in an input: any; those with keys of at least k; none, after a disorder; none, at its end.
pub data Bound : Type 0 where
  NoBound : Bound
  AtLeast : List ℕ → Bound
  AfterDisorder : FirstDisorder → Bound
  NothingMore : Bound

abbrev pub MayFollow : Cmp → Key → Bound → Lines → Type 0
MayFollow cmp key NoBound r = Unit {0}
MayFollow cmp key (AtLeast k) r = EachKey (AtMost cmp k) key r
MayFollow cmp key (AfterDisorder d) r = r ≡ []
MayFollow cmp key NothingMore r = r ≡ []

abbrev pub MayDisorder : Cmp → Bound → Option FirstDisorder → Type 0
MayDisorder cmp NoBound f = Unit {0}
MayDisorder cmp (AtLeast k) f = IsDisorderFrom cmp k f
MayDisorder cmp (AfterDisorder d) f = f ≡ Some d
MayDisorder cmp NothingMore f = f ≡ None

abbrev pub IsUnder : Cmp → Bound → List ℕ → Type 0
IsUnder cmp NoBound k = ⊥
IsUnder cmp (AtLeast l) k = AtMost cmp k l
IsUnder cmp (AfterDisorder d) k = AtMost cmp k d.last_key
IsUnder cmp NothingMore k = Unit {0}

pub may_follow_none : (cmp : Cmp) (key : Key) (b : Bound) → MayFollow cmp key b []
may_follow_none = grind arith

-- `d` is a later bound than `b`: no more lines may follow, and no fewer keys are at most theirs
pub record IsLater (cmp : Cmp) (key : Key) (b d : Bound) : Type 0 where
  pub may_follow : (r : Lines) → MayFollow cmp key d r → MayFollow cmp key b r
  pub under : (k : List ℕ) → IsUnder cmp b k → IsUnder cmp d k

pub same_bound : {cmp : Cmp} {key : Key} {b : Bound} → IsLater cmp key b b
same_bound = search rules

-- the sorted prefix of `all` is `p` and then lines that the bound allows, and it allows the disorder
pub record IsFuture (cmp : Cmp) (key : Key) (all p : Lines) (b : Bound) : Type 0 where
  pub rest : Lines
  pub is : sorted_prefix cmp key all ≡ p ++ rest
  pub may_follow : MayFollow cmp key b rest
  pub may_disorder : MayDisorder cmp b (first_disorder cmp key all)

-- `p` of the lines read, `ls`, are processed, whatever follows `ls`; nothing follows the end of the input.
pub record IsProcessedPrefix (cmp : Cmp) (key : Key) (ls p : Lines) (b : Bound) : Type 0 where
  pub future : (w : Lines) → (b ≡ NothingMore → w ≡ []) → IsFuture cmp key (ls ++ w) p b

-- ---- the output

abbrev pub all_keys : List ℕ → Bool
all_keys k = true

pub filter_all : (w : List ℕ → Bool) (ks : Lines) → Each (λ k. w k ≡ true) ks → filter w ks ≡ ks
filter_all w [] e = refl
filter_all w (k ∷ ks) (here, more) = cc (filter_all w ks more)

filter_none : (w : List ℕ → Bool) (ks : Lines) → Each (λ k. w k ≡ false) ks → filter w ks ≡ []
filter_none w [] e = refl
filter_none w (k ∷ ks) (here, more) = rw here (filter_none w ks more)

abbrev pub Ascends : Cmp → Lines → Type 0
Ascends cmp [] = Unit {0}
Ascends cmp (k ∷ ks) = Each (Above cmp k) ks × Ascends cmp ks

abbrev pub IsDownwardClosed : Cmp → (List ℕ → Bool) → Type 0
IsDownwardClosed cmp w = (a b : List ℕ) → cmp b a ≡ Greater → w b ≡ true → w a ≡ true

module _ (cmp : Cmp) (o : IsKeyOrder cmp) where
  ascends_insert : (k : List ℕ) (ks : Lines) → Ascends cmp ks → Ascends cmp (insert_key cmp k ks)
  ascends_insert k [] a = (tt, tt)
  ascends_insert k (x ∷ xs) (above, more) = grind (arith, Each-weaker, Each-insert, ascends_insert k xs more)

  pub ascends_distinct : (ks : Lines) → Ascends cmp (distinct_keys cmp ks)
  ascends_distinct [] = tt
  ascends_distinct (k ∷ ks) = ascends_insert k _ (ascends_distinct ks)

  downward_first : (w p : List ℕ → Bool) → IsDownwardClosed cmp p → (ks : Lines) → Ascends cmp ks
      → filter w ks ≡ filter (λ k. w k && p k) ks ++ filter (λ k. w k && not (p k)) ks
  downward_first w p down [] a = refl
  downward_first w p down (k ∷ ks) (above, more) =
      search (rules, filter_none, Each-weaker, downward_first w p down ks more)

  pub up_to_from : (k : List ℕ) (f1 f2 : Option FirstDisorder) → IsDisorderFrom cmp k f1 → IsDisorderFrom cmp k f2
      → is_up_to cmp (earlier_disorder cmp f1 f2) k ≡ true
  up_to_from = grind arith

  pub written_is_wanted : (b1 b2 : Bound) (f1 f2 : Option FirstDisorder) (k : List ℕ) → MayDisorder cmp b1 f1
      → MayDisorder cmp b2 f2 → IsUnder cmp b1 k → IsUnder cmp b2 k → is_up_to cmp (earlier_disorder cmp f1 f2) k ≡ true
  written_is_wanted = grind arith

-- ---- lines with some of the keys

module _ (p : List ℕ → Bool) where
  each_kept : (P : List ℕ → Type 0) (ks : Lines) → Each P ks → Each P (filter p ks)
  each_kept P [] e = tt
  each_kept P (k ∷ ks) (here, more) = grind (arith, each_kept P ks more)

  module _ (cmp : Cmp) (o : IsKeyOrder cmp) where
    insert_kept : (k : List ℕ) (xs : Lines) → Ascends cmp xs
        → filter p (insert_key cmp k xs) ≡ cond (p k) (insert_key cmp k (filter p xs)) (filter p xs)
    insert_kept k [] a = refl
    insert_kept k (x ∷ xs) (above, more) =
        let least : cmp k x ≡ Less → insert_key cmp k (filter p xs) ≡ k ∷ filter p xs =
        grind (arith, insert_least, each_kept, Each-weaker) in
        grind (arith, insert_kept k xs more)

    distinct_kept : (ks : Lines) → filter p (distinct_keys cmp ks) ≡ distinct_keys cmp (filter p ks)
    distinct_kept [] = refl
    distinct_kept (k ∷ ks) = grind (arith, distinct_kept ks, insert_kept k _ (ascends_distinct cmp o ks))

  abbrev kept : Key → Lines → Lines
  kept key ls = filter (λ line. p (key line)) ls

  keys_kept : (key : Key) (ls : Lines) → map key (kept key ls) ≡ filter p (map key ls)
  keys_kept key [] = refl
  keys_kept key (x ∷ ls) = grind (arith, keys_kept key ls)

  with_key_kept : (key : Key) (k : List ℕ) (ls : Lines) → p k ≡ true
      → lines_with_key key (kept key ls) k ≡ lines_with_key key ls k
  with_key_kept key k [] h = refl
  with_key_kept key k (x ∷ ls) h = search (rules, with_key_kept key k ls h)

  module _ (tool : MergeTool) (o : IsKeyOrder tool.cmp) (ls : Side → Lines) where
    open tool use {cmp, entries, key}

    abbrev part : Side → Lines
    part side = kept (key side) (ls side)

    keys_of_part : keys tool part ≡ filter p (keys tool ls)
    keys_of_part = simp (keys_kept, filter-append)

    pub by_keys_kept : (w : List ℕ → Bool) → entries_by_key tool w part ≡ entries_by_key tool (λ k. w k && p k) ls
    by_keys_kept w = (λ i. flat_map (entries_of_key tool part)
        (filter w ((ap (distinct_keys cmp) keys_of_part ∙ sym (distinct_kept cmp o _)) i)))
        ∙ each_of (distinct_keys cmp (keys tool ls))
      where
        each_of : (ds : Lines) → flat_map (entries_of_key tool part) (filter w (filter p ds))
            ≡ flat_map (entries_of_key tool ls) (filter (λ k. w k && p k) ds)
        each_of [] = refl
        each_of (d ∷ ds) =
            let same : p d ≡ true → entries_of_key tool part d ≡ entries_of_key tool ls d =
            grind (arith, with_key_kept) in
            grind (arith, each_of ds)

-- ---- the least key comes first

record LeastLines (cmp : Cmp) (key : Key) (k : List ℕ) (f r : Lines) : Type 0 where
  least : filter (λ line. is_le (cmp (key line) k)) (f ++ r) ≡ f ++ lines_with_key key r k
  other : filter (λ line. not (is_le (cmp (key line) k))) (f ++ r) ≡ filter (λ line. not (is_le (cmp (key line) k))) r
  own : HaveKey key k (f ++ lines_with_key key r k)
  all : lines_with_key key (f ++ lines_with_key key r k) k ≡ f ++ lines_with_key key r k

module _ (cmp : Cmp) (o : IsKeyOrder cmp) where
  least_lines : (key : Key) (k : List ℕ) (f r : Lines) → HaveKey key k f → EachKey (AtMost cmp k) key r
      → LeastLines cmp key k f r
  least_lines key k [] [] e h = grind arith
  least_lines key k [] (x ∷ r) e (here, more) = grind (arith, least_lines key k [] r tt more, rules)
  least_lines key k (x ∷ f) r (here, more) h =
      let at : is_le (cmp (key x) k) ≡ true = rw here (grind arith) in
      grind (arith, at, same_bytes here, least_lines key k f r more h)

  only_key : (key1 key2 : Key) (k : List ℕ) (xs ys : Lines) → HaveKey key1 k xs → HaveKey key2 k ys
      → (distinct_keys cmp (map key1 xs ++ map key2 ys) ≡ k ∷ []) ⊎ ((xs ≡ []) × (ys ≡ []))
  only_key _ _ k [] [] e h = inr (refl, refl)
  only_key key1 key2 k [] (y ∷ ys) e (here, more) = grind (arith, only_key key1 key2 k [] ys tt more)
  only_key key1 key2 k (x ∷ xs) ys (here, more) h = grind (arith, only_key _ _ k xs ys more h)

abbrev pub output_of : MergeTool → (Side → Lines) → List ℕ
output_of tool p = unlines tool.terminator (entries_by_key tool all_keys p)

module _ (tool : MergeTool) where
  open tool use {cmp, key}

  pub all_wanted : (w : List ℕ → Bool) (p : Side → Lines) → ((side : Side)
      → EachKey (λ k. w k ≡ true) (key side) (p side)) → entries_by_key tool w p ≡ entries_by_key tool all_keys p
  all_wanted = grind (arith, filter_all, Each-distinct, Each-append, Each-all)

  pub none_wanted : (w : List ℕ → Bool) (r : Side → Lines) → ((side : Side)
      → EachKey (λ k. w k ≡ false) (key side) (r side)) → entries_by_key tool w r ≡ []
  none_wanted = grind (arith, filter_none, Each-distinct, Each-append)

  pub downward_splits : IsKeyOrder cmp → (w p : List ℕ → Bool) → IsDownwardClosed cmp p → (ls : Side → Lines)
      → entries_by_key tool w ls ≡ entries_by_key tool (λ k. w k && p k) ls
      ++ entries_by_key tool (λ k. w k && not (p k)) ls
  downward_splits o w p down ls =
      let ks = distinct_keys cmp (keys tool ls) in
      ap (flat_map (entries_of_key tool ls)) (grind (arith, downward_first, ascends_distinct))
      ∙ flat_map-append (entries_of_key tool ls) (filter (λ k. w k && p k) ks) (filter (λ k. w k && not (p k)) ks)

  module _ (o : IsKeyOrder cmp) (w : List ℕ → Bool) (k : List ℕ) (none : tool.entries k [] [] ≡ []) where
    of_one_key : (ls : Side → Lines) → ((side : Side) → HaveKey (key side) k (ls side))
        → ((side : Side) → lines_with_key (key side) (ls side) k ≡ ls side)
        → entries_by_key tool w ls ≡ cond (w k) (tool.entries k (ls First) (ls Second)) []
    of_one_key ls own all = grind (arith, append-nil, none, only_key cmp o _ _ k _ _ (own First) (own Second))

    abbrev pub later_entries : (Side → Lines) → Lines
    later_entries r = entries_by_key tool (λ x. w x && not (is_le (cmp x k))) r

    pub front_is : (f r : Side → Lines) → ((side : Side) → HaveKey (key side) k (f side))
        → ((side : Side) → EachKey (AtMost cmp k) (key side) (r side))
        → entries_by_key tool w (λ side. f side ++ r side)
        ≡ cond (w k) (tool.entries k (f First ++ lines_with_key (key First) (r First) k)
        (f Second ++ lines_with_key (key Second) (r Second) k)) [] ++ later_entries r
    front_is f r own above =
        let p = λ (x : List ℕ). is_le (cmp x k) in
        let ls : Side → Lines = λ side. f side ++ r side in
        let s = λ (side : Side). least_lines cmp o _ k _ _ (own side) (above side) in
        let first = sym (by_keys_kept p tool o ls w) ∙ (λ i. entries_by_key tool w (λ side. (s side).least i))
        ∙ of_one_key _ (λ side. (s side).own) (λ side. (s side).all) in
        let rest = sym (by_keys_kept (λ x. not (p x)) tool o ls w)
        ∙ (λ i. entries_by_key tool w (λ side. (s side).other i)) ∙ by_keys_kept (λ x. not (p x)) tool o r w in
        downward_splits o w p (grind arith) ls ∙ (λ i. first i ++ rest i)

  abbrev pub MayCome : (Side → Bound) → (Side → Lines) → Type 0
  MayCome b r = (side : Side) → MayFollow cmp (key side) (b side) (r side)

  -- for every choice of keys and all lines that may follow, the entries of the processed lines come first
  abbrev pub Splits : (Side → Bound) → (Side → Lines) → Type 0
  Splits b p = (w : List ℕ → Bool) (r : Side → Lines) → MayCome b r
      → entries_by_key tool w (λ side. p side ++ r side) ≡ entries_by_key tool w p ++ entries_by_key tool w r

-- ---- the bytes written

-- the output is that of the processed lines, which comes first whatever follows
pub record MergeInvariant (tool : MergeTool) (b : Side → Bound) (p : Side → Lines) (was is : Output) : Type 0 where
  pub splits : Splits tool b p
  pub under : (of side : Side) → EachKey (IsUnder tool.cmp (b of)) (tool.key side) (p side)
  pub wrote : PushEffect was is (output_of tool p)

pub merge_invariant_starts : (tool : MergeTool) (was : Output)
    → MergeInvariant tool (λ side. NoBound) (λ side. []) was was
merge_invariant_starts = search rules

both_under : (key : Key) (P Q R : List ℕ → Type 0) → ((k : List ℕ) → P k → Q k → R k) → (xs : Lines)
    → EachKey P key xs → EachKey Q key xs → EachKey R key xs
both_under key P Q R f [] p q = tt
both_under key P Q R f (x ∷ xs) (p, more1) (q, more2) = (f (key x) p q, both_under key P Q R f xs more1 more2)

pub input_split : {tool : MergeTool} (o : IsKeyOrder tool.cmp) {b : Side → Bound} {p ls : Side → Lines}
    {was is : Output} → MergeInvariant tool b p was is
    → (s : (side : Side) → IsFuture tool.cmp (tool.key side) (ls side) (p side) (b side))
    → merged_entries tool ls ≡ entries_by_key tool all_keys p
    ++ entries_by_key tool (is_up_to tool.cmp (disorder tool ls)) (λ side. (s side).rest)
input_split {tool} o {b} {p} {ls} m s =
    let w = is_up_to tool.cmp (disorder tool ls) in
    let first = all_wanted tool w p (λ side. both_under _ _ _ _
    (λ k u1 u2. written_is_wanted _ o _ _ _ _ k (s First).may_disorder (s Second).may_disorder u1 u2)
    _ (m.under First side) (m.under Second side)) in
    (λ i. entries_by_key tool w (λ side. (s side).is i))
    ∙ cc (m.splits w (λ side. (s side).rest) (λ side. (s side).may_follow))

-- the entries `done` come first, for all lists that continue those read so far
abbrev pub ComeFirst : MergeTool → (Side → Bound) → (Side → Lines) → Lines → Type 0
ComeFirst tool b p done = (all : Side → Lines)
    → ((side : Side) → IsFuture tool.cmp (tool.key side) (all side) (p side) (b side))
    → (rest : Lines) × (merged_entries tool all ≡ done ++ rest)

-- The entries `done` are written, and by the last time at which no write had failed, those of all processed lines `p`
-- except perhaps the last ones, which precede all that may follow.
pub record LagInvariant (tool : MergeTool) (b : Side → Bound) (p : Side → Lines) (was is : Output)
    (done : Lines) : Type 0 where
  pub mid : Output
  pub front : Side → Lines
  pub tail : Side → Lines
  pub bound : Side → Bound
  pub clean : mid.write_failed ≡ false
  pub wrote : PushEffect was mid (output_of tool front)
  pub bytes : List ℕ
  pub more : PushEffect mid is bytes
  pub all : output_of tool front ++ bytes ≡ unlines tool.terminator done
  pub split : (side : Side) → p side ≡ front side ++ tail side
  pub under : (of side : Side) → EachKey (IsUnder tool.cmp (b of)) (tool.key side) (p side)
  pub under_bound : (of side : Side) → EachKey (IsUnder tool.cmp (bound of)) (tool.key side) (p side)
  pub may_follow : (side : Side) (r : Lines) → MayFollow tool.cmp (tool.key side) (b side) r
      → MayFollow tool.cmp (tool.key side) (bound side) (tail side ++ r)
  pub first : ComeFirst tool b p done

-- the entries of all processed lines are in the output
abbrev pub AllWritten : MergeTool → (Side → Bound) → (Side → Lines) → Output → Output → Type 0
AllWritten tool b p was is = LagInvariant tool b p was is (entries_by_key tool all_keys p)

abbrev pub Written : MergeTool → (Side → Bound) → (Side → Lines) → Output → Output → Type 0
Written tool b p was is = MergeInvariant tool b p was is × AllWritten tool b p was is

pub lag_invariant_starts : {tool : MergeTool} → IsKeyOrder tool.cmp → {b : Side → Bound} {p : Side → Lines}
    {was mid is : Output} → MergeInvariant tool b p was mid → mid.write_failed ≡ false → PushEffect mid is []
    → AllWritten tool b p was is
lag_invariant_starts o {b} {p} {mid = mid} m clean more = record {
  mid = mid;
  front = p;
  tail = λ side. [];
  bound = b;
  clean = clean;
  wrote = m.wrote;
  bytes = [];
  more = more;
  all = append-nil _;
  split = λ side. sym (append-nil (p side));
  under = m.under;
  under_bound = m.under;
  may_follow = λ side r c. c;
  first = λ all s. (_, input_split o m s);
}

-- the lines `f`, all with the key `k`, may follow at the bound `b`, and precede all lines that may follow at `d`
pub record IsLeastKeyRun (cmp : Cmp) (key : Key) (b d : Bound) (k : List ℕ) (f : Lines) : Type 0 where
  pub own : HaveKey key k f
  pub may_follow : (r : Lines) → MayFollow cmp key d r → MayFollow cmp key b (f ++ r)
  pub own_under : IsUnder cmp b k
  pub under : (j : List ℕ) → IsUnder cmp b j → IsUnder cmp d j
  pub later : IsLater cmp key (AtLeast k) d

pub line_is_least_run : {cmp : Cmp} (o : IsKeyOrder cmp) {key : Key} {b : Bound} {k x : List ℕ} → b ≡ AtLeast (key x)
    → key x ≡ k → IsLeastKeyRun cmp key b b k (x ∷ [])
line_is_least_run = grind arith

pub write_least_run : {tool : MergeTool} (o : IsKeyOrder tool.cmp) (k : List ℕ) (q f : Side → Lines)
    {b d : Side → Bound} {p : Side → Lines} {was is new : Output}
    → ((side : Side) → IsLeastKeyRun tool.cmp (tool.key side) (b side) (d side) k (f side))
    → ((side : Side) → q side ≡ p side ++ f side) → tool.entries k [] [] ≡ []
    → ((r : Side → Lines) → MayCome tool d r → tool.entries k (f First ++ lines_with_key (tool.key First) (r First) k)
    (f Second ++ lines_with_key (tool.key Second) (r Second) k) ≡ tool.entries k (f First) (f Second) ++ entries_of_key
    tool r k) → is.write_failed ≡ false → MergeInvariant tool b p was is
    → PushEffect is new (output_of tool f) → Written tool d q was new
write_least_run {tool} o k q f {b} {d} {p} {was} {is} {new} front all none law clean m wrote =
    let nothing =
    λ (side : Side). rw append-nil at
    ((front side).may_follow [] (may_follow_none tool.cmp (tool.key side) (d side))) in
    let texts = ap (unlines tool.terminator) (m.splits all_keys f nothing)
    ∙ unlines-append _ (entries_by_key tool all_keys p) (entries_by_key tool all_keys f) in
    let under : (of side : Side) → EachKey (IsUnder tool.cmp (b of)) (tool.key side) (p side ++ f side) =
    λ of side. EachKey-append _ (tool.key side) _ _ (m.under of side)
    (Each-weaker _ _ (λ y e. rw e (front of).own_under) _ (front side).own) in
    let now : MergeInvariant tool d (λ side. p side ++ f side) was new = record {
      splits = λ w r c.
          let own = λ (side : Side). (front side).own in
          let above = λ (side : Side). (front side).later.may_follow (r side) (c side) in
          let alone = simp append-nil at (front_is tool o w k none f (λ side. []) own (λ side. tt)) in
          (λ i. entries_by_key tool w (λ side. append_assoc (p side) (f side) (r side) i)) ∙ grind (
            arith,
            m.splits w (λ side. f side ++ r side) (λ side. (front side).may_follow (r side) (c side)),
            alone,
            front_is tool o w k none (λ side. []) r (λ side. tt) above,
            front_is tool o w k none f r own above,
            append_assoc (tool.entries k (f First) (f Second)) (entries_of_key tool r k)
                (later_entries tool o w k none r),
            append_assoc (entries_by_key tool w p) (entries_by_key tool w f) (entries_by_key tool w r),
          );
      under = λ of side. Each-weaker _ _ (front of).under _ (under of side);
      wrote = rw texts (push_trans _ _ _ _ _ clean m.wrote wrote);
    } in
    subst (λ (l : Side → Lines). Written tool d l was new) (λ i side. sym (all side) i) (
      now,
      record {
        mid = is;
        front = p;
        tail = f;
        bound = b;
        clean = clean;
        wrote = m.wrote;
        bytes = output_of tool f;
        more = wrote;
        all = sym texts;
        split = λ side. refl;
        under = now.under;
        under_bound = under;
        may_follow = λ side. (front side).may_follow;
        first = λ l s. (_, input_split o now s);
      },
    )

pub bounds_change : {tool : MergeTool} {b d : Side → Bound} {p : Side → Lines} {was is : Output}
    → ((side : Side) → IsLater tool.cmp (tool.key side) (b side) (d side)) → MergeInvariant tool b p was is
    → MergeInvariant tool d p was is
bounds_change later m = record {
  splits = λ w r c. m.splits w r (λ side. (later side).may_follow _ (c side));
  under = λ of side. Each-weaker _ _ (later of).under _ (m.under of side);
  wrote = m.wrote;
}

pub bound_changes : {tool : MergeTool} {b : Side → Bound} {p : Side → Lines} {was is : Output} (s : Side) {d : Bound}
    → MergeInvariant tool b p was is → IsLater tool.cmp (tool.key s) (b s) d
    → MergeInvariant tool (with_side s d b) p was is
bound_changes s m later = bounds_change (grind arith) m

-- the disorder is the one found, if any, and no line that may follow changes the output
abbrev pub IsExactStop : MergeTool → (Side → Bound) → Option (Side × ℕ) → Type 0
IsExactStop tool b found = (ls r : Side → Lines) → MayCome tool b r
    → ((s : Side) → MayDisorder tool.cmp (b s) (first_disorder tool.cmp (tool.key s) (ls s)))
    → (entries_by_key tool (is_up_to tool.cmp (disorder tool ls)) r ≡ [])
    × (option_map disordered_line (disorder tool ls) ≡ found)

-- ---- the decided output

last_has : (key : Key) (P : List ℕ → Type 0) (last : Option (List ℕ)) (xs : Lines) (x : List ℕ)
    → last_or last (map key xs) ≡ Some x → ((y : List ℕ) → last ≡ Some y → P y) → EachKey P key xs → P x
last_has key P _ [] x e f h = f x e
last_has key P last (y ∷ xs) x e f (here, more) =
    last_has key P (Some (key y)) xs x e (λ z same. subst P (cc same) here) more

module _ (cmp : Cmp) (o : IsKeyOrder cmp) where
  pub not_below : (k x : List ℕ) → AtMost cmp x k → is_lt (cmp k x) ≡ false
  not_below k x h = grind arith

  coming_under : (key : Key) (b : Bound) (x : List ℕ) (r : Lines) → IsUnder cmp b x → MayFollow cmp key b r
      → EachKey (AtMost cmp x) key r
  coming_under = grind (arith, Each-weaker, at_most_trans)

  -- no line that may follow in one input is below the last processed key of the other
  pub past_none : (key other_key : Key) (b : Bound) (p r : Lines) → EachKey (IsUnder cmp b) key p
      → MayFollow cmp other_key b r → EachKey (λ k. is_below cmp k (last_or None (map key p)) ≡ false) other_key r
  past_none key other_key b p r u c = by (last_or None (map key p)) refl
    where
      by : (l : Option (List ℕ)) → last_or None (map key p) ≡ l → EachKey (λ k. is_below cmp k l ≡ false) other_key r
      by None e = Each-all _ (λ k. refl) _
      by (Some x) e = Each-weaker _ _ (λ k h. not_below k x h) _
          (coming_under _ b x r (last_has key _ _ p x e (λ y bad. cc) u) c)

all_three : (x y z u v w : Bool) → (x ≡ true → u ≡ true) → (y ≡ true → v ≡ true) → (z ≡ true → w ≡ true)
    → (x && y && z) ≡ true → (u && v && w) ≡ true
all_three = grind arith

and_false : (x y z : Bool) → (y ≡ false) ⊎ (z ≡ false) → (x && y && z) ≡ false
and_false = grind arith

module _ (tool : MergeTool) (o : IsKeyOrder tool.cmp) (eof : Side → Bool) (ls : Side → Lines) where
  open tool use {cmp}

  pub downward_decided : IsDownwardClosed cmp (is_decided tool eof ls)
  downward_decided = grind (usual, all_three)

  pub not_decided : (side : Side) (k : List ℕ) → is_past cmp (tool.key side) (eof side) (ls side) k ≡ false
      → is_decided tool eof ls k ≡ false
  not_decided First k e = and_false _ _ _ (inl e)
  not_decided Second k e =
      and_false (is_up_to cmp (disorder tool ls) k) (is_past cmp (tool.key First) (eof First) (ls First) k) _ (inr e)
