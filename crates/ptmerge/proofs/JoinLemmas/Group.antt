-- The group of one key, in slots, of which the largest bounds the store. Lesser keys are complete and the pairs of the
-- group are written in their final order, so output during a group is a prefix of the output for all inputs. Once both
-- inputs are past the key, the group counts as processed.
use Rattle.ptmerge.proofs
use Rattle.ptmerge.specs
use Rattle.std.proofs.lemmas
pub use proofs.Common.{◌≡◌, ⊎_elim, ℕ, ◌+◌, ◌-◌, ◌≤◌, ◌<◌, true, false, length-drop, List, [], ◌∷◌, ◌++◌, length}
pub use proofs.Common.{map, drop, get_or, set, max, refl, ap, ◌∙◌, arith, append_assoc, length-append, length-set}
pub use proofs.Common.{drop_more, Slots, line, total_bytes, with_line, with_denied, unlines, max_length, Join, usual}
pub use proofs.Common.{ClearGroupPost, CopyToGroupPost, entry, join_fields, pair_entries, Lines, lines_with_key, Reader}
pub use proofs.Common.{Side, First, Second, Sorted, Key, with_side, MergeTool, ◌&&◌, Bool, Some, sym, subst, bytes_eq}
pub use proofs.Common.{bytes_decides, append-nil, Output, PushEffect, push_trans, unlines-append, CursorStatus, Head}
pub use proofs.Common.{entries_by_key, MergeState, NextOkPost, other, PrecedesInput, disorder, Disorder, Ended}
pub use proofs.Common.{merged_entries, sorted_prefixes, is_up_to, line_of_with_line, lines_of_slots}
use proofs.JoinLemmas.Fields.{partial_starts}
pub use proofs.MergeLemmas.{total_within, low_slot, same_bytes, AtLeast, all_keys, at_current_line, both_begun, IsAbove}
pub use proofs.MergeLemmas.{EndsIfFails}
use proofs.MergeLemmas.{line_other, HasLines, GroupStore, AllExtend, HasRoom, side_extends, group_store_next, put_each}
use proofs.MergeLemmas.{put_same, put_both, put_other, side_case, EachKey, Bound, MayFollow, IsUnder, MergeInvariant}
use proofs.MergeLemmas.{IsFuture, MayCome, write_least_run, all_wanted, written_is_wanted, LagInvariant, IsLater}
use proofs.MergeLemmas.{HaveKey, EachKey-append, front_is, later_entries, lines_with_key-above, Each-weaker, AtMost}
use proofs.MergeLemmas.{self_at_most, equal_is, SideAfterNext, IsAtCurrentLine, MatchesStatus, read_facts_after_line}
use proofs.MergeLemmas.{IsOpenMerge, ReadFactsOf, SidesInvariant, current_key_is_above, next_at, sides_next}
use proofs.MergeLemmas.{above_of, advance_fails}
pub use Rattle.std.proofs.Common.{rules}
use Rattle.std.proofs.Math.ListN.{get_or-append}
use lemmas.List.{set_at, take_at, take_more}
use lemmas.List.Sums.{sum_by-append, sum_by-cons, sum_by_push}
use Rattle.ptlines.proofs.SlotTotals.{total_bytes_set}
use specs.Private.JoinGroup.{EnsureSlotPost, CopyToGroupErrPost, is_head}
pub use specs.Join.{max_over_keys, max_group_bytes, max_group_lines}

-- ---- the slots of a group

-- In the store of `join` the slots 0 to 3 hold two lines of each input, and those from 4 on hold the group. Its lines
-- have one key, so it is at most the largest group.

pub group_from : (store : Slots) (end slot : ℕ) → end ≤ length store.lines → slot < end
    → lines_of_slots store slot end ≡ line store slot ∷ lines_of_slots store (slot + 1) end
group_from store end slot fits low = grind (arith, drop_more store.lines slot [])

group_more : (store : Slots) (from end : ℕ) → from ≤ end → end < length store.lines
    → lines_of_slots store from (end + 1) ≡ lines_of_slots store from end ++ line store end ∷ []
group_more store from end least within = grind (usual, take_more (drop from store.lines) (end - from) [])

pub group_one : (store : Slots) (slot : ℕ) → slot < length store.lines
    → lines_of_slots store slot (slot + 1) ≡ line store slot ∷ []
group_one = grind (arith, group_more)

abbrev pub pair_of : Join → List ℕ → List ℕ → List ℕ → List ℕ
pair_of job k first second = entry job k (join_fields job.separator first) (join_fields job.separator second)

pub pairs_text : (job : Join) (end : ℕ) (x k : List ℕ) (g : Lines) → job.pairs ≡ true
    → unlines end (pair_entries job k (x ∷ []) g) ≡ unlines end (map (pair_of job k x) g)
pairs_text = search rules

pub clears_none : (s : Slots) → ClearGroupPost s s 4
clears_none = grind arith

pub clears_more : (a s t : Slots) (slot : ℕ) → 4 ≤ slot → slot < length a.lines → ClearGroupPost a s slot
    → t ≡ with_line s slot [] → ClearGroupPost a t (slot + 1)
clears_more a s t slot from within c is =
    let rest = drop 4 s.lines in
    let back : 4 + (slot - 4) ≡ slot = omega arith in
    let all = total_bytes_set s.lines slot [] (omega arith) in
    let here = total_bytes_set rest (slot - 4) [] (omega (arith, length-drop 4 s.lines)) in
    let grows = ap total_bytes (group_more a 4 slot from within)
    ∙ sum_by_push length (lines_of_slots a 4 slot) (line a slot) in
    rw is (grind (arith, line_other, length-set))

-- ---- copying a line to the group

record EnsuredSlot (before made : Slots) (slot : ℕ) : Type 0 where
  more : Lines
  lines : made.lines ≡ before.lines ++ more
  empty : total_bytes more ≡ 0
  slots : (length before.lines ≤ length made.lines) × (length made.lines ≤ max (length before.lines) (slot + 1))
  peak : made.peak ≡ before.peak
  denied : made.denied ≡ before.denied

ensured_slot : (before made : Slots) (slot : ℕ) → EnsureSlotPost before made slot → EnsuredSlot before made slot
ensured_slot before made slot g = ⊎_elim (λ e. grind usual) (λ e. grind usual) g.grown

pub failed_copy : (before made : Slots) (to : ℕ) → EnsureSlotPost before made to
    → CopyToGroupErrPost before (with_denied (with_line made to [])) to
failed_copy = grind (usual, total_bytes_set)

-- ---- the largest group

record IsLineMeasure (m : Lines → ℕ) : Type 0 where
  weight : List ℕ → ℕ
  none : m [] ≡ 0
  more : (x : List ℕ) (xs : Lines) → m (x ∷ xs) ≡ weight x + m xs

module _ (m : Lines → ℕ) (laws : IsLineMeasure m) (key : Key) where
  group_measure_max : (k : List ℕ) (p g c : Lines) → HaveKey key k g → m g ≤ m (lines_with_key key (p ++ (g ++ c)) k)
  group_measure_max k [] [] c e = omega arith
  group_measure_max k [] (x ∷ g) c (here, more) = grind (arith, same_bytes, group_measure_max k [] g c more)
  group_measure_max k (x ∷ p) g c e = grind (arith, group_measure_max k p g c e)

  greatest_has : (ls p : Lines) (y : List ℕ) (w : Lines)
      → m (lines_with_key key ls (key y)) ≤ max_over_keys m key ls (p ++ y ∷ w)
  greatest_has ls [] y w = omega arith
  greatest_has ls (x ∷ p) y w = omega (arith, greatest_has ls p y w)

  measure_in : (k : List ℕ) (p g w : Lines) → HaveKey key k g → 0 < length g
      → m g ≤ max_over_keys m key ((p ++ g) ++ w) ((p ++ g) ++ w)
  measure_in k p [] w own some = absurd (omega arith)
  measure_in k p (x ∷ g) w (is, more) some = rw (append_assoc p (x ∷ g) w) (omega (
    arith,
    group_measure_max k p (x ∷ g) w (is, more),
    rw is at (greatest_has (p ++ (x ∷ g ++ w)) p x (g ++ w)),
  ))

abbrev pub InLargest : Key → Lines → Lines → Type 0
InLargest key g ls = (total_bytes g ≤ max_group_bytes key ls) × (length g ≤ max_group_lines key ls)

pub group_in : (key : Key) (k : List ℕ) (p g w : Lines) → HaveKey key k g → 0 < length g
    → InLargest key g ((p ++ g) ++ w)
group_in key k p g w own some = (
  measure_in total_bytes (record { weight = length; none = refl; more = λ x xs. sum_by-cons length x xs })
      key k p g w own some,
  measure_in length (record { weight = λ x. 1; none = refl; more = λ x xs. omega arith }) key k p g w own some,
)

-- ---- the content of the slots

same_lines : (xs ys : Lines) (m : Side → ℕ) (more now : ℕ) → HasLines m more xs → 4 ≤ length ys
    → ((i : ℕ) → i < 4 → get_or ys i [] ≡ get_or xs i []) → total_bytes (drop 4 ys) ≡ now → HasLines m now ys
same_lines = grind arith

module _ {tool : MergeTool} {before store : Slots} {ls : Side → Lines} {g : Lines}
    (k : GroupStore tool before store ls g) where
  pub record CopiedLine (after : Slots) (y : List ℕ) : Type 0 where
    pub store_holds : GroupStore tool before after ls (g ++ y ∷ [])
    pub same : (i : ℕ) → i < 4 → line after i ≡ line store i

  module _ {made : Slots} {to : ℕ} (w : EnsuredSlot store made to) where
    made_same : (i : ℕ) → i < 4 → line made i ≡ line store i
    made_same i low = search rules

    module _ (y : List ℕ) (at : to ≡ 4 + length g) (within : to < length made.lines)
        (largest : (all : Side → Lines) → AllExtend ls all → HasRoom tool (g ++ y ∷ []) all) where
      first_same : (i : ℕ) → i < 4 → get_or (set made.lines to y) i [] ≡ get_or store.lines i []
      first_same i low = line_other made to i y (omega (arith, at)) ∙ made_same i low

      by_tail : (t : Lines) → total_bytes t ≡ 0 → length g + 1 ≤ length (g ++ t)
          → drop 4 (set made.lines to y) ≡ set (g ++ t) (length g) y
          → GroupStore tool before (with_line made to y) ls (g ++ y ∷ [])
      by_tail [] none some is = grind (arith, length-append)
      by_tail (z ∷ t) none some is =
          let four : 4 ≤ length (set made.lines to y) = grind arith in
          let split : drop 4 (set made.lines to y) ≡ (g ++ y ∷ []) ++ t = grind (usual, set_at) in
          let lines = same_lines store.lines (set made.lines to y) (λ side. max_length (ls side)) (total_bytes g)
          (total_bytes (g ++ y ∷ [])) k.lines four first_same (grind usual) in
          record {
            tail = t;
            split = split;
            empty = omega (arith, sum_by-cons length z t);
            lines = lines;
            room = largest;
            fits = λ all more. search (rules, k.fits, total_within, length-append);
            four = four;
            denied = w.denied ∙ k.denied;
          }

      kept : CopiedLine (with_line made to y) y
      kept = grind (
        arith,
        by_tail,
        first_same,
        append_assoc g k.tail w.more,
        sum_by-append length k.tail w.more,
        length-drop 4 made.lines,
      )

  pub group_store_copied : {after : Slots} {from to : ℕ} → to ≡ 4 + length g → from < 4
      → CopyToGroupPost store after from to → {y : List ℕ} → line store from ≡ y
      → ((all : Side → Lines) → AllExtend ls all → HasRoom tool (g ++ y ∷ []) all) → CopiedLine after y
  group_store_copied {after} {from} {to} at low e {y} is largest = let w = ensured_slot _ _ to e.grown in
      rw (e.copied, made_same w _ low, is) (kept w y at e.grown.within largest)

  pub kept_line : (slot : ℕ) → 4 ≤ slot → slot < 4 + length g → line store slot ≡ get_or g (slot - 4) []
  kept_line _ from low = search (rules, get_or-append)

  pub group_is : {end : ℕ} → end ≡ 4 + length g → lines_of_slots store 4 end ≡ g
  group_is at = grind (arith, take_at)

  end_within : {end : ℕ} → end ≡ 4 + length g → end ≤ length store.lines
  end_within = grind (arith, length-append)

  pub group_store_cleared : {after : Slots} {end : ℕ} → end ≡ 4 + length g → ClearGroupPost store after end
      → GroupStore tool before after ls []
  group_store_cleared = search (rules, group_is, total_within, same_lines)

pub ruleset pair_steps = (partial_starts, pairs_text)

-- ---- a fault within a group

-- The output of all lesser keys is complete, and that of the group's key is a prefix.

-- the lines `p` are processed, `g` are the group of the key `k`, and `d` bounds the lines that may follow
pub record OutputInGroup (tool : MergeTool) (was mid : Output) (p g : Side → Lines) (d : Side → Bound)
    (k : List ℕ) : Type 0 where
  pub merge_invariant : MergeInvariant tool (λ side. AtLeast k) p was mid
  pub clean : mid.write_failed ≡ false
  pub own : (side : Side) → HaveKey (tool.key side) k (g side)
  pub later : (side : Side) → IsLater tool.cmp (tool.key side) (AtLeast k) (d side)

-- `extra` is a prefix of the group's entries, for all lines that may follow
pub record OutputStartsWith (tool : MergeTool) (g : Side → Lines) (d : Side → Bound) (k : List ℕ)
    (extra : Lines) : Type 0 where
  pub rest : (w : List ℕ → Bool) (r : Side → Lines) → MayCome tool d r → w k ≡ true → (rest : Lines)
      × (entries_by_key tool w (λ side. g side ++ r side) ≡ extra ++ rest)

module _ {tool : MergeTool} {old : MergeState} (w : IsOpenMerge tool old) {mid : Output} {p g : Side → Lines}
    {d : Side → Bound} {k : List ℕ} (m : OutputInGroup tool old.out mid p g d k) where
  open tool use {cmp, terminator, key}
  open w use {o}

  abbrev front : Lines
  front = entries_by_key tool all_keys p

  rest_not_less : (side : Side) (r : Lines) → MayFollow cmp (key side) (d side) r
      → EachKey (AtMost cmp k) (key side) (g side ++ r)
  rest_not_less side r c = EachKey-append _ (key side) (g side) r
      (Each-weaker _ _ (λ x is. rw is (self_at_most cmp o k)) _ (m.own side)) ((m.later side).may_follow r c)

  module _ (all : Side → Lines)
      (seen : (side : Side) → IsFuture cmp (key side) (all side) (p side ++ g side) (d side)) where
    abbrev coming : Side → Lines
    coming side = (seen side).rest

    parts : (w : List ℕ → Bool) → entries_by_key tool w (sorted_prefixes tool all) ≡ entries_by_key tool w
        p ++ entries_by_key tool w (λ side. g side ++ coming side)
    parts w = (λ i. entries_by_key tool w (λ side. ((seen side).is ∙ append_assoc (p side) (g side) (coming side)) i))
        ∙ m.merge_invariant.splits w (λ side. g side ++ coming side) (λ side. rest_not_less _ _ (seen side).may_follow)

    wanted : (x : List ℕ) → AtMost cmp x k → is_up_to cmp (disorder tool all) x ≡ true
    wanted = search (rules, written_is_wanted)

    abbrev is_wanted : List ℕ → Bool
    is_wanted = is_up_to cmp (disorder tool all)

    front_is_first : entries_by_key tool is_wanted p ≡ front
    front_is_first = all_wanted tool _ p (λ side. Each-weaker _ _ wanted _ (m.merge_invariant.under First side))

    group_comes_first : {extra : Lines} → OutputStartsWith tool g d k extra → (rest : Lines)
        × (merged_entries tool all ≡ (front ++ extra) ++ rest)
    group_comes_first {extra} starts =
        let (rest, is) = starts.rest is_wanted coming (λ side. (seen side).may_follow)
        (wanted k (self_at_most cmp o k)) in
        (rest, cc (parts _, front_is_first, append_assoc front extra rest))

  passed_keys : (of side : Side) → EachKey (λ x. AtMost cmp x k) (key side) (p side ++ g side)
  passed_keys of side =
      EachKey-append _ (key side) _ _ (m.merge_invariant.under of side)
      (Each-weaker _ _ (λ x is. rw is (self_at_most cmp o k)) _ (m.own side))

  pub group_written : {is : Output} {extra : Lines} → OutputStartsWith tool g d k extra
      → PushEffect mid is (unlines terminator extra)
      → LagInvariant tool d (λ side. p side ++ g side) old.out is (front ++ extra)
  group_written {extra = extra} begins wrote = record {
    mid = mid;
    front = p;
    tail = g;
    bound = λ side. AtLeast k;
    clean = m.clean;
    wrote = m.merge_invariant.wrote;
    bytes = unlines terminator extra;
    more = wrote;
    all = sym (unlines-append _ _ _);
    split = λ side. refl;
    under = λ of side. Each-weaker _ _ (m.later of).under _ (passed_keys of _);
    under_bound = passed_keys;
    may_follow = rest_not_less;
    first = λ all seen. group_comes_first all seen begins;
  }

-- ---- tools that write pairs

-- a tool whose output for a key of both inputs is a list of pairs, or nothing
pub record IsPairTool (tool : MergeTool) (pairs : List ℕ → Lines → Lines → Lines) : Type 0 where
  pub none : (k : List ℕ) (g : Lines) → pairs k [] g ≡ []
  pub more : (k : List ℕ) (f g c : Lines) → pairs k (f ++ g) c ≡ pairs k f c ++ pairs k g c
  pub whole : (k : List ℕ) (f g : Lines) → 0 < length f → 0 < length g → tool.entries k f g ≡ pairs k f g
  pub written : tool.keeps_groups ≡ true → (k : List ℕ) (f g : Lines) → 0 < length f → 0 < length g
      → 0 < length (pairs k f g)
  pub unwritten : tool.keeps_groups ≡ false → (k : List ℕ) (f g : Lines) → pairs k f g ≡ []
  pub largest : tool.keeps_groups ≡ true → (g : Lines) (ls : Side → Lines) → InLargest (tool.key Second) g (ls Second)
      → HasRoom tool g ls

pub record JoinCall : Type 0 where
  pub tool : MergeTool
  pub open tool use *
  pub pairs : List ℕ → Lines → Lines → Lines
  pub laws : IsPairTool tool pairs
  pub old : MergeState
  pub w : IsOpenMerge tool old
  pub open w use {o}

abbrev pub head_of : MergeState → (Side → Sorted) → Side → List ℕ
head_of now cursor s = line now.store (cursor s).current_slot

abbrev pub state_after_read : MergeState → Side → Reader → Output → Slots → MergeState
state_after_read now s reader out store = record { reader = with_side s reader now.reader; out = out; store = store }

pub same_cursors : (tool : MergeTool) {old now : Side → Reader} {cursor : Side → Sorted} {before after : Slots}
    {ls p : Side → Lines} {b : Side → Bound} → SidesInvariant tool old now cursor before ls p b
    → 4 ≤ length after.lines → ((i : ℕ) → i < 4 → line after i ≡ line before i)
    → SidesInvariant tool old now cursor after ls p b
same_cursors = grind arith

-- ---- the output of a group

module _ (call : JoinCall) {mid : Output} {p g : Side → Lines} {d : Side → Bound} {k : List ℕ}
    (m : OutputInGroup call.tool call.old.out mid p g d k) where
  open call use {cmp, entries, key, laws, o, pairs, tool}

  none_less : (r : Side → Lines) → MayCome tool d r → (side : Side) → EachKey (AtMost cmp k) (key side) (r side)
  none_less = grind arith

  starts_pairs : (f c s : Lines) → 0 < length s → (rest : Lines) × (entries k (f ++ c) s ≡ pairs k f s ++ rest)
  starts_pairs [] c s some = (entries k c s, rw (laws.none k s))
  starts_pairs _ c s some = (pairs k c s, grind arith)

  pub starts_none : OutputStartsWith tool g d k []
  starts_none = record { rest = λ w r c wanted. (entries_by_key tool w (λ side. g side ++ r side), refl) }

  pub starts : 0 < length (g Second) → IsAbove cmp (key Second) k (d Second)
      → OutputStartsWith tool g d k (pairs k (g First) (g Second))
  starts some above = record {
    rest = λ w r c wanted.
        let none = lines_with_key-above tool o _ k _ (above (r Second) (c Second)) in
        let (rest, is) = starts_pairs (g First) (lines_with_key (key First) (r First) k) (g Second) some in (
          rest ++ later_entries tool o w k (call.w.alone.none k) r,
          front_is tool o w k (call.w.alone.none k) g r m.own (none_less r c)
              ∙ rw (wanted, none, append-nil (g Second), is) (append_assoc (pairs k (g First) (g Second)) rest _),
        );
  }

  -- the text of the entries of lesser keys is not all, if the group has lines of both inputs
  pub front_is_not_all : tool.keeps_groups ≡ true → ((side : Side) → 0 < length (g side)) → (all : Side → Lines)
      → ((side : Side) → IsFuture cmp (key side) (all side) (p side ++ g side) (d side))
      → ¬ (unlines call.terminator (entries_by_key tool all_keys p ++ [])
      ≡ unlines call.terminator (merged_entries tool all))
  front_is_not_all keeps some all seen same =
      let w = is_up_to cmp (disorder tool all) in
      let r = λ (side : Side). (seen side).rest in
      let f = g First ++ lines_with_key (key First) (r First) k in
      let s = g Second ++ lines_with_key (key Second) (r Second) k in
      let some_first : 0 < length f = grind (arith, length-append) in
      let some_second : 0 < length s = grind (arith, length-append) in
      let has : 0 < length (entries_by_key tool w (λ side. g side ++ r side)) =
      rw (
        front_is tool o w k (call.w.alone.none k) g r m.own (none_less r (λ side. (seen side).may_follow)),
        wanted call.w m all seen k (self_at_most cmp o k),
        laws.whole k f s some_first some_second,
      ) (grind (arith, length-append)) in
      some_text _ _ has (rw (
        append-nil (entries_by_key tool all_keys p),
        parts call.w m all seen w,
        front_is_first call.w m all seen,
      ) at same)
    where
      some_text : (xs ys : Lines) → 0 < length ys → ¬ (unlines call.terminator xs ≡ unlines call.terminator (xs ++ ys))
      some_text xs [] none same = absurd (omega arith)
      some_text xs (y ∷ ys) some same = absurd (omega (arith, simp (unlines-append, length-append) at (ap length same)))

  pub closes : {is : Output} → ((side : Side) → 0 < length (g side))
      → ((side : Side) → IsAbove cmp (key side) k (d side))
      → PushEffect mid is (unlines call.terminator (pairs k (g First) (g Second)))
      → MergeInvariant tool d (λ side. p side ++ g side) call.old.out is
  closes some above wrote = (write_least_run o k _ g
      (λ side. search (rules, m.own side, rest_not_less call.w m, self_at_most)) (λ side. refl)
      (call.w.alone.none k)
      (λ r c.
      let none = λ (side : Side). lines_with_key-above tool o (key side) k (r side) (above side (r side) (c side)) in
      simp (none First, none Second, call.w.alone.none k, append-nil)) m.clean m.merge_invariant (rw output_is wrote)).0
    where
      output_is : entries_by_key tool all_keys g ≡ pairs k (g First) (g Second)
      output_is =
          simp append-nil at (front_is tool o all_keys k (call.w.alone.none k) g (λ side. []) m.own (λ side. tt))
          ∙ laws.whole k (g First) (g Second) (some First) (some Second)

-- ---- the lines of a group

has_key : (s : CursorStatus) (a b : List ℕ) → (is_head s && bytes_eq a b) ≡ true → (s ≡ Head) × (b ≡ a)
has_key s a b h = grind (arith, bytes_decides a b)

abbrev pub with_added_line : MergeState → (Side → Sorted) → Side → (Side → Lines) → Side → Lines
with_added_line now cursor s g = with_side s (g s ++ head_of now cursor s ∷ []) g

-- in a group `g` of the key `k`: its output so far is written, and its copied lines end before slot `end`
pub record GroupState (call : JoinCall) (now : MergeState) (cursor : Side → Sorted) (end : ℕ) (k : List ℕ)
    (g : Side → Lines) (kept : Lines) : Type 0 where
  pub ls : Side → Lines
  pub p : Side → Lines
  pub d : Side → Bound
  pub mid : Output
  pub sides : SidesInvariant call.tool call.old.reader now.reader cursor now.store ls (λ side. p side ++ g side) d
  pub within : OutputInGroup call.tool call.old.out mid p g d k
  pub keeps : GroupStore call.tool call.old.store now.store ls kept
  pub wrote : PushEffect mid now.out (unlines call.terminator (call.pairs k (g First) (g Second)))
  pub at : end ≡ 4 + length kept

module _ {call : JoinCall} {now : MergeState} {cursor : Side → Sorted} {end : ℕ} {k : List ℕ} {g : Side → Lines}
    {kept : Lines} (q : GroupState call now cursor end k g kept) where
  open call use {cmp, key, o, old, tool}

  pub is_past : (s : Side) → ((cursor s).status ≡ Head → ¬ (key s (head_of now cursor s) ≡ k))
      → IsAbove cmp (key s) k (q.d s)
  is_past s other =
      (current_key_is_above _ o _ k _ _ _ _ _ _ _ (by _ (q.sides s).status_is other) (q.sides s).status_is).0
    where
      under : IsUnder cmp (q.d s) k
      under = (q.within.later s).under k (self_at_most cmp o k)

      by : (t : CursorStatus) → MatchesStatus cmp (key s) t (cursor s) now.store (now.reader s) (q.ls s) (q.p s ++ g s)
          (q.d s) → (t ≡ Head → ¬ (key s (head_of now cursor s) ≡ k))
          → PrecedesInput cmp k t (key s (head_of now cursor s)) (key s (line now.store (cursor s).previous_slot))
      by Head at differs = above_of cmp o k _ (rw at.bound at under) (differs refl)
      by Ended at differs = tt
      by (Disorder n) at differs = rw at at under

  pub end_in : (4 ≤ end) × (end ≤ length now.store.lines)
  end_in = (omega arith, end_within q.keeps q.at)

  -- what was read, if these lines of the group count as processed
  abbrev pub FactsWith : (Side → Lines) → Side → Type 0
  FactsWith lines side = ReadFactsOf tool old now.reader q.ls (λ t. q.p t ++ lines t) q.d side (now.reader side) []

  pub group_read_facts : (side : Side) → FactsWith g side
  group_read_facts side = (q.sides side).facts

  pub group_kept : {after : Slots} → ((i : ℕ) → i < 4 → line after i ≡ line now.store i)
      → {lines : Lines} → GroupStore tool old.store after q.ls lines → {to : ℕ} → to ≡ 4 + length lines
      → GroupState call (record now { store = after }) cursor to k g lines
  group_kept same holds at = search (rules, same_cursors)

  pub record IsAtGroupLine (s : Side) : Type 0 where
    pub head : (cursor s).status ≡ Head
    pub is : key s (head_of now cursor s) ≡ k

module _ {call : JoinCall} {now : MergeState} {cursor : Side → Sorted} {end : ℕ} {k : List ℕ} {g : Side → Lines}
    {kept : Lines} {q : GroupState call now cursor end k g kept} {s : Side} (l : IsAtGroupLine q s) where
  open call use {cmp, key, o, old, pairs, tool, w}

  abbrev x : List ℕ
  x = head_of now cursor s

  abbrev added : Side → Lines
  added = with_added_line now cursor s g

  at_head : IsAtCurrentLine cmp (key s) (cursor s).number x (q.ls s) (q.p s ++ g s) (q.d s)
  at_head = at_current_line (q.sides s) l.head

  pub with_head : q.ls s ≡ q.p s ++ (g s ++ head_of now cursor s ∷ [])
  with_head = at_head.all ∙ append_assoc (q.p s) (g s) (x ∷ [])

  pub own_more : (side : Side) → HaveKey (key side) k (added side)
  own_more = grind (usual, q.within.own, l.is)

  pub within_more : OutputInGroup tool old.out q.mid q.p added q.d k
  within_more = assumption (own_more, q.within)

  all_processed : q.p s ++ added s ≡ q.ls s
  all_processed = cc (with_head, put_same s _ g)

  pub passing_now : (side : Side) → FactsWith q added side
  passing_now = side_case _ s
      (rw all_processed (read_facts_after_line (q.sides s) o l.head)) (simp put_other (group_read_facts q (other s)))

  pub group_breaks : {out : Output} {extra : Lines} → OutputStartsWith tool added q.d k extra
      → PushEffect q.mid out (unlines call.terminator extra) → EndsIfFails tool old now s (cursor s) out
  group_breaks begins wrote = advance_fails w now (cursor s) {p = λ t. q.p t ++ added t} passing_now all_processed
      (λ r piece free. both_begun (λ side. (q.sides side).begun)) q.keeps (q.sides s).slots
      (group_written w within_more begins wrote)

  module _ {reader : Reader} {next : Sorted} {after : Slots}
      (comes : NextOkPost (key s) cmp (cursor s) next (now.reader s) reader now.store after) where
    abbrev gone_to : SideAfterNext tool s (old.reader s) reader next (cursor s).previous_slot now.store after (q.ls s)
        (Some (key s (head_of now cursor s)))
    gone_to = next_at o q.sides s l.head comes

    pub last_stays : line after next.previous_slot ≡ head_of now cursor s
    last_stays = grind (arith, line_other)

    says : next.same ≡ (is_head next.status && bytes_eq k (key s (line after next.current_slot)))
    says = grind (arith, line_of_with_line, equal_is, low_slot, at_head)

    pub continues_key : next.same ≡ true → (next.status ≡ Head) × (key s (line after next.current_slot) ≡ k)
    continues_key same = grind (arith, has_key, says)

    pub leaves_key : next.same ≡ false → next.status ≡ Head → ¬ (key s (line after next.current_slot) ≡ k)
    leaves_key same head is = cc (says, same_bytes (refl {a = k}))

    -- the previous line belongs to the group
    pub record AdvancedGroup (new : Output) : Type 0 where
      pub group : GroupState call (state_after_read now s reader new after) (with_side s next cursor) end k added kept
      pub bound : group.d (other s) ≡ q.d (other s)
      pub more : AllExtend q.ls group.ls

    pub advanced_group : {new : Output} → PushEffect q.mid new (unlines call.terminator
        (pairs k (added First) (added Second))) → AdvancedGroup new
    advanced_group wrote =
        let n = gone_to in
        record {
          group = record {
            ls = with_side s n.now_ls q.ls;
            p = q.p;
            d = with_side s n.bound q.d;
            mid = q.mid;
            sides = subst (λ (f : Side → Lines). SidesInvariant tool old.reader (with_side s reader now.reader)
                (with_side s next cursor) after (with_side s n.now_ls q.ls) f (with_side s n.bound q.d))
                (λ i side. put_both (λ side (l m : Lines). l ≡ q.p side ++ m) s (q.ls s) (λ side. q.p side ++ g side)
                (g s ++ x ∷ []) g with_head refl side i) (sides_next o q.sides s l.head comes);
            within = assumption (
              q.within,
              own_more,
              put_each (λ side. IsLater cmp (key side) (AtLeast k)) s n.bound q.d (rw l.is at n.later) q.within.later,
            );
            keeps = group_store_next s (cursor s) (q.sides s).slots q.keeps n;
            wrote = wrote;
            at = q.at;
          };
          bound = put_other s _ q.d;
          more = side_extends s _ n.continues_key;
        }
