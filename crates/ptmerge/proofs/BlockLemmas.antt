-- The merge of lines in the blocks of their readers, without a copy in the store: the next line of a block, the lines
-- passed, and the steps of the merge, of any tool and of `comm`. Also why the invariant of a merge holds after the
-- lines passed, and why both inputs can go on from there.
use Rattle.ptmerge.proofs
use Rattle.ptmerge.specs
use proofs.Common.{◌≡◌, ◌⊎◌, inl, inr, ⊎_elim, ℕ, suc, ◌+◌, ◌-◌, ◌<◌, ◌≤◌, ◌^◌, List, [], ◌∷◌, ◌++◌, refl, sym, ◌∙◌, ap}
use proofs.Common.{arith, subst, Output, length, PushEffect, Some, None, Option, true, false, drop, length-append}
use proofs.Common.{append_assoc, append-nil, unlines, IsLine, Side, First, Second, Lines, MergeTool, other, with_side}
use proofs.Common.{Cmp, Key, both, Reader, Sorted, Head, budget, length-drop, usual, push_nothing, is_eq, is_gt, Less}
use proofs.Common.{Err, IsErrAnd, MergeFault, Ok, Result, Write, map, Bool, entries_by_key, lines_with_key}
use proofs.Common.{unlines-append, push_trans}
use Rattle.std.specs.Prelude.{OnErr, take}
use Rattle.std.specs.declared.cmp.Ordering.{Ordering}
use Rattle.ptlines.specs.Calls.Readers.{IsSound}
use specs.Calls.MergeSteps.{IsReaderOf}
use specs.Private.Passed.{CanResume}
use specs.declared.merging.cursor.Reached.{Reached}
use proofs.MergeLemmas.{MergeInvariant, IsKeyOrder, Bound, AtLeast, AtMost, Written, alone, output_of, all_keys}
use proofs.MergeLemmas.{write_least_run, IsLeastKeyRun, IsLineByLine, Each-weaker, at_most_trans, greater_flips}
use proofs.MergeLemmas.{less_flips, is_greater, lines_with_key-above, side_case, from_key, self_at_most, EachKey-append}
use proofs.MergeLemmas.{put_same, put_other, EachKey, IsSortedFrom, entries_of_line, front_is, Each-parts, MayFollow}
use proofs.MergeLemmas.{IsUnder, may_follow_none, IsLater}
use Rattle.std.proofs.lemmas.List.{map-append}
use Rattle.std.proofs.Math.Seq.{take-append_seam}
use Rattle.ptlines.proofs.TextLaws.{complete_lines_cons, complete_lines_none}
use Rattle.ptlines.proofs.LineSearch.{line_before_terminator, line_if_not_found}
use Rattle.ptlines.specs.Laws.Text.{AreLines}
use Rattle.ptlines.specs.Text.{complete_lines}
use Rattle.std.specs.declared.cmp.Ordering.TheVariants.{Equal}
use Rattle.memchr.specs.Find.{IsFirstByte, is_byte}
use specs.Private.BlockLines.{AreMerged, ArePassed, CanMerge, HasFailed, IsBlockTool, IsInBlock, HaveKey, IsInKey}
use specs.Private.BlockLines.{IsMoved, IsNextLine, IsReached, IsStep, entries_alone, in_order}
use specs.MergeSpec.{Entries}
use specs.declared.merging.block_lines.BlockLine.{BlockLine}

-- ---- the next line of a block

-- the line before the first terminator
pub record LineInBlock (end : ℕ) (rest : List ℕ) (size : ℕ) : Type 0 where
  pub bytes : rest ≡ take size rest ++ (end ∷ drop (size + 1) rest)
  pub whole : IsLine end (take size rest)

pub line_in_block : (end : ℕ) (rest : List ℕ) (size : ℕ) → IsFirstByte (is_byte end) rest (Some size)
    → LineInBlock end rest size
line_in_block = grind (usual, line_before_terminator)

-- ---- the lines passed

lines_between : (end : ℕ) (xs : Lines) (x : List ℕ) (ys : Lines) → AreLines end xs → IsLine end x → AreLines end ys
    → AreLines end (xs ++ x ∷ ys)
lines_between end [] x ys a w b = (w, b)
lines_between end (z ∷ xs) x ys (here, a) w b = (here, lines_between end xs x ys a w b)

module _ (cmp : Cmp) (key : Key) where
  sorted_append : (last : Option (List ℕ)) (xs : Lines) (x : List ℕ) (ys : Lines)
      → IsSortedFrom cmp key last (xs ++ x ∷ []) → IsSortedFrom cmp key (Some (key x)) ys
      → IsSortedFrom cmp key last (xs ++ x ∷ ys)
  sorted_append last [] x ys (here, _) more = (here, more)
  sorted_append last (z ∷ xs) x ys (here, s) more = (here, sorted_append (Some (key z)) xs x ys s more)

  moved_on : {end : ℕ} {old now next : BlockLine} {q f : Lines} → IsMoved end cmp key old now q
      → IsMoved end cmp key now next f → IsMoved end cmp key old next (q ++ f)
  moved_on {end} {old} {now} {next} m n = record {
    middle = m.middle ++ (now.head.now ∷ n.middle);
    lines = rw (m.lines, n.lines) refl;
    bytes = m.bytes ∙ rw (n.bytes, unlines-append end _ _) (simp append_assoc);
    whole = (lines_between end _ _ _ m.whole.0 m.whole.1 n.whole.0, n.whole.1);
    ordered = rw (append_assoc m.middle _ (next.head.now ∷ [])) (sorted_append _ _ _ _ m.ordered n.ordered);
    passed = omega (arith, n.passed, length-append m.middle (now.head.now ∷ n.middle));
  }

  pub one_moved : {end : ℕ} {now next : BlockLine} → IsNextLine end cmp key now next
      → IsMoved end cmp key now next (now.head.now ∷ [])
  one_moved n = record {
    middle = [];
    lines = refl;
    bytes = n.bytes;
    whole = (tt, n.whole);
    ordered = (n.ordered, tt);
    passed = n.passed;
  }

  pub passed_on_by : {end : ℕ} {old now next : BlockLine} {q f : Lines} → ArePassed end cmp key old now q
      → IsMoved end cmp key now next f → ArePassed end cmp key old next (q ++ f)
  passed_on_by (none, inl u) n = (none, inr (rw u.none (rw u.same at n)))
  passed_on_by (none, inr m) n = (none, inr (moved_on m n))

  pub passed_one : {end : ℕ} {old now next : BlockLine} {q : Lines} → ArePassed end cmp key old now q
      → IsNextLine end cmp key now next → ArePassed end cmp key old next (q ++ now.head.now ∷ [])
  passed_one a n = passed_on_by a (one_moved n)

  pub in_block_next : {end : ℕ} {now next : BlockLine} → IsNextLine end cmp key now next → IsInBlock now
      → IsInBlock next
  in_block_next {end} {now} {next} n fits =
      omega (arith, ap length n.bytes, length-append next.head.now (end ∷ next.rest.now), fits)

  -- the lines of one key

  pub one_in_key : {end : ℕ} {now next : BlockLine} → IsNextLine end cmp key now next → IsInBlock now
      → IsInKey end cmp key now next (now.head.now ∷ [])
  one_in_key n fits = grind (arith, in_block_next n fits)

  pub more_in_key : {end : ℕ} {first now next : BlockLine} {f : Lines} → IsKeyOrder cmp
      → IsInKey end cmp key first now f → now.same ≡ true → IsNextLine end cmp key now next
      → IsInKey end cmp key first next (f ++ now.head.now ∷ [])
  more_in_key {first = first} {now} o i same n =
      let equal = o.exact _ _ (grind arith) in
      record {
        passed = moved_on i.passed (one_moved n);
        own = EachKey-append _ key _ _ i.own (sym equal, tt);
        ordered = rw equal n.ordered;
        same = rw equal n.same;
        in_block = in_block_next n i.in_block;
        key_is = n.key_is;
      }

complete_lines_of : (end : ℕ) (ls : Lines) (bytes : List ℕ) → AreLines end ls
    → complete_lines end (unlines end ls ++ bytes) ≡ ls ++ complete_lines end bytes
complete_lines_of end [] bytes w = refl
complete_lines_of end (line ∷ ls) bytes (first, others) =
    grind (usual, complete_lines_cons, complete_lines_of end ls bytes others)

take_some : (n : ℕ) (x : List ℕ) (xs : Lines) → 0 < n → take n (x ∷ xs) ≡ x ∷ take (n - 1) xs
take_some = grind usual

moved_bytes : {end : ℕ} {cmp : Cmp} {key : Key} {old now : BlockLine} {q : Lines}
    → (m : IsMoved end cmp key old now q)
    → length old.rest.now ≡ length (unlines end m.middle) + (length now.head.now + suc (length now.rest.now))
moved_bytes {end} {now = now} m = omega (
  arith,
  ap length m.bytes,
  length-append (unlines end m.middle) (now.head.now ++ (end ∷ now.rest.now)),
  length-append now.head.now (end ∷ now.rest.now),
)

pub fewer_left : {end : ℕ} {cmp : Cmp} {key : Key} {first now : BlockLine} {f : Lines}
    → IsMoved end cmp key first now f → length now.rest.now < length first.rest.now
fewer_left m = omega (arith, moved_bytes m)

-- the lines between two lines of the block
pub lines_are_between : {end : ℕ} {cmp : Cmp} {key : Key} {first now : BlockLine} {f : Lines} (more : ℕ)
    → IsMoved end cmp key first now f → first.passed + suc more ≡ now.passed
    → first.head.now ∷ take more (complete_lines end first.rest.now) ≡ f
lines_are_between {end} {first = first} {now} more m count =
    let same : more ≡ length m.middle = omega (arith, count) in
    rw (m.lines, m.bytes, complete_lines_of end _ _ m.whole.0, same)
    (ap (λ l. first.head.now ∷ l) (take-append_seam m.middle _))

pub next_of_key : (end : ℕ) (rest : List ℕ) (more size : ℕ) → 0 < more → IsFirstByte (is_byte end) rest (Some size)
    → take more (complete_lines end rest)
    ≡ take size rest ∷ take (more - 1) (complete_lines end (drop (size + 1) rest))
next_of_key end rest more size some first =
    let n = line_in_block end rest size first in
    ap (λ l. take more (complete_lines end l)) n.bytes
    ∙ ap (take more) (complete_lines_cons end _ _ n.whole) ∙ take_some _ _ _ some

pub last_of_key : (end : ℕ) (rest : List ℕ) (more : ℕ) → IsFirstByte (is_byte end) rest None
    → take more (complete_lines end rest) ≡ []
last_of_key end rest more none =
    ap (take more) (complete_lines_none end _ (line_if_not_found end _ none)) ∙ grind usual

-- the current line of an input, before others are passed
pub can_merge : {key : Key} {own : BlockLine} {reader : Reader} → own.passed ≡ 0 → own.same ≡ false
    → own.rest.now ≡ reader.buffered → IsSound reader → own.key.now ≡ key own.head.now → CanMerge key own
can_merge none new rest sound own_key = grind arith

-- ---- a step

module _ {tool : MergeTool} {now next : Side → BlockLine} {mid is : Output} (s : IsStep tool now next mid is) where
  pub passed_more : {old : Side → BlockLine} {q : Side → Lines}
      → ((side : Side) → ArePassed tool.terminator tool.cmp (tool.key side) (old side) (now side) (q side))
      → (side : Side) → ArePassed tool.terminator tool.cmp (tool.key side) (old side) (next side) (q side ++ s.f side)
  passed_more {q = q} a side =
      ⊎_elim (λ h. passed_on_by tool.cmp (tool.key side) (a side) h.1.passed)
      (λ h. rw (h.0, h.2, append-nil (q side)) (a side)) (s.passes side)

-- no key that may follow is below the current one
abbrev pub at_heads : MergeTool → (Side → BlockLine) → Side → Bound
at_heads tool now side = AtLeast (tool.key side (now side).head.now)

later_key : (cmp : Cmp) (o : IsKeyOrder cmp) {key : Key} (a b : List ℕ) → AtMost cmp a b
    → IsLater cmp key (AtLeast a) (AtLeast b)
later_key cmp o a b h = record {
  may_follow = λ r c. Each-weaker _ _ (λ y more. at_most_trans cmp o a b y h more) _ c;
  under = λ j u. at_most_trans cmp o j a b u h;
}

less_of : (r : Ordering) → is_gt r ≡ false → is_eq r ≡ false → r ≡ Less
less_of = grind arith

module _ (tool : MergeTool) (o : IsKeyOrder tool.cmp) where
  open tool use {cmp, key, terminator}

  at_most_of : (a k : List ℕ) → is_gt (cmp a k) ≡ true → AtMost cmp k a
  at_most_of a k gt = ap is_gt (greater_flips cmp o a k (is_greater _ gt))

  none_follows : (side : Side) (r : Lines) (a k : List ℕ) → is_gt (cmp a k) ≡ true → EachKey (AtMost cmp a) (key side) r
      → lines_with_key (key side) r k ≡ []
  none_follows _ r a k gt c =
      lines_with_key-above tool o _ k r (Each-weaker _ _ (λ y h. (grind arith)) _ c)

  pub line_run : (side : Side) (a b : List ℕ) {k : List ℕ} {f : Lines} → HaveKey (key side) a f → a ≡ k
      → AtMost cmp a b → IsLeastKeyRun cmp (key side) (AtLeast a) (AtLeast b) k f
  line_run side a b own same h =
      let later = later_key cmp o {key = key side} a b h in
      record {
        own = rw same at own;
        may_follow = λ r c. EachKey-append _ _ _ _
            (Each-weaker _ _ (λ y e. rw e (self_at_most cmp o a)) _ own) (later.may_follow r c);
        own_under = rw (sym same) (self_at_most cmp o a);
        under = later.under;
        later = rw (sym same) later;
      }

  module _ (none : (k : List ℕ) → tool.entries k [] [] ≡ []) {now next : Side → BlockLine} {mid is : Output}
      (s : IsStep tool now next mid is) where
    run_of : (side : Side)
        → IsLeastKeyRun cmp (key side) (at_heads tool now side) (at_heads tool next side) s.k (s.f side)
    run_of side =
        ⊎_elim (λ h. line_run side _ _ h.1.own h.0 h.1.ordered)
        (λ h. (let least = at_most_of _ _ h.1 in
        rw (h.0, h.2) (grind (arith, later_key cmp o {key = key side} _ _ least)))) (s.passes side)

    pub step_written : {q : Side → Lines} {was : Output} → mid.write_failed ≡ false
        → MergeInvariant tool (at_heads tool now) q was mid
        → Written tool (at_heads tool next) (λ side. q side ++ s.f side) was is
    step_written {q} clean m =
        write_least_run o s.k (λ side. q side ++ s.f side) s.f run_of (λ side. refl) (none s.k) s.first clean m s.wrote

    pub step_on : {old : Side → BlockLine} {was : Output} → AreMerged tool old now was mid → is.write_failed ≡ false
        → AreMerged tool old next was is
    step_on m clean =
        let (mi, _) = step_written m.clean (record { splits = m.first; under = m.under; wrote = m.wrote }) in
        record {
          q = λ side. m.q side ++ s.f side;
          passed = passed_more s m.passed;
          first = mi.splits;
          under = mi.under;
          wrote = mi.wrote;
          clean = clean;
          in_block = λ side. ⊎_elim (λ h. h.1.in_block) (λ h. rw h.2 (m.in_block side)) (s.passes side);
          key_is = λ side. ⊎_elim (λ h. h.1.key_is) (λ h. rw h.2 (m.key_is side)) (s.passes side);
        }

  pub merge_starts : {old : Side → BlockLine} {was : Output} → ((side : Side) → CanMerge (key side) (old side))
      → was.write_failed ≡ false → AreMerged tool old old was was
  merge_starts {was = was} can clean = record {
    q = λ side. [];
    passed = λ side. ((can side).passed, inl (record { none = refl; same = refl }));
    first = λ w r c. refl;
    under = λ of side. tt;
    wrote = push_nothing was;
    clean = clean;
    in_block = λ side. (can side).in_block;
    key_is = λ side. (can side).key_is;
  }

-- one input has the least key
pub alone_splits : {entries : Entries} → IsLineByLine entries → (s : Side) (k x : List ℕ) (g : Side → Lines)
    → g (other s) ≡ [] → entries k (alone s x First ++ g First) (alone s x Second ++ g Second)
    ≡ entries k (alone s x First) (alone s x Second) ++ entries k (g First) (g Second)
alone_splits by_line First k x g none = rw none (by_line.first k x (g First))
alone_splits by_line Second k x g none = rw none (by_line.second k x (g Second))

-- ---- the steps of a tool in an order of its keys

-- the output for these lines of a key comes first, whatever follows
abbrev pub SplitsOff : Entries → Lines → Lines → Type 0
SplitsOff entries f g =
    (k : List ℕ) (q r : Lines) → entries k (f ++ q) (g ++ r) ≡ entries k f g ++ entries k q r

module _ (tool : MergeTool) (cmp : Cmp) (key : Side → Key) (o : IsKeyOrder cmp) (by : IsBlockTool tool key) where
  open tool use {entries, terminator}

  abbrev ordered : MergeTool
  ordered = in_order tool cmp key

  pub line_pushed : (s : Side) {x k : List ℕ} {mid is : Output} → k ≡ key s x
      → PushEffect mid is (unlines terminator (entries_alone entries s k x))
      → PushEffect mid is (output_of ordered (alone s x))
  line_pushed s own pushed = rw (entries_of_line ordered s _) (rw own at pushed)

  module _ {old now : Side → BlockLine} {was mid is : Output} (i : AreMerged ordered old now was mid) {end : ℕ}
      (ends : end ≡ terminator) where
    pub alone_passes : (s : Side) {next : BlockLine} → is_gt (cmp (now (other s)).key.now (now s).key.now) ≡ true
        → PushEffect mid is (unlines end (entries_alone entries s (now s).key.now (now s).head.now))
        → IsNextLine end cmp (key s) (now s) next → IsStep ordered now (with_side s next now) mid is
    alone_passes s {next} gt pushed n =
        let k = key s (now s).head.now in
        let above = rw (i.key_is s, i.key_is (other s)) at gt in
        record {
          k = k;
          f = alone s (now s).head.now;
          passes = side_case _ s (inl (refl, simp put_same (rw ends at (one_in_key cmp (key s) n (i.in_block s)))))
              (inr (put_other s _ _, above, put_other s next now));
          first = λ r c. alone_splits by.alone s _ _ (λ side. lines_with_key (key side) (r side) k)
              (none_follows ordered o (other s) _ _ _ above (rw (put_other s next now) at (c (other s))));
          wrote = line_pushed s (i.key_is s) (rw ends at pushed);
        }

    pub pair_passes : {next : Side → BlockLine} {f g : Lines} → cmp (now First).key.now (now Second).key.now ≡ Equal
        → PushEffect mid is (unlines end (entries (now First).key.now f g))
        → ((side : Side) → IsInKey end cmp (key side) (now side) (next side) (both f g side))
        → SplitsOff entries f g ⊎ ((side : Side) → (next side).same ≡ false) → IsStep ordered now next mid is
    pair_passes {next} {f} {g} equal pushed n first =
        let k = key First (now First).head.now in
        let same : (side : Side) → key side (now side).head.now ≡ k = elim [
          | First ↦ refl
          | Second ↦ sym (i.key_is Second) ∙ sym (o.exact _ _ equal) ∙ i.key_is First
        ] in
        let have : (side : Side) → HaveKey (key side) k (both f g side) = elim [
          | First ↦ (n First).own
          | Second ↦ rw (same Second) at (n Second).own
        ] in
        record {
          k = k;
          f = both f g;
          passes = λ side. inl (same side, rw ends at (n side));
          first = λ r c. ⊎_elim (λ law. law k _ _)
              -- the keys that follow are greater
              (λ new. (let gone : (side : Side) → lines_with_key (key side) (r side) k ≡ [] =
              λ side. none_follows ordered o side (r side) (key side (next side).head.now) k
              (ap is_gt (rw (same side) at (less_flips cmp o _ _
              (less_of _ (n side).ordered (sym (n side).same ∙ new side))))) (c side) in
              rw (gone First, gone Second, append-nil f, append-nil g, by.alone.none k) (sym (append-nil _)))) first;
          wrote = rw (ap (unlines terminator) (simp append-nil at
              (front_is ordered o all_keys k (by.alone.none k) (both f g) (λ side. []) have (λ side. tt))))
              (rw (ends, i.key_is First) at pushed);
        }

-- the lines have the key by the keys of the tool, too
pub have_keys : {key own : Key} {k l : List ℕ} (f : Lines) → HaveKey key k f → ((x : List ℕ) → key x ≡ own x) → k ≡ l
    → HaveKey own l f
have_keys {l = l} f have same is = subst (λ t. HaveKey t l f) (λ i x. same x i) (rw is at have)

-- the lines that follow have other keys, unless the tool writes pair by pair
pub pairs_or_new : {P : Type 0} (pairs : Bool) (next : Side → BlockLine) → (pairs ≡ true → P)
    → (pairs ≡ false → ((next First).same ≡ false) × ((next Second).same ≡ false))
    → P ⊎ ((side : Side) → (next side).same ≡ false)
pairs_or_new true next law new = inl (law refl)
pairs_or_new false next law new = inr (elim [ First ↦ (new refl).0 | Second ↦ (new refl).1 ])

-- ---- after the lines that were processed before

-- the lines `q` may follow at the bound `b`, and then those that may follow at `d`, which is no lower
pub record LeadsTo (cmp : Cmp) (key : Key) (b d : Bound) (q : Lines) : Type 0 where
  pub may_follow : (r : Lines) → MayFollow cmp key d r → MayFollow cmp key b (q ++ r)
  pub under : (k : List ℕ) → IsUnder cmp b k → IsUnder cmp d k

pub leads_nowhere : {cmp : Cmp} {key : Key} {b : Bound} → LeadsTo cmp key b b []
leads_nowhere = record { may_follow = λ r c. c; under = λ k u. u }

pub leads_on : {end : ℕ} {cmp : Cmp} (o : IsKeyOrder cmp) (key : Key) {old now : BlockLine} {q : Lines}
    → ArePassed end cmp key old now q → LeadsTo cmp key (AtLeast (key old.head.now)) (AtLeast (key now.head.now)) q
leads_on o key (_, inl u) = rw (u.none, u.same) leads_nowhere
leads_on {cmp = cmp} o key {old} {now} (_, inr m) =
    let first = key old.head.now in
    let (a, (least, _)) = Each-parts _ (map key m.middle) (key now.head.now ∷ [])
    (rw map-append at (from_key cmp o key first _ m.ordered)) in
    let later = later_key cmp o {key = key} first (key now.head.now) least in
    record {
      may_follow = λ r c.
          rw m.lines (self_at_most cmp o first, EachKey-append _ key m.middle r a (later.may_follow r c));
      under = later.under;
    }

pub lines_after : {tool : MergeTool} {b d : Side → Bound} {p q : Side → Lines} {start was is : Output}
    → MergeInvariant tool b p start was → was.write_failed ≡ false → MergeInvariant tool d q was is
    → ((side : Side) → LeadsTo tool.cmp (tool.key side) (b side) (d side) (q side))
    → MergeInvariant tool d (λ side. p side ++ q side) start is
lines_after {tool} {d = d} {p} {q} m clean n leads =
    let parts : (w : List ℕ → Bool) → entries_by_key tool w (λ side. p side ++ q side)
    ≡ entries_by_key tool w p ++ entries_by_key tool w q =
    λ w. m.splits w q (λ side. rw append-nil at
    ((leads side).may_follow [] (may_follow_none tool.cmp (tool.key side) (d side)))) in
    record {
      splits = λ w r c.
          (λ i. entries_by_key tool w (λ side. append_assoc (p side) (q side) (r side) i))
          ∙ m.splits w (λ side. q side ++ r side) (λ side. (leads side).may_follow (r side) (c side))
          ∙ ap (λ e. entries_by_key tool w p ++ e) (n.splits w r c)
          ∙ sym (append_assoc (entries_by_key tool w p) (entries_by_key tool w q) (entries_by_key tool w r))
          ∙ ap (λ e. e ++ entries_by_key tool w r) (sym (parts w));
      under = λ of side. EachKey-append _ (tool.key side) _ _
          (Each-weaker _ _ (leads of).under _ (m.under of side)) (n.under of side);
      wrote = rw (ap (unlines tool.terminator) (parts all_keys) ∙ unlines-append tool.terminator
          (entries_by_key tool all_keys p) (entries_by_key tool all_keys q))
          (push_trans _ _ _ _ _ clean m.wrote n.wrote);
    }

pub merged_on : {tool : MergeTool} → IsKeyOrder tool.cmp → {old now : Side → BlockLine} {p : Side → Lines}
    {start was mid : Output} → MergeInvariant tool (at_heads tool old) p start was → was.write_failed ≡ false
    → (a : AreMerged tool old now was mid)
    → MergeInvariant tool (at_heads tool now) (λ side. p side ++ a.q side) start mid
merged_on {tool} o m clean a =
    lines_after m clean (record { splits = a.first; under = a.under; wrote = a.wrote })
    (λ side. leads_on o _ (a.passed side))

-- ---- the results

-- a merge of blocks whose last write failed
pub run_failed : {tool : MergeTool} {old now next : Side → BlockLine} {was mid is : Output} {X E : Type 0}
    (result : Result X E) → AreMerged tool old now was mid → IsStep tool now next mid is → is.write_failed ≡ true
    → OnErr result (HasFailed tool old was is)
run_failed (Ok x) m s failed = tt
run_failed {now = now} {next} {mid = mid} (Err e) m s failed =
    record { before = now; now = next; mid = mid; merged = m; step = s; failed = failed }

-- the result is the fault of the write
pub is_write_fault : {result : Result (Unit {0}) MergeFault} → IsErrAnd result (λ fault. fault ≡ Write)
    → result ≡ Err Write
is_write_fault {result = Ok u} is = elim is [ ]
is_write_fault {result = Err fault} is = ap Err is

-- ---- the readers

pub own_on : (r : Reader) (number count used : ℕ) → IsSound r → r.fault ≡ None → number + budget r ≤ 2 ^ 63
    → count ≤ used → used ≤ length r.buffered
    → number + count + budget (record r { buffered = drop used r.buffered }) ≤ 2 ^ 63
own_on r number count used sound clean counted few within =
    omega (arith, length-drop used r.buffered)

each_ends : (end : ℕ) (ls : Lines) → length ls ≤ length (unlines end ls)
each_ends end [] = omega arith
each_ends end (x ∷ ls) = grind (usual, each_ends end ls)

-- where the input is, in its block: each line passed has bytes there, and so has the line reached
pub within_block : {end : ℕ} {cmp : Cmp} {key : Key} {old now : BlockLine} {q : Lines} {reached : Reached}
    {bytes : List ℕ} → old.rest.now ≡ bytes → ArePassed end cmp key old now q → IsReached now reached
    → (reached.left + reached.passed ≤ length bytes)
    × (0 < reached.passed → reached.left + (reached.size + 1) ≤ length bytes)
within_block rest (none, inl u) at =
    let count = at.passed ∙ ap (λ l. l.passed) u.same ∙ none in (
      omega (arith, count, ap (λ l. length l.rest.now) u.same, ap length rest),
      λ some. absurd (omega arith),
    )
within_block {end} rest (none, inr m) at = (
  omega (arith, at.left, m.passed, none, ap length rest, moved_bytes m, each_ends end m.middle),
  λ some. omega (arith, at.size, ap length rest, moved_bytes m),
)

pub can_resume : {end : ℕ} {cmp : Cmp} {key : Key} {old now : BlockLine} {q : Lines} {reached : Reached}
    {cursor : Sorted} {reader : Reader} → old.rest.now ≡ reader.buffered → ArePassed end cmp key old now q
    → IsReached now reached → cursor.status ≡ Head → IsReaderOf cursor reader → CanResume reached cursor reader
can_resume rest passed at head own =
    let (within, line) = within_block rest passed at in
    record { head = head; own_reader = own; within = within; line = line }
