-- The bound of the lag; the invariant of one input, which holds again after its next line; and the exits of a tool,
-- whose contract follows from the lines read, the processed ones, a bound on the others, and the output.
pub mod Invariant
pub mod SlotLines
use Rattle.ptmerge.proofs
use Rattle.ptmerge.specs
pub use proofs.Common.{⊎_elim, IsPrefix, length_push, line_of_with_line, CursorStatus, Head}
pub use proofs.Common.{Ended, Disorder, status_at, same_key_at, NextOkPost, Result, Err, Memory, advance_trans, Write}
pub use proofs.Common.{MergeFault, lines_of, MergeState, MergePost, merge_state, terminator}
use Rattle.ptlines.proofs.LineSearch.{IsLine-append}
use specs.Calls.MergeSpec.{decided_output, decided_entries, merge_output, lines_decide_disorder, disorder_is_decided}
use Rattle.ptlines.proofs.Calls.{call_ends, call_set, call_without_slots, given_before, given_by, CallProgress}
use Rattle.ptlines.proofs.Calls.{DecidedIfReadFailed, call_on_failed_output}
use Rattle.std.proofs.lemmas.List.{append_cancel_right, map-append}
use Rattle.ptlines.proofs.Lag.{bounded_lag_after}
use Rattle.ptlines.proofs.Received.{has_received}
use Rattle.ptlines.specs.Received.{HasReceived}
use specs.declared.faults.MergeFault.TheVariants as faults
use Rattle.ptlines.specs.Calls.Engines.{CallEnd, ReadFault, AreAllConsistent}
use Rattle.ptlines.proofs.TextLaws.{complete_lines_of_unlines, the_lines}
use Rattle.ptlines.specs.Lag.{LaggedInput}
use Rattle.ptlines.specs.Calls.Lag.{ProcessLag}
pub use Rattle.ptlines.specs.Calls.Engines.{CallOutcome, with_input}
pub use Rattle.ptlines.proofs.Calls.{reads_nothing}
pub use specs.Calls.MergeSlots.{EnsureFourSlotsErrPost}
pub use Invariant.*
pub use SlotLines.*
pub use specs.Calls.MergeCall.{both_sides, merge_end}
pub use specs.Calls.MergeSpec.{merge_engine}
pub use specs.Private.BlockLines.{IsLineByLine}
use Rattle.ptlines.specs.declared.sizes.TheConstants.{BLOCK}

-- ---- bounded lag: lines in order

-- Leave out the buffered bytes, at most a block, and the terminator of a line that is not yet processed: the complete
-- lines that remain are all processed. No key below the last of these can follow in either input, so with any content
-- of the other input they decide only output that is written.

sorted_from_after : (cmp : Cmp) (key : Key) (last : Option (List ℕ)) (ls : Lines)
    → IsSortedFrom cmp key last (sorted_after cmp key last ls)
sorted_from_after cmp key _ [] = tt
sorted_from_after cmp key last (x ∷ ls) = grind (arith, sorted_from_after cmp key (Some (key x)) ls)

sorted_from_parts : (cmp : Cmp) (key : Key) (last : Option (List ℕ)) (xs ys : Lines)
    → IsSortedFrom cmp key last (xs ++ ys) → IsSortedFrom cmp key last xs
    × IsSortedFrom cmp key (last_or last (map key xs)) ys
sorted_from_parts cmp key _ [] ys r = (tt, r)
sorted_from_parts cmp key last (x ∷ xs) ys (here, more) = grind (arith, sorted_from_parts cmp key _ xs ys more)

module _ (cmp : Cmp) (o : IsKeyOrder cmp) (key : Key) where
  none_below : (xs ys : Lines) → IsSortedFrom cmp key None (xs ++ ys)
      → EachKey (λ k. is_below cmp k (last_or None (map key xs)) ≡ false) key ys
  none_below xs ys r =
      let (_, rest) = sorted_from_parts cmp key _ xs ys r in by _ rest
    where
      by : (l : Option (List ℕ)) → IsSortedFrom cmp key l ys → EachKey (λ k. is_below cmp k l ≡ false) key ys
      by None h = Each-all _ (λ k. refl) _
      by (Some x) h = Each-weaker _ _ (λ k a. not_below cmp o k x a) _ (from_key cmp o key x ys h)

-- ---- the bytes received

abbrev Shape : ℕ → List ℕ → Lines → Type 0
Shape end given ls = AreLines end ls × ((given ≡ unlines end ls) ⊎ (given ++ end ∷ [] ≡ unlines end ls))

last_of : {A : Type 0} (xs : List A) → (xs ≡ []) ⊎ ((front : List A) × (x : A) × (xs ≡ front ++ x ∷ []))
last_of [] = inl refl
last_of (x ∷ xs) = ⊎_elim (λ none. inr ([], x, cc)) (λ (front, y, is). inr (x ∷ front, y, cc)) (last_of xs)

are_split : (end : ℕ) (xs : Lines) (x : List ℕ) → AreLines end (xs ++ x ∷ []) → AreLines end xs × IsLine end x
are_split end [] x (line, _) = (tt, line)
are_split end (y ∷ xs) x (line, more) = grind (arith, are_split end xs x more)

-- the input at most two blocks earlier: it had not ended, and all its complete lines are processed
pub record LagPoint (end : ℕ) (given : Received) (p : Lines) : Type 0 where
  pub before : LaggedInput given
  pub going : before.earlier.eof ≡ false
  pub rest : Lines
  pub split : p ≡ known_lines end before.earlier ++ rest

-- at most one line that was read is not processed, and nothing is read after it
abbrev pub ProcessedNearly : Lines → Lines → List ℕ → Type 0
ProcessedNearly ls p piece = (ls ≡ p) ⊎ ((x : List ℕ) × (ls ≡ p ++ x ∷ []) × (piece ≡ []))

module _ (end : ℕ) (given piece : List ℕ) (ls p : Lines) (now new : Reader) (far : IsReadAs end given ls now)
    (free : IsLine end piece) (few : length new.buffered ≤ BLOCK) where
  abbrev Point : Type 0
  Point = LagPoint end (received_with (given ++ piece) new) p

  point : (whole : Lines) (tail last : List ℕ)
      → (given ++ piece) ++ new.buffered ≡ (unlines end whole ++ tail) ++ last → length last ≤ BLOCK + 1
      → AreLines end whole → IsLine end tail → (rest : Lines) → p ≡ whole ++ rest → Point
  point whole tail last is short all line rest split = record {
    before = record {
      earlier = record { bytes = unlines end whole ++ tail; eof = false };
      last = last;
      split = is;
      short = omega arith;
      eof = λ e. cc;
    };
    going = refl;
    rest = rest;
    split = rw (complete_lines_of_unlines end _ _ all line) split;
  }

  open_line : (w : Lines) (y : List ℕ) → ls ≡ w ++ y ∷ [] → AreLines end ls → given ++ end ∷ [] ≡ unlines end ls
      → (rest : Lines) → p ≡ w ++ rest → Point
  open_line w y last all is rest split =
      let (lines, line) = are_split end w y (rw last at all) in
      let ends : given ≡ unlines end w ++ y = append_cancel_right given (unlines end w ++ y) (end ∷ [])
      (is ∙ (rw (last, unlines_push end w y, append_assoc (unlines end w) y (end ∷ [])))) in
      point w (y ++ piece) new.buffered (rw (ends, append_assoc (unlines end w) y piece)) (omega arith) lines
      (IsLine-append end y piece line free) rest split

  pub back : ProcessedNearly ls p piece → Point
  back processed_nearly = by processed_nearly (grind (arith, the_lines))
    where
      by : ProcessedNearly ls p piece → Shape end given ls → Point
      by (inl e) (all, inl is) =
          point ls piece new.buffered (rw is) (omega arith) all free [] (sym e ∙ sym (append-nil ls))
      by (inl e) (all, inr is) =
          ⊎_elim
          (λ none.
          (let bad : [] ≡ given ++ end ∷ [] = rw none at (sym is) in absurd (omega
          (arith, ap length bad, length-append given (end ∷ [])))))
          (λ (w, y, last). open_line w y last all is (y ∷ []) (sym e ∙ last)) (last_of ls)
      by (inr (y, split, _)) (all, inr is) = open_line p y split all is [] (sym (append-nil p))
      by (inr (y, split, none)) (all, inl is) =
          let (lines, line) = are_split end p y (rw split at all) in
          point p y (end ∷ new.buffered)
          (rw (none, append-nil given, is, split, unlines_push end p y) (simp append_assoc)) (omega arith) lines line []
          (sym (append-nil p))

-- ---- the decided output is a prefix of the output, if only processed lines decide it

-- `xs` and `ys` differ only in lines whose keys are not below `last`
pub record Differ (tool : MergeTool) (last : Option (List ℕ)) (key : Key) (xs ys : Lines) : Type 0 where
  pub rest : Lines
  pub tail : Lines
  pub same : xs ++ rest ≡ ys ++ tail
  pub none_rest : EachKey (λ k. is_below tool.cmp k last ≡ false) key rest
  pub none_tail : EachKey (λ k. is_below tool.cmp k last ≡ false) key tail

of_other : (cmp : Cmp) (s : Side) (f : Side → Option FirstDisorder) (test : Option MergeDisorder → Bool) → f s ≡ None
    → test None ≡ false
    → ((d : FirstDisorder) → f (other s) ≡ Some d → test (Some (record { file = other s; first_disorder = d })) ≡ false)
    → test (earlier_disorder cmp (f First) (f Second)) ≡ false
of_other cmp First f test none calm some = grind arith
of_other cmp Second f test none calm some = grind arith

module _ (tool : MergeTool) (o : IsKeyOrder tool.cmp) (eof : Side → Bool) (ls : Side → Lines) (of : Side)
    (going : eof of ≡ false) (no_disorder : first_disorder tool.cmp (tool.key of) (ls of) ≡ None) where
  open tool use {cmp, terminator}

  undecided : (k : List ℕ) → is_below cmp k (last_or None (map (tool.key of) (ls of))) ≡ false
      → is_decided tool eof ls k ≡ false
  undecided k h = not_decided tool o eof ls of k (rw (going, no_disorder) h)

  decided_of_passed : (p : Side → Lines) → ((side : Side) → Differ tool (last_or None (map (tool.key of) (ls of)))
      (tool.key side) (sorted_prefix cmp (tool.key side) (ls side)) (p side))
      → IsPrefix (unlines terminator (decided_entries tool eof ls)) (output_of tool p)
  decided_of_passed p differ =
      let dec = is_decided tool eof ls in
      let rest = entries_by_key tool (λ k. not (dec k)) p in
      let is = downward_splits tool o all_keys dec (downward_decided tool o eof ls) p in
      let none = λ (side : Side) (l : Lines) (e : EachKey _ (tool.key side) l). kept_none dec (tool.key side) l
      (Each-weaker _ _ undecided _ e) in
      let kept = λ (side : Side). (let d = differ side in
      simp (filter-append, none side d.rest d.none_rest, none side d.tail d.none_tail, append-nil) at
      (ap (filter (λ line. dec (tool.key side line))) d.same)) in
      let known =
      sym (by_keys_kept dec tool o (λ side. sorted_prefix cmp (tool.key side) (ls side)) all_keys)
      ∙ (λ i. entries_by_key tool all_keys (λ side. kept side i)) ∙ by_keys_kept dec tool o p all_keys in
      record {
        rest = unlines terminator rest;
        is = ap (unlines terminator) (is ∙ (λ i. (sym known) i ++ rest)) ∙ unlines-append terminator _ rest;
      }

  -- a disorder of the other input comes after the keys of this one, so none is decided
  not_settled : EachKey (λ k. IsDisorderFrom cmp k (first_disorder cmp (tool.key (other of)) (ls (other of))))
      (tool.key of) (ls of) → lines_decide_disorder tool eof ls (disorder tool ls) ≡ false
  not_settled up =
      let above = λ (e : List ℕ) (most : EachKey _ (tool.key of) (ls of)).
      (let (below, _) = past_none cmp o (tool.key of) (λ k. k) (AtLeast e) (ls of) (e ∷ []) most
      (self_at_most cmp o e, tt) in undecided e below) in
      of_other cmp of (λ side. first_disorder cmp (tool.key side) (ls side)) (lines_decide_disorder tool eof ls)
      no_disorder refl (λ d is. above d.last_key (rw is at up))

-- ---- the output decided two blocks earlier

front_has : (P : List ℕ → Type 0) (key : Key) (xs ys : Lines) → EachKey P key (xs ++ ys) → EachKey P key xs
front_has P key xs ys e = (Each-parts P _ _ (rw map-append at e)).0

-- `q` are the processed lines; the output for the first of them is complete, and the rest of `q` follows it
module _ {tool : MergeTool} (o : IsKeyOrder tool.cmp) (given : Side → Received) {b : Side → Bound} {q : Side → Lines}
    {was is : Output} {done : Lines} (lag : LagInvariant tool b q was is done) (seen : (side : Side)
    → IsFuture tool.cmp (tool.key side) (known_lines tool.terminator (given side)) (q side) (b side)) where
  open tool use {cmp, terminator}

  abbrev to_come : Side → Lines
  to_come side = lag.tail side ++ (seen side).rest

  module _ (of : Side) (point : LagPoint tool.terminator (given of) (q of)) where
    abbrev whole : Lines
    whole = known_lines terminator point.before.earlier

    abbrev last : Option (List ℕ)
    last = last_or None (map (tool.key of) whole)

    in_order : IsSortedFrom cmp (tool.key of) None (whole ++ point.rest)
    in_order = rw (← point.split) (sorted_from_parts cmp (tool.key of) None (q of)
        (seen of).rest (rw (← (seen of).is, sorted_prefix_is) (sorted_from_after cmp _ _ _))).0

    ordered : (sorted_prefix cmp (tool.key of) whole ≡ whole) × (first_disorder cmp (tool.key of) whole ≡ None)
    ordered = grind (arith, sorted_from_parts, in_order, sorted_from_start)

    above : (side : Side) → EachKey (λ k. is_below cmp k last ≡ false) (tool.key side) (to_come side)
    above side =
        past_none cmp o (tool.key of) _ (lag.bound side) whole _ (front_has _ _ _ _
        (rw point.split at (lag.under_bound side of))) (lag.may_follow side _ (seen side).may_follow)

    abbrev Differs : Side → Received → Type 0
    Differs side g =
        Differ tool last (tool.key side) (sorted_prefix cmp (tool.key side) (known_lines terminator g)) (lag.front side)

    others : (side : Side) → Differs side (given side)
    others side = record {
      rest = [];
      tail = to_come side;
      same = grind (arith, append-nil, append_assoc);
      none_rest = tt;
      none_tail = above _;
    }

    module _ (mix : Side → Received) (own : mix of ≡ point.before.earlier) where
      whole_now : known_lines terminator (mix of) ≡ whole
      whole_now = rw own

      decided_at : mix (other of) ≡ given (other of) → IsPrefix (decided_output tool mix) (output_of tool lag.front)
      decided_at rest = decided_of_passed tool o (λ side. (mix side).eof) (λ side. known_lines terminator (mix side)) of
          (rw own point.going) (rw whole_now ordered.1) lag.front
          (rw whole_now (side_case _ of
          (rw own (grind (arith, none_below, front_has, ordered, in_order, above of))) (rw rest (others _))))

      decided_by : mix (other of) ≡ given (other of) → IsPrefix (decided_output tool mix) (unlines terminator done)
      decided_by rest = search (rules, (decided_at rest), append_assoc)

    lag_bound : ProcessLag {I = Unit {0}} (λ came. decided_output tool (with_input both_sides of (came tt) given))
        (λ u. given of) (output_of tool lag.front)
    lag_bound = record {
      before = λ u. point.before;
      begins = decided_at (with_input both_sides of point.before.earlier given) (grind arith) (grind arith);
    }

    unsettled : (before : LaggedInput (given of))
        × (disorder_is_decided tool (with_side of before.earlier given) ≡ false)
    unsettled =
        let up = Each-weaker _ (λ k. IsDisorderFrom cmp k (first_disorder cmp (tool.key (other of))
        (known_lines terminator (given (other of)))))
        (λ k u. grind arith) _ (lag.under (other of) of) in
        let mix = with_side of point.before.earlier given in
        let own = put_same of _ _ in (
          point.before,
          not_settled tool o (λ side. (mix side).eof) (λ side. known_lines terminator (mix side)) of
              (rw own point.going) (rw (whole_now mix own) ordered.1) (rw (put_other, whole_now mix own)
              (search (rules, front_has))),
        )

-- ---- the cursor of one input

pub record IsAtCurrentLine (cmp : Cmp) (key : Key) (number : ℕ) (x : List ℕ) (ls p : Lines) (b : Bound) : Type 0 where
  pub all : ls ≡ p ++ x ∷ []
  pub sorted_up_to : IsSortedUpTo cmp key ls (Some (key x))
  pub bound : b ≡ AtLeast (key x)
  pub some : 0 < number

-- `ls` are read and `p` of them processed: the last line is the current one, or there is none, or it is out of order
abbrev pub MatchesStatus : Cmp → Key → CursorStatus → Sorted → Slots → Reader → Lines → Lines → Bound → Type 0
MatchesStatus cmp key Head cursor store now ls p b =
    IsAtCurrentLine cmp key cursor.number (line store cursor.current_slot) ls p b
MatchesStatus cmp key Ended cursor store now ls p b = (b ≡ NothingMore) × IsDone now
MatchesStatus cmp key (Disorder n) cursor store now ls p b =
    b ≡ AfterDisorder (record { last_key = key (line store cursor.previous_slot); line = n })

-- at an exit `ls` are read, `p` of them are processed, and a piece of a further line is read
pub record ReadFacts (tool : MergeTool) (s : Side) (old now new : Reader) (piece : List ℕ) (ls p : Lines)
    (b : Bound) : Type 0 where
  pub lines_read : LinesRead tool.terminator old now ls
  pub reads : ReaderAdvance now new piece
  pub line : IsLine now.terminator piece
  pub sound : IsSound new
  pub processed_nearly : ProcessedNearly ls p piece
  pub processed_prefix : IsProcessedPrefix tool.cmp (tool.key s) ls p b
  pub nothing_follows : b ≡ NothingMore → IsDone now

pub record SideInvariant (tool : MergeTool) (s : Side) (old now : Reader) (cursor : Sorted) (store : Slots)
    (ls p : Lines) (b : Bound) : Type 0 where
  pub facts : ReadFacts tool s old now now [] ls p b
  pub open facts use {lines_read, sound}
  pub begun : HasBegun now ls
  pub number : cursor.number ≡ length ls
  pub status_is : MatchesStatus tool.cmp (tool.key s) cursor.status cursor store now ls p b
  pub slots : HasSlots s cursor
  pub four : 4 ≤ length store.lines

module _ {tool : MergeTool} {s : Side} {old now : Reader} {cursor : Sorted} {store : Slots} {ls p : Lines} {b : Bound}
    (i : SideInvariant tool s old now cursor store ls p b) where
  pub at_current_line : cursor.status ≡ Head
      → IsAtCurrentLine tool.cmp (tool.key s) cursor.number (line store cursor.current_slot) ls p b
  at_current_line head = rw head at i.status_is

  pub read_facts_after_line : IsKeyOrder tool.cmp → cursor.status ≡ Head → ReadFacts tool s old now now [] ls ls b
  read_facts_after_line o head = grind (arith, after_from)

abbrev pub bound_after : Option (List ℕ) → Bound
bound_after None = NoBound
bound_after (Some k) = AtLeast k

abbrev pub IsLastKey : Key → Option (List ℕ) → Sorted → Slots → Type 0
IsLastKey key None cursor store = cursor.number ≡ 0
IsLastKey key (Some k) cursor store = (0 < cursor.number) × (k ≡ key (line store cursor.current_slot))

-- whether the input can advance, as a number
abbrev pub reads_left : CursorStatus → ℕ
reads_left Head = 1
reads_left Ended = 0
reads_left (Disorder n) = 0

pub record SideAfterNext (tool : MergeTool) (s : Side) (old new : Reader) (cursor : Sorted) (slot : ℕ)
    (before after : Slots) (ls : Lines) (last : Option (List ℕ)) : Type 0 where
  pub now_ls : Lines
  pub bound : Bound
  pub side_invariant : SideInvariant tool s old new cursor after now_ls ls bound
  pub later : IsLater tool.cmp (tool.key s) (bound_after last) bound
  pub bytes : List ℕ
  pub stored : after ≡ with_line before slot bytes
  pub continues_key : Extends ls now_ls
  pub fits : length bytes ≤ max_length now_ls

status_after_next : (cmp : Cmp) (key : Key) (last : Option (List ℕ)) (cursor : Sorted) (store : Slots) (next : List ℕ)
    → IsLastKey key last cursor store → status_at key cmp cursor.number (line store cursor.current_slot) next
    ≡ cond (is_disordered cmp last (key next)) (Disorder (cursor.number + 1)) Head
status_after_next = grind arith

from_next : {cmp : Cmp} (o : IsKeyOrder cmp) (key : Key) (last : Option (List ℕ)) (x : List ℕ)
    → is_disordered cmp last (key x) ≡ false → IsLater cmp key (bound_after last) (AtLeast (key x))
from_next = grind (arith, Each-weaker)

module _ (tool : MergeTool) (o : IsKeyOrder tool.cmp) (s : Side) (old now new : Reader) (cursor next : Sorted)
    (before after : Slots) (ls : Lines) (slots : HasSlots s cursor) (four : 4 ≤ length before.lines) where
  open tool use {cmp}

  abbrev own : Key
  own = tool.key s

  abbrev next_cursor : CursorStatus → ℕ → Bool → Sorted
  next_cursor status number same = record {
    current_slot = cursor.previous_slot;
    previous_slot = cursor.current_slot;
    number = number;
    status = status;
    same = same;
    key = next.key;
  }

  abbrev Goal : Option (List ℕ) → Sorted → Type 0
  Goal last q = SideAfterNext tool s old new q cursor.previous_slot before after ls last

  at_next : (last : Option (List ℕ)) (more : Lines) (bytes : List ℕ) (status : CursorStatus) (number : ℕ) (same : Bool)
      (b : Bound) → LinesRead tool.terminator old new (ls ++ more) → HasBegun new (ls ++ more) → IsSound new
      → ProcessedNearly (ls ++ more) ls [] → number ≡ length (ls ++ more) → IsProcessedPrefix cmp own (ls ++ more) ls b
      → MatchesStatus cmp own status (next_cursor status number same) after new (ls ++ more) ls b
      → IsLater cmp own (bound_after last) b → after ≡ with_line before cursor.previous_slot bytes
      → length bytes ≤ max_length (ls ++ more) → Goal last (next_cursor status number same)
  at_next = grind (arith, length-set)

  low : AreLow cursor
  low = low_slot s _ slots

  module _ (e : FillLine now new before after cursor.previous_slot) (sound : IsSound new)
      (lines_read : LinesRead tool.terminator old now ls) (number : cursor.number ≡ length ls) (same : Bool) where
    at_status : (last : Option (List ℕ)) (status : CursorStatus) (b : Bound)
        → IsProcessedPrefix cmp own (ls ++ e.line ∷ []) ls b
        → MatchesStatus cmp own status (next_cursor status (cursor.number + 1) same) after new (ls ++ e.line ∷ []) ls b
        → IsLater cmp own (bound_after last) b → Goal last (next_cursor status (cursor.number + 1) same)
    at_status _ _ b processed status_is later =
        at_next _ _ _ _ _ _ b (lines_read_more lines_read e)
        (inr (omega (arith, length_push ls e.line))) sound (inr (e.line, refl, refl))
        (omega (arith, length_push ls e.line)) processed status_is later e.stored
        (omega (arith, max_length-append ls (e.line ∷ [])))

    at_line : (last : Option (List ℕ)) → IsSortedUpTo cmp own ls last → IsLastKey own last cursor before
        → (t : Bool) → is_disordered cmp last (own e.line) ≡ t
        → Goal last (next_cursor (cond t (Disorder (cursor.number + 1)) Head) (cursor.number + 1) same)
    at_line last sorted_up_to is false none =
        let more : IsSortedUpTo cmp own (ls ++ e.line ∷ []) (Some (own e.line)) =
        grind (arith, append_assoc, length_push) in
        at_status _ _ _ (grind (arith, append_assoc, after_from, more))
        (grind (arith, line_of_with_line)) (from_next o own _ _ none)
    at_line None sorted_up_to is true disordered = cc
    at_line (Some k) sorted_up_to is true disordered =
        at_status (Some k) (Disorder (cursor.number + 1))
        (AfterDisorder (record { last_key = k; line = length ls + 1 }))
        (grind (arith, append_assoc)) (grind (arith, line_other)) (grind arith)

  pub next_invariant : {last : Option (List ℕ)} → LinesRead tool.terminator old now ls → cursor.number ≡ length ls
      → IsSortedUpTo cmp own ls last → IsLastKey own last cursor before
      → NextOkPost own cmp cursor next now new before after → Goal last next
  next_invariant {last} lines_read number sorted_up_to is (inl e) =
      rw (e.cursor, status_after_next cmp own _ _ _ _ is)
      (at_line e.next_line e.sound lines_read number _ _ sorted_up_to is _ refl)
  next_invariant lines_read number sorted_up_to is (inr e) =
      rw e.cursor (at_next _ [] [] Ended cursor.number false NothingMore (search rules) (inl e.done) e.sound
      (inl (append-nil ls)) (simp append-nil number) (grind usual) (refl, e.done)
      (grind arith)
      e.empty (omega arith))

pub group_store_next : {tool : MergeTool} {before store after : Slots} {ls : Side → Lines} {g : Lines}
    {old new : Reader} {next : Sorted} {last : Option (List ℕ)} (s : Side) (cursor : Sorted) → HasSlots s cursor
    → GroupStore tool before store ls g
    → (n : SideAfterNext tool s old new next cursor.previous_slot store after (ls s) last)
    → GroupStore tool before after (with_side s n.now_ls ls) g
group_store_next s _ slots k n = search (rules, group_store_line, side_extends, put_same)

-- ---- an exit

abbrev pub state_by_side : (Side → Reader) → Output → Slots → MergeState
state_by_side reader out store = record { reader = reader; out = out; store = store }

-- a read failed: nothing is buffered, no end was reached, and all lines are processed
pub record IsFailedRead (new : Reader) (ls p : Lines) : Type 0 where
  pub buffered : new.buffered ≡ []
  pub eof : new.eof ≡ false
  pub all : ls ≡ p

-- the store is within the measure for all lists that continue these lines and pieces
abbrev pub Fits : MergeTool → Slots → (Side → Reader) → (Side → Lines) → (Side → List ℕ) → Slots → Type 0
Fits tool before now ls piece after = (all : Side → Lines)
    → ((side : Side) → HoldsLines (now side) (ls side) (piece side) (all side)) → FitsIn tool before after all

pub extends : {now : Reader} {ls all : Lines} {piece : List ℕ} → HoldsLines now ls piece all → Extends ls all
extends w = grind arith

module _ {tool : MergeTool} {before store : Slots} {ls : Side → Lines} {g : Lines}
    (k : GroupStore tool before store ls g) {now : Side → Reader} where
  pub fits_emptied : (after : Slots) → after.peak ≤ max store.peak (total_bytes store.lines)
      → length after.lines ≡ length store.lines → Fits tool before now ls (λ side. []) after
  fits_emptied = search (rules, total_within)

-- A call fails while lines are still buffered that it has processed. What it could not store is left to do.
pub record IsWriteFaultBehind (real : Side → Reader) (out : Output) (after : Slots) : Type 0 where
  pub write_failed : out.write_failed ≡ true
  pub unfailed : (side : Side) → (real side).failed ≡ false
  pub not_denied : after.denied ≡ false

pub record IsMemoryFaultBehind (real : Side → Reader) (out : Output) (after : Slots) : Type 0 where
  pub denied : after.denied ≡ true
  pub unfailed : (side : Side) → (real side).failed ≡ false
  pub clean : out.write_failed ≡ false
  pub side : Side
  pub left : IsDone (real side) → ⊥

abbrev pub IsFaultBehind : (Side → Reader) → Output → Slots → MergeFault → Type 0
IsFaultBehind real out after (faults.Read side) = ⊥
IsFaultBehind real out after Write = IsWriteFaultBehind real out after
IsFaultBehind real out after Memory = IsMemoryFaultBehind real out after
IsFaultBehind real out after (faults.Disorder side number) = ⊥

behind : {was virtual real : Reader} {given : Received} → virtual ≡ record real { buffered = virtual.buffered }
    → HasReceived was virtual given → HasReceived was real given
behind same h = grind (arith, h)

-- The second input is unread until the first has begun; until the second has, at most one line of the first was read.
pub record FirstReads (end : ℕ) (old now new : Side → Reader) (ls : Side → Lines) (piece : Side → List ℕ) : Type 0 where
  pub first : HasBegun (now First) (ls First) ⊎ (new Second ≡ old Second)
  pub second : HasBegun (now Second) (ls Second) ⊎ (length (ls First) + length (lines end (piece First)) ≤ 1)

pub both_begun : {end : ℕ} {old now new : Side → Reader} {ls : Side → Lines} {piece : Side → List ℕ}
    → ((side : Side) → HasBegun (now side) (ls side)) → FirstReads end old now new ls piece
both_begun = search rules

pub record IsOpenMerge (tool : MergeTool) (old : MergeState) : Type 0 where
  pub o : IsKeyOrder tool.cmp
  pub alone : IsLineByLine tool.entries
  pub fits : (ls : Side → Lines) → HasRoom tool [] ls
  pub terminator : (side : Side) → (old.reader side).terminator ≡ tool.terminator
  pub sound : (side : Side) → IsSound (old.reader side)
  pub readable : (side : Side) → (old.reader side).fault ≡ None
  pub unfailed : (side : Side) → (old.reader side).failed ≡ false
  pub writable : old.out.write_failed ≡ false
  pub allowed : old.store.denied ≡ false
  pub empty : total_bytes old.store.lines ≡ 0

abbrev pub ReadFactsOf : MergeTool → MergeState → (Side → Reader) → (Side → Lines) → (Side → Lines) → (Side → Bound)
    → Side → Reader → List ℕ → Type 0
ReadFactsOf tool old now ls p b side new piece =
    ReadFacts tool side (old.reader side) (now side) new piece (ls side) (p side) (b side)

module _ {tool : MergeTool} {old : MergeState} (w : IsOpenMerge tool old) (new : MergeState) {now : Side → Reader}
    {piece : Side → List ℕ} {ls p : Side → Lines} {b : Side → Bound}
    (g : (side : Side) → ReadFactsOf tool old now ls p b side (new.reader side) (piece side)) where
  open tool use {cmp, key}

  abbrev pub took : Side → List ℕ
  took side = (g side).lines_read.given ++ piece side

  abbrev pub given : Side → Received
  given = given_by new took

  pub input_split_of : (all : Side → Lines) → ((side : Side) → Continues (now side) (ls side) (all side))
      → (side : Side) → IsFuture cmp (key side) (all side) (p side) (b side)
  input_split_of all more side = rw (more side).is ((g side).processed_prefix.future (more side).more
      (λ ended. (more side).done ((g side).nothing_follows ended)))

  input_lines : (texts : Side → List ℕ) → AreAllConsistent both_sides given texts → (side : Side)
      → HoldsLines (now side) (ls side) (piece side) (lines tool.terminator (texts side))
  input_lines texts agree side =
      lines_read_of_input (g side).lines_read (g side).reads (g side).line _ (agree side refl)

  pub continues : (texts : Side → List ℕ) → AreAllConsistent both_sides given texts → (side : Side)
      → Continues (now side) (ls side) (lines tool.terminator (texts side))
  continues _ agree _ = (input_lines _ agree _).continues

  known : (side : Side) → KnownLines (g side).lines_read (g side).reads (g side).line
      (known_lines tool.terminator (given side))
  known side = lines_read_known (g side).lines_read (g side).reads (g side).line

  whole_input_split : (side : Side)
      → IsFuture cmp (key side) (known_lines tool.terminator (given side)) (p side) (b side)
  whole_input_split = input_split_of _ (λ side. (known _).known)

  has_line : (side : Side) → HasBegun (now side) (ls side) → ¬ HasNoLine tool.terminator (given side)
  has_line side = begun_gives_line (g side).lines_read (g side).reads (g side).line

  backs : (side : Side) → LagPoint tool.terminator (given side) (p side)
  backs side = back _ _ _ _ _ _ (new.reader side) (g side).lines_read.so_far
      (rw (g side).lines_read.terminator at (g side).line) (g side).sound.buffered (g side).processed_nearly

  pub exact_output : {was is : Output} {found : Option (Side × ℕ)} → MergeInvariant tool b p was is
      → IsExactStop tool b found → (texts : Side → List ℕ) → AreAllConsistent both_sides given texts
      → (output_of tool p ≡ merge_output tool texts)
      × (option_map disordered_line (disorder tool (lines_of tool texts)) ≡ found)
  exact_output m stop texts agree =
      let s = input_split_of _ (continues _ agree) in
      let (none, found) = stop (lines_of tool texts) (λ side. (s side).rest) (λ side. (s side).may_follow)
      (λ side. (s side).may_disorder) in (
        ap (unlines tool.terminator)
            (sym (input_split w.o m s ∙ rw none (append-nil (entries_by_key tool all_keys p)))),
        found,
      )

  module _ {done : Lines} (lag : LagInvariant tool b p old.out new.out done) where
    -- once a read failed, what is decided was written
    decided : (side : Side) → IsFailedRead (new.reader side) (ls side) (p side)
        → IsPrefix (decided_output tool given) (unlines tool.terminator done)
    decided side f =
        let point : LagPoint tool.terminator (given side) (p side) = record {
          before = record {
            earlier = given side;
            last = [];
            split = sym (append-nil (given side).bytes);
            short = omega arith;
            eof = λ eof. eof;
          };
          going = f.eof;
          rest = [];
          split = rw ((known _).exact f.buffered f.eof, f.all) (sym (append-nil (p side)));
        } in
        decided_by w.o given lag whole_input_split _ point given refl refl

    progress : Fits tool old.store now ls piece new.store
        → CallProgress both_sides (merge_engine tool) old new took (unlines tool.terminator done)
    progress fits = record {
      reads = λ side read. advance_trans _ _ _ _ _ (g side).lines_read.advance_ok.reads (g side).reads;
      untouched = λ side none. cc;
      never_failed = λ side read. w.unfailed side;
      writable = w.writable;
      wrote = rw lag.all at (push_trans _ _ _ _ _ lag.clean lag.wrote lag.more);
      is_prefix = λ texts agree.
          let come = lag.first _ (input_split_of _ (continues _ agree)) in
          search (rules, unlines-append);
      bounded_lag = λ of read. rw lag.all at (bounded_lag_after _ _ old.out lag.mid _
          (lag_bound w.o given lag whole_input_split of (backs of)) lag.wrote lag.clean _ _ lag.more);
      peak = λ texts agree. (fits (lines_of tool texts) (input_lines _ agree)).0;
      slots = λ texts agree. (fits (lines_of tool texts) (input_lines _ agree)).1;
      least = omega (arith, has);
      room = omega (arith, has);
      terminator = λ side read. sym (w.terminator side);
    }
      where
        has : max (length old.store.lines) 4 ≤ length new.store.lines
        has = (fits (lines_of tool (λ side. (given side).bytes)) (input_lines _ (λ side read. record
            { rest = []; is = sym (append-nil (given side).bytes); whole = λ eof. refl }))).2

    pub exit_is_merge_post : Fits tool old.store now ls piece new.store
        → FirstReads tool.terminator old.reader now new.reader ls piece
        → ((side : Side) → (new.reader side).failed ≡ true → IsFailedRead (new.reader side) (ls side) (p side))
        → (result : Result (Unit {0}) MergeFault)
        → CallOutcome both_sides (merge_engine tool) old new given (unlines tool.terminator done) (merge_end result)
        → MergePost tool old new result
    unfolding call_ends
    exit_is_merge_post fits order failed _ ends = record {
      call = grind (arith, call_ends, progress, by);
      stops_at_disorder = λ of clean_then. unsettled w.o given lag whole_input_split of (backs of);
      first_reads = λ clean_then. record {
        second_unread = λ none. ⊎_elim (λ begun. absurd (has_line First begun none))
            (λ same. same ∙ (λ i. record (old.reader Second) { terminator = w.terminator Second i })) order.first;
        first_waits = λ none. ⊎_elim (λ begun. absurd (has_line Second begun none))
            (λ few. one_line_and_block (g First).lines_read (g First).reads (g First).line (g First).sound
            few) order.second;
      };
    }
      where
        by : (end : CallEnd Side)
            → DecidedIfReadFailed both_sides (merge_engine tool) old new took (unlines tool.terminator done) end
        by (ReadFault input) = λ side read fail. decided _ (failed side fail)
        by other = tt

    -- A fault while bytes are still buffered that the readers have consumed here: `real` are the readers then.
    pub exit_behind : Fits tool old.store now ls piece new.store → ((side : Side) → HasBegun (now side) (ls side))
        → (real : Side → Reader)
        → ((side : Side) → new.reader side ≡ record (real side) { buffered = (new.reader side).buffered })
        → (fault : MergeFault) → IsFaultBehind real new.out new.store fault
        → MergePost tool old (state_by_side real new.out new.store) (Err fault)
    exit_behind fits begun real same fault ends = record {
      call = record {
        given = given;
        came = λ side read. behind (same side) (has_received _ _ _ (moves.reads side read));
        untouched = λ side none. cc;
        pushed = unlines tool.terminator done;
        wrote = moves.wrote;
        ends = (ends_behind fault ends).0;
        is_prefix = moves.is_prefix;
        decided_is_written = λ side read fail clean_then. cc ((ends_behind fault ends).1 side);
        bounded_lag = λ side read clean_then. moves.bounded_lag side read;
        peak = moves.peak;
        slots = moves.slots;
        added = λ clean_then. record { least = moves.least; all = λ allowed. moves.room };
        unread = λ clean_then few. absurd (omega (arith, moves.room));
        terminator = grind arith;
        unchanged_if_failed = λ failed_then. cc w.writable;
      };
      stops_at_disorder = λ of clean_then. unsettled w.o given lag whole_input_split of (backs of);
      first_reads = λ clean_then. record {
        second_unread = λ none. absurd (has_line First (begun First) none);
        first_waits = λ none. absurd (has_line Second (begun Second) none);
      };
    }
      where
        moves : CallProgress both_sides (merge_engine tool) old new took (unlines tool.terminator done)
        moves = progress fits

        ends_behind : (fault : MergeFault) → IsFaultBehind real new.out new.store fault
            → CallOutcome both_sides (merge_engine tool) old (state_by_side real new.out new.store) given
            (unlines tool.terminator done) (merge_end (Err fault)) × ((side : Side) → (real side).failed ≡ false)
        ends_behind Write e = (search (rules, w.unfailed), e.unfailed)
        ends_behind Memory e = (search (rules, w.unfailed), e.unfailed)
        ends_behind (faults.Read s) e = elim e [ ]
        ends_behind (faults.Disorder s n) e = elim e [ ]

-- ---- the ends before the start

pub merge_set : {tool : MergeTool} {first second set1 set2 : Reader} {out : Output} {store : Slots} {new : MergeState}
    → (zero_byte : Bool) → tool.terminator ≡ terminator zero_byte → out.write_failed ≡ false
    → set1 ≡ record first { terminator = cond zero_byte 0 10 }
    → set2 ≡ record second { terminator = cond zero_byte 0 10 }
    → {result : Result (Unit {0}) MergeFault} → MergePost tool (merge_state set1 set2 out store) new result
    → MergePost tool (merge_state first second out store) new result
unfolding call_set
merge_set {tool} {first} {second} {set1} {set2} {new = new} zero_byte end clean is1 is2 m =
    let is : (side : Side) → both set1 set2 side ≡ record (both first second side) { terminator = tool.terminator } =
    λ side. grind (arith, is2) in record {
      call = call_set both_sides _ refl _ _ new clean refl refl (λ side read. is side) (λ side none. cc) m.call;
      stops_at_disorder = m.stops_at_disorder;
      first_reads = grind arith;
    }

pub merge_halted : {tool : MergeTool} {old : MergeState} → old.store.denied ≡ false → old.out.write_failed ≡ true
    → MergePost tool old old (Err Write)
merge_halted = grind (arith, call_on_failed_output)

pub merge_without_slots : {tool : MergeTool} {old : MergeState} → IsOpenMerge tool old → {new : MergeState}
    → new.out ≡ old.out → ((side : Side) → new.reader side ≡ old.reader side)
    → EnsureFourSlotsErrPost old.store new.store → MergePost tool old new (Err Memory)
unfolding call_without_slots
merge_without_slots {tool} {old} w {new} same_output unread slots =
    let lag = lag_invariant_starts w.o (merge_invariant_starts tool old.out) w.writable (push_nothing old.out) in
    let seen : (side : Side)
    → IsFuture tool.cmp (tool.key side) (known_lines tool.terminator (given_before old side)) [] NoBound =
    λ side. record { rest = _; is = refl; may_follow = tt; may_disorder = tt } in
    let point : (side : Side) → LagPoint tool.terminator (given_before old side) [] =
    λ side. record {
      before = record {
        earlier = record { bytes = []; eof = false };
        last = (old.reader side).buffered;
        split = refl;
        short = omega (arith, (w.sound side).buffered);
        eof = λ never. cc;
      };
      going = refl;
      rest = [];
      split = refl;
    } in
    record {
      call = call_without_slots both_sides (merge_engine tool) old new w.writable same_output (λ side read. refl)
          (search rules)
          (λ side none. cc) (λ side read. w.sound side) (λ side read. w.unfailed side) slots.denied slots.peak
          slots.least slots.few (λ texts. omega arith)
          (λ side read. decided_by w.o (given_before old) lag seen side (point side)
          (with_input both_sides side (point side).before.earlier (given_before old)) (grind arith) (grind arith));
      stops_at_disorder = λ side clean. unsettled w.o (given_before old) lag seen side (point side);
      first_reads = grind arith;
    }
