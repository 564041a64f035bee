-- How far a run went, for some commands: where it stopped, that it read its input to the end, and when memory may
-- have run out. Each lemma holds for every run that meets `IsRun`. So it refuses a body that goes on after a failure,
-- one that does not read its input, and one that runs out of memory when nothing is left to read. And examples of the
-- number of slots that a command needs.
use Rattle.std.specs.List.{list_any}
use Rattle.std.proofs.Common.{◌≡◌, ℕ, zero, suc, ◌+◌, ◌==◌, ◌∙◌, ◌||◌, ⊎_elim, Bool, true, false, List, [], ◌∷◌, Option}
use Rattle.std.proofs.Common.{Some, None, refl, sym, ap, subst, arith, codes, map, take}
use Rattle.std.proofs.lemmas.Bool.{false≢true}
use Rattle.std.proofs.lemmas.Bool.Decides.{eqb_tells}
use Rattle.std.proofs.lemmas.List.{take_all}
use Rattle.ptlines.specs.Readers.{Reader, IsDone, reader_at}
use Rattle.ptflow.specs.declared.faults.FlowFault.{FlowFault}
use Rattle.ptflow.specs.declared.faults.FlowFault.TheVariants.{Memory}
use Rattle.ptfakes.proofs.SplitWords.{words}
use Rattle.ptrun.specs.Files.{InputBytes, AreInputsConsistent, AreReadToEnd}
use Rattle.ptrun.specs.Runs.{IsRun, RunEnd, Sinks, Outcome}
use Rattle.ptrun.specs.SpecOfArgs.{spec_of_args}

-- A property of the positions 1 and 2 holds of each position in the list of the two.
one_of_two : (P : ℕ → Type 0) (p : ℕ) → ((1 == p) || ((2 == p) || false)) ≡ true → P 1 → P 2 → P p
one_of_two P p named first second = ⊎_elim (λ (is, same). subst P same first)
    (λ (not_first, differs). ⊎_elim (λ (is, same). subst P same second)
    (λ (not_second, differ). absurd (false≢true (sym (λ i. not_first i || (not_second i || false)) ∙ named)))
    (eqb_tells 2 p)) (eqb_tells 1 p)

module _ {old new : List Reader} {before : Sinks} {o : Outcome} where
  -- The end of `f` was not reached, for example because a write failed. Then no operand is done: no message is about
  -- `f` or `g`, except that about the failure.
  stops_at_f : (k : IsRun (spec_of_args (words "cut -c 1 f g")) old new before o) → (reader_at new 1).refused ≡ false
      → (reader_at new 1).eof ≡ false → k.operands_done ≡ 0
  stops_at_f k opened going = by_count k.operands_done k.beyond.ended
    where
      by_count : (n : ℕ) → AreReadToEnd new (take n (1 ∷ 2 ∷ [])) → n ≡ 0
      by_count zero ended = refl
      by_count (suc n) ended = absurd (false≢true (sym going ∙ (ended 1 refl opened).eof))

  -- and `g` is unchanged
  leaves_g : (k : IsRun (spec_of_args (words "cut -c 1 f g")) old new before o) → (reader_at new 1).refused ≡ false
      → (reader_at new 1).eof ≡ false → reader_at new 2 ≡ reader_at old 2
  leaves_g k opened going = by_count k.operands_done (stops_at_f k opened going) k.beyond.untouched
    where
      by_count : (n : ℕ) → n ≡ 0
          → ((p : ℕ) → list_any (λ q. q == p) (take (n + 1) (1 ∷ 2 ∷ [])) ≡ false → reader_at new p ≡ reader_at old p)
          → reader_at new 2 ≡ reader_at old 2
      by_count zero none untouched = untouched 2 refl
      by_count (suc n) none untouched = absurd (omega (arith, none))

  -- Its input is read to its end, if the status is 0, also if nothing of it is written.
  reads_its_input : (k : IsRun (spec_of_args (words "tr -d a")) old new before o) → o.status ≡ 0
      → (reader_at new 0).refused ≡ false → IsDone (reader_at new 0)
  reads_its_input k well opened = by_fault k.fault k.ends
    where
      by_fault : (fault : Option FlowFault)
          → RunEnd (spec_of_args (words "tr -d a")) k.received old new k.written k.message o k.operands_done fault
          → IsDone (reader_at new 0)
      by_fault None ends = (rw ends.0 at k.beyond.ended) 0 refl opened
      by_fault (Some fault) ends = absurd (omega (arith, ends.1, well))

  -- Memory does not run out once standard input has ended.
  needs_no_memory_at_the_end : (k : IsRun (spec_of_args (words "cut -f 1")) old new before o) → IsDone (reader_at new 0)
      → k.fault ≡ Some Memory → ⊥
  needs_no_memory_at_the_end k ended memory = ⊎_elim
      (λ (p, named, opened, unended). by_position p
      (is_zero p (rw (take_all {A = ℕ} (k.operands_done + 1) (0 ∷ []) (omega arith)) at named)) unended)
      (λ (keeps, unwritten). false≢true keeps) (k.beyond.left memory)
    where
      is_zero : (p : ℕ) → ((0 == p) || false) ≡ true → p ≡ 0
      is_zero p named = ⊎_elim (λ same. sym same.1)
          (λ other. absurd (false≢true (sym (ap (λ (b : Bool). b || false) other.0) ∙ named))) (eqb_tells 0 p)

      by_position : (p : ℕ) → p ≡ 0 → (IsDone (reader_at new p) → ⊥) → ⊥
      by_position p is unended = unended (rw is ended)

  -- Nor does it for `paste` and `comm` once both files have ended.
  paste_needs_no_memory_at_the_end : (k : IsRun (spec_of_args (words "paste f g")) old new before o)
      → IsDone (reader_at new 1) → IsDone (reader_at new 2) → k.fault ≡ Some Memory → ⊥
  paste_needs_no_memory_at_the_end k first second memory = ⊎_elim
      (λ (p, named, opened, unended). unended (one_of_two (λ q. IsDone (reader_at new q)) p named first second))
      (λ (keeps, unwritten). false≢true keeps) (k.beyond.left memory)

  comm_needs_no_memory_at_the_end : (k : IsRun (spec_of_args (words "comm f g")) old new before o)
      → IsDone (reader_at new 1) → IsDone (reader_at new 2) → k.fault ≡ Some Memory → ⊥
  comm_needs_no_memory_at_the_end k first second memory = ⊎_elim
      (λ (p, named, opened, unended). unended (one_of_two (λ q. IsDone (reader_at new q)) p named first second))
      (λ (keeps, unwritten). false≢true keeps) (k.beyond.left memory)

  -- Nor for a `join` that writes no pairs.
  join_without_pairs_needs_no_memory_at_the_end : (k : IsRun (spec_of_args (words "join -v 1 f g")) old new before o)
      → IsDone (reader_at new 1) → IsDone (reader_at new 2) → k.fault ≡ Some Memory → ⊥
  join_without_pairs_needs_no_memory_at_the_end k first second memory = ⊎_elim
      (λ (p, named, opened, unended). unended (one_of_two (λ q. IsDone (reader_at new q)) p named first second))
      (λ (keeps, unwritten). false≢true keeps) (k.beyond.left memory)

  -- Any other `join` may run out of memory then, but not once its output is written, for example if it has nothing to
  -- write.
  join_needs_no_memory_for_nothing : (k : IsRun (spec_of_args (words "join f g")) old new before o)
      → IsDone (reader_at new 1) → IsDone (reader_at new 2)
      → (w : InputBytes) → AreInputsConsistent k.received w → k.written ≡ (spec_of_args (words "join f g")).out w
      → k.fault ≡ Some Memory → ⊥
  join_needs_no_memory_for_nothing k first second w agrees written memory = ⊎_elim
      (λ (p, named, opened, unended). unended (one_of_two (λ q. IsDone (reader_at new q)) p named first second))
      (λ (keeps, unwritten). unwritten w agrees written) (k.beyond.left memory)

-- The slots that commands need: none for `tr`, for `cut` by bytes, and if no operand was opened.
slot_bounds : map (λ (example : List (List ℕ) × InputBytes). (spec_of_args example.0).beyond.slot_bound example.1)
    ((words "tr a b", Some (codes "a\n") ∷ [])
    ∷ (words "cut -b 1", Some (codes "a\n") ∷ [])
    ∷ (words "cut -f 1 f g", Some [] ∷ None ∷ Some (codes "a\n") ∷ [])
    ∷ (words "cut -f 1 f", Some [] ∷ None ∷ [])
    ∷ (words "paste -s", Some (codes "a\n") ∷ [])
    ∷ (words "paste - f -", Some (codes "a\n") ∷ Some [] ∷ [])
    ∷ (words "uniq", Some (codes "a\n") ∷ [])
    ∷ (words "comm f g", Some [] ∷ Some [] ∷ Some (codes "a\na\n") ∷ [])
    ∷ (words "join f g", Some [] ∷ Some [] ∷ Some (codes "a\na\nb\n") ∷ [])
    ∷ (words "join f g", Some [] ∷ Some [] ∷ None ∷ [])
    ∷ [])
    ≡ 0 ∷ 0 ∷ 1 ∷ 0 ∷ 0 ∷ 3 ∷ 2 ∷ 4 ∷ 6 ∷ 0 ∷ []
slot_bounds = refl
