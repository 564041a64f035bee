-- The runs of lines, and the loop over the lines of a block. A line, or many copies of it at once, adds to the count of
-- the current run, or ends it. Output that is contiguous in the block is deferred, so the output so far is the pushed
-- bytes and then the deferred ones. Last, the laws of inputs in parts.
use Rattle.ptflow.proofs
use Rattle.ptflow.specs
use proofs.Common.{take-append-drop, ◌≡◌, ℕ, ◌+◌, ◌&&◌, Bool, true, false, cond, List, [], ◌∷◌, ◌++◌, refl, ap, arith}
use proofs.Common.{usual, nat_lt, append-nil, bytes_eq-Decides, IsPrefix, Uniq, is_same, run_of, ◌-◌, ◌<◌, ◌≤◌, Some}
use proofs.Common.{None, Option, length, take, drop, subst, append_assoc, length-append, bytes_eq, slice_range}
use proofs.Common.{drop_split, length-drop, drop_at, IsFirstByte, is_byte, Output, PushEffect, unlines, complete_lines}
use proofs.Common.{IsLine, unlines_push, complete_lines_none, RunsWritten, bytes_in_range, sym, ◌∙◌, known_lines, line}
use proofs.Common.{first_line, current_run_of, rules, ◌⊎◌, inl, inr, ⊎_elim, filter, AllByRecursion, cases_Bool}
use proofs.Common.{the_lines_of_parts, lines-unlines, lines_are, BeginsWith, EndsWith, line_before_terminator}
use proofs.Common.{take_with_terminator, ◌≢◌, zero, suc, IsLineFilter, EndRunPre, first_of, repeated, IsRangeOf}
use proofs.Common.{RunsFailed, IsPending, count_prefix, run_text, count_of, has_output, current_run, run_output}
use proofs.Common.{runs_after, runs_from}
use proofs.Passes.Exits.{wrote_then, split_of, ended_next}
use specs.declared.tools.uniq.block_runs.BlockRange.{BlockRange}
use specs.declared.tools.uniq.CurrentRun.{CurrentRun}
use specs.Uniqs.{Run, init, output_of, key, cons_run, runs, uniq_tool}
use specs.Laws.Parts.{HasGroupedKeys, UniqByKey, UniqOfParts}

module _ (job : Uniq) where
  -- The first run, and that run with one more line of its key before it.
  record First (line : List ℕ) (n : ℕ) (ls : List (List ℕ)) : Type 0 where
    count : ℕ
    more : List Run
    is : runs_from job (run_of line n) ls ≡ run_of line count ∷ more
    led : (x : List ℕ) → key job x ≡ key job line → runs_from job (run_of x (n + 1)) ls ≡ run_of x (count + 1) ∷ more

  abbrev chosen : List ℕ → List (List ℕ) → List ℕ → ℕ → Bool → List Run
  chosen l ls x m t = cond t (runs_from job (run_of x (m + 1)) ls) (run_of x m ∷ runs_from job (run_of l 1) ls)

  first_more : {line : List ℕ} {n : ℕ} (l : List ℕ) {ls : List (List ℕ)} (t : Bool) → is_same job line l ≡ t
      → First line (n + 1) ls → First line n (l ∷ ls)
  first_more l true e f = grind arith
  first_more {line} {n} l {ls} false e f = record {
    count = n;
    more = runs_from job (run_of l 1) ls;
    is = grind arith;
    led = grind arith;
  }

  first : (line : List ℕ) (n : ℕ) (ls : List (List ℕ)) → First line n ls
  first line n [] = record { count = n; more = []; is = refl; led = λ x same. refl }
  first line n (l ∷ ls) = first_more l (is_same job line l) refl (first line (n + 1) ls)

  onto_first_run : (line : List ℕ) {l : List ℕ} {ls : List (List ℕ)} (t : Bool) → is_same job line l ≡ t → First l 1 ls
      → cons_run job line (runs_from job (run_of l 1) ls) ≡ chosen l ls line 1 t
  onto_first_run = grind (arith, bytes_eq-Decides)

  pub runs_are : (line : List ℕ) (ls : List (List ℕ)) → runs job (line ∷ ls) ≡ runs_from job (run_of line 1) ls
  runs_are line [] = refl
  runs_are line (l ∷ ls) = grind (arith, onto_first_run, first, runs_are l ls)

  pub runs_after_next : (run : Run) (line : List ℕ) (more : List (List ℕ))
      → (nat_lt 0 run.count && is_same job run.line line) ≡ false
      → runs_after job run (line ∷ more) ≡ current_run run ++ runs_after job (run_of line 1) more
  runs_after_next run line more turns = grind (arith, runs_are line more)

  pub entries-append : (xs ys : List Run) → output_of job (xs ++ ys) ≡ output_of job xs ++ output_of job ys
  entries-append xs ys = grind usual

pub current_run_is : (job : Uniq) (run : Run)
    → output_of job (current_run run) ≡ run_output job.show run.count (run.line ++ job.terminator ∷ [])
current_run_is job run = grind usual

init_push : (rs : List Run) (run : Run) → init (rs ++ run ∷ []) ≡ rs
init_push [] run = refl
init_push (r ∷ []) run = refl
init_push (r ∷ q ∷ rs) run = ap (◌∷◌ r) (init_push _ run)

init_prefix : (rs : List Run) → (last : List Run) × (rs ≡ init rs ++ last)
init_prefix [] = ([], refl)
init_prefix (r ∷ []) = (r ∷ [], refl)
init_prefix (r ∷ q ∷ rs) = let (last, is) = init_prefix _ in (last, ap (◌∷◌ r) is)

-- `init` leaves out the current run, or if there is none, the last one that was written
pub init_current : (job : Uniq) (passed : List Run) (run : Run)
    → IsPrefix (output_of job (init (passed ++ current_run run))) (output_of job passed)
init_current job passed run = by_test (nat_lt 0 run.count)
  where
    by_test : (t : Bool) → IsPrefix (output_of job (init (passed ++ cond t (run ∷ []) []))) (output_of job passed)
    by_test false =
        let (last, split) = init_prefix passed in
        record { rest = output_of job last; is = cc (entries-append job (init passed) last, append-nil passed) }
    by_test true = record { rest = []; is = cc (append-nil (output_of job passed), init_push passed run) }

-- ---- lines before the rest of a block

pub record BlockPrefix (end : ℕ) (block rest : List ℕ) (front : List (List ℕ)) : Type 0 where
  pub lines : complete_lines end block ≡ front ++ complete_lines end rest
  pub bytes : block ≡ unlines end front ++ rest

text_long : (end : ℕ) (ls : List (List ℕ)) → length ls ≤ length (unlines end ls)
text_long end [] = omega arith
text_long end (l ∷ ls) = grind (arith, text_long end ls, length-append)

module _ {end : ℕ} {block rest : List ℕ} {front : List (List ℕ)} (lies : BlockPrefix end block rest front) where
  front_size : length block ≡ length (unlines end front) + length rest
  front_size = cc (length-append (unlines end front) rest)

  front_few : length front + length rest ≤ length block
  front_few = omega (arith, front_size, text_long end front)

  pub passed_is : length block - length rest ≡ length (unlines end front)
  passed_is = omega (arith, front_size)

  module _ (at : ℕ) (first : IsFirstByte (is_byte end) rest (Some at)) where
    front_more : BlockPrefix end block (drop (at + 1) rest) (front ++ take at rest ∷ [])
    front_more = grind (arith, ended_next, append_assoc, split_of, unlines_push)

    module _ (from to : ℕ) (from_is : from ≡ to - at - 1)
        (to_is : to ≡ length block - length (drop (at + 1) rest)) where
      starts : (from ≡ length block - length rest) × (to ≡ from + at + 1)
      starts = omega (arith, front_size, length-drop (at + 1) rest)

      next_is : slice_range block from (to - 1) ≡ take at rest
      next_is = grind (arith, starts, passed_is, drop_at)

-- ---- deferred output

ranges_join : {block : List ℕ} {a b : BlockRange} → IsRangeOf block a → IsRangeOf block b → a.to ≡ b.from
    → bytes_in_range block (record { from = a.from; to = b.to }) ≡ bytes_in_range block a ++ bytes_in_range block b
ranges_join {block} {a} {b} fits next touch =
    let split : drop a.from block ≡ (bytes_in_range block a ++ bytes_in_range block b) ++ drop b.to block =
    grind (usual, drop_split) in
    grind usual

module _ (job : Uniq) (first : List ℕ) (count : ℕ) {block : List ℕ} {line : Option BlockRange} {l pending : BlockRange}
    (pre : EndRunPre job.terminator block line pending) (is : line ≡ Some l)
    (shown : has_output job.show count ≡ true) where
  pub due_is : run_text job (run_of (first_of first block line) count)
      ≡ count_prefix job.show count ++ bytes_in_range block l
  due_is = grind (arith, current_run_is)

  pub pending_joined : {out : Output} → pending.to ≡ l.from → count_prefix job.show count ≡ []
      → IsPending (bytes_in_range block pending ++ run_text job (run_of (first_of first block line) count)) block
      (record { from = pending.from; to = l.to }) out out
  pending_joined = search (rules, ranges_join, due_is)

module _ {bytes block : List ℕ} {pending : BlockRange} {was is : Output} (waits : IsPending bytes block pending was is)
    (more : List ℕ) {is' : Output} where
  pending_then : {now : BlockRange} → IsPending (bytes_in_range block pending ++ more) block now is is'
      → IsPending (bytes ++ more) block now was is'
  pending_then {now} next = record {
    pushed = waits.pushed ++ next.pushed;
    wrote = wrote_then _ _ _ waits.wrote next.wrote;
    all = grind (arith, append_assoc);
    in_block = next.in_block;
  }

  pending_pushed : PushEffect is is' (bytes_in_range block pending ++ more) → PushEffect was is' (bytes ++ more)
  pending_pushed wrote = subst (PushEffect was is') (grind usual) (wrote_then _ _ _ waits.wrote wrote)

-- ---- runs one after another

-- After these lines the runs `passed` ended, and `after` is the current one.
pub record RunSteps (job : Uniq) (before after : Run) (ls : List (List ℕ)) (passed : List Run) : Type 0 where
  pub on : (more : List (List ℕ)) → runs_after job before (ls ++ more) ≡ passed ++ runs_after job after more
  pub count : after.count ≤ before.count + length ls
  pub some : 0 < before.count + length ls → 0 < after.count

pub steps_none : (job : Uniq) (run : Run) → RunSteps job run run [] []
steps_none job run = grind arith

module _ {job : Uniq} {before after : Run} {ls : List (List ℕ)} {passed : List Run}
    (steps : RunSteps job before after ls passed) where
  module _ (line : List ℕ) where
    one_more : (more : List (List ℕ))
        → runs_after job before ((ls ++ line ∷ []) ++ more) ≡ passed ++ runs_after job after (line ∷ more)
    one_more more = cc (append_assoc ls (line ∷ []) more, steps.on (line ∷ more))

    pub steps_more : (nat_lt 0 after.count && is_same job after.line line) ≡ true
        → RunSteps job before (run_of after.line (after.count + 1)) (ls ++ line ∷ []) passed
    steps_more same = grind (usual, one_more, steps)

    pub steps_next : (nat_lt 0 after.count && is_same job after.line line) ≡ false
        → RunSteps job before (run_of line 1) (ls ++ line ∷ []) (passed ++ current_run after)
    steps_next other = grind (usual, one_more, runs_after_next)

  module _ {was is : Output} (wrote : PushEffect was is (output_of job passed)) where
    pub steps_written : {all : List (List ℕ)} → all ≡ ls → (was.write_failed ≡ false → is.write_failed ≡ false)
        → RunsWritten job before after all was is
    steps_written same clean = record {
      passed = passed;
      wrote = wrote;
      clean = clean;
      on = λ more. cc (steps.on more);
      count = grind arith;
      some = grind arith;
    }

    -- a write failed before the lines `later`
    pub steps_failed : {all : List (List ℕ)} (later : List (List ℕ)) → all ≡ ls ++ later → is.write_failed ≡ true
        → RunsFailed job before all was is
    steps_failed later split fault = record {
      passed = passed;
      wrote = wrote;
      fault = fault;
      is_prefix = λ more. (
        runs_after job after (later ++ more),
        grind usual,
      );
    }

-- ---- between two lines of a block

-- The output of the runs that ended was pushed, but for the deferred part.
pub record RunsInvariant (job : Uniq) (first block rest : List ℕ) (start count : ℕ) (line : Option BlockRange)
    (pending : BlockRange) (run_key : List ℕ) (was is : Output) : Type 0 where
  pub front : List (List ℕ)
  pub lies : BlockPrefix job.terminator block rest front
  pub passed : List Run
  pub steps : RunSteps job (run_of first start) (run_of (first_of first block line) count) front passed
  pub waits : IsPending (output_of job passed) block pending was is
  pub run_key_is : run_key ≡ key job (first_of first block line)
  pub ready : EndRunPre job.terminator block line pending
  pub some : 0 < count

pub runs_loop_starts : (job : Uniq) (first block : List ℕ) {start : ℕ} → 0 < start → {run_key : List ℕ}
    → run_key ≡ key job first → (was : Output)
    → RunsInvariant job first block block start start None (record { from = 0; to = 0 }) run_key was was
runs_loop_starts job _ _ {start} some run_key_is was = record {
  front = [];
  lies = record { lines = refl; bytes = refl };
  passed = [];
  steps = steps_none job _;
  waits = grind usual;
  run_key_is = run_key_is;
  ready = grind arith;
  some = some;
}

module _ {job : Uniq} {first block rest : List ℕ} {start count : ℕ} {line : Option BlockRange} {pending : BlockRange}
    {run_key : List ℕ} {was is : Output}
    (so_far : RunsInvariant job first block rest start count line pending run_key was is) where
  pub runs_loop_few : count + length rest ≤ start + length block
  runs_loop_few = omega (arith, front_few so_far.lies)

  module _ {at : ℕ} (found : IsFirstByte (is_byte job.terminator) rest (Some at)) {next : List ℕ} {same : Bool}
      (key_is : next ≡ key job (take at rest)) (tested : same ≡ bytes_eq run_key next) where
    test : {answer : Bool} → same ≡ answer
        → (nat_lt 0 count && is_same job (first_of first block line) (take at rest)) ≡ answer
    test answered = grind arith

    pub runs_loop_more : same ≡ true
        → RunsInvariant job first block (drop (at + 1) rest) start (count + 1) line pending run_key was is
    runs_loop_more is_true = record {
      front = so_far.front ++ take at rest ∷ [];
      lies = front_more so_far.lies at found;
      passed = so_far.passed;
      steps = steps_more so_far.steps (take at rest) (test is_true);
      waits = so_far.waits;
      run_key_is = so_far.run_key_is;
      ready = so_far.ready;
      some = omega arith;
    }

    module _ (is_false : same ≡ false) where
      abbrev run : Run
      run = run_of (first_of first block line) count

      entries : output_of job (so_far.passed ++ current_run run) ≡ output_of job so_far.passed ++ run_text job run
      entries = entries-append job _ _

      steps : RunSteps job (run_of first start) (run_of (take at rest) 1) (so_far.front ++ take at rest ∷ [])
          (so_far.passed ++ current_run run)
      steps = steps_next so_far.steps (take at rest) (test is_false)

      pub runs_loop_next : {is' : Output} {now : BlockRange}
          → IsPending (bytes_in_range block pending ++ run_text job run) block now is is'
          → {from to : ℕ} → from ≡ to - at - 1 → to ≡ length block - length (drop (at + 1) rest)
          → RunsInvariant job first block (drop (at + 1) rest) start 1 (Some (record { from = from; to = to })) now next
          was is'
      runs_loop_next waits {from} {to} from_is to_is =
          let line_is = next_is so_far.lies at found from to from_is to_is in record {
            front = so_far.front ++ take at rest ∷ [];
            lies = front_more so_far.lies at found;
            passed = so_far.passed ++ current_run run;
            steps = rw line_is steps;
            waits = rw entries (pending_then so_far.waits _ waits);
            run_key_is = cc;
            ready = grind usual;
            some = omega arith;
          }

      pub runs_loop_failed : {is' : Output} → PushEffect is is' (bytes_in_range block pending ++ run_text job run)
          → is'.write_failed ≡ true
          → RunsFailed job (run_of first start) (complete_lines job.terminator block) was is'
      runs_loop_failed wrote fault = steps_failed steps (search (entries, pending_pushed))
          _ (front_more so_far.lies at found).lines fault

  module _ (none : IsLine job.terminator rest) {is' : Output}
      (wrote : PushEffect is is' (bytes_in_range block pending)) where
    pub all_lines : complete_lines job.terminator block ≡ so_far.front
    all_lines = grind (arith, complete_lines_none, append-nil)

    pub running_unended : is'.write_failed ≡ true
        → RunsFailed job (run_of first start) (complete_lines job.terminator block) was is'
    running_unended fault = search (steps_failed, rw so_far.waits.all at (wrote_then _ _ _ so_far.waits.wrote wrote))

-- The first of two slots may hold the first line of the current run, which the decided output leaves out.
pub uniq_line_tool : {S : Type 0} (job : Uniq) (run : S → CurrentRun) (start : S) → (run start).count ≡ 0
    → IsLineFilter (uniq_tool job) (λ now. current_run_of (run now)) (runs_after job) (output_of job) count_of 2 start
uniq_line_tool job run start none = record {
  apart = entries-append job;
  stays = search rules;
  fresh = λ store. omega arith;
  tool_text = λ store bytes. cc;
  decided = λ store given passed now on.
      let ls = known_lines job.terminator given in
      let all = ap (runs job) (sym (append-nil ls))
      ∙ ap (λ n. runs_after job (run_of (first_line (run start) store) n) (ls ++ [])) (sym none) ∙ on [] in
      rw all (init_current job _ now);
  size = λ bytes. refl;
  slots = refl;
  some = omega arith;
}

-- ---- lines that repeat a line of the run

line_ends : (end : ℕ) (l more : List ℕ) → IsLine end l
    → IsFirstByte (is_byte end) ((l ++ end ∷ []) ++ more) (Some (length l))
line_ends end l _ whole = grind usual

module _ {job : Uniq} {first block : List ℕ} {start : ℕ} {line : Option BlockRange} {pending : BlockRange}
    {run_key : List ℕ} {was is : Output} where
  runs_loop_again : (l : List ℕ) → IsLine job.terminator l → run_key ≡ key job l → (n : ℕ) (rest : List ℕ) {count : ℕ}
      → RunsInvariant job first block (repeated n (l ++ job.terminator ∷ []) ++ rest) start count line pending run_key
      was is → RunsInvariant job first block rest start (count + n) line pending run_key was is
  runs_loop_again l whole own zero rest so_far = grind arith
  runs_loop_again l whole own (suc n) rest {count} so_far =
      let bytes = l ++ job.terminator ∷ [] in
      let once : RunsInvariant _ first block (repeated n bytes ++ rest) start (count + 1) line pending run_key was is =
      grind (usual, bytes_eq-Decides, runs_loop_more, line_ends) in
      let same : count + suc n ≡ count + 1 + n = omega arith in rw same (runs_loop_again l whole own n rest once)

  pub runs_loop_repeats : {rest : List ℕ} {count : ℕ}
      → RunsInvariant job first block rest start count line pending run_key was is → {at : ℕ}
      → IsFirstByte (is_byte job.terminator) rest (Some at) → {next : List ℕ} {same : Bool}
      → next ≡ key job (take at rest) → same ≡ bytes_eq run_key next → same ≡ true → (n : ℕ) {left : List ℕ}
      → drop (at + 1) rest ≡ repeated n (take (at + 1) rest) ++ left
      → RunsInvariant job first block left start (count + (1 + n)) line pending run_key was is
  runs_loop_repeats {rest} so_far {at} found key_is tested is_true n {left} copies =
      let own : run_key ≡ key job (take at rest) = grind (arith, bytes_eq-Decides) in
      let split : rest ≡ repeated (1 + n) (take at rest ++ job.terminator ∷ []) ++ left =
      grind (arith, take_with_terminator, take-append-drop (at + 1) rest, append_assoc) in
      runs_loop_again _ (line_before_terminator _ _ at found) own _ _
      (rw split at so_far)

-- ---- inputs in parts: lines with different keys are in different runs, so no run is cut or merged

module _ (job : Uniq) where
  other_key : (a b : List ℕ) → key job a ≢ key job b → is_same job a b ≡ false
  other_key a b differ = grind (arith, bytes_eq-Decides)

  onto_is : (line : List ℕ) (rs : List Run)
      → (count : ℕ) × (more : List Run) × (cons_run job line rs ≡ run_of line count ∷ more)
  onto_is line [] = (1, [], refl)
  onto_is line (run ∷ more) = by_test (is_same job line run.line)
    where
      by_test : (t : Bool)
          → (count : ℕ) × (rest : List Run) × (cond t (run_of line (run.count + 1) ∷ more) (run_of line 1 ∷ run ∷ more)
          ≡ run_of line count ∷ rest)
      by_test true = (run.count + 1, more, refl)
      by_test false = (1, run ∷ more, refl)

  runs-append : (xs ys : List (List ℕ))
      → ((last first : List ℕ) → EndsWith last xs → BeginsWith first ys → key job last ≢ key job first)
      → runs job (xs ++ ys) ≡ runs job xs ++ runs job ys
  runs-append [] ys change = refl
  runs-append (x ∷ []) [] change = refl
  runs-append (x ∷ []) (y ∷ ys) change =
      let (count, more, is) = onto_is y (runs job ys) in cc (is, other_key x y (change x y ([], refl) (ys, refl)))
  runs-append (x ∷ z ∷ xs) ys change =
      let (count, more, is) = onto_is z (runs job xs) in
      rw (
        runs-append (z ∷ xs) ys (λ last first
            (front, ends) begins. change last first (x ∷ front, ap (λ l. x ∷ l) ends) begins),
        is,
      ) (grind arith)

pub uniq_of_parts : UniqOfParts
uniq_of_parts job a b whole change = simp (the_lines_of_parts, runs-append, entries-append)

all_filter : {X : Type 0} (P : X → Type 0) (test : X → Bool) (xs : List X) → AllByRecursion P xs
    → AllByRecursion P (filter test xs)
all_filter P test [] all = tt
all_filter {X} P test (x ∷ xs) (first, others) = grind (arith, all_filter P test xs others)

module _ (job : Uniq) (taken : List ℕ → Bool) where
  abbrev line_taken : List ℕ → Bool
  line_taken line = taken (key job line)

  abbrev run_taken : Run → Bool
  run_taken run = taken (key job run.line)

  all_runs : (P : List ℕ → Type 0) (ls : List (List ℕ)) → AllByRecursion P ls
      → AllByRecursion (λ run. P run.line) (runs job ls)
  all_runs P [] all = tt
  all_runs P (x ∷ ls) (first, others) = grind (arith, all_runs P ls others)

  onto_dropped : (x : List ℕ) (rs : List Run) → line_taken x ≡ false
      → filter run_taken (cons_run job x rs) ≡ filter run_taken rs
  onto_dropped = grind (arith, bytes_eq-Decides)

  onto_same : (x : List ℕ) (r : Run) (rs : List Run) → line_taken x ≡ true → key job x ≡ key job r.line
      → cons_run job x (filter run_taken (r ∷ rs)) ≡ filter run_taken (cons_run job x (r ∷ rs))
  onto_same = grind arith

  runs_taken : (ls : List (List ℕ)) → HasGroupedKeys job ls
      → runs job (filter line_taken ls) ≡ filter run_taken (runs job ls)
  runs_taken [] grouped = refl
  runs_taken (x ∷ ls) (next_key, grouped) = ⊎_elim (λ is. cc (runs_taken ls grouped, kept is next_key))
      (λ is. cc (runs_taken ls grouped, onto_dropped x (runs job ls) is)) (cases_Bool (line_taken x))
    where
      kept : line_taken x ≡ true
          → (((next : List ℕ) × BeginsWith next ls × (key job x ≡ key job next))
          ⊎ AllByRecursion (λ other. key job x ≢ key job other) ls)
          → cons_run job x (filter run_taken (runs job ls)) ≡ filter run_taken (cons_run job x (runs job ls))
      kept is (inl (next, (later, begins), same)) =
          let (count, more, onto) = onto_is job next (runs job later) in
          cc (onto_same x (run_of next count) more is same)
      kept is (inr others) =
          grind (arith, all_filter, other_key, x, is, (all_runs (λ other. key job x ≢ key job other) ls others))

pub uniq_by_key : UniqByKey
uniq_by_key = grind (arith, lines-unlines, all_filter, lines_are, runs_taken)
