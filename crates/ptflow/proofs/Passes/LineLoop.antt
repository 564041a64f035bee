-- A tool that works line by line. The items written for the lines so far, and then those of the rest, are the items of
-- the whole for every continuation; so each exit is a lemma of `Exits`. At most one line is in each slot of the tool.
use Rattle.ptflow.proofs
use Rattle.std.proofs.lemmas
use proofs.Common.{◌≡◌, ℕ, zero, suc, ◌+◌, ◌-◌, ◌*◌, ◌<◌, ◌≤◌, false, List, [], ◌∷◌, length, drop, set, get_or, max, ap}
use proofs.Common.{refl, ◌∙◌, arith, inl, inr, usual, length-set, drop-set-lt, sum_by-cons, Slots, total_bytes, ◌^◌, Ok}
use proofs.Common.{with_line, AddedSlots, true, ◌++◌, Err, append_assoc, length-append, nil_from_length, lines, IsLine}
use proofs.Common.{complete_lines, max_length, max_line_length, Received, known_lines, IsPrefix, IsConsistent, Output}
use proofs.Common.{PushEffect, Reader, ReaderAdvance, AdvanceOk, IsDone, IsSound, advance_ok_take, unlines, line, Read}
use proofs.Common.{FillLine, advance_ok_trans, push_trans, ToolSpec, PassPost, AreReceivedLines, IsLineFilter, Write}
use proofs.Common.{Memory, received_with, reads_nothing, rules, call_without_slots, complete_lines_of_unlines}
use Rattle.ptlines.specs.Calls.ReadLine.{FillReadErr, FillMemoryErr}
use proofs.Passes.Exits.{line_split, complete_prefix, max_length-append, lines_none, lines_few, lines_on, lines_more}
use proofs.Passes.Exits.{lines_block, line_prefix, received_longest, piece_longest, before_line, Progress}
use proofs.Passes.Exits.{progress_flushed, StoreBounds, PassEnding, nothing_more, pass_read, terminator_kept}
use proofs.Passes.Exits.{pass_memory, pass_write, pass_done, pass_unended}
use Rattle.ptflow.specs.Private.Passes.LineLoop.{RunLinesPre, SlotsCleared, IsSwapped, LinesFailed, LinesWritten}
use Rattle.ptflow.specs.Private.Passes.LineLoop.{IsLinesLength}
use lemmas.List.Edits.{swap_is}
use lemmas.List.Sums.{sum_by-drop_more, sum_by-take-drop}
use Rattle.ptlines.specs.declared.sizes.TheConstants.{BLOCK}

-- ---- the slots

-- each of the first `width` slots holds at most `most` bytes, and the others are empty
pub record SlotBounds (width most : ℕ) (before store : Slots) : Type 0 where
  pub denied : store.denied ≡ false
  pub size : length store.lines ≡ max (length before.lines) width
  pub short : (k : ℕ) → k < width → length (get_or store.lines k []) ≤ most
  pub others : total_bytes (drop width store.lines) ≡ 0
  pub peak : store.peak ≤ max before.peak (width * most)

pub bounded_total : (width most : ℕ) (ls : List (List ℕ)) → ((k : ℕ) → k < width → length (get_or ls k []) ≤ most)
    → total_bytes (drop width ls) ≡ 0 → total_bytes ls ≤ width * most
bounded_total zero most ls short others = omega arith
bounded_total (suc width) most [] short others = omega arith
bounded_total (suc width) most (l ∷ ls) short others =
    omega (
      arith,
      sum_by-cons length l ls,
      short 0 (omega arith),
      bounded_total width most ls (λ k low. short (suc k) (omega arith)) others,
    )

pub bounds_start : {width : ℕ} {before store : Slots} → AddedSlots before store width → store.denied ≡ false
    → total_bytes store.lines ≡ 0 → store.peak ≡ before.peak → SlotBounds width 0 before store
bounds_start {width} {store} adds denied empty peak =
    grind (usual, sum_by-take-drop length store.lines width)

pub bounds_weaker : {width most : ℕ} (more : ℕ) {before store : Slots} → SlotBounds width most before store
    → most ≤ more → SlotBounds width more before store
bounds_weaker = grind arith

pub bounds_line : {width most : ℕ} {before store : Slots} (slot : ℕ) (bytes : List ℕ)
    → SlotBounds width most before store → slot < width → length bytes ≤ most
    → SlotBounds width most before (with_line store slot bytes)
bounds_line {width} {most} {store} slot bytes bounds within fits =
    let ls = set store.lines slot bytes in
    let short : (i : ℕ) → i < width → length (get_or ls i []) ≤ most = λ i low. grind usual in
    let others = ap total_bytes (drop-set-lt width store.lines slot bytes within) ∙ bounds.others in
    record {
      denied = bounds.denied;
      size = length-set store.lines slot bytes ∙ bounds.size;
      short = short;
      others = others;
      peak = omega (arith, bounded_total _ _ ls short others);
    }

-- the first and the last slot were swapped, or none
pub bounds_swapped : {width most : ℕ} {before store : Slots} (new : Slots) → 0 < width
    → SlotBounds width most before store → IsSwapped width store new → SlotBounds width most before new
bounds_swapped {width} {most} {before} {store} new some bounds either = elim either [
  | inl same ↦ grind arith
  | inr is ↦
      let first = get_or store.lines 0 [] in
      let last = get_or store.lines (width - 1) [] in
      let same : new.lines ≡ set (set store.lines 0 last) (width - 1) first = grind (arith, swap_is) in
      let both : SlotBounds width most before (with_line (with_line store 0 last) (width - 1) first) =
      bounds_line _ _ (bounds_line 0 _ bounds some (bounds.short (width - 1) (omega arith))) (omega arith)
      (bounds.short 0 some) in
      search rules
]

pub bounds_cleared : {width most : ℕ} {before store new : Slots} → SlotBounds width most before store → 0 < width
    → get_or store.lines (width - 1) [] ≡ [] → SlotsCleared (width - 1) store new
    → SlotBounds width most before new × (total_bytes new.lines ≡ 0)
bounds_cleared {width} {store} {new} bounds some last cleared =
    let none : total_bytes new.lines ≡ 0 = grind (arith, sum_by-drop_more length store.lines (width - 1) []) in (
      record {
        denied = cc;
        size = cleared.size ∙ bounds.size;
        short = grind usual;
        others = omega (arith, none, sum_by-take-drop length new.lines width);
        peak = search (rules, bounded_total);
      },
      none,
    )

-- ---- the lines

-- The lines `ls` were read, and the items `passed` written.
pub record LineLoopState {S X E : Type 0} (state : S → Slots → X) (rest_from : X → List (List ℕ) → List E)
    (written : List E → List ℕ) (counted : X → ℕ) (end width : ℕ) (start : S) (now : X)
    (old reader : Reader) (was is : Output) (before store : Slots) : Type 0 where
  pub given : List ℕ
  pub ls : List (List ℕ)
  pub passed : List E
  pub begins : RunLinesPre end old was before
  pub came : AreReceivedLines end reader given ls
  pub reached : Progress old reader was is given (written passed)
  pub first : Slots
  pub on : (more : List (List ℕ)) → rest_from (state start first) (ls ++ more) ≡ passed ++ rest_from now more
  pub count : counted now ≤ 1 + length ls
  pub keeps : SlotBounds width (max_length ls) before store

module _ {S X E : Type 0} {tool : ToolSpec} {state : S → Slots → X} {rest_from : X → List (List ℕ) → List E}
    {written : List E → List ℕ} {counted : X → ℕ} {width : ℕ} {start : S}
    (line_filter : IsLineFilter tool state rest_from written counted width start) where
  abbrev end : ℕ
  end = tool.end

  abbrev pub Run : Reader → Reader → Output → Output → Slots → Slots → X → Type 0
  Run old reader was is before store now =
      LineLoopState state rest_from written counted end width start now old reader was is before store

  -- some lines were processed
  abbrev On : X → X → List (List ℕ) → Output → Output → Type 0
  On = LinesWritten rest_from written counted

  abbrev Halt : X → List (List ℕ) → Output → Output → Type 0
  Halt = LinesFailed rest_from written

  none_written : written [] ≡ []
  none_written =
      nil_from_length _ (omega (arith, ap length (line_filter.apart [] []), length-append (written []) (written [])))

  module _ {old : Reader} {was : Output} {before : Slots} where
    pub run_starts : {store : Slots} → RunLinesPre end old was before → SlotBounds width 0 before store
        → Run old old was was before store (state start store)
    run_starts {store} begins keeps = record {
      given = [];
      ls = [];
      passed = [];
      begins = begins;
      came = lines_none end old;
      reached = search (rules, none_written);
      first = store;
      on = λ more. refl;
      count = omega arith;
      keeps = keeps;
    }

    pub run_unslotted : {store : Slots} → RunLinesPre end old was before → AddedSlots before store width
        → length store.lines < width → store.peak ≡ before.peak → store.denied ≡ true
        → PassPost tool old old was was before store (Err Memory)
    run_unslotted {store} begins adds few same denied =
        let nothing : Received = record { bytes = []; eof = false } in
        let decided = line_filter.decided store nothing [] (state start store) (λ more. refl) in
        grind (arith, none_written, call_without_slots, terminator_kept)

    module _ {now : X} {reader : Reader} {is : Output} {store : Slots}
        (run : Run old reader was is before store now) where
      -- the buffered output was written
      pub run_sent : {is' : Output} → PushEffect is is' [] → is'.write_failed ≡ false
          → Run old reader was is' before store now
      run_sent wrote clean = record {
        given = run.given;
        ls = run.ls;
        passed = run.passed;
        begins = run.begins;
        came = run.came;
        reached = progress_flushed run.reached wrote clean;
        first = run.first;
        on = run.on;
        count = run.count;
        keeps = run.keeps;
      }

      pub run_room : width ≤ length store.lines
      run_room = omega arith

      -- at most one more line is counted than was read
      pub run_count : IsSound reader → counted now ≤ 2 ^ 63
      run_count = omega (arith, lines_few)

      run_more : {new : Reader} {bytes : List ℕ} (ls : List (List ℕ)) → AdvanceOk reader new bytes
          → AreReceivedLines end new (run.given ++ bytes) (run.ls ++ ls) → {after : Slots}
          → SlotBounds width (max (max_length run.ls) (max_length ls)) before after → {next : X} {is' : Output}
          → On now next ls is is' → Run old new was is' before after next
      run_more {bytes} ls advance_ok came keeps {next} processed = record {
        given = run.given ++ bytes;
        ls = run.ls ++ ls;
        passed = run.passed ++ processed.passed;
        begins = run.begins;
        came = came;
        reached = record {
          advance_ok = search advance_ok_trans;
          wrote = rw (line_filter.apart run.passed processed.passed)
              (search push_trans);
          clean = processed.clean run.reached.clean;
        };
        first = run.first;
        on = grind (arith, append_assoc);
        count = omega (arith, length-append run.ls ls);
        keeps = grind (usual, max_length-append);
      }

      pub run_block : {new : Reader} {block : List ℕ} {count : ℕ} → block ≡ reader.buffered
          → IsLinesLength tool.end block count → new ≡ record reader { buffered = drop count reader.buffered }
          → {next : X} {is' : Output} → On now next (complete_lines tool.end block) is is'
          → Run old new was is' before store next
      run_block {new} {block} buffered (within, text) consumed processed =
          let ls = complete_lines end block in
          let front : AdvanceOk reader new (unlines end ls) = grind (usual, advance_ok_take) in
          run_more ls front (lines_block run.came ls front (line_split end _).whole)
          (grind (arith, bounds_weaker)) processed

      -- ---- exits

      abbrev bytes_from : X → List ℕ → List ℕ
      bytes_from x bytes = written (rest_from x (lines end bytes))

      abbrev received : List ℕ → Reader → Received
      received bytes new = received_with (run.given ++ bytes) new

      decided_so : (given : Received) → known_lines end given ≡ run.ls
          → IsPrefix (tool.decided given) (written run.passed)
      decided_so given are = line_filter.decided run.first given run.passed now (λ more. cc (run.on more))

      abbrev Ending : Reader → Slots → List ℕ → Type 0
      Ending new after piece =
          PassEnding tool (bytes_from now) old reader new was is before after run.given piece (written run.passed)

      kept : {after : Slots} {most : ℕ} (given : Received) → SlotBounds width most before after
          → ((input : List ℕ) → IsConsistent given input → most ≤ max_line_length end input)
          → StoreBounds tool before after given
      kept = grind arith

      keeps_last : {after : Slots} (bytes : List ℕ) → after ≡ with_line store (width - 1) bytes
          → SlotBounds width (max (max_length run.ls) (length bytes)) before after
      keeps_last _ told = rw told (bounds_line _ _ (grind arith) (omega arith) (omega arith))

      same_end : reader.terminator ≡ end
      same_end = grind arith

      -- a write failed at some lines, which come first
      halts : {new : Reader} {piece : List ℕ} {after : Slots} → Ending new after piece
          → new.failed ≡ reader.failed → after.denied ≡ false → {ls : List (List ℕ)} {is' : Output} → Halt now ls is is'
          → ((rest : List ℕ) → (new.eof ≡ true → rest ≡ [])
          → (more : List (List ℕ)) × (lines end (piece ++ (new.buffered ++ rest)) ≡ ls ++ more))
          → PassPost tool old new was is' before after (Err Write)
      halts p same not_denied halted front = pass_write p halted.wrote
          (λ rest may.
          let (more, split) = front rest may in
          let (later, on) = halted.is_prefix more in
          record { rest = written later; is = cc (split, on, line_filter.apart halted.passed later) })
          halted.fault same not_denied

      module _ (sound : IsSound reader) where
        -- at most a line and a block were read after the lines so far
        ending : {new : Reader} {piece : List ℕ} → ReaderAdvance reader new piece → (line behind : List ℕ)
            → piece ++ new.buffered ≡ line ++ behind → IsLine end line → length behind ≤ BLOCK + 1 → {after : Slots}
            → StoreBounds tool before after (received piece new) → Ending new after piece
        ending reads line behind is whole short bounded = record {
          reached = run.reached;
          on = λ rest may.
              cc (
                line_filter.tool_text run.first (run.given ++ rest),
                lines_on _ _ _ _ run.came rest may,
                run.on (lines end rest),
                line_filter.apart run.passed (rest_from now (lines end rest)),
              );
          ready = run.begins.ready;
          sound = sound;
          reads = reads;
          stored = bounded;
          keeps_store = λ none. absurd (omega arith);
          terminator = terminator_kept tool old run.begins.ends;
          processing = before_line run.came reads line behind is whole short tool decided_so;
        }

        -- the first part of a line was read
        module _ {new : Reader} {piece : List ℕ} (reads : ReaderAdvance reader new piece)
            (whole : IsLine reader.terminator piece) (is_sound : IsSound new) where
          is_line : IsLine end piece
          is_line = rw same_end at whole

          stored : {after : Slots} → SlotBounds width (max (max_length run.ls) (length piece)) before after
              → StoreBounds tool before after (received piece new)
          stored bounds = search (kept, piece_longest, is_line)

          piece_ending : {after : Slots} → StoreBounds tool before after (received piece new) → Ending new after piece
          piece_ending = ending reads _ _ refl is_line (omega arith)

        pub run_read : {new : Reader} {after : Slots} → IsSound new → FillReadErr reader new store after (width - 1)
            → PassPost tool old new was is before after (Err (Read 0))
        run_read is_sound e =
            let reads = e.faults.reads in
            let whole = e.faults.whole in
            let bounds = keeps_last _ e.stored in
            pass_read (piece_ending reads whole is_sound (stored reads whole is_sound bounds)) e.cause bounds.denied
            (grind (arith, decided_so, rules, complete_lines_of_unlines))

        pub run_memory : {new : Reader} {after : Slots} → IsSound new → FillMemoryErr reader new store after (width - 1)
            → PassPost tool old new was is before after (Err Memory)
        run_memory is_sound e =
            let reads = e.faults.reads in
            let whole = e.faults.whole in
            let bounded = stored reads whole is_sound (keeps_last _ refl) in
            rw e.stored (pass_memory (piece_ending reads whole is_sound (grind arith)) e.failed refl e.left)

        -- nothing more was read
        ended_here : Ending reader store []
        ended_here = search (rules, piece_ending, reads_nothing, stored)

        pub run_block_halts : {block : List ℕ} → block ≡ reader.buffered → {is' : Output}
            → Halt now (complete_lines tool.end block) is is'
            → PassPost tool old reader was is' before store (Err Write)
        run_block_halts {block} buffered halted =
            halts ended_here refl run.keeps.denied halted
            (λ rest may. (lines end ((line_split end block).piece ++ rest), cc (complete_prefix end _ _)))

        pub run_flush_failed : {is' : Output} → PushEffect is is' [] → is'.write_failed ≡ true
            → PassPost tool old reader was is' before store (Err Write)
        run_flush_failed wrote fault = pass_write ended_here wrote (nothing_more ended_here) fault refl run.keeps.denied

    -- ---- the line in the last slot

    module _ {now : S} {reader : Reader} {is : Output} {store : Slots}
        (run : Run old reader was is before store (state now store)) where
      filled : {after : Slots} (bytes : List ℕ) → after ≡ with_line store (width - 1) bytes
          → line after (width - 1) ≡ bytes
      filled _ told = grind (usual, run_room)

      same_state : {after : Slots} (bytes : List ℕ) → after ≡ with_line store (width - 1) bytes
          → state now after ≡ state now store
      same_state _ told = grind arith

      module _ {new : Reader} {after : Slots} (next_line : FillLine reader new store after (width - 1)) where
        pub run_line : {next : X} {is' : Output} {after' : Slots}
            → On (state now after) next (line after (width - 1) ∷ []) is is' → IsSwapped width after after'
            → Run old new was is' before after' next
        run_line {next} {is'} {after'} processed swapped =
            run_more run _ next_line.advance_ok (lines_more _ _ _ _ run.came _ _ _ _ next_line (cc))
            (bounds_swapped _ line_filter.some (bounds_weaker _ (keeps_last run _ next_line.stored) (omega arith))
            swapped)
            (grind (arith, filled))

        pub run_line_halts : IsSound reader → IsSound new → {is' : Output}
            → Halt (state now after) (line after (width - 1) ∷ []) is is'
            → PassPost tool old new was is' before after (Err Write)
        run_line_halts sound is_sound halted =
            let ends = same_end run in
            let more = lines_more _ _ _ _ run.came _ _ _ _ next_line ends in
            let bounds = keeps_last run _ next_line.stored in
            halts run
            (ending run sound next_line.advance_ok.reads next_line.line (next_line.terminator ++ new.buffered)
            (grind usual) (rw ends at next_line.whole) (grind arith)
            (kept run _ (grind (arith, bounds, max_length-append)) (received_longest _ _ _ _ more)))
            next_line.advance_ok.failed
            bounds.denied (rw (same_state _ next_line.stored) at (rw (filled _ next_line.stored) at halted))
            (λ rest may. (
              lines end (new.buffered ++ rest),
              line_prefix _ _ _ _ run.came _ _ _ _ next_line ends _
                  (grind arith),
            ))

      -- the end of the input was reached
      module _ (sound : IsSound reader) {new : Reader} (is_sound : IsSound new)
          {after : Slots} (ended : AdvanceOk reader new [] × IsDone new × (after ≡ with_line store (width - 1) []))
          {is' : Output} (wrote : PushEffect is is' (written (rest_from (state now after) []))) where
        abbrev advance_ok : AdvanceOk reader new []
        advance_ok = ended.0

        last : PushEffect is is' (bytes_from run (state now store) [])
        last = rw (same_state [] ended.2) at wrote

        bounds : SlotBounds width (max (max_length run.ls) 0) before after
        bounds = keeps_last run [] ended.2

        last_ending : {after' : Slots} → SlotBounds width (max (max_length run.ls) 0) before after'
            → Ending run new after' []
        last_ending fit = search (rules, piece_ending, stored)

        pub run_done : {after' : Slots} → SlotsCleared (width - 1) after after' → is'.write_failed ≡ false
            → PassPost tool old new was is' before after' (Ok tt)
        run_done empties clean =
            let (cleared, total) = bounds_cleared bounds line_filter.some (filled [] ended.2) empties in
            pass_done (last_ending cleared) last ended.1 refl advance_ok.failed cleared.denied clean advance_ok.fault
            (grind arith) total

        pub run_unended : is'.write_failed ≡ true → PassPost tool old new was is' before after (Err Write)
        run_unended fault = pass_unended (last_ending bounds) last ended.1 refl advance_ok.failed bounds.denied fault
