-- The exits of a pass over one input, for every tool. At each, the pushed bytes and the output for the rest are
-- together that for every continuation. Besides: facts about readers, several pushes as one, the state of the loop over
-- blocks, the lines of a text that was read in part, and the output that is decided two blocks earlier.
use Rattle.ptflow.proofs
use Rattle.ptflow.specs
use proofs.Common.{◌≡◌, ℕ, ◌≤◌, ◌<◌, ◌^◌, true, false, List, [], ◌++◌, length, None, Result, Ok, Err, max, arith, Slots}
use proofs.Common.{append_assoc, usual, append-nil, Reader, ReaderAdvance, AdvanceOk, IsDone, IsSound, HasReadCause}
use proofs.Common.{Received, IsPrefix, IsConsistent, Output, PushEffect, total_bytes, push_trans, received_with}
use proofs.Common.{advance_trans, push_nothing, ToolSpec, PassPost, Read, CallState, call_state, CallOutcome}
use proofs.Common.{CallProgress, DecidedIfReadFailed, take, call_ends, call_on_failed_output, call_set}
use proofs.Common.{bounded_lag_after, Write, FlowFault, Memory, rules, drop, advance_ok_take, Bool}
use proofs.Common.{refl, push_past_failure, OnErr, ◌+◌, ◌-◌, take_all, inl, inr, zero, suc, ◌∷◌, unlines}
use proofs.Common.{take-append-drop, false≢true, lines, IsLine, AreLines, max_length, max_line_length, known_lines}
use proofs.Common.{FillLine, lines_of_unlines, lines_of_last, lines_cons, lines-unlines, ◌==◌}
use proofs.Common.{complete_lines_of_unlines, AreReceivedLines, Some, eqb-true, eqb-false, complete_lines}
use proofs.Common.{complete_lines_cons, IsFirstByte, is_byte, line_before_terminator, drop_at_terminator, cases_Bool}
use Rattle.std.specs.Prelude.{IsErrAnd}
use Rattle.ptlines.specs.Calls.Outputs.{PushPost}
use specs.Private.Passes.BlockLoop.{IsBlockFilter}
use specs.Private.Passes.StepOutput.{OutputPart}
use Rattle.ptlines.specs.declared.sizes.TheConstants.{BLOCK}
pub use Rattle.ptlines.proofs.MaxLength.{max_length-append, piece_le_max_length}
use specs.Calls.Passes.{PassPre, only_input, pass_end}
use Rattle.ptlines.specs.Calls.Engines.{terminator_after}
use specs.Passes.{pass_engine}
use Rattle.ptlines.specs.Calls.Lag.{ProcessLag}

-- ---- readers

-- Facts about readers and outputs. Each follows from the records of one call.

pub eof_gives_nothing : (now new : Reader) (bytes : List ℕ) → IsDone now → ReaderAdvance now new bytes
    → (bytes ≡ []) × (new.buffered ≡ []) × (new.eof ≡ true)
eof_gives_nothing now new _ done reads = grind usual

pub stays_at_eof : (now new : Reader) (bytes : List ℕ) → IsDone now → ReaderAdvance now new bytes → IsDone new
stays_at_eof now new _ done reads = grind usual

abbrev state : Reader → Output → Slots → CallState (Unit {0})
state reader out store = call_state (λ u. reader) out store

-- `given` was read, and `pushed` pushed
pub record Progress (old reader : Reader) (was is : Output) (given pushed : List ℕ) : Type 0 where
  pub advance_ok : AdvanceOk old reader given
  pub wrote : PushEffect was is pushed
  pub clean : is.write_failed ≡ false

-- the buffered output was written
abbrev pub progress_flushed : {old reader : Reader} {was is is' : Output} {given pushed : List ℕ}
    → Progress old reader was is given pushed → PushEffect is is' [] → is'.write_failed ≡ false
    → Progress old reader was is' given pushed
progress_flushed {pushed} reached wrote clean = record {
  advance_ok = reached.advance_ok;
  wrote = rw (append-nil pushed) at (push_trans _ _ _ _ _ reached.clean reached.wrote wrote);
  clean = clean;
}

-- the output that was decided two blocks earlier, or less, was pushed
abbrev pub LaggedOutput : ToolSpec → Received → List ℕ → Type 0
LaggedOutput tool came pushed = ProcessLag {I = Unit {0}} (λ given. tool.decided (given tt)) (λ u. came) pushed

pub record StoreBounds (tool : ToolSpec) (before store : Slots) (given : Received) : Type 0 where
  pub peak : (input : List ℕ) → IsConsistent given input → store.peak ≤ max before.peak (tool.size input)
  pub size : length store.lines ≡ max (length before.lines) tool.slots

pub pass_unchanged : (tool : ToolSpec) (old : Reader) (was : Output) (before : Slots) → PassPre old before
    → was.write_failed ≡ true → PassPost tool old old was was before before (Err Write)
pass_unchanged = grind (arith, call_on_failed_output)

-- before the call the terminator was set
module _ (old : Reader) {set : Reader} {end : ℕ} where
  pub ready_set : {store : Slots} → PassPre old store → set ≡ record old { terminator = end } → PassPre set store
  ready_set ready same = grind arith

  pub pass_set : {tool : ToolSpec} {new : Reader} {was is : Output} {before store : Slots}
      {result : Result (Unit {0}) FlowFault} → PassPost tool set new was is before store result
      → set ≡ record old { terminator = end } → end ≡ tool.end → tool.keeps_end ≡ false → was.write_failed ≡ false
      → PassPost tool old new was is before store result
  pass_set = grind (arith, call_set)

-- A reader that has the terminator of a tool keeps it.
pub terminator_kept : (tool : ToolSpec) (reader : Reader) → reader.terminator ≡ tool.end
    → terminator_after (pass_engine tool) reader.terminator ≡ reader.terminator
terminator_kept _ reader same = grind arith

pub never_memory : {tool : ToolSpec} {old new : Reader} {was is : Output} {store : Slots}
    {result : Result (Unit {0}) FlowFault}
    → store.denied ≡ false → PassPost tool old new was is store store result → result ≡ Err Memory → ⊥
never_memory = grind arith

-- The end of a call. The bytes `given` were processed, and `pushed` was pushed for them. For any rest of the input,
-- which is empty if the input has ended, the output goes on with `left` of that rest. Last, `piece` was read.
pub record PassEnding (tool : ToolSpec) (left : List ℕ → List ℕ) (old reader new : Reader) (was is : Output)
    (before store : Slots) (given piece pushed : List ℕ) : Type 0 where
  pub reached : Progress old reader was is given pushed
  pub on : (rest : List ℕ) → (IsDone reader → rest ≡ []) → tool.text (given ++ rest) ≡ pushed ++ left rest
  pub ready : PassPre old before
  pub sound : IsSound reader
  pub reads : ReaderAdvance reader new piece
  pub stored : StoreBounds tool before store (received_with (given ++ piece) new)
  pub keeps_store : tool.slots ≡ 0 → store ≡ before
  pub terminator : terminator_after (pass_engine tool) old.terminator ≡ old.terminator
  pub processing : LaggedOutput tool (received_with (given ++ piece) new) pushed

module _ {tool : ToolSpec} {left : List ℕ → List ℕ} {old reader new : Reader} {was is : Output} {before store : Slots}
    {given piece pushed : List ℕ} (p : PassEnding tool left old reader new was is before store given piece pushed) where
  abbrev received : Received
  received = received_with (given ++ piece) new

  advanced : ReaderAdvance old new (given ++ piece)
  advanced = search (rules, advance_trans)

  never_failed : old.failed ≡ false
  never_failed = grind arith

  text_of : {input : List ℕ} (consistent : IsConsistent received input)
      → tool.text input ≡ pushed ++ left (piece ++ (new.buffered ++ consistent.rest))
  text_of consistent = grind usual

  -- `bytes`, with which the output for the rest begins, are pushed after the last step
  module _ {is' : Output} {bytes : List ℕ} (wrote : PushEffect is is' bytes)
      (begins : (rest : List ℕ) → (new.eof ≡ true → rest ≡ [])
      → IsPrefix bytes (left (piece ++ (new.buffered ++ rest)))) where
    progress : CallProgress only_input (pass_engine tool) (state old was before) (state new is' store)
        (λ u. given ++ piece) (pushed ++ bytes)
    progress = record {
      reads = λ u read. advanced;
      untouched = λ u unread. cc;
      never_failed = λ u read. never_failed;
      writable = grind usual;
      wrote = search push_trans;
      is_prefix = grind (arith, text_of, append_assoc);
      bounded_lag = search bounded_lag_after;
      peak = grind arith;
      slots = λ texts a. omega arith;
      least = omega arith;
      room = omega arith;
      terminator = λ u read. p.terminator;
    }

    pass : (result : Result (Unit {0}) FlowFault)
        → CallOutcome only_input (pass_engine tool) (state old was before) (state new is' store) (λ u. received)
        (pushed ++ bytes) (pass_end result)
        → DecidedIfReadFailed only_input (pass_engine tool) (state old was before) (state new is' store)
        (λ u. given ++ piece) (pushed ++ bytes) (pass_end result)
        → ((index : ℕ) → result ≡ Err (Read index) → index ≡ 0) → PassPost tool old new was is' before store result
    pass _ ends decided only = record {
      call = search (rules, call_ends, progress);
      only = only;
      keeps_store = p.keeps_store;
      stays_done = λ done. stays_at_eof _ _ _ done advanced;
    }

    pub pass_write : is'.write_failed ≡ true → new.failed ≡ reader.failed → store.denied ≡ false
        → PassPost tool old new was is' before store (Err Write)
    pass_write fault same not_denied = pass _ (grind arith) tt (λ index is. cc)

  pub nothing_more : (rest : List ℕ) → (new.eof ≡ true → rest ≡ [])
      → IsPrefix [] (left (piece ++ (new.buffered ++ rest)))
  nothing_more _ may = grind arith

  pub pass_read : HasReadCause reader new → store.denied ≡ false
      → (new.buffered ≡ [] → new.eof ≡ false → IsPrefix (tool.decided received) pushed)
      → PassPost tool old new was is before store (Err (Read 0))
  pass_read cause not_denied decided = pass (push_nothing is) nothing_more _ (grind arith) (search rules)
      (λ index is. cc)

  pub pass_memory : new.failed ≡ reader.failed → store.denied ≡ true → 0 < length new.buffered
      → PassPost tool old new was is before store (Err Memory)
  pass_memory same denied left = pass (push_nothing is) nothing_more _ (grind arith) tt (λ index is. cc)

  -- the end of the input was reached
  module _ {is' : Output} (wrote : PushEffect is is' (left [])) (done : IsDone new) (none : piece ≡ [])
      (same : new.failed ≡ reader.failed) (not_denied : store.denied ≡ false) where
    all_of_it : (rest : List ℕ) → (new.eof ≡ true → rest ≡ [])
        → IsPrefix (left []) (left (piece ++ (new.buffered ++ rest)))
    all_of_it _ whole = grind (arith, append-nil)

    pub pass_done : is'.write_failed ≡ false → new.fault ≡ None → new.pulled < 2 ^ 63 → total_bytes store.lines ≡ 0
        → PassPost tool old new was is' before store (Ok tt)
    pass_done clean fault short empty = pass wrote all_of_it _ (search rules) tt (λ index is. cc)

    -- a write failed there
    pub pass_unended : is'.write_failed ≡ true → PassPost tool old new was is' before store (Err Write)
    pass_unended fault = search (rules, pass_write, all_of_it)

-- ---- pushes

-- Bytes that are pushed piece by piece. A failed push leaves a prefix too, so several pushes have the result of one.

-- two pushes are one, even if the first failed
pub wrote_then : (a b c : Output) {xs ys : List ℕ} → PushEffect a b xs → PushEffect b c ys → PushEffect a c (xs ++ ys)
wrote_then a b c {xs} {ys} p q = elim (cases_Bool _) [
  | inl fault ↦ rw (q.stays fault) (push_past_failure a b xs ys fault p)
  | inr clean ↦ push_trans a b c xs ys clean p q
]

pub push_failed : {E : Type 0} {a b : Output} {xs : List ℕ} {r : Result (Unit {0}) E} {e : E} → r ≡ Err e
    → PushEffect a b xs → b.write_failed ≡ true → PushPost a b xs r
push_failed = grind arith

pub record WrittenPrefix (whole rest : List ℕ) (was is : Output) : Type 0 where
  pub pushed : List ℕ
  pub wrote : PushEffect was is pushed
  pub split : whole ≡ pushed ++ rest

pub prefix_starts : {whole rest : List ℕ} {was : Output} → whole ≡ rest → WrittenPrefix whole rest was was
prefix_starts {was} same = record { pushed = []; wrote = push_nothing was; split = same }

module _ {whole rest : List ℕ} {was is : Output} (f : WrittenPrefix whole rest was is) where
  module _ {is' : Output} {bytes : List ℕ} (more : List ℕ) (same : rest ≡ bytes ++ more)
      (wrote : PushEffect is is' bytes) where
    all_split : whole ≡ (f.pushed ++ bytes) ++ more
    all_split = cc (append_assoc f.pushed bytes more)

    pub front_more : WrittenPrefix whole more was is'
    front_more = search (rules, wrote_then, all_split)

    pub front_fails : is'.write_failed ≡ true → PushEffect was is' whole
    front_fails fault = rw all_split (push_past_failure _ _ _ _ fault (wrote_then _ _ _ f.wrote wrote))

-- ---- results

pub on_err : {T E : Type 0} (r : Result T E) {P : Type 0} → P → OnErr r P
on_err (Ok u) p = tt
on_err (Err e) p = p

-- what `?` returns on an error
pub is_fault : {A T E : Type 0} {r : Result T E} {e : E} → A × IsErrAnd r (λ fault. fault ≡ e) → r ≡ Err e
is_fault = grind arith

-- ---- the loop over blocks

-- The output of each block is pushed before the next is read, so input with no output yet is in the reader's buffer.

-- The state between two blocks.
pub record BlockLoopState {X : Type 0} (rest_from : X → List ℕ → List ℕ) (IsUnchanged : X → X → Type 0) (start now : X)
    (old reader : Reader) (was is : Output) : Type 0 where
  pub given : List ℕ
  pub pushed : List ℕ
  pub reached : Progress old reader was is given pushed
  pub on : (rest : List ℕ) → rest_from start (given ++ rest) ≡ pushed ++ rest_from now rest
  pub holds : IsUnchanged start start → IsUnchanged start now

module _ {X : Type 0} {rest_from : X → List ℕ → List ℕ} {IsUnchanged : X → X → Type 0} {start : X} {old : Reader}
    {was : Output} where
  pub blocks_start : old.fault ≡ None → was.write_failed ≡ false
      → BlockLoopState rest_from IsUnchanged start start old old was was
  blocks_start readable clean = record {
    given = [];
    pushed = [];
    reached = grind usual;
    on = λ rest. refl;
    holds = λ same. same;
  }

  module _ {now : X} {reader : Reader} {is : Output}
      (run : BlockLoopState rest_from IsUnchanged start now old reader was is) where
    -- the buffered output was written
    pub block_sent : {is' : Output} → PushEffect is is' [] → is'.write_failed ≡ false
        → BlockLoopState rest_from IsUnchanged start now old reader was is'
    block_sent wrote clean = record {
      given = run.given;
      pushed = run.pushed;
      reached = progress_flushed run.reached wrote clean;
      on = run.on;
      holds = run.holds;
    }

    pub block_taken : {shown new : Reader} {block : List ℕ} {next : X} {is' : Output} → AdvanceOk reader shown []
        → shown.buffered ≡ block → new ≡ record shown { buffered = drop (length block) shown.buffered }
        → OutputPart rest_from now next block is is' → (IsUnchanged start now → IsUnchanged start next)
        → BlockLoopState rest_from IsUnchanged start next old new was is'
    block_taken {block} {next} advance_ok buffered consumed part unchanged = record {
      given = run.given ++ block;
      pushed = run.pushed ++ part.pushed;
      reached = record {
        advance_ok = grind (usual, take_all, advance_ok_take);
        wrote = search push_trans;
        clean = part.clean;
      };
      on = grind (arith, append_assoc);
      holds = λ same. unchanged (run.holds same);
    }

    -- the end of a pass after a block was read, or a read failed
    abbrev pub Ending : Reader → Type 0
    Ending new = (tool : ToolSpec) → IsBlockFilter tool rest_from IsUnchanged start
        → terminator_after (pass_engine tool) old.terminator ≡ old.terminator → (store : Slots) → PassPre old store
        → PassEnding tool (rest_from now) old reader new was is store store run.given [] run.pushed

    pub ending : IsSound reader → {new : Reader} → ReaderAdvance reader new [] → IsSound new → Ending new
    ending sound {new} reads is_sound tool filter terminator store ready = record {
      reached = run.reached;
      on = λ rest may. cc (filter.text (run.given ++ rest), run.on rest);
      ready = ready;
      sound = sound;
      reads = reads;
      stored = search rules;
      keeps_store = λ none. refl;
      terminator = terminator;
      processing = record {
        before = λ u. record {
          earlier = record { bytes = run.given; eof = false };
          last = new.buffered;
          split = cc (append-nil _);
          short = omega arith;
          eof = λ never. cc;
        };
        begins = grind arith;
      };
    }

-- ---- lines of a text

-- Complete lines and the unfinished line after them, the maximum length, and the lines of a block one by one.

pub record LineSplit (end : ℕ) (bytes : List ℕ) : Type 0 where
  pub piece : List ℕ
  pub is : bytes ≡ unlines end (complete_lines end bytes) ++ piece
  pub whole : AreLines end (complete_lines end bytes)
  pub line : IsLine end piece

pub line_split : (end : ℕ) (bytes : List ℕ) → LineSplit end bytes
line_split end [] = record { piece = []; is = refl; whole = tt; line = tt }
line_split end (b ∷ bytes) = put (b == end) (complete_lines end bytes) refl refl (line_split end bytes)
  where
    put : (t : Bool) (ls : List (List ℕ)) → (b == end) ≡ t → complete_lines end bytes ≡ ls → LineSplit end bytes
        → LineSplit end (b ∷ bytes)
    put true ls same are split = record {
      piece = split.piece;
      is = grind (arith, eqb-true, split.is);
      whole = grind (arith, split.whole);
      line = split.line;
    }
    put false [] same are split = record {
      piece = b ∷ split.piece;
      is = grind (arith, split.is);
      whole = grind (arith, split.whole);
      line = (eqb-false b end same, split.line);
    }
    put false (l ∷ ls) same are split = record {
      piece = split.piece;
      is = grind (arith, split.is);
      whole = grind (arith, eqb-false, split.whole);
      line = split.line;
    }

pub complete_prefix : (end : ℕ) (bytes rest : List ℕ)
    → lines end (bytes ++ rest) ≡ complete_lines end bytes ++ lines end ((line_split end bytes).piece ++ rest)
complete_prefix = grind (arith, line_split, append_assoc, lines_of_unlines)

pub split_of : (end : ℕ) (bytes : List ℕ) (at : ℕ) → IsFirstByte (is_byte end) bytes (Some at)
    → bytes ≡ take at bytes ++ end ∷ drop (at + 1) bytes
split_of end bytes at first = cc (take-append-drop at bytes, drop_at_terminator end _ at first)

-- some lines of the block were processed, and `rest` is left
pub record IsAfterLines (end : ℕ) (block rest : List ℕ) : Type 0 where
  pub front : List ℕ
  pub split : block ≡ front ++ rest
  pub texts : unlines end (complete_lines end block) ≡ front ++ unlines end (complete_lines end rest)

module _ (end : ℕ) where
  pub ended_next : (rest : List ℕ) (at : ℕ) → IsFirstByte (is_byte end) rest (Some at)
      → complete_lines end rest ≡ take at rest ∷ complete_lines end (drop (at + 1) rest)
  ended_next _ at first =
      cc (split_of end _ at first, complete_lines_cons end _ _ (line_before_terminator end _ at first))

  pub taken_more : {block rest : List ℕ} (size : ℕ)
      → unlines end (complete_lines end rest) ≡ take size rest ++ unlines end (complete_lines end (drop size rest))
      → IsAfterLines end block rest → IsAfterLines end block (drop size rest)
  taken_more {rest} size texts taken =
      let front = take size rest in record {
        front = taken.front ++ front;
        split = grind (usual, append_assoc);
        texts = grind (arith, append_assoc);
      }

pub lines_none : (end : ℕ) (reader : Reader) → AreReceivedLines end reader [] []
lines_none end _ = record { so_far = inl (refl, tt) }

lines_length : (end : ℕ) (bytes : List ℕ) → length (lines end bytes) ≤ length bytes
lines_length end [] = omega arith
lines_length end (b ∷ bytes) = grind (arith, lines_length end bytes)

module _ (end : ℕ) (now : Reader) (given : List ℕ) (ls : List (List ℕ))
    (received : AreReceivedLines end now given ls) where
  pub lines_are_given : lines end given ≡ ls
  lines_are_given = grind (arith, lines-unlines)

  pub lines_few : length ls ≤ length given
  lines_few = rw lines_are_given at (lines_length end given)

  pub lines_on : (rest : List ℕ) → (IsDone now → rest ≡ []) → lines end (given ++ rest) ≡ ls ++ lines end rest
  lines_on _ may = grind (arith, lines_of_unlines, append-nil)

  pub received_longest : (input : List ℕ) → IsConsistent (received_with given now) input
      → max_length ls ≤ max_line_length end input
  received_longest _ consistent = grind (arith, append_assoc, lines_on, max_length-append)

  -- the first part of a line was read
  module _ (new : Reader) (piece : List ℕ) (reads : ReaderAdvance now new piece) (free : IsLine end piece) where
    pub piece_longest : (input : List ℕ) → IsConsistent (received_with (given ++ piece) new) input
        → max (max_length ls) (length piece) ≤ max_line_length end input
    piece_longest _ consistent =
        grind (usual, append_assoc, free, append-nil, lines_of_unlines, max_length-append, piece_le_max_length)

  module _ (new : Reader) (before after : Slots) (slot : ℕ) (next_line : FillLine now new before after slot)
      (same : now.terminator ≡ end) where
    free : IsLine end next_line.line
    free = rw same at next_line.whole

    pub line_prefix : (rest : List ℕ) → (IsDone new → rest ≡ [])
        → lines end ((next_line.line ++ next_line.terminator) ++ rest) ≡ next_line.line ∷ lines end rest
    line_prefix _ may = grind (arith, append_assoc, lines_cons, free, append-nil, lines_of_last)

    pub lines_more : AreReceivedLines end new (given ++ (next_line.line ++ next_line.terminator))
        (ls ++ next_line.line ∷ [])
    lines_more = grind (usual, lines_of_unlines, lines_of_last)

pub lines_block : {end : ℕ} {reader : Reader} {given : List ℕ} {ls : List (List ℕ)}
    → AreReceivedLines end reader given ls → {new : Reader} (more : List (List ℕ))
    → AdvanceOk reader new (unlines end more) → AreLines end more
    → AreReceivedLines end new (given ++ unlines end more) (ls ++ more)
lines_block {end} {ls} received more advance_ok are = grind (usual, lines-unlines)

-- ---- the input two blocks earlier

pub line_take : (end n : ℕ) (bytes : List ℕ) → IsLine end bytes → IsLine end (take n bytes)
line_take end zero bytes are = tt
line_take end (suc n) [] are = tt
line_take end (suc n) (b ∷ bytes) (differs, are) = (differs, line_take end n _ are)

module _ {end : ℕ} {now new : Reader} {given : List ℕ} {ls : List (List ℕ)}
    (received : AreReceivedLines end now given ls)
    {piece : List ℕ} (reads : ReaderAdvance now new piece) (line behind : List ℕ)
    (is : piece ++ new.buffered ≡ line ++ behind) (whole : IsLine end line) (short : length behind ≤ BLOCK + 1) where
  -- the output that is decided by all but the terminator of a line that was read, and the bytes after it
  pub before_line : (tool : ToolSpec) {pushed : List ℕ}
      → ((came : Received) → known_lines end came ≡ ls → IsPrefix (tool.decided came) pushed)
      → LaggedOutput tool (received_with (given ++ piece) new) pushed
  before_line _ decided = elim received.so_far [
    | inl (text, are) ↦ let n = length line - (BLOCK - 1) in record {
      before = λ u. record {
        earlier = record { bytes = given ++ take n line; eof = false };
        last = drop n line ++ behind;
        split = grind (arith, append_assoc, take-append-drop n line);
        short = grind usual;
        eof = λ never. absurd (false≢true never);
      };
      begins = decided _ (grind (arith, complete_lines_of_unlines, line_take));
    }
    | inr (same, done) ↦ let none = eof_gives_nothing _ _ _ done reads in record {
      before = λ u. record {
        earlier = record { bytes = given; eof = true };
        last = [];
        split = cc (append-nil (given ++ []));
        short = omega arith;
        eof = λ e. (stays_at_eof _ _ _ done reads).eof;
      };
      begins = decided _ same;
    }
  ]
