-- A call of `paste`: output that was determined two blocks of input earlier was pushed; the state between two
-- iterations, when whole rows were taken and pushed, and the rest is the rows of the lines still to come; and the
-- exits, before which the first columns of the next row were read, and perhaps a part of a line.
pub mod BufferedRows
pub mod TwoColumns
pub mod Replaced
pub mod Segments
use Rattle.ptflow.proofs
use proofs.Common.{Result, drop_at, push_trans, bounded_lag_after, HasReadCause, with_denied, max_line_length}
use proofs.Common.{CallOutcome, CallState, call_state, CallProgress, usual, DecidedIfReadFailed, reads_nothing}
use proofs.Common.{call_ends, call_set, call_without_slots, RowFailed, ClearSlotsPost, is_write_fault, job_shape}
use proofs.Common.{cases_Bool, cases_eq, filter, length-map-range_with_len, received_with}
use proofs.Common.{complete_lines_of_unlines, IsPrefix, known_lines, IsLine, complete_lines, rows_text}
use proofs.Passes.Exits.{max_length-append, lines_on, piece_longest, complete_prefix, line_split}
use proofs.CutLemmas.CutBytes.{select_append}
use proofs.CutLemmas.Fields.{ended_more}
pub use BufferedRows.*
use Rattle.std.proofs.lemmas.List.FromFn.{get_or-map-range_with_len}
use Rattle.ptflow.specs.Calls.PasteCall.{PastePre, PastePost, IsReadable, paste_end}
use Rattle.ptflow.specs.PasteCall.{paste_engine}
use Rattle.ptlines.specs.Calls.Engines.{CallPost, CallEnd, AreAllConsistent, inputs_at}
use Rattle.ptlines.specs.declared.sizes.TheConstants.{BLOCK}
use Rattle.std.specs.Prelude.{◌*◌}
use Rattle.std.proofs.Common.{arith}

-- Output that was determined two blocks of an input earlier is pushed: without these blocks that input has fewer lines
-- than one more row takes, so only rows that were already pushed are determined.

-- ---- one input without its last bytes

-- The received bytes, without two blocks or less at their end, have fewer than `most` complete lines.
record EarlierPart (end most : ℕ) (came : Received) : Type 0 where
  front : List ℕ
  last : List ℕ
  split : came.bytes ≡ front ++ last
  short : length last ≤ 2 * BLOCK
  few : length (complete_lines end front) < most

complete_few : {end : ℕ} {now new : Reader} {given piece : List ℕ} {ls : Lines} → AreReceivedLines end now given ls
    → ReaderAdvance now new piece → IsLine end piece → length (complete_lines end (given ++ piece)) ≤ length ls
complete_few k reads free =
    grind (usual, complete_lines_of_unlines, append-nil, complete_prefix, length-append, line_split)

no_lines : (end : ℕ) (bytes : List ℕ) → length (lines end bytes) ≤ 0 → bytes ≡ []
no_lines end [] none = refl
no_lines end (b ∷ bytes) none = grind arith

-- Up to a block of the given bytes is left out, and so the end of their last line.
earlier_lines : {end most : ℕ} (reader : Reader) (given : List ℕ) → length reader.buffered ≤ BLOCK → 0 < most
    → length (lines end given) ≤ most → EarlierPart end most (received_with given reader)
earlier_lines {end} reader given buffered some few =
    let k = length given - BLOCK in
    let front = take k given in
    let last = drop k given in
    let rest = (line_split end front).piece ++ last in
    record {
      front = front;
      last = last ++ reader.buffered;
      split = cc (take-append-drop k given, append_assoc front last reader.buffered);
      short = grind usual;
      few = ⊎_elim
          (λ more. omega (
            arith,
            ap (λ b. length (lines end b)) (take-append-drop k given),
            ap length (complete_prefix end front last),
            length-append (complete_lines end front) (lines end rest),
          ))
          (λ none. let empty = no_lines end rest none in
          rw (nil_from_length given (omega (
            arith,
            ap length empty,
            length-append (line_split end front).piece last,
            length-drop k given,
          ))) some)
          (cases_lt 0 _);
    }

-- ---- complete lines of a prefix

whole_lines_prefix : (end : ℕ) (eof : Bool) (bytes front last : List ℕ) → bytes ≡ front ++ last
    → (more : Lines) × (known_lines end (record { bytes = bytes; eof = eof }) ≡ complete_lines end front ++ more)
whole_lines_prefix end true bytes front last is =
    (lines end ((line_split end _).piece ++ last), ap (lines end) is ∙ complete_prefix end _ _)
whole_lines_prefix end false bytes front last is =
    (complete_lines end ((line_split end front).piece ++ last), grind (arith, append_assoc, ended_more))

-- ---- the rows that are determined come first

module _ (f : ℕ → Bool) (down : (r : ℕ) → f r ≡ false → f (r + 1) ≡ false) where
  none_known : (a h : ℕ) → f a ≡ false → filter f (range_with_len a h) ≡ []
  none_known a zero none = refl
  none_known a (suc h) none = rw none (none_known (a + 1) h (down a none))

  -- The rows from row a on that pass `f` are the next of the rows that were taken.
  known_first : (row : ℕ → Lines) (taken : List Lines) → f (length taken) ≡ false
      → ((r : ℕ) → f r ≡ true → r < length taken → row r ≡ get_or taken r []) → (a h : ℕ) → a ≤ length taken
      → (rest : List Lines) × (drop a taken ≡ map row (filter f (range_with_len a h)) ++ rest)
  known_first row taken none same a zero low = (drop a taken, refl)
  known_first row taken none same a (suc h) low = ⊎_elim
      (λ is.
      let differ : a ≢ length taken = λ last. cc in
      let (rest, more) = known_first row taken none same (a + 1) h (omega arith) in
      (grind usual))
      (λ is. (drop a taken, rw is (rw (none_known (a + 1) h (down a is)) refl))) (cases_Bool (f a))

known_down : (cols : List Lines) (eof : List Bool) (r : ℕ) → is_row_known cols eof r ≡ false
    → is_row_known cols eof (r + 1) ≡ false
known_down [] eof r none = cc
known_down (col ∷ cols) [] r none = cc
known_down (col ∷ cols) (e ∷ eof) r none = let later = known_down cols eof r in grind arith

-- ---- the lag

module _ (job : Paste) (cells : List ℕ) (came : ℕ → Received) where
  abbrev known_of : (ℕ → Received) → ℕ → Lines
  known_of given p = known_lines job.terminator (given p)

  abbrev grid : (ℕ → Received) → List Lines
  grid given = columns cells (known_of given)

  -- Without its last bytes the input `here` has fewer lines than one more row takes, and is not known to end. So a row
  -- that is determined has all its lines of that input, and is a row of the whole grid.
  module _ (taken_rows more : List Lines) {pushed : List ℕ} (text : pushed ≡ rows_text job taken_rows)
      (all : rows (grid came) ≡ taken_rows ++ more) (here : ℕ) (named : 0 < uses_of cells here)
      (cut : EarlierPart job.terminator ((length taken_rows + 1) * uses_of cells here) (came here)) where
    abbrev front : Received
    front = record { bytes = cut.front; eof = false }

    abbrev earlier : ℕ → Received
    earlier = update_at here front came

    abbrev ends : List Bool
    ends = map (λ p. (earlier p).eof) cells

    unknown : (r c : ℕ) → c < length cells → get_or cells c 0 ≡ here
        → length (column_of cells (known_of earlier) c (get_or cells c 0)) ≤ r
        → is_row_known (grid earlier) ends r ≡ false
    unknown r c low is few =
        is_row_unknown (grid earlier) ends r c (grind (usual, length-enumerate_from))
        (grind usual) (grind (arith, column_at))

    abbrev cell : ℕ → ℕ → ℕ → List ℕ
    cell r c p = get_or (column_of cells (known_of came) c p) r []

    begins_earlier : IsPrefix (paste_decided job cells earlier) pushed
    begins_earlier =
        -- The last column of the input has no line in the next row.
        let (c, low, is_here, count) = last_use _ _ named in
        let next_unknown = unknown (length taken_rows) c low is_here (grind (arith, every_kth_short)) in
        let (rest, is) = known_first (is_row_known (grid earlier) ends) (known_down (grid earlier) ends)
        (row_at (grid earlier)) taken_rows next_unknown (λ r known less.
        row_is cells (known_of earlier) r (cell r) (λ c low. ⊎_elim
        (λ is.
        let (more, is_known) = whole_lines_prefix job.terminator (came here).eof (came here).bytes cut.front cut.last
        cut.split in
        grind (usual, unknown r c low is, select_append))
        (λ other. grind arith)
        (cases_eq _ _))
        ∙ sym (row_is cells (known_of came) r (cell r) (λ c low. refl))
        ∙ cc (
          get_or-map-range_with_len (row_at (grid came)) 0 (row_count (grid came)) r r [] (omega (
            arith,
            ap length all,
            length-append taken_rows more,
            length-map-range_with_len (row_at (grid came)) 0 (row_count (grid came)),
          )) (omega arith),
          get_or_append_left taken_rows more [] r less,
        )) 0 (row_count (grid earlier)) (omega arith) in
        record { rest = rows_text job rest; is = grind usual }

    decided_is_prefix : cut.front ≡ (came here).bytes → (came here).eof ≡ false
        → IsPrefix (paste_decided job cells came) pushed
    decided_is_prefix same going = grind (arith, begins_earlier)

-- ---- the exits of a call

abbrev pub row_job : RowShape → Paste
row_job row = record { serial = false; delimiters = row.delims; terminator = row.terminator }

pub of_rows : {row same : RowShape} {old new : CallState ℕ} {result r : Result (Unit {0}) FlowFault} → row ≡ same
    → result ≡ r → CallPost (inputs_at row.cells) (paste_engine (row_job row) row.cells) old new (paste_end r)
    → CallPost (inputs_at same.cells) (paste_engine (row_job same) same.cells) old new (paste_end result)
of_rows = grind arith

-- ---- all that was received, if some rows were taken

whole_lines_after : {end : ℕ} {now : Reader} {given : List ℕ} {ls : Lines} → AreReceivedLines end now given ls
    → (rest : List ℕ) (eof : Bool) → (IsDone now → (rest ≡ []) × (eof ≡ true))
    → known_lines end (record { bytes = given ++ rest; eof = eof }) ≡ ls ++ known_lines end
    (record { bytes = rest; eof = eof })
whole_lines_after {end} {now} {given} {ls} k rest true may = lines_on end now _ ls k _ (λ done. (may done).0)
whole_lines_after k rest false may = grind (arith, ended_more)

-- ---- after the terminators were set

pub record HasStarted (job : Paste) (cells : List ℕ) (old set : List Reader) (was : Output) (first : Slots) : Type 0
  where
    pub writable : was.write_failed ≡ false
    pub ready : PastePre cells old first
    pub are_set : SetTerminatorsPost job.terminator cells old set
    pub count : length set ≡ length old

module _ {job : Paste} {cells : List ℕ} {old set : List Reader} {was : Output} {first : Slots}
    (s : HasStarted job cells old set was first) where
  readable : (p : ℕ) → 0 < uses_of cells p → IsReadable (reader_at old p)
  readable p some = let (c, low, is, count) = last_use _ p some in rw is at (s.ready.readable c 0 low)

  set_readable : BufferedRowsPre (job_shape job cells) set
  set_readable = grind (arith, readable)

  never_failed : (p : ℕ) → is_in cells p ≡ true → (reader_at set p).failed ≡ false
  never_failed p named = grind (arith, is_in_used, readable)

  -- A call from there on is the whole call.
  since_set : {new : CallState ℕ} {end : CallEnd ℕ}
      → CallPost (inputs_at cells) (paste_engine job cells) (call_state (reader_at set) was first) new end
      → CallPost (inputs_at cells) (paste_engine job cells) (call_state (reader_at old) was first) new end
  since_set = call_set _ _ refl (call_state (reader_at old) was first) (call_state (reader_at set) was first) _ s.writable
      refl refl (λ p named. (s.are_set p).set (is_in_used _ p named))
      (λ p other. (s.are_set p).left (not_in _ p other))

  pub paste_without_slots : {store : Slots} → AddedSlots first store (length cells) → store.peak ≡ first.peak
      → store.denied ≡ true → length store.lines < length cells → {result : Result (Unit {0}) FlowFault}
      → result ≡ Err Memory → PastePost job cells old set was was first store result
  paste_without_slots adds same denied missing is =
      rw (is, paste_end) (since_set (call_without_slots _ _ _ _ s.writable refl (λ p named. refl)
      (grind (arith, is_in_used)) (λ p other. refl) (λ p named. (s.are_set p).sound (is_in_used _ p named)) never_failed denied same
      adds.least missing (λ texts. omega arith) (λ p named. let some = is_in_used _ p named in
      begins_earlier job cells (λ q. received_with [] (reader_at set q)) []
      (rows (columns cells (λ q. known_lines job.terminator (received_with [] (reader_at set q))))) refl refl p some
      (grind arith))))

-- ---- rows that were taken

-- A bound on the slots, by lines of each input.
abbrev Kept : List ℕ → Slots → (ℕ → Lines) → Slots → Type 0
Kept cells first ls stored = (top : ℕ → ℕ) → ((p : ℕ) → 0 < uses_of cells p → max_length (ls p) ≤ top p)
    → SlotsBound cells top first stored

kept_now : {cells : List ℕ} {first stored : Slots} (ls : ℕ → Lines) → Kept cells first ls stored
    → SlotsBound cells (λ p. max_length (ls p)) first stored
kept_now ls kept = kept _ (λ p some. omega arith)

-- The state between two iterations.
pub record PasteInvariant (job : Paste) (cells : List ℕ) (old set now : List Reader) (was is : Output)
    (first store : Slots) : Type 0 where
  pub starts : HasStarted job cells old set was first
  pub written : List ℕ
  pub rows : RowsTaken (job_shape job cells) set now written
  pub wrote : PushEffect was is written
  pub clean : is.write_failed ≡ false
  pub kept : Kept cells first rows.ls store

abbrev pub RowsInvariant : RowShape → List Reader → List Reader → List Reader → Output → Output → Slots → Slots → Type 0
RowsInvariant row = PasteInvariant (row_job row) row.cells

-- After whole rows the first `n` columns took their lines, and perhaps a reader gave a part of a line.
record RowPart (job : Paste) (cells : List ℕ) (mid new : List Reader) : Type 0 where
  n : ℕ
  last : List Reader
  taken : ℕ → Lines
  lines_taken : (p : ℕ)
      → LinesTaken job.terminator (reader_at mid p) (reader_at last p) (uses_of (take n cells) p) (taken p)
  part : ℕ → List ℕ
  reads : (p : ℕ) → ReaderAdvance (reader_at last p) (reader_at new p) (part p)
  is_line : (p : ℕ) → IsLine job.terminator (part p)
  left : (p : ℕ) → uses_of cells p ≡ 0 → reader_at new p ≡ reader_at last p

-- No reader gave a part of a line.
abbrev whole_columns : {job : Paste} {cells : List ℕ} {mid new : List Reader} (n : ℕ) {taken : ℕ → Lines}
    → ((p : ℕ) → LinesTaken job.terminator (reader_at mid p) (reader_at new p) (uses_of (take n cells) p) (taken p))
    → RowPart job cells mid new
whole_columns {new = new} n {taken} lines_taken = record {
  n = n;
  last = new;
  taken = taken;
  lines_taken = lines_taken;
  part = λ p. [];
  reads = λ p. reads_nothing (reader_at new p);
  is_line = λ p. tt;
  left = λ p none. refl;
}

module _ {job : Paste} {cells : List ℕ} {old set now : List Reader} {was is : Output} {first store : Slots}
    (s : PasteInvariant job cells old set now was is first store) where
  abbrev shape : RowShape
  shape = job_shape job cells

  abbrev pub Ends : List Reader → Output → Slots → Result (Unit {0}) FlowFault → Type 0
  Ends new is' after result = PastePost job cells old new was is' first after result

  abbrev so_far : (p : ℕ) → LinesTaken job.terminator (reader_at set p) (reader_at now p)
      (length s.rows.taken_rows * uses_of cells p) (s.rows.ls p)
  so_far = s.rows.first_rows.lines_taken

  pub now_readable : BufferedRowsPre shape now
  now_readable = let r = set_readable s.starts in record {
    within = λ c d low. omega arith;
    unfailed = λ p some. (so_far p).fault ∙ r.unfailed p some;
    same_end = λ p some. (so_far p).reads.terminator ∙ r.same_end p some;
  }

  now_buffered : (p : ℕ) → 0 < uses_of cells p → length (reader_at now p).buffered ≤ BLOCK
  now_buffered p some = grind arith

  pub invariant_slots : length cells ≤ length store.lines
  invariant_slots = let k = kept_now _ s.kept in omega arith

  invariant_after : {new : List Reader} {written : List ℕ} (g : RowsTaken shape now new written) → {stored : Slots}
      → Kept cells first (λ p. s.rows.ls p ++ g.ls p) stored → {is' : Output} → PushEffect is is' written
      → is'.write_failed ≡ false → PasteInvariant job cells old set new was is' first stored
  invariant_after {written = written} g kept wrote clean = record {
    starts = s.starts;
    written = s.written ++ written;
    rows = rows_taken_trans s.rows g;
    wrote = push_trans _ _ _ _ _ s.clean s.wrote wrote;
    clean = clean;
    kept = kept;
  }

  -- Rows from the buffers.
  pub invariant_rows : {new : List Reader} {written : List ℕ} → RowsTaken shape now new written
      → {is' : Output} → PushEffect is is' written → is'.write_failed ≡ false
      → PasteInvariant job cells old set new was is' first store
  invariant_rows g = invariant_after g (λ top high. s.kept top (grind (arith, max_length-append)))

  abbrev no_more : RowsTaken shape now now []
  no_more = rows_taken_none

  pub invariant_written : {new : List Reader} {is' : Output} → RowsWritten shape now new is is'
      → is'.write_failed ≡ false → PasteInvariant job cells old set new was is' first store
  invariant_written p clean = invariant_rows p.rows p.wrote clean

  -- ---- at an exit

  -- More rows were pushed, and then a part of a row was read.
  module _ {mid new : List Reader} {written : List ℕ} (g : RowsTaken shape now mid written)
      (q : RowPart job cells mid new) where
    abbrev all_rows : RowsTaken shape set mid (s.written ++ written)
    all_rows = rows_taken_trans s.rows g

    abbrev all_lines : ℕ → Lines
    all_lines p = all_rows.ls p ++ q.taken p

    abbrev all_taken : (p : ℕ) → LinesTaken job.terminator (reader_at set p) (reader_at q.last p)
        (length all_rows.taken_rows * uses_of cells p + uses_of (take q.n cells) p) (all_lines p)
    all_taken p = taken_more refl (all_rows.first_rows.lines_taken p) (q.lines_taken p)

    abbrev bytes : ℕ → List ℕ
    bytes p = (all_taken p).bytes ++ q.part p

    abbrev given : ℕ → Received
    given p = received_with (bytes p) (reader_at new p)

    rows_after : (full : ℕ → Received) → AreAllConsistent (inputs_at cells) given (λ p. (full p).bytes)
        → ((p : ℕ) → (reader_at new p).eof ≡ true → (full p).eof ≡ true) → (later : List Lines)
        × (rows (columns cells (λ p. known_lines job.terminator (full p))) ≡ all_rows.taken_rows ++ later)
    rows_after full on ends =
        let front = λ (p : ℕ). (all_rows.first_rows.lines_taken p).bytes in
        let rest : ℕ → List ℕ = λ p. drop (length (front p)) (full p).bytes in
        let rest_is : (p : ℕ) → 0 < uses_of cells p → ((full p).bytes ≡ front p ++ rest p)
        × (IsDone (reader_at mid p) → (rest p ≡ []) × ((full p).eof ≡ true)) = λ p some.
        let k = on p (used_is_in cells p some) in
        let extra = (q.lines_taken p).bytes ++ q.part p in
        let more = extra ++ ((reader_at new p).buffered ++ k.rest) in
        let is : (full p).bytes ≡ front p ++ more = k.is ∙ simp append_assoc in
        let same = ap (drop (length (front p))) is ∙ drop_at (front p) more _ refl in
        rw same (
          is,
          λ done.
              let (none, empty, ended) = eof_gives_nothing _ _ _ done
              (advance_trans _ _ _ _ _ (q.lines_taken p).reads (q.reads p)) in
              ((λ i. none i ++ (empty i ++ k.whole ended i)), ends p ended),
        ) in
        let later : ℕ → Lines = λ p. known_lines job.terminator (record { bytes = rest p; eof = (full p).eof }) in (
          rows (columns cells later),
          ap rows (columns_same cells _ _
              (λ p some.
              let (is, may) = rest_is p some in
              ap (λ b. known_lines job.terminator (record { bytes = b; eof = (full p).eof })) is
              ∙ whole_lines_after (all_rows.first_rows.lines_taken p).came (rest p) (full p).eof may))
              ∙ rows_on all_rows.first_rows _ (grind arith),
        )

    rows_given : (later : List Lines)
        × (rows (columns cells (λ p. known_lines job.terminator (given p))) ≡ s.rows.taken_rows ++ later)
    rows_given =
        let (later, is) = rows_after _
        (λ p named. record { rest = []; is = sym (append-nil (given p).bytes); whole = λ ended. refl })
        (λ p ended. ended) in
        (g.taken_rows ++ later, is ∙ append_assoc s.rows.taken_rows g.taken_rows later)

    abbrev Cut : ℕ → Type 0
    Cut p = EarlierPart job.terminator ((length s.rows.taken_rows + 1) * uses_of cells p) (given p)

    -- An input that gave no more lines than one more row takes.
    cut_line : (p : ℕ) → 0 < uses_of cells p → reader_at new p ≡ reader_at q.last p → q.part p ≡ []
        → length g.taken_rows * uses_of cells p + uses_of (take q.n cells) p ≤ uses_of cells p → Cut p
    cut_line p some same none few = earlier_lines (reader_at new p) _
        (rw same ((all_taken p).buffered ((s.starts.are_set p).sound some).buffered)) (omega arith) (rw (
          none,
          append-nil (all_taken p).bytes,
          lines_are_given _ _ _ _ (all_taken p).came,
        ) (omega (
          arith,
          taken_at_most (all_taken p),
          ap (λ (n : ℕ). n * uses_of cells p) (length-append s.rows.taken_rows g.taken_rows),
        )))

    abbrev Bound : Slots → Type 0
    Bound = Kept cells first (λ p. all_lines p ++ q.part p ∷ [])

    -- Perhaps the store could not grow.
    module _ {is' : Output} (wrote : PushEffect is is' written) {after stored : Slots}
        (same : (after ≡ stored) ⊎ (after ≡ with_denied stored)) (bound : Bound stored)
        (cut : (p : ℕ) → 0 < uses_of cells p → Cut p) where
      abbrev begin : CallState ℕ
      begin = call_state (reader_at set) was first

      abbrev end : CallState ℕ
      end = call_state (reader_at new) is' after

      abbrev pushed : List ℕ
      pushed = s.written ++ written

      exit : (result : Result (Unit {0}) FlowFault)
          → CallOutcome (inputs_at cells) (paste_engine job cells) begin end given pushed (paste_end result)
          → DecidedIfReadFailed (inputs_at cells) (paste_engine job cells) begin end bytes pushed (paste_end result)
          → Ends new is' after result
      exit result ends decided =
          let (size, peak) : (length after.lines ≡ length stored.lines) × (after.peak ≡ stored.peak) = grind arith in
          let now_bound = kept_now _ bound in
          let progress : CallProgress (inputs_at cells) (paste_engine job cells) begin end bytes pushed = record {
            reads = λ p named. advance_trans _ _ _ _ _ (all_taken p).reads (q.reads p);
            untouched = λ p other. let none = not_in cells p other in
                q.left p none ∙ (all_taken p).none (rw none (omega (arith, uses_before cells q.n p)));
            never_failed = never_failed s.starts;
            writable = s.starts.writable;
            wrote = push_trans _ _ _ _ _ s.clean s.wrote wrote;
            is_prefix = λ texts a.
                let (later, is) = rows_after (λ p. record { bytes = texts p; eof = true }) a (λ p ended. refl) in
                record { rest = rows_text job later; is = grind (usual, all_rows.is) };
            -- Without its last bytes alone, no more output is determined than was pushed.
            bounded_lag = λ p named.
                let some = is_in_used cells p named in
                let k = cut p some in
                bounded_lag_after (λ g'. paste_decided job cells (update_at p (g' tt) given)) (λ u. given p) _ _ _
                (record {
                  before = λ u. record {
                    earlier = record { bytes = k.front; eof = false };
                    last = k.last;
                    split = k.split;
                    short = k.short;
                    eof = λ never. cc;
                  };
                  begins =
                      begins_earlier job cells given s.rows.taken_rows rows_given.0 s.rows.is rows_given.1 p some k;
                }) s.wrote s.clean _ _ wrote;
            peak = λ texts a.
                let k = bound (λ p. max_line_length job.terminator (texts p)) (λ p some. omega (
                  arith,
                  max_length-append (all_lines p) (q.part p ∷ []),
                  piece_longest _ _ _ _ (all_taken p).came _ _ (q.reads p) (q.is_line p) _
                      (a p (used_is_in cells p some)),
                )) in
                omega arith;
            slots = λ texts a. omega arith;
            least = omega arith;
            room = omega arith;
            terminator = λ p named.
                sym (ap (λ (r : Reader). r.terminator) ((s.starts.are_set p).set (is_in_used _ p named)));
          } in
          since_set s.starts (call_ends _ _ _ _ _ progress (paste_end result) ends decided)

    write_exit : {is' : Output} → PushEffect is is' written → is'.write_failed ≡ true → {after : Slots}
        → Bound after → ((p : ℕ) → 0 < uses_of cells p → Cut p)
        → ((p : ℕ) → (reader_at new p).failed ≡ (reader_at q.last p).failed)
        → Ends new is' after (Err Write)
    write_exit wrote fault bound cut same = exit wrote (inl refl) bound cut (Err Write) (record {
      write_failed = fault;
      unfailed = λ p named. same p ∙ (all_taken p).failed;
      not_denied = (kept_now _ bound).denied;
    }) tt

  -- the push of whole rows failed, after the first columns of the next row were read
  pub rows_write_failed : {mid new : List Reader} {copied : List ℕ} → RowsTaken shape now mid copied
      → (n : ℕ) {taken : ℕ → Lines}
      → ((p : ℕ) → LinesTaken job.terminator (reader_at mid p) (reader_at new p) (uses_of (take n cells) p) (taken p))
      → AreConsumed now new → {is' : Output} → PushEffect is is' copied → is'.write_failed ≡ true
      → Ends new is' store (Err Write)
  rows_write_failed {new = new} rows n b consumed wrote fault =
      write_exit rows (whole_columns n b) wrote fault (λ top high. s.kept top (grind (arith, max_length-append)))
      -- Without the bytes that came from the buffers.
      (λ p some.
      let given = (so_far p).bytes in
      let more = (rows.first_rows.lines_taken p).bytes ++ (b p).bytes in
      let reads = advance_trans _ _ _ _ _ (rows.first_rows.lines_taken p).reads (b p).reads in
      record {
        front = given;
        last = more ++ (reader_at new p).buffered;
        split = simp (append_assoc, append-nil);
        short = omega (
          arith,
          length-append more (reader_at new p).buffered,
          ap (λ r. r.pulled) (consumed.buffered p).is,
          now_buffered p some,
        );
        few = omega (
          arith,
          taken_at_most (so_far p),
          rw (append-nil given) at (complete_few (so_far p).came (reads_nothing _) tt),
        );
      }) (λ p. refl)

  row_kept : {n : ℕ} {begun : BegunText} {after : Slots} (a : RowFilledTo shape n now store begun after)
      → n ≤ length cells
      → Kept cells first (λ p. s.rows.ls p ++ a.filled.input_lines p) after
  row_kept a few top high =
      a.slots.kept first top (s.kept top (grind (arith, max_length-append)))
      (grind (arith, max_length-append, line_le_max_length, uses_before_lt))

  module _ {begun : BegunText} {after : Slots} (a : RowFilledTo shape (length cells) now store begun after) where
    pub row_slots : length cells ≤ length after.lines
    row_slots = omega (arith, invariant_slots)

    module _ (some : begun.any_line ≡ true) {is' : Output}
        (wrote : PushEffect is is' (begun.text ++ slots_text shape begun.count after)) where
      row_wrote : PushEffect is is' (cells_text shape 0 a.fields)
      row_wrote = rw (filled_to_text a row_slots) at wrote

      pub invariant_more : is'.write_failed ≡ false
          → PasteInvariant job cells old set begun.readers was is' first after
      invariant_more = invariant_after (row_taken a.filled some) (row_kept a (omega arith)) row_wrote

      pub paste_row_write_failed : is'.write_failed ≡ true → Ends begun.readers is' after (Err Write)
      paste_row_write_failed fault =
          let g = row_taken a.filled some in
          let q = whole_columns 0 (λ (p : ℕ). nothing_taken {end = job.terminator} {r = reader_at begun.readers p} refl)
          in write_exit g q row_wrote fault
          (λ top high. row_kept a (omega arith) top (grind (arith, max_length-append)))
          (λ p some. cut_line g q p some refl refl (omega arith)) (λ p. refl)

    module _ (none : begun.any_line ≡ false) where
      abbrev at_end : RowPart job cells now begun.readers
      at_end = whole_columns (length cells) a.filled.consumed.lines_taken

      done_by : (p : ℕ) → 0 < uses_of cells p → IsDone (reader_at begun.readers p)
      done_by p some =
          let all = ap (λ l. uses_of l p) (take_all (length cells) cells (omega arith)) in
          grind arith

      pub paste_done : {is' : Output} {cleared : Slots} → ClearSlotsPost cells after cleared → PushEffect is is' []
          → is'.write_failed ≡ false → Ends begun.readers is' cleared (Ok tt)
      paste_done {cleared = cleared} e wrote clean =
          let bound : Bound no_more at_end cleared =
          λ top high. e.kept first top (row_kept a (omega arith) top (grind (arith, max_length-append))) in
          let now_bound = kept_now _ bound in
          let unfailed = λ (p : ℕ) (named : is_in cells p ≡ true).
          (set_readable s.starts).unfailed p (is_in_used _ p named) in
          exit no_more at_end wrote (inl refl) bound (λ p some. cut_line no_more at_end p some refl refl
          (omega (arith, uses_before cells (length cells) p))) (Ok tt) (record {
            out = λ texts input. cc (
              append-nil s.written,
              columns_same cells (λ p. lines job.terminator (texts p)) s.rows.ls (λ p some.
                  let k = input p (used_is_in cells p some) in
                  let done = done_by p some in
                  let t = all_taken no_more at_end p in
                  ap (lines job.terminator) (k.is ∙ (λ i. ((t.bytes ++ []) ++ done.buffered i)
                  ++ k.whole done.eof i) ∙ simp append-nil) ∙ lines_are_given _ _ _ _ t.came
                  ∙ (λ i. (s.rows.ls p ++ []) ++ a.filled.none none p i) ∙ simp append-nil),
            );
            disorder = λ texts input. refl;
            ended = λ none p named. done_by p (is_in_used _ p named);
            fault = λ p named. (all_taken no_more at_end p).fault ∙ unfailed p named;
            short = λ p named. (all_taken no_more at_end p).short
                (((s.starts.are_set p).sound (is_in_used _ p named)).long (unfailed p named));
            unfailed = λ p named. (all_taken no_more at_end p).failed;
            clean = clean;
            not_denied = now_bound.denied;
            empty = omega (
              arith,
              cells_total cells (λ p. 0) cleared.lines (λ c low. omega (arith, ap length (e.empty c low)))
                  now_bound.others,
              sum_of_zeros cells,
            );
          }) tt

  -- The reader of a column gave only a part of a line.
  module _ {CellFailed : Reader → Reader → Slots → Slots → ℕ → Type 0} {new : List Reader} {after : Slots}
      (b : RowFailed CellFailed shape now new store after) (piece : List ℕ)
      (piece_reads : ReaderAdvance (reader_at b.begun.readers (get_or cells b.column 0))
      (reader_at new (get_or cells b.column 0)) piece)
      (free : IsLine (reader_at b.begun.readers (get_or cells b.column 0)).terminator piece) {is' : Output}
      (wrote : PushEffect is is' []) where
    abbrev here : ℕ
    here = get_or cells b.column 0

    here_used : 0 < uses_of cells here
    here_used = omega (arith, uses_before_lt _ _ b.within)

    abbrev part_to : ℕ → List ℕ
    part_to p = cond (p == here) piece []

    part_is : (p : ℕ) → ReaderAdvance (reader_at b.begun.readers p) (reader_at new p) (part_to p)
        × IsLine job.terminator (part_to p)
    part_is p = grind (arith, nat_tests, reads_nothing, here_used)

    abbrev row_to : RowPart job cells now new
    row_to = record {
      n = b.column;
      last = b.begun.readers;
      taken = b.filled_to.filled.input_lines;
      lines_taken = b.filled_to.filled.consumed.lines_taken;
      part = part_to;
      reads = λ p. (part_is p).0;
      is_line = λ p. (part_is p).1;
      left = λ p none. b.others p (λ same. absurd (omega (arith, here_used, ap (uses_of cells) same)));
    }

    bound_to : Bound no_more row_to b.buffered
    bound_to top high = row_kept b.filled_to (omega arith) top (grind (arith, max_length-append))

    bound_with_piece : Bound no_more row_to (with_line b.buffered b.column piece)
    bound_with_piece top high = slots_bound_line (bound_to top high) _ _ b.within
        (grind (arith, max_length-append, high here here_used))

    failed_to : (reader_at new here).failed ≡ (reader_at b.begun.readers here).failed
        → (p : ℕ) → (reader_at new p).failed ≡ (reader_at b.begun.readers p).failed
    failed_to same p = ⊎_elim (λ is. rw is same) (λ differ. cc (b.others p differ)) (cases_eq p here)

    -- That reader is the one that limits the rows.
    abbrev cut_here : Cut no_more row_to here
    cut_here = record {
      front = bytes no_more row_to here;
      last = (reader_at new here).buffered;
      split = refl;
      short = omega (arith, b.few (now_buffered here here_used));
      few = omega (
        arith,
        complete_few (all_taken no_more row_to here).came (part_is here).0 (part_is here).1,
        ap (λ (n : ℕ). n * uses_of cells here) (length-append s.rows.taken_rows []),
        taken_at_most (all_taken no_more row_to here),
        uses_before_lt cells b.column b.within,
      );
    }

    cut_to : (p : ℕ) → 0 < uses_of cells p → Cut no_more row_to p
    cut_to p some = ⊎_elim (λ same. rw same cut_here)
        (λ differ. cut_line no_more row_to p some (b.others p differ) (rw (ne_eqb p here differ) refl)
        (omega (arith, uses_before cells b.column p)))
        (cases_eq p _)

    paste_send_failed : is'.write_failed ≡ true → after ≡ b.buffered
        → (reader_at new here).failed ≡ (reader_at b.begun.readers here).failed → Ends new is' after (Err Write)
    paste_send_failed fault stored same =
        rw stored (write_exit no_more row_to wrote fault bound_to cut_to (failed_to same))

    paste_memory_failed : is'.write_failed ≡ false → after ≡ with_denied (with_line b.buffered b.column piece)
        → (reader_at new here).failed ≡ (reader_at b.begun.readers here).failed
        → 0 < length (reader_at new here).buffered
        → Ends new is' after (Err Memory)
    paste_memory_failed clean stored same left =
        exit no_more row_to wrote (inr stored) bound_with_piece cut_to (Err Memory) (record {
          denied = cc stored;
          unfailed = λ p named. failed_to same p ∙ (all_taken no_more row_to p).failed;
          clean = clean;
          left = grind (arith, used_is_in, here_used);
        }) tt

    paste_read_failed : is'.write_failed ≡ false → after ≡ with_line b.buffered b.column piece
        → HasReadCause (reader_at b.begun.readers here) (reader_at new here)
        → Ends new is' after (Err (Read here))
    paste_read_failed clean stored cause =
        exit no_more row_to wrote (inl stored) bound_with_piece cut_to (Err (Read here)) (record {
          named = used_is_in cells _ here_used;
          unfailed = never_failed s.starts _ (used_is_in cells _ here_used);
          cause = ⊎_elim inl (grind arith) cause;
          others = λ q named differ. cc (b.others q differ, (all_taken no_more row_to q).failed);
          clean = clean;
          not_denied = cc ((kept_now _ bound_with_piece).denied);
        }) (λ p named failed. ⊎_elim
        -- Nothing is buffered, so all output that is decided was pushed.
        (λ (failed, empty, going). let (later, is) = rows_given no_more row_to in
        rw (append-nil s.written) (decided_is_prefix job cells (given no_more row_to) s.rows.taken_rows later
        s.rows.is is here here_used cut_here (cc (append-nil (bytes no_more row_to here))) going))
        (λ (long, same). cc (failed_to same p, (all_taken no_more row_to p).failed, never_failed s.starts p named))
        cause)

  pub paste_fill_failed : (new : List Reader) {after : Slots} (into : List ℕ) {is' : Output} (e : FlowFault)
      → RowFilled shape now store new after into (Err e) → PushEffect is is' []
      → (fault : is'.write_failed ≡ is_write_fault {X = Unit {0}} (Err e))
      → Ends new is' after (Err e)
  paste_fill_failed new into (Read input) (f, named) wrote clean =
      let k = f.failure in
      rw named (paste_read_failed f k.piece k.faults.reads k.faults.whole wrote clean k.stored k.cause)
  paste_fill_failed new into Write f wrote fault =
      let (same, kept, going) = f.failure in
      paste_send_failed f [] (rw same (reads_nothing _)) tt wrote fault kept (ap (λ r. r.failed) same)
  paste_fill_failed new into Memory f wrote clean =
      let k = f.failure in
      paste_memory_failed f k.piece k.faults.reads k.faults.whole wrote clean k.stored k.failed k.left
