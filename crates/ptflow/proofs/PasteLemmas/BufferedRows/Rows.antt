-- Lines and rows that were taken from readers compose. A row is filled column by column: the copied text holds its
-- first fields, the slots hold the others. A step changes one reader only. A filled row is a row that was taken, since
-- each column takes one line.
pub mod Grid
use Rattle.ptflow.proofs
pub use proofs.Common.{Err, None, Ok, get_or-take, set, take-append-drop, ◌||◌, ◌≢◌, drop-set-lt, get_or-set_other}
pub use proofs.Common.{get_or-set_same, get_or_append_left, get_or_default, get_or_push, length-set, length-take-le}
pub use proofs.Common.{take-take, take_all, sum_by-append, sum_by, advance_trans, lines_of_unlines, unlines-append}
pub use proofs.Common.{FillPost, AdvanceOk, IsDone, IsSound, Reader, ReaderAdvance, budget, reader_at, Slots, line}
pub use proofs.Common.{total_bytes, with_line, AddedSlots, AreLines, max_length, SetTerminatorsPost, FillCellPost, Read}
pub use proofs.Common.{SlotsBound, SlotsKept, RowFilledTo, RowFilled, RowShape, BegunText, CellsFilled, CellsTaken}
pub use proofs.Common.{usual, after_cell, cells_text, slots_text, AreReceivedLines, LinesTaken, BufferedRowsPre, Memory}
pub use proofs.Common.{AreFirstRows, take-append-le, RowsTaken, CopyColumnsPost, CopyRowsPost, FlowFault, Write, rules}
pub use proofs.Passes.Exits.{lines_none, lines_are_given, lines_more, eof_gives_nothing}
pub use Rattle.std.proofs.Math.Bool.{or-true, or-false}
use Rattle.std.proofs.lemmas.List.Sums.{sum_by-take-drop}
pub use Grid.*
use Rattle.std.proofs.Common.{arith}

pub AreLines-append : (end : ℕ) (xs ys : Lines) → AreLines end xs → AreLines end ys → AreLines end (xs ++ ys)
AreLines-append end [] ys p q = q
AreLines-append end (x ∷ xs) ys (line, more) q = (line, AreLines-append end xs ys more q)

pub none_received : {end : ℕ} {b c : Reader} {bytes : List ℕ} {ls : Lines} → IsDone b → ReaderAdvance b c bytes
    → AreReceivedLines end c bytes ls → ls ≡ []
none_received done reads k =
    let (none, empty, eof) = eof_gives_nothing _ _ _ done reads in
    cc (lines_are_given _ _ _ _ k)

pub taken_at_most : {end : ℕ} {b c : Reader} {n : ℕ} {ys : Lines} → LinesTaken end b c n ys → length ys ≤ n
taken_at_most t = grind arith

pub none_at_eof : {end : ℕ} {b c : Reader} {n : ℕ} {ys : Lines} → LinesTaken end b c n ys → IsDone b → ys ≡ []
none_at_eof t done = none_received done t.reads t.came

pub nothing_taken : {end : ℕ} {r : Reader} {n : ℕ} → n ≡ 0 → LinesTaken end r r n []
nothing_taken = grind arith

abbrev pub taken_more : {end : ℕ} {a b c : Reader} {k m n : ℕ} {xs ys : Lines} → k ≡ m + n
    → LinesTaken end a b m xs → LinesTaken end b c n ys → LinesTaken end a c k (xs ++ ys)
taken_more all p q = record {
  bytes = p.bytes ++ q.bytes;
  reads = advance_trans _ _ _ _ _ p.reads q.reads;
  failed = q.failed ∙ p.failed;
  fault = q.fault ∙ p.fault;
  short = λ h. q.short (p.short h);
  buffered = λ h. q.buffered (p.buffered h);
  none = search rules;
  came = search (rules, unlines-append, AreLines-append, lines_of_unlines, eof_gives_nothing, none_received);
  enough = grind usual;
}

pub taken_by : {end n : ℕ} {b c : Reader} {bytes : List ℕ} {ls : Lines} → AdvanceOk b c bytes → b.fault ≡ None
    → IsSound c → AreReceivedLines end c bytes ls → (length ls ≡ n) ⊎ (IsDone c × (length ls ≤ n)) → (n ≡ 0 → c ≡ b)
    → LinesTaken end b c n ls
taken_by = grind arith

-- ---- the text of a row

module _ (row : RowShape) where
  pub cells_text-append : (c : ℕ) (xs ys : Lines)
      → cells_text row c (xs ++ ys) ≡ cells_text row c xs ++ cells_text row (c + length xs) ys
  cells_text-append c [] ys = search rules
  cells_text-append c (x ∷ xs) ys = grind (usual, cells_text-append (c + 1) xs ys)

  -- From column c to the last one.
  pub row_text : (c : ℕ) (xs : Lines) → c + length xs ≡ length row.cells → 0 < length xs
      → cells_text row c xs ≡ join_with_cycle row.delims c xs ++ row.terminator ∷ []
  row_text c [] all some = absurd (omega arith)
  row_text c (x ∷ []) all some = search rules
  row_text c (x ∷ y ∷ more) all some = grind (usual, row_text (c + 1) (y ∷ more) (omega arith) (omega arith))

-- ---- rows that were taken

module _ {row : RowShape} where
  -- rows that were taken come first for every continuation of the inputs
  pub rows_on : {old new : List Reader} {ls : ℕ → Lines} {taken_rows : List Lines}
      → AreFirstRows row old new ls taken_rows → (more : ℕ → Lines)
      → ((input : ℕ) → 0 < uses_of row.cells input → IsDone (reader_at new input) → more input ≡ [])
      → rows (columns row.cells (λ input. ls input ++ more input)) ≡ taken_rows ++ rows (columns row.cells more)
  rows_on {ls = ls} {taken_rows} t more may = cc (
      rows-append row.cells (length taken_rows) ls more
      (λ input some. grind arith))

  abbrev pub rows_taken_none : {old : List Reader} → RowsTaken row old old []
  rows_taken_none = record {
    ls = λ p. [];
    taken_rows = [];
    first_rows = record {
      lines_taken = λ p. nothing_taken (omega arith);
      are = grid_none row.cells (λ p. []) (λ p some. refl);
      count = refl;
    };
    least = omega arith;
    is = refl;
  }

  abbrev pub rows_taken_trans : {a b c : List Reader} {xs ys : List ℕ} → RowsTaken row a b xs → RowsTaken row b c ys
      → RowsTaken row a c (xs ++ ys)
  rows_taken_trans p q = record {
    ls = λ input. p.ls input ++ q.ls input;
    taken_rows = p.taken_rows ++ q.taken_rows;
    first_rows = record {
      lines_taken = λ input. taken_more
          (ap (λ (n : ℕ). n * uses_of row.cells input) (length-append p.taken_rows q.taken_rows) ∙ omega arith)
          (p.first_rows.lines_taken input) (q.first_rows.lines_taken input);
      are = cc (
        rows_on p.first_rows q.ls (λ input some done. none_at_eof (q.first_rows.lines_taken input) done),
        q.first_rows.are,
      );
      count = q.first_rows.count ∙ p.first_rows.count;
    };
    least = omega arith;
    is = grind usual;
  }

module _ {row : RowShape} {old new : List Reader} {fields : Lines}
    {any_line : Bool} (r : CellsFilled row (length row.cells) old new fields any_line) (some : any_line ≡ true) where
  abbrev pub row_taken : RowsTaken row old new (cells_text row 0 fields)
  row_taken = record {
    ls = r.input_lines;
    taken_rows = fields ∷ [];
    first_rows = record {
      lines_taken = λ p. grind usual;
      are =
          let (c, low, first) = r.some some in
          cc (
            for_each_cell_unique (top_of row.cells r.input_lines) row.cells fields [] r.consumed.width
                r.consumed.fields_taken,
            grid_step row.cells r.input_lines c low (omega arith),
            grid_none row.cells (after_row row.cells r.input_lines) (grind usual),
          );
      count = r.consumed.count;
    };
    least = r.least;
    is = search (rules, row_text);
  }

-- ---- the slots of a row

pub cells_total : (cells : List ℕ) (top : ℕ → ℕ) (ls : Lines) → ((c : ℕ) → c < length cells
    → length (get_or ls c []) ≤ top (get_or cells c 0))
    → total_bytes (drop (length cells) ls) ≡ 0 → total_bytes ls ≤ sum_by top cells
cells_total [] top ls short others = omega arith
cells_total (x ∷ cells) top [] short others = omega arith
cells_total (x ∷ cells) top (l ∷ ls) short others = omega (
  arith,
  sum_by-cons length l ls,
  sum_by-cons top x cells,
  short 0 (omega arith),
  cells_total cells top ls (λ c low. short (suc c) (omega arith)) others,
)

pub sum_of_zeros : (cells : List ℕ) → sum_by (λ (p : ℕ). 0) cells ≡ 0
sum_of_zeros [] = refl
sum_of_zeros (x ∷ cells) = omega (arith, sum_of_zeros cells)

pub slots_bound_start : {cells : List ℕ} {top : ℕ → ℕ} {before store : Slots} → AddedSlots before store (length cells)
    → store.denied ≡ false → total_bytes store.lines ≡ 0
    → store.peak ≡ before.peak → SlotsBound cells top before store
slots_bound_start {cells} {store = store} adds denied empty peak =
    grind (usual, sum_by-take-drop length store.lines (length cells))

pub slots_bound_line : {cells : List ℕ} {top : ℕ → ℕ} {before store : Slots} → SlotsBound cells top before store
    → (column : ℕ) (bytes : List ℕ) → column < length cells
    → length bytes ≤ top (get_or cells column 0) → SlotsBound cells top before (with_line store column bytes)
slots_bound_line {cells} {top} {before} {store} k column bytes within fits = record {
  denied = k.denied;
  adds = search rules;
  short = short;
  others = others;
  peak = omega (arith, cells_total _ top _ short others);
}
  where
    lines : Lines
    lines = set store.lines column bytes

    short : (c : ℕ) → c < length cells → length (get_or lines c []) ≤ top (get_or cells c 0)
    short c low =
        grind (arith, get_or-set_same store.lines column bytes [], get_or-set_other store.lines column c bytes [])

    others : total_bytes (drop (length cells) lines) ≡ 0
    others = ap total_bytes (drop-set-lt (length cells) store.lines column bytes within) ∙ k.others

-- ---- the slots while a row is filled

pub line_le_max_length : (ls : Lines) (j : ℕ) → length (get_or ls j []) ≤ max_length ls
line_le_max_length [] j = omega arith
line_le_max_length (line ∷ ls) zero = omega arith
line_le_max_length (line ∷ ls) (suc j) = omega (arith, line_le_max_length ls j)

-- Fields that are in no slot.
slots_kept_more : {cells : List ℕ} {fields : Lines} {before store : Slots} → SlotsKept cells fields before store
    → (more : Lines) → SlotsKept cells (fields ++ more) before store
slots_kept_more s _ = grind usual

-- ---- readers by their indices

-- The reader that an index expression read.
pub at_index : (readers : List Reader) (input : ℕ) (r : Reader) → input < length readers
    → get_or readers input r ≡ reader_at readers input
at_index _ _ r low = get_or_default _ _ r _ low

-- Column n is read next, from the readable reader `b`.
pub record IsNextReader (row : RowShape) (now : List Reader) (n : ℕ) (b : Reader) : Type 0 where
  pub low : n < length row.cells
  pub within : get_or row.cells n 0 < length now
  pub is_read : b ≡ reader_at now (get_or row.cells n 0)
  pub clean : b.fault ≡ None
  pub ends : b.terminator ≡ row.terminator

pub next_reader : {row : RowShape} {now : List Reader} {n : ℕ} → BufferedRowsPre row now → n < length row.cells
    → (unread : Reader) → IsNextReader row now n (get_or now (get_or row.cells n 0) unread)
next_reader {row} {now} {n} ready low unread =
    let input = get_or row.cells n 0 in
    let within = ready.within n 0 low in
    let is = at_index now _ _ within in
    let used : 0 < uses_of row.cells input = omega (arith, uses_before_lt _ n low) in
    record {
      low = low;
      within = within;
      is_read = is;
      clean = rw is (ready.unfailed input used);
      ends = rw is (ready.same_end input used);
    }

pub set_terminator_more : (end : ℕ) (cells : List ℕ) (i : ℕ) (old now : List Reader) (r : Reader) → i < length cells
    → get_or cells i 0 < length now → SetTerminatorsPost end (take i cells) old now
    → r ≡ record (reader_at now (get_or cells i 0)) { terminator = end } → IsSound r
    → SetTerminatorsPost end (take (i + 1) cells) old (set now (get_or cells i 0) r)
set_terminator_more = grind usual

-- ---- the lines of a row

pub taken_from_one : {end : ℕ} (now : List Reader) {input : ℕ} {r : Reader} {ls : Lines} (most : ℕ → ℕ)
    → input < length now → LinesTaken end (reader_at now input) r (most input) ls
    → ((q : ℕ) → q ≢ input → most q ≡ 0) → (q : ℕ)
    → LinesTaken end (reader_at now q) (reader_at (set now input r) q) (most q) (lines_of_input input ls q)
taken_from_one now _ within t none = search rules

module _ {row : RowShape} {n : ℕ} {old now : List Reader} {fields : Lines} {input_lines : ℕ → Lines}
    (t : CellsTaken row n old now fields input_lines) (low : n < length row.cells)
    (within : get_or row.cells n 0 < length now) {r : Reader} {ls : Lines} {field : List ℕ}
    (lines_taken : LinesTaken row.terminator (reader_at now (get_or row.cells n 0)) r 1 ls)
    (there : field ≡ get_or (input_lines (get_or row.cells n 0) ++ ls)
    (uses_of (take n row.cells) (get_or row.cells n 0)) []) where
  abbrev cells : List ℕ
  cells = row.cells

  abbrev input : ℕ
  input = get_or cells n 0

  abbrev more_lines : ℕ → Lines
  more_lines = lines_of_input input ls

  taken_next : (q : ℕ) → LinesTaken row.terminator (reader_at now q) (reader_at (set now input r) q)
      (cond (input == q) 1 0) (more_lines q)
  taken_next = taken_from_one now _ within (rw (eq-eqb input input refl) lines_taken) (grind arith)

  earlier_cell : (c : ℕ) → c < n → let p = get_or cells c 0 in let j = uses_of (take c cells) p in
      get_or (input_lines p ++ more_lines p) j [] ≡ get_or (input_lines p) j []
  earlier_cell c less =
      let p = get_or cells c 0 in
      let below = rw (take-take c n cells (omega arith), get_or-take n cells c 0 less) at
      (uses_before_lt (take n cells) c (omega (arith, length-take-le n cells (omega arith)))) in
      let none = none_at_eof (taken_next p) in
      grind (arith, append-nil (input_lines p), get_or_append_left)

  cells_taken_more : CellsTaken row (n + 1) old (set now input r) (fields ++ field ∷ [])
      (λ q. input_lines q ++ more_lines q)
  cells_taken_more = record {
    lines_taken = λ q. taken_more (uses_more _ n q low) (t.lines_taken q) (taken_next q);
    width = omega (arith, length-append fields (field ∷ []));
    fields_taken = search (rules, get_or_push, get_or_append_left, earlier_cell);
    count = length-set now input r ∙ t.count;
  }

pub fill_starts : {row : RowShape} {old : List Reader} → CellsFilled row 0 old old [] false
fill_starts = record {
  input_lines = λ input. [];
  consumed = search rules;
  some = λ any_line. cc;
  none = λ h input. refl;
  least = omega arith;
  less = λ any_line. cc;
}

-- A line, or nothing at the end of the input.
abbrev pub FieldTaken : ℕ → Reader → Reader → List ℕ → Bool → Type 0
FieldTaken end b r field true = LinesTaken end b r 1 (field ∷ []) × (budget r < budget b)
FieldTaken end b r field false = LinesTaken end b r 1 [] × (field ≡ []) × (budget r ≤ budget b)

field_in_slot : (end : ℕ) (b r : Reader) (before after : Slots) (slot : ℕ) (has : Bool) → b.fault ≡ None
    → b.terminator ≡ end → IsSound r → FillPost b r before after slot (Ok has)
    → (field : List ℕ) × (after ≡ with_line before slot field) × FieldTaken end b r field has
field_in_slot end b r before after slot true clean same sound e =
    let came = lines_more end b [] [] (lines_none end b) r before after slot e same in
    (e.line, e.stored, (taken_by e.advance_ok clean sound came (inl refl) (λ none. cc), e.less))
field_in_slot end b r before after slot false clean same sound (advance_ok, done, kept) = search rules

module _ {row : RowShape} {n : ℕ} {old now : List Reader} {fields : Lines} {any_line : Bool}
    (f : CellsFilled row n old now fields any_line) {b : Reader} (x : IsNextReader row now n b) where
  abbrev p : ℕ
  p = get_or row.cells n 0

  module _ (r : Reader) where
    all_budgets : sum_by budget (set now p r) + budget b ≡ sum_by budget now + budget r
    all_budgets = grind usual

    pub fill_next : (field : List ℕ) (has : Bool) → FieldTaken row.terminator b r field has
        → CellsFilled row (n + 1) old (set now p r) (fields ++ field ∷ []) (any_line || has)
    fill_next field true (t, fewer) =
        let lines_taken = rw x.is_read at t in
        let here = update_here p (field ∷ []) (λ q. []) p refl in
        let less : sum_by budget (set now p r) < sum_by budget old = omega (arith, all_budgets) in
        rw or-true (record {
          input_lines = λ q. f.input_lines q ++ lines_of_input p (field ∷ []) q;
          consumed = cells_taken_more f.consumed x.low x.within lines_taken (search (rules, get_or_push));
          some = λ h. (n, omega arith, grind usual);
          none = λ h. cc;
          least = omega arith;
          less = λ h. less;
        })
    fill_next field false (t, empty, fewer) =
        let same : (q : ℕ) → f.input_lines q ++ lines_of_input p [] q ≡ f.input_lines q = λ q.
        grind (arith, append-nil (f.input_lines q)) in
        rw or-false (record {
          input_lines = λ q. f.input_lines q ++ lines_of_input p [] q;
          consumed = cells_taken_more f.consumed x.low x.within (rw x.is_read at t) (grind usual);
          some = search rules;
          none = λ h q. same q ∙ f.none h q;
          least = omega (arith, all_budgets);
          less = λ h. omega (arith, all_budgets);
        })

-- After the copy of the field in the slot of column n.
abbrev pub with_slot : RowShape → ℕ → Slots → BegunText → BegunText
with_slot row n store now = record now { count = n + 1; text = now.text ++ (line store n ++ after_cell row n) }

module _ {row : RowShape} where
  -- The begun row was moved to the front of the buffer.
  pub filled_to_starts : {old : List Reader} {copied : List ℕ} {begun moved : BegunText} {store : Slots}
      (p : CopyRowsPost row old copied begun) → moved ≡ begun → RowFilledTo row moved.count p.mid store moved store
  filled_to_starts p same = grind usual

  module _ {n : ℕ} {from : List Reader} {first store : Slots} {now : BegunText}
      (a : RowFilledTo row n from first now store)
      {b : Reader} (x : IsNextReader row now.readers n b) where
    pub filled_to_next : (r : Reader) (after : Slots) → n < length store.lines → IsSound r → (has : Bool)
        → FillPost b r store after n (Ok has)
        → RowFilledTo row (n + 1) from first
        (record now { readers = set now.readers (get_or row.cells n 0) r; any_line = now.any_line || has }) after
    filled_to_next r _ room sound has e =
        let (field, stored, taken) = field_in_slot _ b r _ _ n has x.clean x.ends sound e in
        let width = a.filled.consumed.width in
        let fits : now.count ≤ length a.fields = omega arith in
        rw stored (record {
          fields = a.fields ++ field ∷ [];
          filled = fill_next a.filled x r _ has taken;
          within = omega arith;
          is = grind (arith, a.is, take-append-le);
          held = grind usual;
          slots = record {
            same = length-set _ n field ∙ a.slots.same;
            kept = λ start top k high. slots_bound_line ((slots_kept_more a.slots _).kept start top k high) n _ x.low
                (grind (arith, high n, length-append, get_or_push));
          };
        })

    pub filled_to_failed : (r : Reader) (after : Slots) (into : List ℕ) (e : FlowFault)
        → FillCellPost (get_or row.cells n 0) n b r store after (Err e)
        → RowFilled row from first (set now.readers (get_or row.cells n 0) r) after into (Err e)
    filled_to_failed r after into (Read input) (p, sound, named) = (
      record {
        column = n;
        within = x.low;
        begun = now;
        buffered = store;
        filled_to = a;
        failure = search rules;
        others = search rules;
        few = search rules;
      },
      named,
    )
    filled_to_failed r after into Write (same, kept, going) = search rules
    filled_to_failed r after into Memory (p, sound) = search rules

  pub filled_to_copied : {n : ℕ} {from : List Reader} {first store : Slots} {now : BegunText}
      → RowFilledTo row (n + 1) from first now store → now.count ≡ n
      → RowFilledTo row (n + 1) from first (with_slot row n store now) store
  filled_to_copied = grind (usual, cells_text-append)

  pub filled_to_columns : {from : List Reader} {first store : Slots} {now next : BegunText}
      → RowFilledTo row now.count from first now store → CopyColumnsPost row now next
      → RowFilledTo row next.count from first next store
  filled_to_columns a p = record {
    fields = a.fields ++ p.fields;
    filled = p.filled _ a.fields a.filled;
    within = omega arith;
    is = search (rules, take_all, cells_text-append, length-append);
    held = λ c over under. absurd (omega arith);
    slots = slots_kept_more a.slots _;
  }

  pub filled_to_text : {from : List Reader} {first store : Slots} {now : BegunText}
      (a : RowFilledTo row (length row.cells) from first now store) → length row.cells ≤ length store.lines
      → now.text ++ slots_text row now.count store ≡ cells_text row 0 a.fields
  filled_to_text {store = store} {now} a room =
      let n = length row.cells in
      let k = now.count in
      let front = take k a.fields in
      let slots = take n store.lines in
      let long = length-take-le k a.fields (omega arith) in
      let same = ext_get_or [] (drop k slots) (drop k a.fields) (grind usual)
      (grind usual) in
      let here : k ≡ 0 + length front = omega arith in
      cc (cells_text-append row 0 front (drop k a.fields), take-append-drop k a.fields)

-- ---- the readers after a read

pub readable_after : {row : RowShape} {now : List Reader} {n : ℕ} {b : Reader} → IsNextReader row now n b → (r : Reader)
    → BufferedRowsPre row now → (before after : Slots) (slot : ℕ) (has : Bool)
    → FillPost b r before after slot (Ok has) → BufferedRowsPre row (set now (get_or row.cells n 0) r)
readable_after = search rules
