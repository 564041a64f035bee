-- The columns and rows of a grid of lines, and which columns use an input. If each input gives one line to each of its
-- columns, the first row is removed. So, by induction, the rows of inputs that are split after the same row are those
-- of the first parts, and then those of the second parts (`PasteOfParts`).
use Rattle.ptflow.proofs
pub use proofs.Common.{Bool, List, [], ap, arith, cond, drop, false, get_or, inl, inr, length, length-append, usual}
pub use proofs.Common.{length-drop, map, max, refl, suc, sym, take, true, zero, ℕ, ⊎_elim, ◌%◌, ◌*◌, ◌++◌, ◌+◌, ◌-◌}
pub use proofs.Common.{◌<◌, ◌==◌, ◌∙◌, ◌∷◌, ◌≡◌, ◌≤◌, ◌⊎◌, add-mod_left, mod-eq_of_lt, cases_lt, eq-eqb}
pub use proofs.Common.{get_or_after_one, append-nil, ext_get_or, get_or-map, nil_from_length, get_or-enumerate_from}
pub use proofs.Common.{length-enumerate_from, sum_by-cons, sum_by-take-le, map-map, enumerate_from, range_with_len}
pub use proofs.Common.{fold, the_lines_of_parts, lines, unlines, select_from, PasteOfParts, update_at, join_with_cycle}
pub use proofs.Common.{subst, Paste, Received, is_in, leb}
pub use Rattle.std.proofs.lemmas.List.Sums.{sum_by_more}
pub use Rattle.ptflow.specs.PasteText.{columns, every_kth, row_count, is_row_known, paste_decided, row_at, rows}
pub use Rattle.ptflow.specs.PasteText.{uses_of}

abbrev pub Lines : Type 0
Lines = List (List ℕ)

-- ---- every k-th line

module _ {k j : ℕ} (low : j < k) where
  chosen_apart : (n : ℕ) (xs : Lines) → select_from (λ i. i % k == j) (k + n) xs
      ≡ select_from (λ i. i % k == j) n xs
  chosen_apart n [] = refl
  chosen_apart n (x ∷ xs) =
      let next : k + n + 1 ≡ k + (n + 1) = omega arith in
      cc (add-mod_left k n, chosen_apart (n + 1) xs)

  -- Of the first k lines, from the n-th one on, the j-th is chosen.
  chosen : (n b : ℕ) (xs : Lines) → n + b ≡ k → select_from (λ i. i % k == j) n xs
      ≡ cond (leb n j) (take 1 (drop (j - n) xs)) [] ++ every_kth k j (drop b xs)
  chosen n zero xs all = let same : n ≡ k + 0 = omega arith in grind (arith, chosen_apart 0 xs)
  chosen n (suc b) [] all = grind usual
  chosen n (suc b) (x ∷ xs) all =
      let same : n % k ≡ n = mod-eq_of_lt (omega arith) in
      let next : n < j → j - n ≡ suc (j - (n + 1)) = λ less. omega arith in
      let more = chosen (n + 1) b xs (omega arith) in
      ⊎_elim (λ less. grind arith) (grind arith) (cases_lt n j)

  column_is : (ls : Lines) → every_kth k j ls ≡ take 1 (drop j ls) ++ every_kth k j (drop k ls)
  column_is ls = grind (arith, chosen 0 k ls (omega arith))

  every_kth_rest : (ls : Lines) → drop 1 (every_kth k j ls) ≡ every_kth k j (drop k ls)
  every_kth_rest ls = grind (usual, column_is ls, length-drop j ls)

  pub every_kth_short : (r : ℕ) (ls : Lines) → length ls ≤ j + r * k → length (every_kth k j ls) ≤ r
  every_kth_short zero ls few = grind (usual, column_is ls)
  every_kth_short (suc r) ls few =
      omega (
        arith,
        every_kth_short r (drop k ls) (omega (arith, length-drop k ls)),
        ap length (every_kth_rest ls),
        length-drop 1 (every_kth k j ls),
      )

-- ---- rows

row_count_from : (a : ℕ) (cols : List Lines) → fold max (a - 1) (map length (map (drop 1) cols)) ≡ fold max a
    (map length cols) - 1
row_count_from a [] = refl
row_count_from a (c ∷ cols) = grind (arith, row_count_from (max a (length c)) cols)

row_later : (cols : List Lines) (r : ℕ) → row_at (map (drop 1) cols) r ≡ row_at cols (r + 1)
row_later [] r = refl
row_later (c ∷ cols) r =
    let next : 1 + r ≡ r + 1 = omega arith in
    λ i. (get_or_after_one c r [] ∙ ap (λ (n : ℕ). get_or c n []) next) i ∷ row_later cols r i

rows_later : (cols : List Lines) (a h : ℕ)
    → map (row_at cols) (range_with_len (a + 1) h) ≡ map (row_at (map (drop 1) cols)) (range_with_len a h)
rows_later cols a zero = refl
rows_later cols a (suc h) = λ i. sym (row_later cols a) i ∷ rows_later cols (a + 1) h i

rows_step : (cols : List Lines) → 0 < row_count cols → rows cols ≡ row_at cols 0 ∷ rows (map (drop 1) cols)
rows_step cols some =
    let h = row_count (map (drop 1) cols) in
    let all : row_count cols ≡ suc h = omega (arith, row_count_from 0 cols) in
    rw all (λ i. row_at cols 0 ∷ rows_later cols 0 h i)

row_count_bound : (a : ℕ) (cols : List Lines) (c : ℕ) → max a (length (get_or cols c [])) ≤ fold max a
    (map length cols)
row_count_bound a [] c = omega arith
row_count_bound a (col ∷ cols) zero = omega (arith, row_count_bound (max a (length col)) cols 0)
row_count_bound a (col ∷ cols) (suc c) = omega (arith, row_count_bound (max a (length col)) cols c)

no_row : (cells : List (ℕ × ℕ)) → row_count (map (λ cell. []) cells) ≡ 0
no_row [] = refl
no_row (c ∷ cells) = no_row cells

-- ---- columns and their inputs

-- A value for each column, from its index and that of its input.
abbrev pub for_each_cell : {Y : Type 0} → (ℕ → ℕ → Y) → List ℕ → List Y
for_each_cell f cells = map (λ (cell : ℕ × ℕ). f cell.0 cell.1) (enumerate_from 0 cells)

get_or-for_each_cell : {Y : Type 0} (f : ℕ → ℕ → Y) (cells : List ℕ) (c : ℕ) (d : Y) → c < length cells
    → get_or (for_each_cell f cells) c d ≡ f c (get_or cells c 0)
get_or-for_each_cell f cells c d low =
    let same : 0 + c ≡ c = omega arith in cc (
      get_or-map _ (enumerate_from 0 cells) c (0, 0) d (omega (arith, length-enumerate_from 0 cells)),
      get_or-enumerate_from 0 _ c _ low,
    )

pub for_each_cell_unique : {Y : Type 0} (f : ℕ → ℕ → Y) (cells : List ℕ) (ys : List Y) (d : Y)
    → length ys ≡ length cells → ((c : ℕ) → c < length cells → get_or ys c d ≡ f c (get_or cells c 0))
    → ys ≡ for_each_cell f cells
for_each_cell_unique f cells ys d long same =
    ext_get_or d ys (for_each_cell f cells) (grind (usual, length-enumerate_from))
    (grind (arith, get_or-for_each_cell))

for_each_cell_same : {Y : Type 0} (f g : ℕ → ℕ → Y) (cells : List ℕ) → ((c : ℕ) → c < length cells
    → f c (get_or cells c 0) ≡ g c (get_or cells c 0)) → for_each_cell f cells ≡ for_each_cell g cells
for_each_cell_same f g cells same = for_each_cell_unique g _ _ (f 0 0)
    (grind (usual, length-enumerate_from)) (λ c low. get_or-for_each_cell f _ c _ low ∙ same c low)

-- ---- how many columns use an input

pub last_use : (cells : List ℕ) (p : ℕ) → 0 < uses_of cells p → (c : ℕ) × (c < length cells) × (get_or cells c 0 ≡ p)
    × (uses_of cells p ≡ uses_of (take c cells) p + 1)
last_use [] p some = absurd (omega arith)
last_use (x ∷ cells) p some =
    let first = sum_by-cons (λ y. cond (y == p) 1 0) x cells in
    ⊎_elim
    (λ more.
    let (c, low, is, count) = last_use cells p more in
    (suc c, omega arith, is, grind usual))
    (grind arith) (cases_lt 0 _)

module _ (cells : List ℕ) where
  pub uses_more : (c p : ℕ) → c < length cells
      → uses_of (take (c + 1) cells) p ≡ uses_of (take c cells) p + cond (get_or cells c 0 == p) 1 0
  uses_more c p low = sum_by_more _ _ c 0 low

  pub uses_before : (c p : ℕ) → uses_of (take c cells) p ≤ uses_of cells p
  uses_before c p = sum_by-take-le _ _ c

  pub uses_before_lt : (c : ℕ) → c < length cells → uses_of (take c cells) (get_or cells c 0) < uses_of cells
      (get_or cells c 0)
  uses_before_lt c low = grind (arith, uses_more c (get_or cells c 0) low, uses_before (c + 1) (get_or cells c 0))

  -- ---- one row of a grid

  -- A column's lines, and the first of them.
  abbrev pub column_of : (ℕ → Lines) → ℕ → ℕ → Lines
  column_of ins c p = every_kth (uses_of cells p) (uses_of (take c cells) p) (ins p)

  abbrev pub top_of : (ℕ → Lines) → ℕ → ℕ → List ℕ
  top_of ins c p = get_or (ins p) (uses_of (take c cells) p) []

  pub column_at : (ins : ℕ → Lines) (c : ℕ) → c < length cells → get_or (columns cells ins) c [] ≡ column_of ins c
      (get_or cells c 0)
  column_at ins c low = get_or-for_each_cell _ _ c [] low

  pub columns_same : (f g : ℕ → Lines) → ((p : ℕ) → 0 < uses_of cells p → f p ≡ g p)
      → columns cells f ≡ columns cells g
  columns_same f g same = for_each_cell_same _ _ _ (grind usual)

  pub row_is : (ins : ℕ → Lines) (r : ℕ) (f : ℕ → ℕ → List ℕ) → ((c : ℕ) → c < length cells
      → get_or (column_of ins c (get_or cells c 0)) r [] ≡ f c (get_or cells c 0))
      → row_at (columns cells ins) r ≡ for_each_cell f cells
  row_is ins r f same =
      map-map (λ col. get_or col r []) (λ cell. column_of ins cell.0 cell.1) (enumerate_from 0 cells)
      ∙ for_each_cell_same (λ c p. get_or (column_of ins c p) r []) f cells same

  abbrev pub after_row : (ℕ → Lines) → ℕ → Lines
  after_row ins p = drop (uses_of cells p) (ins p)

  pub grid_step : (ins : ℕ → Lines) (c : ℕ) → c < length cells → uses_of (take c cells) (get_or cells c 0) < length
      (ins (get_or cells c 0))
      → rows (columns cells ins) ≡ for_each_cell (top_of ins) cells ∷ rows (columns cells (after_row ins))
  grid_step ins c low some =
      rows_step (columns cells ins) (grind (
        usual,
        row_count_bound 0 (columns cells ins) c,
        ap length (column_at ins c low),
        column_is (uses_before_lt c low) (ins (get_or cells c 0)),
      ))
      ∙ (λ i. row_is ins 0 (top_of ins) (λ d within.
      grind (usual, column_is (uses_before_lt d within) (ins (get_or cells d 0)))) i
      ∷ rows ((map-map (drop 1) (λ cell. column_of ins cell.0 cell.1) (enumerate_from 0 cells)
      ∙ for_each_cell_same (λ c p. drop 1 (column_of ins c p)) (column_of (after_row ins)) cells
      (λ d within. every_kth_rest (uses_before_lt d within) (ins _))) i))

  pub grid_none : (ins : ℕ → Lines) → ((p : ℕ) → 0 < uses_of cells p → ins p ≡ []) → rows (columns cells ins) ≡ []
  grid_none ins none = rw (columns_same ins _ none, no_row) refl

  -- ---- rows after rows

  some_cell : (f : ℕ → Lines) (n : ℕ) → n ≤ length cells
      → ((c : ℕ) × (c < length cells) × (uses_of (take c cells) (get_or cells c 0) < length (f (get_or cells c 0))))
      ⊎ ((c : ℕ) → c < n → length (f (get_or cells c 0)) ≤ uses_of (take c cells) (get_or cells c 0))
  some_cell f zero high = inr (λ c low. absurd (omega arith))
  some_cell f (suc n) high = ⊎_elim (λ here. inl (n, omega arith, here))
      (λ past. ⊎_elim inl (grind arith) (some_cell f n (omega arith))) (cases_lt _ _)

  -- More lines follow only in an input that has all the lines that n rows take.
  pub rows-append : (n : ℕ) (ins more : ℕ → Lines) → ((p : ℕ) → 0 < uses_of cells p
      → (length (ins p) ≡ n * uses_of cells p) ⊎ ((more p ≡ []) × (length (ins p) ≤ n * uses_of cells p)))
      → rows (columns cells (λ p. ins p ++ more p)) ≡ rows (columns cells ins) ++ rows (columns cells more)
  rows-append zero ins more all =
      let none : (p : ℕ) → 0 < uses_of cells p → ins p ≡ [] = λ p some.
      nil_from_length _ (grind arith) in
      grind (arith, columns_same, grid_none)
  rows-append (suc n) ins more all = ⊎_elim
      (λ (c, low, some). let p = get_or cells c 0 in cc (
        grid_step (λ q. ins q ++ more q) c low (omega (arith, length-append (ins p) (more p))),
        grid_step ins c low some,
        for_each_cell_same (top_of (λ q. ins q ++ more q)) (top_of ins) cells
            (λ d within. grind (usual, uses_before_lt d within)),
        columns_same (after_row (λ q. ins q ++ more q)) (λ q. after_row ins q ++ more q)
            (λ q used. grind usual),
        rows-append n (after_row ins) more (grind usual),
      ))
      -- If no column has a line, no input continues.
      (λ short. let over : (p : ℕ) → 0 < uses_of cells p → more p ≡ [] = λ p some.
      let (c, low, is, count) = last_use cells p some in
      let few = rw is at (short c low) in
      grind arith in cc (
        columns_same (λ p. ins p ++ more p) ins (λ p some. cc (over p some, append-nil (ins p))),
        append-nil (rows (columns cells ins)),
        grid_none _ over,
      ))
      (some_cell ins _ (omega arith))

-- ---- the rows that are determined

pub is_row_unknown : (cols : List Lines) (eof : List Bool) (r c : ℕ) → c < length cols
    → get_or eof c true ≡ false → length (get_or cols c []) ≤ r → is_row_known cols eof r ≡ false
is_row_unknown [] eof r c low going few = absurd (omega arith)
is_row_unknown (col ∷ cols) [] r c low going few = cc
is_row_unknown (col ∷ cols) (e ∷ eof) r zero low going few = grind arith
is_row_unknown (col ∷ cols) (e ∷ eof) r (suc c) low going few =
    grind (arith, is_row_unknown cols eof r c (omega arith) going few)

-- ---- functions changed at one index

pub update_here : {X : Type 0} (input : ℕ) (x : X) (f : ℕ → X) (q : ℕ) → q ≡ input → update_at input x f q ≡ x
update_here input x f q same = ap (λ t. cond t x (f q)) (eq-eqb q input same)

abbrev pub lines_of_input : ℕ → Lines → ℕ → Lines
lines_of_input input ls = update_at input ls (λ q. [])

-- ---- inputs that are split after the same row

pub paste_of_parts : PasteOfParts
paste_of_parts job cells n a b cut =
    let ins : ℕ → Lines = λ p. lines job.terminator (a p) in
    let more : ℕ → Lines = λ p. lines job.terminator (b p) in
    grind (
      usual,
      columns_same cells (λ p. lines job.terminator (a p ++ b p)) (λ p. ins p ++ more p)
          (λ p named. grind (arith, cut p named, the_lines_of_parts, append-nil)),
      rows-append cells n ins more (λ p named. grind (arith, cut p named)),
    )

-- ---- inputs that columns name: only what was received from these decides the output

module _ (cells : List ℕ) where
  pub cell_in : (c : ℕ) → c < length cells → is_in cells (get_or cells c 0) ≡ true
  cell_in c low = grind usual

  pub used_is_in : (p : ℕ) → 0 < uses_of cells p → is_in cells p ≡ true
  used_is_in p some = let (c, low, is, count) = last_use _ p some in
      subst (λ q. is_in cells q ≡ true) is (cell_in c low)

pub is_in_used : (cells : List ℕ) (p : ℕ) → is_in cells p ≡ true → 0 < uses_of cells p
is_in_used [] p named = cc
is_in_used (x ∷ cells) p named = grind (usual, is_in_used cells p)

pub not_in : (cells : List ℕ) (p : ℕ) → is_in cells p ≡ false → uses_of cells p ≡ 0
not_in = grind (arith, used_is_in)

-- ---- functions that are equal at these inputs

map_same : {X : Type 0} (f g : ℕ → X) (cells : List ℕ) → ((p : ℕ) → is_in cells p ≡ true → f p ≡ g p)
    → map f cells ≡ map g cells
map_same f g [] same = refl
map_same f g (c ∷ cells) same = λ i.
    same c (grind arith) i ∷ map_same f g cells (λ p named. same p (grind arith)) i

pub decided_same : (job : Paste) (cells : List ℕ) (f g : ℕ → Received)
    → ((p : ℕ) → is_in cells p ≡ true → f p ≡ g p) → paste_decided job cells f ≡ paste_decided job cells g
decided_same job cells f g same = grind (arith, columns_same, used_is_in, map_same)
