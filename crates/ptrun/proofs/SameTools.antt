-- The output of each tool, as the page of the promise has it, is that of its engine.
use Rattle.ptrun.proofs
use Rattle.ptrun.specs
use proofs.Common.{List, None, Option, Paste, Received, Some, [], ap, arith, map, refl, sym, ℕ, ◌∙◌, ◌∷◌, ◌≡◌}
use proofs.SameLines.{init_same, known_same}
use mathlib.Core.Path.{fun_ext}
use Rattle.std.specs.List.{flat_map, join_with_byte, range_with_len, slice_split}
use Rattle.std.specs.Prelude.{Bool, filter, if◌then◌else◌, not, true, false, unwrap_or, max, zip, ◌&&◌, ◌++◌, ◌==◌}
use Rattle.ptflow.specs.Cuts as old_cut
use Rattle.ptflow.specs.PasteText as old_paste
use Rattle.ptflow.specs.PasteText.{is_row_known, join_with_cycle, known_rows, row_at, row_count, rows_text}
use Rattle.ptflow.specs.TrOutput as old_tr
use Rattle.ptflow.specs.TrOutput.{translation}
use Rattle.ptflow.specs.Uniqs as old_uniq
use Rattle.ptflow.specs.Uniqs.{output_of, runs}
use Rattle.ptlangs.specs.Jobs.{Cut, Join, Uniq}
use Rattle.ptlangs.specs.Numbers.{is_empty}
use Rattle.ptlangs.specs.TrPlan.{ByteMap}
use Rattle.ptlangs.specs.declared.outlist.OutField.{OutField}
use Rattle.ptlines.specs.Text.{is_blank, unlines}
use Rattle.ptmerge.specs.Join as old_join
use Rattle.ptmerge.specs.Join.{field_named, is_nonempty, join_key1, join_key2, max_over_keys, nth_field, or_filler}
use Rattle.ptmerge.specs.Join.{output_separator}
use Rattle.ptmerge.specs.MergeSpec.{Lines, lines_with_key}
use Rattle.ptmerge.specs.Orders.{Key}
use Rattle.ptmerge.specs.declared.key_order.Side.TheVariants.{First, Second}
use specs.Cut.{cut_decided}
use specs.Join.{entry, join_entries, join_fields, join_key, max_group, output_fields}
use specs.Lines.{known_lines, maximum}
use specs.Paste.{columns, paste_decided, paste_serial_decided}
use specs.Tr.{squeeze, tr}
use specs.Uniq.{uniq_decided}

pub map_twice : {A B C : Type 0} (f : B → C) (g : A → B) (xs : List A) → map f (map g xs) ≡ map (λ x. f (g x)) xs
map_twice f g [] = refl
map_twice f g (x ∷ xs) = ap (λ l. f (g x) ∷ l) (map_twice f g xs)

-- ---- cut, uniq and paste

pub cut_same : (job : Cut) (given : Received) → cut_decided job given ≡ old_cut.cut_decided job given
cut_same job given = ap (old_cut.cut_lines job) (known_same job.terminator given)

pub uniq_same : (job : Uniq) (given : Received) → uniq_decided job given ≡ old_uniq.uniq_decided job given
uniq_same job given = ap (output_of job) (init_same _ ∙ ap (λ ls. old_uniq.init (runs job ls)) (known_same job.terminator given))

pub serial_same : (job : Paste) (given : Received)
    → paste_serial_decided job given ≡ old_paste.paste_serial_decided job given
serial_same job given = ap (λ ls. join_with_cycle job.delimiters 0 ls ++ (if given.eof then job.terminator ∷ [] else []))
    (known_same job.terminator given)

pub paste_same : (job : Paste) (cells : List ℕ) (given : ℕ → Received)
    → paste_decided job cells given ≡ old_paste.paste_decided job cells given
paste_same job cells given =
    let cols = columns cells (λ p. known_lines job.terminator (given p)) in
    let ended = map (λ p. (given p).eof) cells in
    ap (unlines job.terminator) (sym (map_twice (join_with_cycle job.delimiters 0) (row_at cols)
    (filter (is_row_known cols ended) (range_with_len 0 (row_count cols)))))
    ∙ ap (λ (f : ℕ → List (List ℕ)). rows_text job (known_rows (columns cells f) (map (λ input. (given input).eof) cells)))
    (fun_ext (λ p. known_same job.terminator (given p)))

-- ---- tr

-- a byte that is kept before others, or is not
squeezed_step : (test : Bool) (a b : ℕ) (kept : List (ℕ × ℕ)) → (test ≡ true → a ≡ b)
    → (if test then b ∷ map (λ (p : ℕ × ℕ). p.1) kept else a ∷ b ∷ map (λ (p : ℕ × ℕ). p.1) kept)
    ≡ a ∷ map (λ (p : ℕ × ℕ). p.1) (if not test then (a, b) ∷ kept else kept)
squeezed_step true a b kept same = ap (λ c. c ∷ map (λ (p : ℕ × ℕ). p.1) kept) (sym (same refl))
squeezed_step false a b kept same = refl

squeeze_same : (test : ℕ → Bool) (bytes : List ℕ) → squeeze test bytes ≡ old_tr.squeeze test bytes
squeeze_same test [] = refl
squeeze_same test (a ∷ []) = refl
squeeze_same test (a ∷ b ∷ more) =
    ap (λ kept. if (a == b) && test b then kept else a ∷ kept) (squeeze_same test (b ∷ more))
    ∙ squeezed_step ((a == b) && test b) a b (filter (old_tr.is_not_repeat test) (zip (b ∷ more) more)) (grind arith)

pub tr_same : (m : ByteMap) (bytes : List ℕ) → tr m bytes ≡ old_tr.tr m bytes
tr_same m bytes = squeeze_same m.squeezes (translation m bytes)

-- ---- join

nonempty_same : (field : List ℕ) → not (is_empty field) ≡ is_nonempty field
nonempty_same [] = refl
nonempty_same (b ∷ bytes) = refl

pub fields_same : (separator : Option ℕ) → join_fields separator ≡ old_join.join_fields separator
fields_same (Some c) = refl
fields_same None = fun_ext (λ line. ap (λ test. filter test (slice_split is_blank line)) (fun_ext nonempty_same))

filler_same : (empty field : List ℕ) → (if is_empty field then empty else field) ≡ or_filler empty field
filler_same empty [] = refl
filler_same empty (b ∷ bytes) = refl

output_same : (job : Join) (k : List ℕ) (fs1 fs2 : Lines) (list : Option (List OutField))
    → output_fields job k fs1 fs2 list ≡ old_join.output_fields job k fs1 fs2 list
output_same job k fs1 fs2 None = refl
output_same job k fs1 fs2 (Some items) =
    ap (λ (f : OutField → List ℕ). map f items) (fun_ext (λ i. filler_same job.empty (field_named i k fs1 fs2)))

separator_same : (separator : Option ℕ) → unwrap_or separator 32 ≡ output_separator separator
separator_same None = refl
separator_same (Some c) = refl

entry_same : (job : Join) (k : List ℕ) (fs1 fs2 : Lines) → entry job k fs1 fs2 ≡ old_join.entry job k fs1 fs2
entry_same job k fs1 fs2 = λ i. join_with_byte (separator_same job.separator i) (output_same job k fs1 fs2 job.list i)

pub entries_same : (job : Join) (k : List ℕ) (ls1 ls2 : Lines)
    → join_entries job k ls1 ls2 ≡ old_join.join_entries job k ls1 ls2
entries_same job k [] ls2 =
    λ i. if job.unpaired2 then map (λ b. entry_same job k [] (fields_same job.separator i b) i) ls2 else []
entries_same job k (a ∷ ls1) [] =
    λ i. if job.unpaired1 then map (λ a. entry_same job k (fields_same job.separator i a) [] i) (a ∷ ls1) else []
entries_same job k (a ∷ ls1) (b ∷ ls2) = λ i. if job.pairs
    then flat_map (λ a. map (λ b. entry_same job k (fields_same job.separator i a) (fields_same job.separator i b) i) (b ∷ ls2))
    (a ∷ ls1)
    else []

pub first_key_same : (job : Join) → join_key job First ≡ join_key1 job
first_key_same job = λ i line. nth_field job.field1 (fields_same job.separator i line)

pub second_key_same : (job : Join) → join_key job Second ≡ join_key2 job
second_key_same job = λ i line. nth_field job.field2 (fields_same job.separator i line)

group_from : (measure : Lines → ℕ) (key : Key) (ls xs : Lines)
    → maximum (map (λ line. measure (lines_with_key key ls (key line))) xs) ≡ max_over_keys measure key ls xs
group_from measure key ls [] = refl
group_from measure key ls (x ∷ xs) = ap (max (measure (lines_with_key key ls (key x)))) (group_from measure key ls xs)

pub group_same : (measure : Lines → ℕ) (job : Join) (ls : Lines)
    → max_group measure (join_key job Second) ls ≡ max_over_keys measure (join_key2 job) ls ls
group_same measure job ls =
    group_from measure (join_key job Second) ls ls ∙ ap (λ key. max_over_keys measure key ls ls) (second_key_same job)
