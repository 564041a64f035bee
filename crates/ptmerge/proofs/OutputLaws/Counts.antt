-- How many lines `join` and `comm` write. Each key has as many pairs as its lines have partners; and of the lines of
-- one key, which are equal for `comm`, some are common.
use Rattle.ptmerge.proofs
use Rattle.ptmerge.specs
use Rattle.std.proofs.lemmas
use Rattle.std.proofs.Common.{◌-◌, min, replicate, sum_by}
use lemmas.List.Sums.{sum_by-append, sum_by-cons}
use lemmas.List.Concat.{length-flat_map}
use lemmas.List.{replicate-append-replicate, length-map}
use lemmas.List.Recursion.{is_sum_by}
use proofs.Common.{length-append}
use specs.Calls.Comm.{comm_tool}
use specs.Calls.Join.{join_tool, join_key}
use specs.Join.{join_entries, pair_entries, entry, join_fields}
use specs.Calls.Sides.{both, whole_line}
use Rattle.ptlangs.specs.Jobs.{Join}
use specs.Laws.Outputs.{CommSharesFirst, JoinCounts, occurrences, columns}
use proofs.MergeLemmas.Exits.Invariant.{[], ◌≡◌, ℕ, ◌+◌, true, false, List, ◌∷◌, ◌++◌, refl, ap, sym, ◌∙◌, arith}
use proofs.MergeLemmas.Exits.Invariant.{length, map, filter, None, if◌then◌else◌, bytes_eq, flat_map, filter-append}
use proofs.MergeLemmas.Exits.Invariant.{append-nil, bytes_decides, Lines, distinct_keys, lines_with_key, MergeTool, Key}
use proofs.MergeLemmas.Exits.Invariant.{keys, entries_of_key, merged_entries, disorder, Side, First, Second, line_order}
use proofs.MergeLemmas.Exits.Invariant.{IsKeyOrder, EachKey, Each-all, all_keys, filter_all, ascends_distinct}
use proofs.Parts.{merged_in_order}
use proofs.OutputLaws.Keys.{Has, has_distinct, has_left, each_of, sum_by_keys}

-- the distinct keys of both lists
abbrev pub all_of : MergeTool → (Side → Lines) → Lines
all_of tool ls = distinct_keys tool.cmp (keys tool ls)

pub first_has : (tool : MergeTool) (o : IsKeyOrder tool.cmp) (ls : Side → Lines)
    → EachKey (λ k. Has k (all_of tool ls)) (tool.key First) (ls First)
first_has tool o ls = each_of _ _ (λ k h. has_distinct tool.cmp o k _ (has_left k _ _ h))

-- The output of sorted inputs is the entries of all keys.
pub in_order : (tool : MergeTool) → IsKeyOrder tool.cmp → (ls : Side → Lines) → disorder tool ls ≡ None
    → merged_entries tool ls ≡ flat_map (entries_of_key tool ls) (all_of tool ls)
in_order tool o ls e = merged_in_order tool o ls e
    ∙ ap (flat_map (entries_of_key tool ls)) (filter_all all_keys _ (Each-all _ (λ k. refl) _))

-- The sum over all keys is that over the first input's lines.
sum_over_first : (tool : MergeTool) → IsKeyOrder tool.cmp → (ls : Side → Lines) (f : List ℕ → ℕ)
    → sum_by (λ k. sum_by f (lines_with_key (tool.key First) (ls First) k)) (all_of tool ls) ≡ sum_by f (ls First)
sum_over_first tool o ls f =
    let of_key = lines_with_key (tool.key First) (ls First) in
    sym (is_sum_by (λ ks. sum_by f (flat_map of_key ks)) (λ k. sum_by f (of_key k)) refl
    (λ k ks. sum_by-append f (of_key k) (flat_map of_key ks)) (all_of tool ls))
    ∙ sum_by_keys tool.cmp o f (tool.key First) (ls First) _ (ascends_distinct tool.cmp o (keys tool ls))
    (first_has tool o ls)

-- ---- join

length_of_pairs : (job : Join) (k : List ℕ) (g1 g2 : Lines) → job.pairs ≡ true
    → length (pair_entries job k g1 g2) ≡ sum_by (λ (line : List ℕ). length g2) g1
length_of_pairs job k g1 g2 pairs =
    let pair = λ (a b : List ℕ). entry job k (join_fields job.separator a) (join_fields job.separator b) in
    rw pairs (length-flat_map (λ a. map (pair a) g2) g1 ∙ (λ i. sum_by (λ a. length-map g2 (pair a) i) g1))

length_of_entries : (job : Join) (k : List ℕ) (g1 g2 : Lines) → job.pairs ≡ true → job.unpaired1 ≡ false
    → job.unpaired2 ≡ false → length (join_entries job k g1 g2) ≡ sum_by (λ (line : List ℕ). length g2) g1
length_of_entries job k [] g2 p u v = rw v refl
length_of_entries job k (a ∷ g1) [] p u v =
    rw u (is_sum_by (λ (ls : Lines). 0) (λ line. 0) refl (λ x xs. refl) (a ∷ g1))
length_of_entries job k (a ∷ g1) (b ∷ g2) p u v = length_of_pairs job k (a ∷ g1) (b ∷ g2) p

-- the lines of one key have the same number of partners
partners : (n : List ℕ → ℕ) (key : Key) (k : List ℕ) (ls : Lines) → let own = lines_with_key key ls k in
    sum_by (λ (line : List ℕ). n k) own ≡ sum_by (λ line. n (key line)) own
partners n key k [] = refl
partners n key k (x ∷ ls) =
    let first = sum_by-cons (λ (line : List ℕ). n k) x (lines_with_key key ls k) in
    grind (arith, first, sum_by-cons (λ line. n (key line)) x, bytes_decides, partners n key k ls)

pub join_counts : JoinCounts
join_counts job a b p u v e =
    let tool = join_tool job in
    let o = line_order job.descending in
    let n : List ℕ → ℕ = λ l. length (lines_with_key (join_key job Second) b l) in
    ap (λ l. length l) (in_order tool o (both a b) e) ∙ length-flat_map (entries_of_key tool (both a b)) _
    ∙ (λ i. sum_by (λ k. (length_of_entries job k (lines_with_key (join_key job First) a k) _ p u v
    ∙ partners n (join_key job First) k a) i) (all_of tool (both a b)))
    ∙ sum_over_first tool o (both a b) (λ line. n (join_key job First line))

-- ---- comm: how often a line is written

occurs_append : (line : List ℕ) (xs ys : Lines)
    → occurrences line (xs ++ ys) ≡ occurrences line xs + occurrences line ys
occurs_append line xs ys = ap (λ l. length l) (filter-append _ xs ys) ∙ length-append (filter _ xs) _

occurs_in_each : (line : List ℕ) (g : List ℕ → Lines) (ks : Lines)
    → occurrences line (flat_map g ks) ≡ sum_by (λ k. occurrences line (g k)) ks
occurs_in_each line g = is_sum_by (λ ks. occurrences line (flat_map g ks)) (λ k. occurrences line (g k)) refl
    (λ k ks. occurs_append line (g k) (flat_map g ks))

abbrev one : List ℕ → List ℕ → ℕ
one line l = if bytes_eq l line then 1 else 0

occurs_as_sum : (line : List ℕ) (ls : Lines) → occurrences line ls ≡ sum_by (one line) ls
occurs_as_sum line = is_sum_by (occurrences line) (one line) refl (λ x xs. grind arith)

-- all lines that are equal to a line
pub copies : (k : List ℕ) (ls : Lines)
    → lines_with_key (λ l. l) ls k ≡ replicate (length (lines_with_key (λ l. l) ls k)) k
copies k [] = refl
copies k (x ∷ ls) = grind (arith, bytes_decides x k, copies k ls)

-- of the `c1` lines of the first input, `min c1 c2` are common
shared : (line k : List ℕ) (c1 c2 : ℕ) → occurrences line (replicate (c1 - c2) k ++ [])
    + occurrences line ((replicate (min c1 c2) k ++ []) ++ []) ≡ occurrences line (replicate c1 k)
shared line k c1 c2 = simp append-nil
    (sym (occurs_append line (replicate (c1 - c2) k) _) ∙ ap (occurrences line)
    (replicate-append-replicate (c1 - c2) (min c1 c2) k ∙ ap (λ n. replicate n k) (omega arith)))

sums_add : (f g h : List ℕ → ℕ) → ((k : List ℕ) → f k + g k ≡ h k) → (ks : Lines)
    → sum_by f ks + sum_by g ks ≡ sum_by h ks
sums_add f g h is = is_sum_by (λ ks. sum_by f ks + sum_by g ks) h refl
    (λ k ks. omega (arith, sum_by-cons, is k))

pub comm_shares_first : CommSharesFirst
comm_shares_first job a b line e =
    let own = comm_tool (columns job false true true) in
    let common = comm_tool (columns job true true false) in
    let o = line_order job.descending in
    let ks = all_of own (both a b) in
    let first = ap (occurrences line) (in_order own o (both a b) e) ∙ occurs_in_each line _ ks in
    let third = ap (occurrences line) (in_order common o (both a b) e) ∙ occurs_in_each line _ ks in
    let c1 = λ (k : List ℕ). lines_with_key (whole_line First) a k in
    rw (first, third) (sums_add (λ k. occurrences line (entries_of_key own (both a b) k))
    (λ k. occurrences line (entries_of_key common (both a b) k)) (λ k. sum_by (one line) (c1 k))
    (λ k. shared line k (length (c1 k)) (length (lines_with_key (whole_line Second) b k))
    ∙ ap (occurrences line) (sym (copies k a)) ∙ occurs_as_sum line (c1 k)) ks
    ∙ sum_over_first own o (both a b) (one line) ∙ sym (occurs_as_sum line a))
