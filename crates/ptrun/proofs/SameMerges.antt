-- A merge by what is known of each input is that of the engine: the disorders are the same, and so is each test of a key.
use Rattle.ptrun.proofs
use Rattle.ptrun.specs
use Rattle.std.proofs.Common.{Bool, List, None, Option, Some, [], ap, false, map, refl, sym, true, ℕ, ◌∙◌, ◌∷◌, ◌≡◌}
use mathlib.Core.Path.{fun_ext}
use proofs.SameLines.{known_same}
use proofs.SameTools.{entries_same, first_key_same, second_key_same}
use Rattle.std.specs.List.{flat_map, last_or}
use Rattle.std.specs.Option.{option_map_or}
use Rattle.std.specs.Ordering.{is_le, is_lt}
use Rattle.std.specs.Prelude.{◌&&◌, ◌||◌, ◌++◌, filter, if◌then◌else◌, is_some, length, nat_lt, option_map}
use Rattle.ptlangs.specs.Jobs.{Comm, Join}
use Rattle.ptlines.specs.ByteOrder.{Cmp}
use Rattle.ptlines.specs.Received as old
use Rattle.ptlines.specs.Received.{Received}
use Rattle.ptlines.specs.Text.{unlines}
use Rattle.ptmerge.specs.Comm.{comm_decided}
use Rattle.ptmerge.specs.Join.{join_decided}
use Rattle.ptmerge.specs.MergeSpec.{FirstDisorder, Lines, MergeDisorder, distinct_keys, earlier_disorder}
use Rattle.ptmerge.specs.MergeSpec.{first_disorder, is_below, is_past, is_up_to, lines_with_key, merged_so_far}
use Rattle.ptmerge.specs.MergeSpec.{reported_disorder, sorted_prefix}
use Rattle.ptmerge.specs.Orders.{Key, line_cmp}
use Rattle.ptmerge.specs.declared.key_order.Side.{Side}
use Rattle.ptmerge.specs.declared.key_order.Side.TheVariants.{First, Second}
use specs.Comm.{comm}
use specs.Join.{join}
use specs.Lines.{known_lines}
use specs.Merges.{Disorder, Merge, disorder_in, disorder_of, is_final, merged, reported}

abbrev of_side : Side → FirstDisorder → Disorder
of_side file d = record { file = file; last_key = d.last_key; line = d.line }

abbrev pub short : MergeDisorder → Disorder
short d = of_side d.file d.first_disorder

if_some : {A B : Type 0} (f : A → B) (b : Bool) (x : A)
    → (if b then Some (f x) else None) ≡ option_map f (if b then Some x else None)
if_some f true x = refl
if_some f false x = refl

disorder_same : (m : Merge) (file : Side) (ls : Lines)
    → disorder_in m file ls ≡ option_map (of_side file) (first_disorder m.cmp (m.key file) ls)
disorder_same m file ls = if_some (of_side file) (nat_lt (length (sorted_prefix m.cmp (m.key file) ls)) (length ls)) _

if_short : (b : Bool) (x y : MergeDisorder)
    → (if b then Some (short x) else Some (short y)) ≡ option_map short (if b then Some x else Some y)
if_short true x y = refl
if_short false x y = refl

earlier_same : (cmp : Cmp) (a b : Option FirstDisorder)
    → reported cmp (option_map (of_side First) a) (option_map (of_side Second) b)
    ≡ option_map short (earlier_disorder cmp a b)
earlier_same cmp None None = refl
earlier_same cmp None (Some b) = refl
earlier_same cmp (Some a) None = refl
earlier_same cmp (Some a) (Some b) = if_short (is_lt (cmp b.last_key a.last_key)) _ _

pub reported_same : (m : Merge) (given : Side → Received)
    → disorder_of m given ≡ option_map short (reported_disorder m.cmp (m.key First) (m.key Second)
    (known_lines m.end (given First)) (known_lines m.end (given Second)))
reported_same m given =
    let ls1 = known_lines m.end (given First) in
    let ls2 = known_lines m.end (given Second) in
    (λ i. reported m.cmp (disorder_same m First ls1 i) (disorder_same m Second ls2 i))
    ∙ earlier_same m.cmp (first_disorder m.cmp (m.key First) ls1) (first_disorder m.cmp (m.key Second) ls2)

-- ---- the tests of a key

before_same : (cmp : Cmp) (stop : Option MergeDisorder) (k : List ℕ)
    → option_map_or (λ (d : Disorder). is_le (cmp k d.last_key)) (option_map short stop) true ≡ is_up_to cmp stop k
before_same cmp None k = refl
before_same cmp (Some d) k = refl

last_same : (key : Key) (d : Option (List ℕ)) (ls : Lines)
    → last_or (option_map key d) (map key ls) ≡ option_map key (last_or d ls)
last_same key d [] = refl
last_same key d (x ∷ ls) = last_same key (Some x) ls

below_same : (cmp : Cmp) (key : Key) (k : List ℕ) (last : Option (List ℕ))
    → option_map_or (λ line. is_lt (cmp k (key line))) last false ≡ is_below cmp k (option_map key last)
below_same cmp key k None = refl
below_same cmp key k (Some line) = refl

past_same : (eof : Bool) (found : Option FirstDisorder) (file : Side) (below : Bool)
    → (eof || is_some (option_map (of_side file) found) || below)
    ≡ (if eof || is_some found then true else below)
past_same true found file below = refl
past_same false None file below = refl
past_same false (Some d) file below = refl

final_same : (m : Merge) (file : Side) (given : Received) (k : List ℕ)
    → is_final m file given k ≡ is_past m.cmp (m.key file) given.eof (known_lines m.end given) k
final_same m file given k = let ls = known_lines m.end given in
    (λ i. given.eof || is_some (disorder_same m file ls i)
    || (below_same m.cmp (m.key file) k (last_or None ls) ∙ ap (is_below m.cmp k) (sym (last_same (m.key file) None ls))) i)
    ∙ past_same given.eof (first_disorder m.cmp (m.key file) ls) file (is_below m.cmp k (last_or None (map (m.key file) ls)))

-- ---- the output

pub merged_same : (m : Merge) (given : Side → Received)
    → merged m given ≡ unlines m.end (merged_so_far m.cmp (m.key First) (m.key Second) m.entries
    (given First).eof (old.known_lines m.end (given First))
    (given Second).eof (old.known_lines m.end (given Second)))
merged_same m given =
    let ls1 = known_lines m.end (given First) in
    let ls2 = known_lines m.end (given Second) in
    let s = sorted_prefix m.cmp (m.key First) ls1 in
    let t = sorted_prefix m.cmp (m.key Second) ls2 in
    let stop = reported_same m given in
    ap (λ (wanted : List ℕ → Bool). unlines m.end
    (flat_map (λ k. m.entries k (lines_with_key (m.key First) s k) (lines_with_key (m.key Second) t k))
    (filter wanted (distinct_keys m.cmp (map (m.key First) s ++ map (m.key Second) t)))))
    (fun_ext (λ k i. (ap (λ stop. option_map_or (λ (d : Disorder). is_le (m.cmp k d.last_key)) stop true) stop
    ∙ before_same m.cmp _ k) i
    && final_same m First (given First) k i && final_same m Second (given Second) k i))
    ∙ (λ i. unlines m.end (merged_so_far m.cmp (m.key First) (m.key Second) m.entries
    (given First).eof (known_same m.end (given First) i)
    (given Second).eof (known_same m.end (given Second) i)))

pub comm_same : (job : Comm) (given : Side → Received) → merged (comm job) given ≡ comm_decided job (given First) (given Second)
comm_same job given = merged_same (comm job) given

pub join_same : (job : Join) (given : Side → Received) → merged (join job) given ≡ join_decided job (given First) (given Second)
join_same job given = merged_same (join job) given ∙ (λ i. unlines job.terminator (merged_so_far (line_cmp job.descending)
    (first_key_same job i) (second_key_same job i) (λ k ls1 ls2. entries_same job k ls1 ls2 i)
    (given First).eof (old.known_lines job.terminator (given First))
    (given Second).eof (old.known_lines job.terminator (given Second))))
