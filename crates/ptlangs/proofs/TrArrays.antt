-- The arrays of the strings of `tr`. Their bytes are read one after another: those read and those left are together
-- all. Tables of 256 entries say which bytes an array or its complement contains, and the image of each byte: that
-- of the second array, extended by its last byte, at the last index in the first. A class of the second array needs
-- its other case in the first; after the end of the first none may start. A plan's tables have its map.
use Rattle.ptlangs.proofs
use Rattle.ptlangs.specs
use Rattle.std.proofs.lemmas
use proofs.Common.{Bool, Bytes, CharClass, Contents, Err, HasPaired, IsErrAnd, List, Member, None, Ok, Option, Result}
use proofs.Common.{Segment, SetElement, SetFaultKind, SetRole, Some, [], all_paired, ap, append-nil, arith, array}
use proofs.Common.{bytes_left, usual, complement_of, cond, contents_of, count_by, drop, drop_all, drop_more, eqb, false}
use proofs.Common.{first_array, first_members, image_by, is_fill, length, map, map-append, marked_array, member_bytes}
use proofs.Common.{member_results, ne_eqb, not, plain_members, refl, replicate, result_map_both, rules, segments_of}
use proofs.Common.{sequence, slice_get, read_string, string_segments, subst, suc, sym, take, take_all, true, zero, ℕ, ◌++◌, ◌+◌, ◌-◌}
use proofs.Common.{◌*◌, ◌<◌, ◌||◌, ◌∙◌, ◌∷◌, ◌≡◌, ◌≢◌, ◌≤◌}
use proofs.ListElements.{append_ok as onto}
use proofs.TrTexts.{read_in_steps}
use specs.TrClasses.{all_bytes, class_bytes, span}
use specs.Private.TrParsing.{class_of, classes_match, marked_members, members_from}
use specs.Calls.TrTables.{image_of, is_deleted, is_squeezed}
use specs.TrPlan.{are_paired, class_offsets, has_byte, last_position, members, of_bytes}
use specs.TrClasses.{are_opposite_cases}
use specs.Laws.TrReading.{segment}
use specs.Laws.TrTables.{TablesHaveMap}
use specs.declared.faults.SetFaultKind.TheVariants.{ClassPlace}
use specs.declared.tr.images.Images.{Images}
use Rattle.std.proofs.Common.{inl, inr, min, ⊎_elim, ◌&&◌, ◌⊎◌}
use Rattle.std.proofs.Math.ListN.{get_or, set}
use lemmas.Bool.{cases_lt, eq-eqb}
use lemmas.Bool.Decides.{nat_tests}
use lemmas.List.Elements.{filter-append, filter_more}
use lemmas.List.Folds.{list_any-append, list_any_at}
use lemmas.List.FromFn.{get_or-map-range_with_len, get_or-range_with_len, length-map-range_with_len}
use lemmas.List.FromFn.{length-range_with_len}
use lemmas.List.{drop-map, drop-replicate, get_or-replicate, get_or_default, get_or_past, length-map, length-replicate}
use lemmas.List.{length-set}
use lemmas.List.{same_lists, take-append-drop, take-map, length-append}
use lemmas.Map.Views.{any-filter_same}
use lemmas.Option.{slice_get_cases, slice_get_past, slice_get_within}
use lemmas.List.Sums.{length-filter}
use Rattle.std.specs.List.{last_or, list_any}
use Rattle.std.specs.Prelude.{IfSome, filter, is_some, unwrap_or, ◌^◌}

pub slice_get-left : {X : Type 0} (xs ys : List X) (i : ℕ) → i < length xs → slice_get (xs ++ ys) i ≡ slice_get xs i
slice_get-left = grind (usual, slice_get_cases)

pub slice_get-right : {X : Type 0} (xs ys : List X) (i j : ℕ) → i ≡ length xs + j
    → slice_get (xs ++ ys) i ≡ slice_get ys j
slice_get-right = grind (usual, slice_get_cases)

pub span_there : (first last index : ℕ) → index < length (span first last)
    → Some (first + index) ≡ slice_get (span first last) index
span_there = grind (arith, slice_get_cases, length-range_with_len, get_or-range_with_len)

pub span_past : (first last index : ℕ) → length (span first last) ≤ index → None ≡ slice_get (span first last) index
span_past first last index h = sym (slice_get_past _ _ h)

pub length-span : (first last : ℕ) → length (span first last) ≡ last + 1 - first
length-span first last = length-range_with_len _ _

pub ruleset span_steps = (span_there, span_past, length-span)

pub ruleset part_steps = (slice_get-left, slice_get-right, drop_more)

-- ---- an index in concatenated ranges

pub class_bytes-short : (class : CharClass) → length (class_bytes class) ≤ 256
class_bytes-short = grind arith

-- an index of a list shorter than 2^128 can be counted up
pub room : (bytes : List ℕ) (i : ℕ) (found : Option ℕ) → found ≡ slice_get bytes i → length bytes < 2 ^ 128
    → IfSome found (λ _. i + 1 < 2 ^ 128)
room = grind (arith, slice_get_within)

-- ---- copies of one byte

pub repeat_there : (n b i : ℕ) → i < n → Some b ≡ slice_get (replicate n b) i
repeat_there = grind (usual, slice_get_cases)

pub repeat_past : (n b i : ℕ) → n ≤ i → None ≡ slice_get (replicate n b) i
repeat_past = grind (usual, slice_get_past)

pub ruleset member_steps = (length-replicate, length-span, class_bytes-short, repeat_there, repeat_past)

pub ruleset copies_left = (drop_all, append-nil, drop-map, drop-replicate, map-append)

-- ---- items that were read

-- `done` was read without a fault; `rest` is still to be read
pub record ItemsRead {A : Type 0} (all rest : List (Result A SetFaultKind)) (P : List A → Type 0) : Type 0 where
  pub done : List A
  pub so_far : all ≡ map Ok done ++ rest
  pub holds : P done

sequence-done : {A : Type 0} (done : List A) (rest : List (Result A SetFaultKind))
    → sequence (map Ok done ++ rest) ≡ onto done (sequence rest)
sequence-done [] rest = sym (grind arith)
sequence-done (x ∷ done) rest = grind (arith, sequence-done done rest)

module _ {A : Type 0} {all rest : List (Result A SetFaultKind)} {P : List A → Type 0} (r : ItemsRead all rest P) where
  pub items_more : {after : List (Result A SetFaultKind)} (Q : List A → Type 0) (more : List A)
      → rest ≡ map Ok more ++ after → (P r.done → Q (r.done ++ more))
      → ItemsRead all after Q
  items_more = grind usual

  sequence-read : sequence all ≡ onto r.done (sequence rest)
  sequence-read = grind (arith, sequence-done)

  pub items_end : rest ≡ [] → sequence all ≡ Ok r.done
  items_end e = cc (sequence-read, append-nil r.done)

  pub items_fault : {k : SetFaultKind} → sequence rest ≡ Err k → sequence all ≡ Err k
  items_fault e = cc (sequence-read)

  pub items_at : {after : List (Result A SetFaultKind)} {x : A} {xs : List A}
      → rest ≡ Ok x ∷ after → sequence all ≡ Ok xs
      → (more : List A) × (xs ≡ r.done ++ x ∷ more)
  items_at = grind (arith, sequence-read)

-- ---- the bytes of segments

sequence-members : (n : ℕ) (rs : List (Result Segment SetFaultKind))
    → sequence (member_results n rs) ≡ result_map_both (marked_array n) (λ (k : SetFaultKind). k) (sequence rs)
sequence-members n [] = refl
sequence-members n (Ok x ∷ rs) = grind (arith, sequence-done, sequence-members n rs)
sequence-members n (Err k ∷ rs) = refl

members-ok : (n : ℕ) (rs : List (Result Segment SetFaultKind)) (ps : List Segment) → sequence rs ≡ Ok ps
    → member_results n rs ≡ map Ok (marked_array n ps)
members-ok n [] ps e = grind arith
members-ok n (Err k ∷ rs) ps e = grind arith
members-ok n (Ok x ∷ rs) ps e = grind (arith, map-append, members-ok n rs)

pub member_bytes-plain : (bytes : List ℕ) → member_bytes (plain_members bytes) ≡ bytes
member_bytes-plain [] = refl
member_bytes-plain (b ∷ bytes) = ap (λ bs. b ∷ bs) (member_bytes-plain _)

pub member_bytes-members : (class : Option CharClass) (bytes : List ℕ) → member_bytes (members_from class bytes) ≡ bytes
member_bytes-members = grind (arith, member_bytes-plain)

pub member_bytes-array : (n : ℕ) (ps : List Segment) → member_bytes (marked_array n ps) ≡ array n ps
member_bytes-array n [] = refl
member_bytes-array n (p ∷ ps) = grind (arith, map-append, member_bytes-members, member_bytes-array n ps)

pub drop-found : {X : Type 0} (xs : List X) (i : ℕ) (x : X) → Some x ≡ slice_get xs i → drop i xs ≡ x ∷ drop (i + 1) xs
drop-found = grind (arith, slice_get_cases, drop_more)

-- ---- the bytes after a segment that was passed

pub segment-passed : (n : ℕ) (x : Segment) (i : ℕ) (rs : List (Result Segment SetFaultKind))
    → None ≡ slice_get (marked_members n x) i
    → map {B = Result Member SetFaultKind} Ok (drop i (marked_members n x)) ++ member_results n rs ≡ member_results n rs
segment-passed = grind (arith, slice_get_cases, drop_all)

-- ---- the string of the segments

steps-fault : (role : SetRole) (text : List ℕ) (n : ℕ) (k : SetFaultKind) → false ≡ eqb (length text) 0
    → sequence (member_results n (segments_of role text)) ≡ Err k → string_segments role text ≡ Err k
steps-fault = grind (arith, sequence-members)

pub string-fault : (role : SetRole) (text : List ℕ) (n : ℕ) (k : SetFaultKind) → false ≡ eqb (length text) 0
    → sequence (member_results n (segments_of role text)) ≡ Err k → read_string role text ≡ Err k
string-fault role text n k some e = read_in_steps role text ∙ steps-fault role text n k some e

steps-read : (role : SetRole) (text : List ℕ) (n : ℕ) (ms : List Member) → false ≡ eqb (length text) 0
    → sequence (member_results n (segments_of role text)) ≡ Ok ms
    → (ps : List Segment) × (string_segments role text ≡ Ok ps) × (marked_array n ps ≡ ms)
steps-read = grind (arith, sequence-members)

pub string-read : (role : SetRole) (text : List ℕ) (n : ℕ) (ms : List Member) → false ≡ eqb (length text) 0
    → sequence (member_results n (segments_of role text)) ≡ Ok ms
    → (ps : List Segment) × (read_string role text ≡ Ok ps) × (marked_array n ps ≡ ms)
string-read role text n ms some e =
    let (ps, read, is) = steps-read role text n ms some e in (ps, read_in_steps role text ∙ read, is)

steps-ok : (role : SetRole) (text : List ℕ) (n : ℕ) (ps : List Segment) → string_segments role text ≡ Ok ps
    → member_results n (segments_of role text) ≡ map Ok (marked_array n ps)
steps-ok = grind (arith, members-ok)

pub string-ok : (role : SetRole) (text : List ℕ) (n : ℕ) (ps : List Segment) → read_string role text ≡ Ok ps
    → member_results n (segments_of role text) ≡ map Ok (marked_array n ps)
string-ok role text n ps e = steps-ok role text n ps (sym (read_in_steps role text) ∙ e)

-- ---- a fault that is passed on

pub on_fault : {T E : Type 0} (P : Result T E → Type 0) (r : Result T E) (k : E) → IsErrAnd r (λ e. e ≡ k) → P (Err k)
    → P r
on_fault = grind arith

-- ---- at most one segment is a fill

-- one more segment adds the length of a fill only if no fill came before it
fill_step : (n : ℕ) (role : SetRole) (p : SetElement) (d : Segment) (has_fill : Bool)
    → segment role has_fill p ≡ Ok d
    → length (members n d) + cond (has_fill || is_fill (Ok d)) 0 n ≤ length (members 0 d) + cond has_fill 0 n
fill_step = grind (arith, length-replicate)

-- the next segment keeps the bound
pub most_step : (n : ℕ) (role : SetRole) (p : SetElement) (d : Segment) (has_fill : Bool) (m left next : ℕ)
    → segment role has_fill p ≡ Ok d → length (members 0 d) ≤ 65535 → next < left
    → length (marked_members n d) + 65536 * next + cond (has_fill || is_fill (Ok d)) 0 n
    ≤ m + 65536 * left + cond has_fill 0 n
most_step n role p d has_fill m left next is short fewer =
    let same = ap length (member_bytes-members (class_of d) (members n d)) in
    omega (arith, length-map (marked_members n d) (λ (m : Member). m.byte), same, fill_step n role p d has_fill is)

-- ---- the classes that start in two arrays

-- the class that starts at an index
abbrev class_here : List Member → ℕ → Option CharClass
class_here [] i = None
class_here (m ∷ ms) zero = m.class
class_here (m ∷ ms) (suc i) = class_here ms i

abbrev offset_of : ℕ → Option CharClass → List (ℕ × CharClass)
offset_of at None = []
offset_of at (Some class) = (at, class) ∷ []

abbrev pub offsets : ℕ → List Member → List (ℕ × CharClass)
offsets at [] = []
offsets at (m ∷ ms) = offset_of at m.class ++ offsets (suc at) ms

offsets-plain : (at : ℕ) (bytes : List ℕ) (ms : List Member)
    → offsets at (plain_members bytes ++ ms) ≡ offsets (at + length bytes) ms
offsets-plain at [] ms = grind arith
offsets-plain at (b ∷ bytes) ms = offsets-plain _ bytes ms ∙ ap (λ k. offsets k ms) (omega arith)

offsets-members : (at : ℕ) (bytes : List ℕ) (ms : List Member)
    → offsets at (members_from None bytes ++ ms) ≡ offsets (at + length bytes) ms
offsets-members = grind (arith, offsets-plain)

offsets-class : (at : ℕ) (class : CharClass) (bytes : List ℕ) (ms : List Member) → 0 < length bytes
    → offsets at (members_from (Some class) bytes ++ ms) ≡ (at, class) ∷ offsets (at + length bytes) ms
offsets-class = grind (arith, offsets-plain)

class_bytes-some : (class : CharClass) → 0 < length (class_bytes class)
class_bytes-some = grind arith

pub class_offsets-are : (n : ℕ) (ps : List Segment) (at : ℕ) → class_offsets n at ps ≡ offsets at (marked_array n ps)
class_offsets-are n [] at = refl
class_offsets-are n (x ∷ ps) at =
    grind (usual, offsets-members, offsets-class, class_bytes-some, class_offsets-are n ps)

-- the other case of this class has this offset in the first string
abbrev has_other_case_at : List (ℕ × CharClass) → ℕ → CharClass → Bool
has_other_case_at firsts at class = list_any (λ (f : ℕ × CharClass). eqb f.0 at && are_opposite_cases f.1 class) firsts

none_before : (ms : List Member) (at k : ℕ) (class : CharClass) → k < at
    → has_other_case_at (offsets at ms) k class ≡ false
none_before [] at k class low = refl
none_before (m ∷ ms) at k class low = grind (arith, ne_eqb, none_before ms (suc at) k class (omega arith))

module _ (m : Member) (ms : List Member) (at k : ℕ) (class : CharClass) where
  starts_here : at ≡ k → has_other_case_at (offsets (suc at) ms) k class ≡ false
      → has_other_case_at (offsets at (m ∷ ms)) k class ≡ classes_match m.class (Some class)
  starts_here = grind (arith, eq-eqb)

  starts_later : k ≢ at
      → has_other_case_at (offsets at (m ∷ ms)) k class ≡ has_other_case_at (offsets (suc at) ms) k class
  starts_later = grind (arith, ne_eqb)

stands_here : (ms : List Member) (at i k : ℕ) (class : CharClass) → at + i ≡ k
    → has_other_case_at (offsets at ms) k class ≡ classes_match (class_here ms i) (Some class)
stands_here [] at i k class e = refl
stands_here (m ∷ ms) at zero k class e =
    starts_here m ms at k class (omega arith) (none_before ms (suc at) k class (omega arith))
stands_here (m ∷ ms) at (suc i) k class e =
    starts_later m ms at k class (omega arith) ∙ stands_here ms (suc at) i k class (omega arith)

all_paired-more : (i : ℕ) (from : List Member) (t : Member) (to : List Member)
    → all_paired (drop i from) (t ∷ to)
    ≡ (classes_match (class_here from i) t.class && all_paired (drop (suc i) from) to)
all_paired-more zero [] t to = refl
all_paired-more zero (f ∷ from) t to = refl
all_paired-more (suc i) [] t to = refl
all_paired-more (suc i) (f ∷ from) t to = all_paired-more i _ t to

paired_first : (from : List Member) (i : ℕ) (o : Option CharClass) (later : List (ℕ × CharClass))
    → are_paired (offsets 0 from) (offset_of i o ++ later)
    ≡ (classes_match (class_here from i) o && are_paired (offsets 0 from) later)
paired_first from i None later = grind arith
paired_first from i (Some class) later =
    ap (λ b. b && are_paired (offsets 0 from) later) (stands_here from 0 i i class (omega arith))

pub paired_from : (from to : List Member) (i : ℕ) → are_paired (offsets 0 from) (offsets i to)
    ≡ all_paired (drop i from) to
paired_from from [] i = refl
paired_from from (t ∷ to) i = grind (arith, paired_first, paired_from from to (suc i), all_paired-more)

pub paired-plain : (n : ℕ) (bytes : List ℕ) (seconds : List Segment)
    → are_paired [] (class_offsets n 0 seconds) ≡ all_paired (plain_members bytes) (marked_array n seconds)
paired-plain n bytes _ = grind (arith, offsets-plain 0 bytes [], class_offsets-are, paired_from, append-nil)

length-table : {X : Type 0} (f : ℕ → X) → length (map f all_bytes) ≡ 256
unfolding all_bytes
length-table f = length-map-range_with_len f 0 256

pub table_at : {X : Type 0} (f : ℕ → X) (i : ℕ) (d : X) → i < 256 → get_or (map f all_bytes) i d ≡ f i
unfolding all_bytes
table_at f i d h = get_or-map-range_with_len f 0 256 i i d h (omega arith)

pub same_table : {X : Type 0} (xs : List X) (f : ℕ → X) (d : X) → length xs ≡ 256
    → ((i : ℕ) → i < 256 → get_or xs i d ≡ f i) → xs ≡ map f all_bytes
same_table xs f d n h = search (rules, same_lists, length-table, get_or_default, table_at)

pub lookup : {X : Type 0} (other : X) (f : ℕ → X) (b : ℕ) → get_or (map f all_bytes) b other ≡ of_bytes other f b
lookup other f b = ⊎_elim
    (λ low. grind (arith, nat_tests, table_at f b other low))
    (λ high. grind (arith, nat_tests, get_or_past (map f all_bytes) b other (rw (length-table f) high)))
    (cases_lt b 256)

pub tables_have_map : TablesHaveMap
tables_have_map plan = λ i. record {
  deletes = λ b. lookup false (is_deleted plan) b i;
  image = λ b. lookup 0 (image_of plan) b i;
  squeezes = λ b. lookup false (is_squeezed plan) b i;
}

pub none_contained : replicate 256 false ≡ map (λ b. has_byte b []) all_bytes
none_contained = same_table _ _ _ (length-replicate 256 false) (λ i h. get_or-replicate 256 i false false h)

set-table : {X : Type 0} (f g : ℕ → X) (i : ℕ) (v : X) → g i ≡ v → ((k : ℕ) → k ≢ i → g k ≡ f k)
    → set (map f all_bytes) i v ≡ map g all_bytes
set-table f g i v e others =
    same_table _ g v (length-set _ i v ∙ length-table f) (grind (usual, table_at))

-- ---- appending a byte

has_byte-same : (b : ℕ) (bytes more : List ℕ) → has_byte b (bytes ++ b ∷ more) ≡ true
has_byte-same = grind (arith, list_any-append, eq-eqb)

has_byte-copies : (b k n : ℕ) → k ≢ b → has_byte k (replicate n b) ≡ false
has_byte-copies b k zero other = refl
has_byte-copies b k (suc n) other = grind (arith, has_byte-copies b k n other)

has_byte-other : (b k : ℕ) (bytes : List ℕ) (n : ℕ) → k ≢ b → has_byte k (bytes ++ replicate n b) ≡ has_byte k bytes
has_byte-other = grind (arith, list_any-append, has_byte-copies)

pub contents-push : (old : Contents) (bytes : List ℕ) (b more : ℕ) → b < 256 → old ≡ contents_of bytes
    → record { has = set old.has b true; length = old.length + (1 + more) }
    ≡ contents_of (bytes ++ b ∷ replicate more b)
contents-push old bytes b more h e =
    let table =
    set-table _ _ b true (has_byte-same b bytes (replicate more b)) (λ k n. has_byte-other b k bytes (suc more) n) in
    grind (arith, length-append, length-replicate)

pub contents-new : record { has = replicate 256 false; length = 0 } ≡ contents_of []
contents-new = rw none_contained refl

pub ruleset contents_steps = (contents-push)

-- ---- the complement of an array

pub length-all : length all_bytes ≡ 256
unfolding all_bytes
length-all = length-range_with_len 0 256

get_or-all : (i d : ℕ) → i < 256 → get_or all_bytes i d ≡ i
unfolding all_bytes
get_or-all i d low = get_or-range_with_len 0 256 i d low ∙ omega arith

-- the bytes below `n` that the array does not contain
abbrev pub others_below : List ℕ → ℕ → List ℕ
others_below bytes n = filter (λ b. not (has_byte b bytes)) (take n all_bytes)

pub others_below-more : (bytes : List ℕ) (n : ℕ) (t : Bool) → n < 256 → has_byte n bytes ≡ t
    → others_below bytes (n + 1) ≡ others_below bytes n ++ cond t [] (n ∷ [])
others_below-more bytes n t low e = filter_more _ _ n 0 (omega (arith, length-all))
    ∙ rw (get_or-all n 0 low, e) (grind arith)

get_or-has : (contents : Contents) (bytes : List ℕ) (b : ℕ) (d : Bool) → b < 256 → contents ≡ contents_of bytes
    → get_or contents.has b d ≡ has_byte b bytes
get_or-has contents bytes b d h e = rw e (table_at _ b d h)

pub complement-around : (bytes : List ℕ) (b : ℕ) → b < 256 → has_byte b bytes ≡ false
    → (rest : List ℕ) × (complement_of bytes ≡ others_below bytes b ++ b ∷ rest)
complement-around bytes b low h = (
  filter (λ x. not (has_byte x bytes)) (drop (b + 1) all_bytes),
  ap (filter _) (sym (take-append-drop b all_bytes)) ∙ filter-append _ (take b all_bytes) _
      ∙ rw (drop_more all_bytes b 0 (omega (arith, length-all)), get_or-all b 0 low, h) refl,
)

has_byte-filter : (p : ℕ → Bool) (b : ℕ) (xs : List ℕ) → has_byte b (filter p xs) ≡ (p b && has_byte b xs)
has_byte-filter = grind (arith, any-filter_same)

has_byte-all : (b : ℕ) → b < 256 → has_byte b all_bytes ≡ true
has_byte-all b low = list_any_at _ all_bytes b 0 (omega (arith, length-all)) (eq-eqb _ b (get_or-all b 0 low))

pub has_byte-complement : (bytes : List ℕ) (b : ℕ) → b < 256 → has_byte b (complement_of bytes) ≡ not (has_byte b bytes)
has_byte-complement = grind (arith, has_byte-filter, has_byte-all)

pub complement-is : (old : Contents) (bytes : List ℕ) (has : List Bool) (count : ℕ) → old ≡ contents_of bytes
    → length has ≡ 256 → ((k : ℕ) → k < 256 → get_or has k false ≡ not (get_or old.has k false))
    → count ≡ count_by not old.has → record { has = has; length = count } ≡ contents_of (complement_of bytes)
complement-is old bytes has count e long flips counted =
    let table =
    same_table has _ false long (λ k low.
    flips k low ∙ ap not (get_or-has old bytes k false low e) ∙ sym (has_byte-complement bytes k low)) in
    let all = counted ∙ ap (λ (q : Contents). count_by not q.has) e ∙ (grind (usual, length-filter)) in
    rw (table, all) refl

pub is_kept : (first : Contents) (bytes : List ℕ) (b i : ℕ) (t : Bool) → i ≡ b → b < 256 → get_or first.has i false ≡ t
    → first ≡ contents_of (complement_of bytes) → has_byte b bytes ≡ not t
is_kept first bytes b i t j low h e =
    let has = get_or-has first _ b false low e in
    grind (arith, (has_byte-complement bytes b low))

-- ---- the image of a byte

last_position-same : (b : ℕ) (bytes : List ℕ) → last_position b (bytes ++ b ∷ []) ≡ Some (length bytes)
last_position-same b [] = rw (eq-eqb b b refl) refl
last_position-same b (x ∷ bytes) = grind (arith, last_position-same b bytes)

last_position-other : (b k : ℕ) (bytes : List ℕ) → k ≢ b → last_position k (bytes ++ b ∷ []) ≡ last_position k bytes
last_position-other b k [] n = grind arith
last_position-other b k (x ∷ bytes) n = cc (last_position-other b k bytes n)

last_or-take : (o : Option ℕ) (b : ℕ) (bytes : List ℕ) (n : ℕ)
    → last_or o (take (suc n) (b ∷ bytes)) ≡ slice_get (b ∷ bytes) (min n (length bytes))
last_or-take o b bytes zero = grind arith
last_or-take o b [] (suc n) = grind arith
last_or-take o b (c ∷ bytes) (suc n) = grind (arith, last_or-take (Some b) c bytes n)

-- the image that a byte gets when it is pushed
image-same : (from to : List ℕ) (b : ℕ)
    → image_by (from ++ b ∷ []) to b ≡ unwrap_or (last_or None (take (suc (length from)) to)) b
image-same from to b = rw (last_position-same b from) (by_list to)
  where
    by_list : (to : List ℕ)
        → unwrap_or (slice_get to (min (length from) (length to - 1))) b
        ≡ unwrap_or (last_or None (take (suc (length from)) to)) b
    by_list [] = refl
    by_list (t ∷ to) =
        let most : length (t ∷ to) - 1 ≡ length to = omega arith in
        rw (most, last_or-take _ t to _) refl

image-other : (from to : List ℕ) (b k : ℕ) → k ≢ b → image_by (from ++ b ∷ []) to k ≡ image_by from to k
image-other from to b k n = rw (last_position-other b k from n) refl

images-push : (from to : List ℕ) (b : ℕ) (last : Option ℕ) → b < 256
    → last ≡ last_or None (take (suc (length from)) to)
    → set (map (image_by from to) all_bytes) b (unwrap_or last b) ≡ map (image_by (from ++ b ∷ []) to) all_bytes
images-push from to b last h e =
    set-table _ _ b _ (search (rules, image-same)) (λ k n. image-other from to b k n)

abbrev AllOk : List Member → List (Result Member SetFaultKind)
AllOk ms = map Ok ms

pub sequence-ok : (ms : List Member) → sequence (AllOk ms) ≡ Ok ms
sequence-ok [] = refl
sequence-ok (m ∷ ms) = rw (sequence-ok ms) refl

pub never_fault : {X : Type 0} (ms : List Member) (rs : List (Result Member SetFaultKind)) {k : SetFaultKind}
    → rs ≡ AllOk ms → sequence rs ≡ Err k → X
never_fault = grind (arith, sequence-ok)

-- byte `t` of the second array, at index `n`, is taken
pub record TakesNext (o : Option ℕ) (n : ℕ) (to : List Member) (t : Member)
    (after : List (Result Member SetFaultKind)) : Type 0 where
  pub at : drop n to ≡ t ∷ drop (suc n) to
  pub left : after ≡ AllOk (drop (suc n) to)
  pub last : last_or o (member_bytes (take (suc n) to)) ≡ Some t.byte

pub takes_next : (o : Option ℕ) (n : ℕ) (to : List Member) (t : Member) (after : List (Result Member SetFaultKind))
    → AllOk (drop n to) ≡ Ok t ∷ after → TakesNext o n to t after
takes_next o zero [] t after e = absurd (cc)
takes_next o zero (x ∷ to) t after e = grind arith
takes_next o (suc n) [] t after e = absurd (cc)
takes_next o (suc n) (x ∷ to) t after e = grind (arith, takes_next (Some x.byte) n to t after)

ended : (n : ℕ) (to : List Member) → AllOk (drop n to) ≡ [] → length to ≤ n
ended zero [] e = omega arith
ended zero (x ∷ to) e = absurd (cc)
ended (suc n) [] e = omega arith
ended (suc n) (x ∷ to) e = omega (arith, ended n to e)

module _ (before to : List Member) (old : Images) (from : Member) (h : HasPaired before to old)
    (fits : from.byte < 256) where
  count : length (before ++ from ∷ []) ≡ suc (length before)
  count = grind (arith, length-append)

  bytes : member_bytes (before ++ from ∷ []) ≡ member_bytes before ++ from.byte ∷ []
  bytes = map-append _ before _

  paired : (second : Bytes) (last : Option ℕ) → bytes_left second ≡ AllOk (drop (suc (length before)) to)
      → last ≡ last_or None (member_bytes (take (suc (length before)) to))
      → ((more : List Member) → all_paired (from ∷ more) (drop (length before) to)
      ≡ all_paired more (drop (suc (length before)) to))
      → HasPaired (before ++ from ∷ []) to
      (record { table = set old.table from.byte (unwrap_or last from.byte); second = second; last = last })
  paired = grind (usual, bytes, images-push, take-map)

  pub push-next : (second : Bytes) (t : Member) → bytes_left old.second ≡ Ok t ∷ bytes_left second
      → classes_match from.class t.class ≡ true
      → HasPaired (before ++ from ∷ []) to
      (record {
        table = set old.table from.byte (unwrap_or (Some t.byte) from.byte);
        second = second;
        last = Some t.byte;
      })
  push-next = grind (arith, takes_next, paired)

  -- none is left: the last one stays
  pub push-last : (second : Bytes) → bytes_left old.second ≡ [] → bytes_left second ≡ []
      → HasPaired (before ++ from ∷ []) to
      (record { table = set old.table from.byte (unwrap_or old.last from.byte); second = second; last = old.last })
  push-last = grind (arith, ended, paired, drop_all, take_all)

-- the images after a step, as the code writes them
pub written : (before to : List Member) (m : Images) (i u byte : ℕ) (table : List ℕ) (second : Bytes) (last : Option ℕ)
    → m ≡ record { table = table; second = second; last = last } → i ≡ byte → u ≡ unwrap_or m.last byte
    → HasPaired before to (record { table = set table byte (unwrap_or last byte); second = second; last = last })
    → HasPaired before to (record { table = set m.table i u; second = m.second; last = m.last })
written before to m i u byte table second last e f g h = rw (g, f, e) h

pub paired_same : {ms : List Member} (ns to : List Member) {s t : Images} → ms ≡ ns → s ≡ t → HasPaired ns to t
    → HasPaired ms to s
paired_same ns to e f h = rw (e, f) h

-- ---- after the end of the first array

-- `rest` is left of the second array, and no class started in the bytes that were passed
pub record IsPassing (from to : List Member) (images : Images) : Type 0 where
  pub rest : List Member
  pub left : bytes_left images.second ≡ AllOk rest
  pub decides : all_paired from to ≡ all_paired [] rest
  pub table : images.table ≡ map (image_by (member_bytes from) (member_bytes to)) all_bytes

pub split_ok : (rest : List Member) (t : Member) (after : List (Result Member SetFaultKind)) → AllOk rest ≡ Ok t ∷ after
    → (more : List Member) × (rest ≡ t ∷ more) × (after ≡ AllOk more)
split_ok [] t after e = absurd (cc)
split_ok (x ∷ rest) t after e = grind arith

-- no class starts in copies of one byte
plain-passed : (bytes : List ℕ) (rest : List Member) (after : List (Result Member SetFaultKind))
    → AllOk rest ≡ AllOk (plain_members bytes) ++ after
    → (more : List Member) × (after ≡ AllOk more) × (all_paired [] rest ≡ all_paired [] more)
plain-passed [] rest after e = (rest, sym e, refl)
plain-passed (b ∷ bytes) rest after e = grind (arith, split_ok rest, plain-passed bytes)

module _ {from to : List Member} {old : Images} (p : IsPassing from to old) where
  pub passing-next : (second : Bytes) (t : Member) → bytes_left old.second ≡ Ok t ∷ bytes_left second
      → is_some t.class ≡ false → IsPassing from to (record { table = old.table; second = second; last = old.last })
  passing-next = grind (arith, split_ok)

  pub passing-copies : (second : Bytes) (bytes : List ℕ)
      → bytes_left old.second ≡ AllOk (plain_members bytes) ++ bytes_left second
      → IsPassing from to (record { table = old.table; second = second; last = old.last })
  passing-copies = grind (arith, plain-passed)

  pub passing-end : bytes_left old.second ≡ [] → all_paired from to ≡ true
  passing-end s = p.decides ∙ by_rest p.rest (sym p.left ∙ s)
    where
      by_rest : (rest : List Member) → AllOk rest ≡ [] → all_paired [] rest ≡ true
      by_rest [] e = refl
      by_rest (x ∷ rest) e = absurd (cc)

-- ---- the images of two arrays, or the fault of a class

abbrev pub answer_of : Bool → List ℕ → Result (List ℕ) SetFaultKind
answer_of paired images = cond paired (Ok images) (Err ClassPlace)

pub first-bytes : (complement : Bool) (ps : List Segment)
    → member_bytes (first_members complement ps) ≡ first_array complement ps
first-bytes = grind (arith, member_bytes-plain, member_bytes-array)
