-- The lists of `cut` and `join`. An element contains no separator and a number no dash, so splitting at these gives
-- the elements and bounds of the grammar back, and both lists agree with the grammar in both directions. Elements
-- are read from left to right up to the first fault, and digits up to a limit. Merging sorted intervals keeps the
-- set that they select.
use Rattle.ptlangs.proofs
use Rattle.ptlangs.specs
use Rattle.std.proofs.lemmas
use proofs.Common.{Bool, Err, Interval, IsValidInterval, List, None, Ok, Option, Result, Some, [], and_then, ap, arith}
use proofs.Common.{usual, cond, cond_both, cons_ok, drop, element_field, element_interval, elements}
use proofs.Common.{eqb, eqb-true, false, get_or, is_ascii_digit, is_dash, is_err, is_list_separator, length}
use proofs.Common.{length-drop, ltb-true, map, refl, result_err, result_ok, rules, subst, suc, take, take_all}
use proofs.Common.{true, digits_value, value, ℕ, ◌*◌, ◌++◌, ◌+◌, ◌-◌, ◌<◌, ◌∙◌, ◌∷◌, ◌≡◌, ◌≤◌}
use specs.Calls.CutLists.{AreSeparated}
use specs.Private.CutLists.{AreSortedFrom}
use specs.Laws.CutLists.{CutListMatchesGrammar, From, FromTo, IsIntervalElement, One}
use specs.Laws.CutLists.{SpellsInterval, UpTo}
use specs.Laws.CutLists.{cut_list}
use specs.CutLists.{interval, interval_of_parts}
use specs.Private.CutLists.{bounds_of_parts, checked_element, checked_interval, interval_of_bounds, is_bound}
use specs.Calls.CutLists.{cut_list_fault}
use specs.CutLists.{is_selected, selection}
use specs.Laws.Numbers.{IsListOf, Last, More}
use specs.Numbers.{is_empty, is_number, traverse}
use specs.Laws.OutLists.{FirstFileField, IsFieldElement, IsValidField, JoinField, OutListMatchesGrammar}
use specs.Laws.OutLists.{SecondFileField}
use specs.Laws.OutLists.{SpellsField}
use specs.OutLists.{field_of}
use specs.Private.OutLists.{field_by_bytes}
use specs.Calls.OutLists.{out_list_fault}
use specs.declared.outlist.File.{File}
use specs.declared.outlist.OutFault.{OutFault}
use specs.declared.outlist.OutField.TheVariants.{Field}
use specs.declared.outlist.OutField.{OutField}
use specs.declared.ranges.ListFault.{ListFault}
use Rattle.std.proofs.Common.{max}
use lemmas.Bool.{and_parts, cases_Bool, false≢true, ltb-false, not-false}
use lemmas.Int.Digits.{digits_value_more}
use lemmas.List.Elements.{All-append, All-cons}
use lemmas.List.Sorted.{list_any-IsPermutation}
use lemmas.List.Splits.{join_with_byte-slice_split, slice_split_at, slice_split_first, slice_split_none}
use lemmas.List.Sums.{fails_before_first}
use lemmas.Str.Parse.{digit_from_value, digits_value-take-le}
use Rattle.std.proofs.Common.{inl, inr, nat_le, not, sym, ◌&&◌}
use Rattle.std.specs.Prelude.{codes, if◌then◌else◌}
use Rattle.std.specs.List.{join_with_byte}
use Rattle.std.specs.Char.{digit_value}
use Rattle.std.specs.List.Sorted.{IsNonDecreasingBy, IsPermutation}
use Rattle.std.specs.List.{All, filter_map, find, onto_first, position, slice_split}
use Rattle.std.specs.Option.{option_and_then}

-- ---- splitting at the first separator

some_since : {X : Type 0} (b : Bool) {x : X} (y : X) → cond b (Some x) None ≡ Some y → (b ≡ true) × (x ≡ y)
some_since = grind arith

pub split_whole : {X : Type 0} (p : X → Bool) (xs : List X) → position p xs ≡ None → slice_split p xs ≡ xs ∷ []
split_whole = grind (arith, ltb-false, slice_split_none, fails_before_first)

-- the last argument is the value of `&xs[i + 1..]`
pub split_around : {X : Type 0} (p : X → Bool) (xs : List X) (i : ℕ) → position p xs ≡ Some i
    → slice_split p xs ≡ take i xs ∷ slice_split p (take (length xs - (i + 1)) (drop (i + 1) xs))
split_around = grind (arith, some_since, slice_split_first, ltb-true, take_all, length-drop)

-- ---- reading the elements from left to right

abbrev pub append_ok : {A E : Type 0} → List A → Result (List A) E → Result (List A) E
append_ok xs (Ok ys) = Ok (xs ++ ys)
append_ok xs (Err e) = Err e

pub append_ok-nil : {A E : Type 0} (r : Result (List A) E) → r ≡ append_ok [] r
append_ok-nil = grind arith

pub append_ok-cons_ok : {A E : Type 0} (xs : List A) (y : A) (r : Result (List A) E)
    → append_ok xs (cons_ok y r) ≡ append_ok (xs ++ y ∷ []) r
append_ok-cons_ok = grind usual

pub record ReadsFirst {A E : Type 0} (first : Result A E) (others : Result (List A) E) (all : List A) : Type 0 where
  pub head : A
  pub tail : List A
  pub read : first ≡ Ok head
  pub rest : others ≡ Ok tail
  pub is : head ∷ tail ≡ all

pub reads_first : {A E : Type 0} (first : Result A E) (others : Result (List A) E) (all : List A)
    → and_then first (λ y. cons_ok y others) ≡ Ok all → ReadsFirst first others all
reads_first = grind arith

-- ---- what is read of all elements

pub first_fault_is : {A B E : Type 0} (read : A → Result B E) (xs : List A)
    → option_and_then result_err (find is_err (map read xs)) ≡ result_err (traverse read xs)
first_fault_is read [] = refl
first_fault_is read (x ∷ xs) = grind (arith, first_fault_is read xs)

pub values_are : {A B E : Type 0} (read : A → Result B E) (xs : List A) → result_err (traverse read xs) ≡ None
    → traverse read xs ≡ Ok (filter_map (λ x. result_ok (read x)) xs)
values_are read [] e = refl
values_are read (x ∷ xs) e = grind (arith, values_are read xs)

-- ---- the elements that are accepted are those of the grammar

digits_fail : (p : ℕ → Bool) → ((b : ℕ) → is_ascii_digit b ≡ true → p b ≡ false) → (n : List ℕ) → is_number n ≡ true
    → All (λ b. p b ≡ false) n
digits_fail = grind usual

abbrev Unbroken : List ℕ → Type 0
Unbroken bs = All (λ b. is_list_separator b ≡ false) bs

unbroken_number : (n : List ℕ) → is_number n ≡ true → Unbroken n
unbroken_number = digits_fail is_list_separator (λ b h. grind arith)

unbroken_cons : (b : ℕ) (bs : List ℕ) → is_list_separator b ≡ false → Unbroken bs → Unbroken (b ∷ bs)
unbroken_cons = All-cons _

unbroken_append : (xs ys : List ℕ) → Unbroken xs → Unbroken ys → Unbroken (xs ++ ys)
unbroken_append = All-append (λ b. is_list_separator b ≡ false)

unbroken_nil : Unbroken []
unbroken_nil k d below = absurd (omega arith)

-- one part, or a part, a separator and the split of the rest
pub data IsSplit (p : ℕ → Bool) : List ℕ → List (List ℕ) → Type 0 where
  Whole : (bs : List ℕ) → IsSplit p bs (bs ∷ [])
  Cut : (e : List ℕ) (s : ℕ) (bs : List ℕ) (parts : List (List ℕ)) → p s ≡ true → IsSplit p bs parts
      → IsSplit p (e ++ s ∷ bs) (e ∷ parts)

onto : (p : ℕ → Bool) (b : ℕ) (bs : List ℕ) (parts : List (List ℕ)) → IsSplit p bs parts
    → IsSplit p (b ∷ bs) (onto_first b parts)
onto p b bs parts (Whole xs) = Whole _
onto p b bs parts (Cut e s xs rest cut split) = Cut _ s xs rest cut split

pub splits : (p : ℕ → Bool) (bs : List ℕ) → IsSplit p bs (slice_split p bs)
splits p [] = Whole []
splits p (b ∷ bs) = cond_both _ _ _ (IsSplit p _) (λ e. Cut [] b bs _ e (splits p bs))
    (λ e. onto p b bs _ (splits p bs))

module _ {A E : Type 0} (read : List ℕ → Result A E) (Spells : List ℕ → A → Type 0) where
  -- the function accepts exactly the elements of the grammar
  pub record Accepts : Type 0 where
    pub from : (e : List ℕ) (x : A) → Spells e x → read e ≡ Ok x
    pub to : (e : List ℕ) (x : A) → read e ≡ Ok x → Spells e x
    pub whole : (e : List ℕ) (x : A) → Spells e x → Unbroken e

  module _ (a : Accepts) where
    from_grammar : (bs : List ℕ) (xs : List A) → IsListOf Spells bs xs → traverse read (elements bs) ≡ Ok xs
    from_grammar bs xs (Last e x says) = grind (arith, slice_split_none)
    from_grammar bs xs (More e s others x xs' says sep list) = grind (arith, slice_split_at, from_grammar _ xs' list)

    reads_parts : (bs : List ℕ) (parts : List (List ℕ)) (xs : List A) → IsSplit is_list_separator bs parts
        → traverse read parts ≡ Ok xs → IsListOf Spells bs xs
    reads_parts bs parts xs (Whole ys) h = grind (arith, Last)
    reads_parts bs parts xs (Cut e s ys rest cut split) h =
        grind (arith, More, reads_parts ys rest (reads_first _ _ xs h).tail split)

    pub matches_grammar : (bs : List ℕ) (xs : List A) → (IsListOf Spells bs xs → traverse read (elements bs) ≡ Ok xs)
        × (traverse read (elements bs) ≡ Ok xs → IsListOf Spells bs xs)
    matches_grammar = search (rules, from_grammar, reads_parts, splits)

-- ---- reading digits from left to right

pub ruleset number_steps = (digits_value_more, digits_value-take-le, digit_from_value)

pub too_large : (base limit : ℕ) (ds : List ℕ) (i : ℕ) → 1 ≤ base → limit < digits_value base (take i ds)
    → nat_le (digits_value base ds) limit ≡ false
too_large = search (rules, digits_value-take-le)

pub number_step : (base : ℕ) (ds : List ℕ) (i value digit : ℕ) → i < length ds → base ≤ 10
    → digit_value (get_or ds i 0) < base → value ≡ digits_value base (take i ds) → digit ≡ get_or ds i 0 - 48
    → value * base + digit ≡ digits_value base (take (i + 1) ds)
number_step = search (rules, digit_from_value, digits_value_more)

pub not_empty : {X : Type 0} (xs : List X) {b : Bool} → b ≡ eqb (length xs) 0 → b ≡ false → is_empty xs ≡ false
not_empty = grind arith

-- ---- the elements, split at dashes

-- the interval from `n` to `m`, in the steps of the code
interval_is : (n m : List ℕ) (numbers : Bool) → (is_number n && is_number m) ≡ numbers
    → interval n m ≡ checked_interval (if numbers then Some (record { first = value n; last = value m }) else None)
interval_is n m true e = rw e refl
interval_is n m false e = rw e refl

both : (b : Bool) → (b && b) ≡ b
both true = refl
both false = refl

and_true : (b : Bool) → (b && true) ≡ b
and_true true = refl
and_true false = refl

parts_are : (parts : List (List ℕ)) → (parts ≡ [] ∷ [] → ⊥)
    → interval_of_parts parts ≡ checked_interval (bounds_of_parts parts)
parts_are [] some = refl
parts_are ([] ∷ []) some = absurd (some refl)
parts_are ((a ∷ n) ∷ []) some = interval_is (a ∷ n) (a ∷ n) (is_number (a ∷ n)) (both (is_number (a ∷ n)))
parts_are ([] ∷ [] ∷ []) some = refl
parts_are ([] ∷ (b ∷ m) ∷ []) some =
    interval_is (codes "1") (b ∷ m) (is_number (b ∷ m) && true) (sym (and_true (is_number (b ∷ m))))
parts_are ((a ∷ n) ∷ [] ∷ []) some =
    interval_is (a ∷ n) (codes "18446744073709551615")
    (is_bound (a ∷ n) && is_bound [] && not (is_empty (a ∷ n) && is_empty {X = ℕ} [])) (elim (cases_Bool (is_number (a ∷ n))) [
      | inl e ↦ rw e refl
      | inr e ↦ rw e refl
    ])
parts_are ((a ∷ n) ∷ (b ∷ m) ∷ []) some =
    interval_is (a ∷ n) (b ∷ m) (is_number (a ∷ n) && is_number (b ∷ m) && true)
    (sym (and_true (is_number (a ∷ n) && is_number (b ∷ m))))
parts_are (n ∷ m ∷ more ∷ parts) some = refl

pub element_is : (bs : List ℕ) → element_interval bs ≡ checked_element bs
element_is [] = refl
element_is (b ∷ bs) = parts_are (slice_split is_dash (b ∷ bs)) (λ e.
    let whole = sym (join_with_byte-slice_split 45 (b ∷ bs)) ∙ ap (join_with_byte 45) e in cc)

bound_is_one_part : (m : List ℕ) → is_bound m ≡ true → slice_split is_dash m ≡ m ∷ []
bound_is_one_part = grind (usual, slice_split_none)

-- if the part after the first dash is not a bound, the element is rejected
parts_after_dash : (n m : List ℕ) → bounds_of_parts (n ∷ slice_split is_dash m) ≡ interval_of_bounds n m
parts_after_dash n m = grind (arith, cases_Bool (is_bound m), bound_is_one_part, join_with_byte-slice_split 45 m)

pub parts_around_dash : (bs : List ℕ) (i : ℕ) → position is_dash bs ≡ Some i
    → bounds_of_parts (slice_split is_dash bs)
    ≡ interval_of_bounds (take i bs) (take (length bs - (i + 1)) (drop (i + 1) bs))
parts_around_dash bs i h = ap bounds_of_parts (split_around is_dash bs i h)
    ∙ parts_after_dash (take i bs) (take _ (drop (i + 1) bs))

-- ---- from the intervals in the order of the list to the merged intervals

checked_proper : (bounds_of_parts : Option Interval) (r : Interval) → checked_interval bounds_of_parts ≡ Ok r
    → (bounds_of_parts ≡ Some r) × IsValidInterval r
checked_proper = grind arith

fault_of_element : (bs : List ℕ) (e : ListFault) → checked_element bs ≡ Err e → cut_list_fault e ≡ Some e
fault_of_element = grind arith

fault_of_interval : (bs : List ℕ) (e : ListFault) → element_interval bs ≡ Err e → cut_list_fault e ≡ Some e
fault_of_interval bs e h = fault_of_element bs e (sym (element_is bs) ∙ h)

-- no element has the fault of an allocation
pub fault_of_intervals : (all : List (List ℕ)) (e : ListFault) → Some e ≡ result_err (traverse element_interval all)
    → cut_list_fault e ≡ Some e
fault_of_intervals [] e h = cc
fault_of_intervals (x ∷ all) e h = grind (arith, fault_of_interval, fault_of_intervals all e)

proper_element : (bs : List ℕ) (r : Interval) → checked_element bs ≡ Ok r → IsValidInterval r
proper_element [] r h = cc
proper_element (b ∷ bs) r h = (checked_proper (bounds_of_parts (slice_split is_dash (b ∷ bs))) r h).1

proper : (bs : List ℕ) (r : Interval) → element_interval bs ≡ Ok r → IsValidInterval r
proper bs r h = proper_element bs r (sym (element_is bs) ∙ h)

pub each_proper : (all : List (List ℕ)) (rs : List Interval) → traverse element_interval all ≡ Ok rs
    → All IsValidInterval rs
each_proper [] [] h = λ k d below. absurd (omega arith)
each_proper [] (r ∷ rs) h = cc
each_proper (x ∷ all) rs h =
    let f = reads_first _ _ rs h in
    subst (All IsValidInterval) f.is
    (All-cons IsValidInterval f.head f.tail (proper x _ f.read) (each_proper all _ f.rest))

sorted_after : (x : Interval) (xs : List Interval) → All IsValidInterval (x ∷ xs)
    → IsNonDecreasingBy (λ (r : Interval). r.first) (x ∷ xs) → AreSortedFrom x.first xs
sorted_after x [] proper up = tt
sorted_after x (y ∷ xs) proper up = (
  up 0 1 x (omega arith) (omega arith),
  (proper 1 x (omega arith)).ascending,
  sorted_after y xs (λ k d below. proper (suc k) d (omega arith))
      (λ i j d le below. up (suc i) (suc j) d (omega arith) (omega arith)),
)

pub in_order : (xs : List Interval) → All IsValidInterval xs → IsNonDecreasingBy (λ (r : Interval). r.first) xs
    → AreSortedFrom 1 xs
in_order [] proper up = tt
in_order (x ∷ xs) proper up =
    let p = proper 0 x (omega arith) in
    search (rules, sorted_after)

-- the set does not depend on the order of the intervals
pub selection_is_kept : (bs : List ℕ) (listed sorted kept : List Interval) → cut_list bs ≡ Ok listed
    → IsPermutation listed sorted → is_selected kept ≡ is_selected sorted → selection bs ≡ Ok (is_selected kept)
selection_is_kept bs listed sorted kept e p same =
    let moved : is_selected listed ≡ is_selected sorted = grind (arith, list_any-IsPermutation) in
    search rules

-- ---- from the grammar to `cut_list`

checked_ok : (r : Interval) → IsValidInterval r → checked_interval (Some r) ≡ Ok r
checked_ok = grind arith

bounds_at_dash : (n m : List ℕ) → is_number n ≡ true → checked_element (n ++ 45 ∷ m)
    ≡ checked_interval (interval_of_bounds n m)
bounds_at_dash = grind (usual, slice_split_at, digits_fail, parts_after_dash)

accepts_interval : (bs : List ℕ) (r : Interval) → SpellsInterval bs r → IsValidInterval r → checked_element bs ≡ Ok r
accepts_interval bs r (One n h) valid = grind (arith, bound_is_one_part, checked_ok)
accepts_interval bs r (FromTo n m h k) valid = search (rules, bounds_at_dash)
accepts_interval bs r (UpTo [] h) valid = absurd (false≢true h)
accepts_interval bs r (UpTo (c ∷ m) h) valid =
    let bounds : interval_of_bounds [] (c ∷ m) ≡ Some r = rw h refl in
    ap checked_interval (parts_after_dash [] (c ∷ m) ∙ bounds) ∙ checked_ok r valid
accepts_interval bs r (From n h) valid = grind (arith, bounds_at_dash, checked_ok)

unbroken_interval : (bs : List ℕ) (r : Interval) → SpellsInterval bs r → Unbroken bs
unbroken_interval bs r (One n h) = unbroken_number n h
unbroken_interval bs r (FromTo n m h k) = grind (arith, unbroken_append, unbroken_number)
unbroken_interval bs r (UpTo m h) = unbroken_cons 45 m refl (unbroken_number m h)
unbroken_interval bs r (From n h) = grind (arith, unbroken_append, unbroken_number, unbroken_nil)

-- ---- from `cut_list` to the grammar

spelled_one : (bs : List ℕ) (r : Interval)
    → cond (is_number bs) (Some (record { first = value bs; last = value bs })) None ≡ Some r → SpellsInterval bs r
spelled_one = grind (arith, One)

spelled_cut : (n : List ℕ) (s : ℕ) (bs : List ℕ) (rest : List (List ℕ)) (r : Interval) → s ≡ 45
    → IsSplit is_dash bs rest → bounds_of_parts (n ∷ rest) ≡ Some r → SpellsInterval (n ++ s ∷ bs) r
spelled_cut = grind (usual, Whole, Cut, some_since, and_parts, UpTo, From, FromTo)

spelled_interval : (bs : List ℕ) (parts : List (List ℕ)) (r : Interval) → IsSplit is_dash bs parts
    → bounds_of_parts parts ≡ Some r → SpellsInterval bs r
spelled_interval bs parts r (Whole xs) e = spelled_one xs r e
spelled_interval bs parts r (Cut n s xs rest cut split) e = grind (arith, spelled_cut)

reads_interval : (bs : List ℕ) (r : Interval) → checked_element bs ≡ Ok r → IsIntervalElement bs r
reads_interval [] r h = cc
reads_interval (b ∷ bs) r h =
    let (parts, valid) = checked_proper _ r h in
    (spelled_interval _ _ r (splits _ _) parts, valid)

pub accepts_cut_lists : CutListMatchesGrammar
accepts_cut_lists = matches_grammar element_interval IsIntervalElement (record {
  from = λ e r (spells, valid). element_is e ∙ accepts_interval e r spells valid;
  to = λ e r h. reads_interval e r (sym (element_is e) ∙ h);
  whole = λ e r (spells, _). unbroken_interval e r spells;
})

-- ---- merging sorted intervals

-- the merged intervals, the current one and the rest select the same numbers as all sorted intervals
pub record Merges (sorted kept : List Interval) (current : Interval) (rest : List Interval) : Type 0 where
  pub positive : 1 ≤ current.first
  pub separated : AreSeparated 0 (kept ++ current ∷ [])
  pub ordered : AreSortedFrom current.first rest
  pub same : (n : ℕ) → is_selected (kept ++ current ∷ rest) n ≡ is_selected sorted n

AreSeparated-longer : (low : ℕ) (kept : List Interval) (r s : Interval) → s.first ≡ r.first → r.last ≤ s.last
    → AreSeparated low (kept ++ r ∷ []) → AreSeparated low (kept ++ s ∷ [])
AreSeparated-longer low [] r s e h separated = grind arith
AreSeparated-longer low (k ∷ kept) r s e h separated = grind (arith, AreSeparated-longer (k.last + 1) kept)

AreSeparated-more : (low : ℕ) (kept : List Interval) (r s : Interval) → r.last + 1 < s.first → s.first ≤ s.last
    → AreSeparated low (kept ++ r ∷ []) → AreSeparated low ((kept ++ r ∷ []) ++ s ∷ [])
AreSeparated-more low [] r s gap proper separated = grind arith
AreSeparated-more low (k ∷ kept) r s gap proper separated = grind (arith, AreSeparated-more (k.last + 1) kept)

InOrder-lower : (low high : ℕ) (rest : List Interval) → low ≤ high → AreSortedFrom high rest → AreSortedFrom low rest
InOrder-lower low high [] h ordered = tt
InOrder-lower low high (r ∷ rest) h ordered = grind arith

pub absorbs : {sorted : List Interval} (kept : List Interval) (r s t : Interval) (rest : List Interval)
    → t.first ≡ r.first
    → t.last ≡ max r.last s.last → s.first - 1 ≤ r.last → Merges sorted kept r (s ∷ rest) → Merges sorted kept t rest
absorbs = grind (usual, AreSeparated-longer, InOrder-lower)

pub starts_next : {sorted : List Interval} (kept : List Interval) (r s : Interval) {rest : List Interval}
    → r.last < s.first - 1
    → Merges sorted kept r (s ∷ rest) → Merges sorted (kept ++ r ∷ []) s rest
starts_next = grind (usual, AreSeparated-more)

-- ---- from the grammar to `out_list`

accepts_field : (e : List ℕ) (f : OutField) → SpellsField e f → IsValidField f → element_field e ≡ Ok f
accepts_field e f JoinField proper = refl
accepts_field e f (FirstFileField n h) proper = grind arith
accepts_field e f (SecondFileField n h) proper = grind arith

after_file_number : (name : ℕ) (n : List ℕ) → is_list_separator name ≡ false → is_number n ≡ true
    → Unbroken (name ∷ 46 ∷ n)
after_file_number = grind (arith, unbroken_cons, unbroken_number)

-- ---- an element by its bytes

and_false : (b : Bool) → (b && false) ≡ false
and_false true = refl
and_false false = refl

pub field_is : (e : List ℕ) → element_field e ≡ field_by_bytes e
field_is [] = refl
field_is (b ∷ []) = rw (and_true (eqb b 48), and_false (eqb b 49), and_false (eqb b 50)) refl
field_is (b ∷ c ∷ n) = elim (cases_Bool (eqb c 46)) [
  | inl e ↦ rw (e, and_false (eqb b 48), and_true (eqb b 49), and_true (eqb b 50)) refl
  | inr e ↦ rw (e, and_false (eqb b 48), and_false (eqb b 49), and_false (eqb b 50)) refl
]

-- ---- the fault of a list

field_fault : (bs : List ℕ) (e : OutFault) → field_by_bytes bs ≡ Err e → out_list_fault e ≡ Some e
field_fault = grind arith

fault_of_field : (bs : List ℕ) (e : OutFault) → element_field bs ≡ Err e → out_list_fault e ≡ Some e
fault_of_field bs e h = field_fault bs e (sym (field_is bs) ∙ h)

-- no element has the fault of an allocation
pub fault_of_fields : (all : List (List ℕ)) (e : OutFault) → Some e ≡ result_err (traverse element_field all)
    → out_list_fault e ≡ Some e
fault_of_fields [] e h = cc
fault_of_fields (x ∷ all) e h = grind (arith, fault_of_field, fault_of_fields all e)

-- ---- from `out_list` to the grammar

abbrev Spelled : List ℕ → OutField → Result OutField OutFault → Type 0
Spelled e f r = r ≡ Ok f → IsFieldElement e f

spelled_field : (file : File) (name : ℕ) (n : List ℕ) (f : OutField)
    → (is_number n ≡ true → SpellsField (name ∷ 46 ∷ n) (Field file (value n)))
    → Spelled (name ∷ 46 ∷ n) f (field_of file n)
spelled_field = grind arith

reads_field : (e : List ℕ) (f : OutField) → Spelled e f (field_by_bytes e)
reads_field [] f = λ h. cc
reads_field (b ∷ []) f = grind (arith, JoinField)
reads_field (b ∷ c ∷ n) f =
    cond_both _ _ _ (Spelled _ f) (λ t h. cc)
    (λ point. cond_both _ _ _ (Spelled _ f)
    (λ t. rw (eqb-true b 49 t, eqb-true c 46 (not-false (eqb c 46) point)) (spelled_field _ 49 n f (FirstFileField n)))
    (λ other. cond_both _ _ _ (Spelled _ f)
    (λ t. rw (eqb-true b 50 t, eqb-true c 46 (not-false (eqb c 46) point))
    (spelled_field _ 50 n f (SecondFileField n))) (λ t h. cc)))

pub accepts_out_lists : OutListMatchesGrammar
accepts_out_lists = matches_grammar element_field IsFieldElement (record {
  from = search (rules, accepts_field);
  to = λ e f h. reads_field e f (sym (field_is e) ∙ h);
  whole = λ e f (spells, _). (grind (arith, unbroken_nil, after_file_number));
})
