-- The characters, elements and segments of a string of `tr`. The definitions agree with the grammar case by case, and
-- the fault of a string is that of its first faulty element. For the code: a byte other than a backslash is a character
-- by itself, so bytes may be looked at where the definition looks at characters.
use Rattle.ptlangs.proofs
use Rattle.ptlangs.specs
use Rattle.std.proofs.lemmas
use proofs.Common.{Bool, Err, List, None, Ok, Option, Result, Segment, SetChar, SetElement, SetFaultKind}
use proofs.Common.{SetRole, Some, SpellsChars, [], ap, arith, byte_of, chars, chars_after, usual, cond_both}
use proofs.Common.{digits_value, drop, drop_all, eqb, false, get_or, is_ascii_digit, is_fill, length, ltb-true}
use proofs.Common.{map, ne_eqb, refl, rules, segments, sequence, set_elements, subst, suc, sym, take, true}
use proofs.Common.{cons_ok, zero, ℕ, ◌++◌, ◌+◌, ◌-◌, ◌<◌, ◌||◌, ◌∙◌, ◌∷◌, ◌≡◌, ◌≢◌, ◌≤◌}
use specs.Laws.TrChars.{AChar, ALargeOctal, ALoneBackslash, APlainByte, AnEscape, AnOctal, IsOctalRun, OneDigit}
use specs.Laws.TrReading.{Escaped}
use specs.Laws.TrChars.{ThreeDigits, TwoDigits, NoChar, SpellsChar}
use specs.TrChars.{is_octal_digit}
use specs.Laws.TrReading.{Invalid, Plain}
use specs.Laws.TrReading.{after_backslash, char_at, octal, octal_run}
use specs.TrClasses.{class_named}
use specs.Laws.TrElements.{AClass, ADescendingRange, ARange, ARepeat, Alone, AnEquivalence, AnInvalidChar}
use specs.Laws.TrElements.{AnInvalidEnd}
use specs.Laws.TrElements.{AreElements, ByEscape, ByItself, DenotesByte, HasBracketed, InBrackets, StartsBracketed}
use specs.Laws.TrElements.{StartsElement, StartsInvalid}
use specs.Laws.TrReading.{after_plain, after_run, after_two, bracketed_at, char_or_range, equivalence_with_byte}
use specs.Laws.TrReading.{class_at, class_with_name, elements_after, equivalence_after_equals, equivalence_at}
use specs.Laws.TrReading.{first_set_element, or_char, plain_run, range_to, repeat_after_byte, repeat_after_star}
use specs.Laws.TrReading.{repeat_at}
use specs.TrElements.{repeat_count}
use specs.Laws.TrReading.{single_or_range, with_rest}
use specs.Private.TrParsing.{enclosed_at, first_byte}
use specs.Laws.TrPlan.{FirstFault, LaterFault, NoElement, NoSegment}
use specs.Laws.TrReading.{segment}
use specs.declared.tr.elements.SetElement.TheVariants.{Class, Equivalence, Repeat, Single}
use Rattle.std.proofs.Common.{All, inl, inr, nat_le, nat_lt}
use lemmas.Bool.{cases_Bool, le-leb, le-ltb, lt-leb}
use lemmas.List.Folds.{length-prefix_len}
use lemmas.List.Sums.{AllPass-from_list_all, prefix_len_passes, take_while-cons}
use lemmas.List.{drop_at, get_or-take, length-take, take-append-drop, take-take}
use Rattle.std.specs.Char.{digit_value, is_ascii_lowercase}
use Rattle.std.specs.List.{AllPass, list_all, prefix_len, take_while}
use Rattle.std.specs.Option.{option_and_then}

pub length-octal_run : (bs : List ℕ) → length (octal_run bs) ≤ length bs
length-octal_run bs = grind (usual, length-prefix_len is_octal_digit (take 3 bs), length-take 3 bs)

pub take-octal_run : (bs : List ℕ) → take (length (octal_run bs)) bs ≡ octal_run bs
take-octal_run bs =
    let n = prefix_len is_octal_digit (take 3 bs) in
    let short : n ≤ 3 = grind arith in
    ap (λ m. take m bs) (length-prefix_len is_octal_digit (take 3 bs)) ∙ sym (take-take n 3 bs short)

pub octal_digits : (bs : List ℕ) → All (λ d. digit_value d < 8) (take (length (octal_run bs)) bs)
octal_digits bs = rw (take-octal_run bs) (grind (usual, length-take, get_or-take, prefix_len_passes))

pub after_backslash-octal : (bs : List ℕ) → 0 < length bs → is_octal_digit (get_or bs 0 0) ≡ true
    → after_backslash bs ≡ (octal (digits_value 8 (octal_run bs)), length (octal_run bs))
after_backslash-octal = grind arith

pub chars-cons : (b : ℕ) (bs : List ℕ) → chars (b ∷ bs) ≡ (char_at b bs).0 ∷ chars (drop (char_at b bs).1 bs)
chars-cons b bs = grind arith

pub chars-plain : (b : ℕ) (bs : List ℕ) → b ≢ 92 → chars (b ∷ bs) ≡ Plain b ∷ chars bs
chars-plain = search rules

pub ruleset char_steps = (chars-plain, chars-cons)

pub ruleset octal_steps = (length-octal_run, after_backslash-octal)

-- ---- from the grammar to the computed characters

run_is : (digits rest : List ℕ) → IsOctalRun digits rest
    → after_backslash (digits ++ rest) ≡ (octal (digits_value 8 digits), length digits)
run_is digits rest (OneDigit a [] ha n) = rw ha refl
run_is digits rest (OneDigit a (b ∷ more) ha n) = rw (ha, n) refl
run_is digits rest (TwoDigits a b [] ha hb n) = rw (ha, hb) refl
run_is digits rest (TwoDigits a b (c ∷ more) ha hb n) = rw (ha, hb, n) refl
run_is digits rest (ThreeDigits a b c more ha hb hc) = rw (ha, hb, hc) refl

escape_is : (digits rest : List ℕ) {u : SetChar} → IsOctalRun digits rest → octal (digits_value 8 digits) ≡ u
    → chars (92 ∷ digits ++ rest) ≡ u ∷ chars rest
escape_is digits rest run is = rw (chars-cons 92 _, run_is _ _ run, is, drop_at digits rest _ refl) refl

char_is : (bs : List ℕ) (u : SetChar) (rest : List ℕ) → SpellsChar bs u rest → chars bs ≡ u ∷ chars rest
char_is = grind (arith, ne_eqb, escape_is, le-leb, lt-leb)

pub chars_are : (bs : List ℕ) (us : List SetChar) → SpellsChars bs us → chars bs ≡ us
chars_are bs us NoChar = refl
chars_are bs us (AChar ds rest u more s others) = cc (char_is ds u _ s, chars_are _ _ others)

-- ---- from the computed characters to the grammar

run_spelled : (a : ℕ) (more : List ℕ) → is_octal_digit a ≡ true
    → IsOctalRun (octal_run (a ∷ more)) (drop (length (octal_run (a ∷ more))) (a ∷ more))
run_spelled = grind (arith, TwoDigits, OneDigit, ThreeDigits)

escape_spelled : (bs : List ℕ) → SpellsChar (92 ∷ bs) (after_backslash bs).0 (drop (after_backslash bs).1 bs)
escape_spelled [] = ALoneBackslash
escape_spelled (b ∷ more) = elim (cases_Bool (is_octal_digit b)) [
  | inl h ↦
      let digits = octal_run (b ∷ more) in
      let rest = drop (length digits) (b ∷ more) in
      let all = ap (λ ds. ds ++ rest) (sym (take-octal_run (b ∷ more))) ∙ take-append-drop (length digits) (b ∷ more) in
      rw (after_backslash-octal (b ∷ more) (omega arith) h)
      (subst (λ xs. SpellsChar (92 ∷ xs) (octal (digits_value 8 digits)) rest) all
      (elim (cases_Bool (nat_le (digits_value 8 digits) 255)) [
        | inl small ↦ rw small (AnOctal digits rest (run_spelled b more h) (grind arith))
        | inr large ↦ rw large (ALargeOctal digits rest (run_spelled b more h) (grind arith))
      ]))
  | inr h ↦ rw h (AnEscape b more h)
]

pub spelled : (bs : List ℕ) (skip : ℕ) → SpellsChars (drop skip bs) (chars_after bs skip)
spelled [] zero = NoChar
spelled [] (suc skip) = NoChar
spelled (b ∷ bs) zero = AChar (b ∷ bs) _ _ _ (grind (arith, escape_spelled, APlainByte)) (spelled bs _)
spelled (b ∷ bs) (suc skip) = spelled bs _

-- ---- one plain byte

pub after_plain-other : (b c : ℕ) (bs : List ℕ) → b ≢ c → after_plain c (chars (b ∷ bs)) ≡ None
after_plain-other = grind (arith, chars-cons, ne_eqb)

pub ruleset after_plain_steps = (chars-plain, after_plain-other)

-- ---- a run of plain bytes

pub plain_run-chars : (test : ℕ → Bool) → test 92 ≡ false → (bs : List ℕ)
    → plain_run test (chars bs) ≡ take_while test bs
plain_run-chars test n [] = refl
plain_run-chars test n (b ∷ bs) = grind (arith, take_while-cons, chars-cons, chars-plain, plain_run-chars test n bs)

drop-prefix_len : (test : ℕ → Bool) → test 92 ≡ false → (bs : List ℕ)
    → drop (prefix_len test bs) (chars bs) ≡ chars (drop (prefix_len test bs) bs)
drop-prefix_len test n [] = refl
drop-prefix_len test n (b ∷ bs) =
    let next : 1 + prefix_len test bs ≡ suc _ = omega arith in
    cond_both (test b) _ 0 (λ (m : ℕ). drop m (chars (b ∷ bs)) ≡ chars (drop m (b ∷ bs)))
    (λ e. let plain : b ≢ 92 = λ same. cc in rw (
      chars-plain b bs plain,
      next,
    ) (drop-prefix_len test n bs)) (λ e. refl)

pub run_taken : (test : ℕ → Bool) → test 92 ≡ false → (bs : List ℕ) (count : ℕ) → count ≡ length (take_while test bs)
    → take count bs ≡ plain_run test (chars bs)
run_taken = grind (usual, plain_run-chars)

pub run_rest : (test : ℕ → Bool) → test 92 ≡ false → (bs : List ℕ) (count : ℕ) → count ≡ length (take_while test bs)
    → chars (drop count bs) ≡ after_run test (chars bs)
run_rest = grind (usual, plain_run-chars, length-prefix_len, drop-prefix_len)

list_all-plain_run : (test : ℕ → Bool) (us : List SetChar) → list_all test (plain_run test us) ≡ true
list_all-plain_run test [] = refl
list_all-plain_run test (u ∷ us) = grind (arith, list_all-plain_run test us)

pub run_passes : (test : ℕ → Bool) (bs : List ℕ) (us : List SetChar) → bs ≡ plain_run test us → AllPass test bs
run_passes test bs us e = AllPass-from_list_all test bs (rw e (list_all-plain_run _ us))

-- ---- from the computed elements to the grammar

run_split : (test : ℕ → Bool) (us : List SetChar) → us ≡ map Plain (plain_run test us) ++ after_run test us
run_split test [] = refl
run_split test (u ∷ us) = grind (arith, run_split test us)

-- the cases of `after_plain c`: it finds nothing, or plain byte `c` first
after_plain_cases : (Q : List SetChar → Option (List SetChar) → Type 0) (c : ℕ) (us : List SetChar)
    → ((vs : List SetChar) → Q vs None) → ((rest : List SetChar) → Q (Plain c ∷ rest) (Some rest))
    → Q us (after_plain c us)
after_plain_cases = grind arith

after_two_cases : (Q : List SetChar → Option (List SetChar) → Type 0) (c d : ℕ) (us : List SetChar)
    → ((vs : List SetChar) → Q vs None) → ((rest : List SetChar) → Q (Plain c ∷ Plain d ∷ rest) (Some rest))
    → Q us (after_two c d us)
after_two_cases = grind arith

abbrev StartsFound : List SetChar → Option (SetElement × List SetChar) → Type 0
StartsFound us None = Unit {0}
StartsFound us (Some (p, rest)) = StartsBracketed us p rest

repeat_found : (u : SetChar) (v : ℕ) (us : List SetChar) → DenotesByte u v
    → StartsFound (Plain 91 ∷ u ∷ us) (option_and_then (repeat_after_star v) (after_plain 42 us))
repeat_found u v us m =
    after_plain_cases (λ xs o. StartsFound (Plain 91 ∷ u ∷ xs) (option_and_then (repeat_after_star v) o)) 42 us
    _ (λ more.
    let run = plain_run is_ascii_digit more in
    subst (λ (xs : List SetChar). StartsFound (Plain 91 ∷ u ∷ Plain 42 ∷ xs) (repeat_after_star v more))
    (sym (run_split is_ascii_digit more))
    (after_plain_cases (λ xs o. StartsFound (Plain 91 ∷ u ∷ Plain 42 ∷ map Plain run ++ xs)
    (with_rest (Repeat v (repeat_count run)) o)) 93 (after_run is_ascii_digit more) _
    (λ rest. ARepeat u v run rest m (list_all-plain_run is_ascii_digit more))))

repeat_starts : (us : List SetChar) → StartsFound (Plain 91 ∷ us) (repeat_at us)
repeat_starts = grind (arith, repeat_found, ByItself, ByEscape)

name_found : (name : List ℕ) (us : List SetChar) → list_all is_ascii_lowercase name ≡ true
    → StartsFound (Plain 91 ∷ Plain 58 ∷ map Plain name ++ us) (class_with_name name us)
name_found [] us t = tt
name_found (c ∷ name) us t =
    after_two_cases (λ xs o. StartsFound (Plain 91 ∷ Plain 58 ∷ map Plain (c ∷ name) ++ xs)
    (with_rest (Class (class_named (c ∷ name))) o)) 58 93 us _ (λ rest. AClass c name rest t)

class_starts : (us : List SetChar) → StartsFound (Plain 91 ∷ us) (class_at us)
class_starts = grind (arith, run_split, name_found, list_all-plain_run)

equivalence_found : (u : SetChar) (v : ℕ) (us : List SetChar) → DenotesByte u v
    → StartsFound (Plain 91 ∷ Plain 61 ∷ u ∷ us) (with_rest (Equivalence v) (after_two 61 93 us))
equivalence_found = grind (arith, AnEquivalence)

equivalence_starts : (us : List SetChar) → StartsFound (Plain 91 ∷ us) (equivalence_at us)
equivalence_starts = grind (arith, by_unit)
  where
    by_unit : (more : List SetChar) → StartsFound (Plain 91 ∷ Plain 61 ∷ more) (equivalence_after_equals more)
    by_unit [] = tt
    by_unit (Plain b ∷ more) = equivalence_found _ b more (ByItself b)
    by_unit (Escaped b ∷ more) = equivalence_found _ b more (ByEscape b)
    by_unit (Invalid k ∷ more) = tt

bracketed_starts : (us : List SetChar) → StartsFound us (bracketed_at us)
bracketed_starts = grind (usual, repeat_starts, class_starts, equivalence_starts)

-- ---- from the grammar to the computed elements

byte_of-DenotesByte : (u : SetChar) (v : ℕ) → DenotesByte u v → byte_of u ≡ Ok v
byte_of-DenotesByte = grind arith

plain_run-map : (test : ℕ → Bool) (bs : List ℕ) (c : ℕ) (rest : List SetChar) → list_all test bs ≡ true
    → test c ≡ false → plain_run test (map Plain bs ++ Plain c ∷ rest) ≡ bs
plain_run-map test [] c rest t n = rw n refl
plain_run-map test (b ∷ bs) c rest t n = grind (arith, plain_run-map test bs c rest)

after_run-map : (test : ℕ → Bool) (bs : List ℕ) (c : ℕ) (rest : List SetChar) → list_all test bs ≡ true
    → test c ≡ false → after_run test (map Plain bs ++ Plain c ∷ rest) ≡ Plain c ∷ rest
after_run-map = grind (usual, plain_run-map)

bracketed_at-StartsBracketed : (us : List SetChar) (p : SetElement) (rest : List SetChar)
    → StartsBracketed us p rest → bracketed_at us ≡ Some (p, rest)
bracketed_at-StartsBracketed us p rest (ARepeat u v digits more m t) = grind (
  arith,
  byte_of-DenotesByte,
  after_run-map,
  plain_run-map,
)
bracketed_at-StartsBracketed us p rest (AClass c name more t) =
    rw ((ne_eqb c 42 (λ e. cc)), after_run-map _ _ 58 _ t refl, plain_run-map _ _ 58 _ t refl) refl
bracketed_at-StartsBracketed us p rest (AnEquivalence u v more m) = grind (arith, byte_of-DenotesByte)

bracketed_at-none : (us : List SetChar) → bracketed_at us ≡ None → ¬ HasBracketed us
bracketed_at-none = grind (arith, bracketed_at-StartsBracketed)

bracketed_at-unless : (us : List SetChar) → ¬ HasBracketed us → bracketed_at us ≡ None
bracketed_at-unless = grind (arith, bracketed_starts)

-- ---- the first element

-- the characters start with this element, or with none because of this fault
abbrev pub StartsAs : List SetChar → Result (SetElement × List SetChar) SetFaultKind → Type 0
StartsAs us (Ok (p, rest)) = StartsElement us p rest
StartsAs us (Err k) = StartsInvalid us k

range_starts : (u v : SetChar) (a b : ℕ) (more : List SetChar) → ¬ HasBracketed (u ∷ Plain 45 ∷ v ∷ more)
    → DenotesByte u a → DenotesByte v b → StartsAs (u ∷ Plain 45 ∷ v ∷ more) (range_to a (Ok b) more)
range_starts = grind (arith, ADescendingRange, ARange, ltb-true)

byte_starts : (u : SetChar) (a : ℕ) (us : List SetChar) → ¬ HasBracketed (u ∷ us) → DenotesByte u a
    → StartsAs (u ∷ us) (single_or_range a us (after_plain 45 us))
byte_starts = grind (arith, Alone, range_starts, ByItself, ByEscape, AnInvalidEnd)

char_starts : (u : SetChar) (us : List SetChar) → ¬ HasBracketed (u ∷ us)
    → StartsAs (u ∷ us) (char_or_range (byte_of u) us)
char_starts = grind (arith, byte_starts, ByItself, ByEscape, AnInvalidChar)

pub starts_as : (u : SetChar) (us : List SetChar) {r : Result (SetElement × List SetChar) SetFaultKind}
    → first_set_element (u ∷ us) ≡ r → StartsAs (u ∷ us) r
starts_as u us e = subst (StartsAs _) e (by_form _ refl)
  where
    by_form : (o : Option (SetElement × List SetChar)) → bracketed_at (u ∷ us) ≡ o → StartsAs (u ∷ us) (or_char o u us)
    by_form None f = char_starts u us (bracketed_at-none _ f)
    by_form (Some (p, rest)) f = InBrackets _ p rest (subst (StartsFound _) f (bracketed_starts (u ∷ us)))

pub first_set_element-found : (us : List SetChar) (p : SetElement) (rest : List SetChar)
    → bracketed_at us ≡ Some (p, rest) → first_set_element us ≡ Ok (p, rest)
first_set_element-found = grind arith

first_set_element-StartsElement : (us : List SetChar) (p : SetElement) (rest : List SetChar)
    → StartsElement us p rest → first_set_element us ≡ Ok (p, rest)
first_set_element-StartsElement us p rest (InBrackets xs q more f) =
    first_set_element-found xs q _ (bracketed_at-StartsBracketed xs q _ f)
first_set_element-StartsElement us p rest (ARange u v a b more n m w h) = grind (arith, byte_of-DenotesByte, le-ltb)
first_set_element-StartsElement us p rest (Alone u a more n d m) =
    rw (bracketed_at-unless _ n, byte_of-DenotesByte u a m) (by_dash _ refl)
  where
    by_dash : (o : Option (List SetChar)) → after_plain 45 more ≡ o → single_or_range a more o ≡ Ok (Single a, more)
    by_dash None e = refl
    by_dash (Some []) e = refl
    by_dash (Some (v ∷ xs)) e = grind arith

-- ---- all elements

-- an element takes at least one character
abbrev pub IsProperSuffix : List SetChar → List SetChar → Type 0
IsProperSuffix us rest = (front : List SetChar) × (us ≡ front ++ rest) × (0 < length front)

StartsBracketed-front : (us : List SetChar) (p : SetElement) (rest : List SetChar) → StartsBracketed us p rest
    → IsProperSuffix us rest
StartsBracketed-front us p rest (ARepeat u v digits more m t) = (
  Plain 91 ∷ u ∷ Plain 42 ∷ map Plain digits ++ Plain 93 ∷ [],
  grind usual,
  omega arith,
)
StartsBracketed-front us p rest (AClass c name more t) = (
  Plain 91 ∷ Plain 58 ∷ map Plain (c ∷ name) ++ Plain 58 ∷ Plain 93 ∷ [],
  grind usual,
  omega arith,
)
StartsBracketed-front us p rest (AnEquivalence u v more m) =
    (Plain 91 ∷ Plain 61 ∷ u ∷ Plain 61 ∷ Plain 93 ∷ [], refl, omega arith)

pub StartsElement-front : (us : List SetChar) (p : SetElement) (rest : List SetChar) → StartsElement us p rest
    → IsProperSuffix us rest
StartsElement-front us p rest (InBrackets xs q more f) = StartsBracketed-front xs q more f
StartsElement-front us p rest (ARange u v a b more n m w h) = (u ∷ Plain 45 ∷ v ∷ [], refl, omega arith)
StartsElement-front us p rest (Alone u a more n d m) = (u ∷ [], refl, omega arith)

elements_after_is : (us : List SetChar) (skip : ℕ) → elements_after us skip ≡ set_elements (drop skip us)
elements_after_is [] skip = grind (arith, drop_all)
elements_after_is (u ∷ us) zero = refl
elements_after_is (u ∷ us) (suc skip) = elements_after_is us _

drop_prefix : (u : SetChar) (us rest front : List SetChar) → u ∷ us ≡ front ++ rest → 0 < length front
    → drop (length us - length rest) us ≡ rest
drop_prefix u us rest [] e h = absurd (omega arith)
drop_prefix u us rest (f ∷ front) e h = grind usual

pub set_elements-first : (us : List SetChar) (p : SetElement) (rest : List SetChar)
    → first_set_element us ≡ Ok (p, rest) → set_elements us ≡ Ok p ∷ set_elements rest
set_elements-first [] p rest e = absurd (cc)
set_elements-first (u ∷ us) p rest e =
    let (front, all, some) = StartsElement-front _ p rest (starts_as u us e) in
    grind (arith, elements_after_is, drop_prefix)

pub set_elements-fault : (us : List SetChar) (k : SetFaultKind) → 0 < length us → first_set_element us ≡ Err k
    → set_elements us ≡ Err k ∷ []
set_elements-fault = grind arith

by_result : {A P : Type 0} (r : Result A SetFaultKind) → ((x : A) → r ≡ Ok x → P) → ((k : SetFaultKind) → r ≡ Err k → P)
    → P
by_result (Ok x) good bad = good x refl
by_result (Err k) good bad = bad k refl

by_first : {P : Type 0} (u : SetChar) (us : List SetChar)
    → ((p : SetElement) (rest : List SetChar) → StartsElement (u ∷ us) p rest
    → set_elements (u ∷ us) ≡ Ok p ∷ set_elements rest → P)
    → ((k : SetFaultKind) → StartsInvalid (u ∷ us) k → set_elements (u ∷ us) ≡ Err k ∷ [] → P) → P
by_first u us element fault = by_result _ (λ (p, rest) e. search (rules, starts_as, set_elements-first))
    (λ k e. fault k (starts_as u us e) (set_elements-fault (u ∷ us) k (omega arith) e))

pub set_elements-AreElements : (us : List SetChar) (ps : List SetElement) → AreElements us ps
    → set_elements us ≡ map Ok ps
set_elements-AreElements us [] e = ap set_elements e
set_elements-AreElements us (p ∷ ps) (rest, begins, more) = grind (
  arith,
  set_elements-first,
  first_set_element-StartsElement,
  set_elements-AreElements _ ps more,
)

pub AreElements-set_elements : (ps : List SetElement) (us : List SetChar) → set_elements us ≡ map Ok ps
    → AreElements us ps
AreElements-set_elements [] [] e = refl
AreElements-set_elements [] (u ∷ us) e = by_first u us (λ p rest b is. let never = sym is ∙ e in cc) (λ k b is. cc)
AreElements-set_elements (p ∷ ps) [] e = absurd (cc)
AreElements-set_elements (p ∷ ps) (u ∷ us) e = by_first u us
    (λ q rest b is.
    let all = sym is ∙ e in
    let same : q ≡ p = cc in
    (rest, subst (λ (x : SetElement). StartsElement (u ∷ us) x rest) same b, AreElements-set_elements ps rest (cc)))
    (λ k b is. absurd (cc))

-- ---- the bracketed forms and the first element, as the code finds them

pub repeat_at-first : (us : List SetChar) → repeat_at us ≡ repeat_after_byte (first_byte us) (drop 1 us)
repeat_at-first = grind arith

pub ruleset repeat_steps = (repeat_at-first, run_passes)

pub enclosed-class : (us inside after : List SetChar) (name : List ℕ) → us ≡ Plain 58 ∷ inside
    → name ≡ plain_run is_ascii_lowercase inside → after ≡ after_run is_ascii_lowercase inside
    → eqb (length name) 0 ≡ false → enclosed_at us ≡ with_rest (Class (class_named name)) (after_two 58 93 after)
enclosed-class = grind arith

pub equivalence-first : (us : List SetChar)
    → equivalence_after_equals us ≡ equivalence_with_byte (first_byte us) (drop 1 us)
equivalence-first = grind arith

pub ruleset enclosed_steps = (chars-plain, equivalence-first)

pub first_set_element-first : (us : List SetChar) → None ≡ bracketed_at us
    → first_set_element us ≡ char_or_range (first_byte us) (drop 1 us)
first_set_element-first = grind arith

pub single_or_range-first : (a : ℕ) (us more : List SetChar) → 0 < length more
    → single_or_range a us (Some more) ≡ range_to a (first_byte more) (drop 1 more)
single_or_range-first = grind arith

pub chars-some : (bs : List ℕ) → 0 < length bs → 0 < length (chars bs)
chars-some [] h = absurd (omega arith)
chars-some (b ∷ bs) h = omega arith

pub ruleset first_steps = (first_set_element-first, single_or_range-first, chars-some)

-- ---- the segments of the elements, one after another

pub segments-element : (role : SetRole) (has_fill : Bool) (us rest : List SetChar) (p : SetElement)
    {x : Result Segment SetFaultKind}
    → Ok (p, rest) ≡ first_set_element us → x ≡ segment role has_fill p
    → segments role has_fill (set_elements us) ≡ x ∷ segments role (has_fill || is_fill x) (set_elements rest)
segments-element role has_fill us rest p e h = rw (set_elements-first us p _ (sym e), h) refl

-- ---- the fault of a string is that of its first faulty element

first_set_element-faulty : (us : List SetChar) (k : SetFaultKind) → StartsInvalid us k
    → (first_set_element us ≡ Err k) × (0 < length us)
first_set_element-faulty us k (AnInvalidChar j rest) = (refl, omega arith)
first_set_element-faulty us k (AnInvalidEnd u a j rest n m) = grind (arith, byte_of-DenotesByte)
first_set_element-faulty us k (ADescendingRange u v a b rest n m w h) =
    let falls : nat_lt b a ≡ true = grind arith in (
      rw (bracketed_at-unless _ n, byte_of-DenotesByte u a m, byte_of-DenotesByte v b w, falls)
          refl,
      omega arith,
    )

heads : {A : Type 0} {x y : A} {xs ys : List A} → x ∷ xs ≡ y ∷ ys → (x ≡ y) × (xs ≡ ys)
heads e = (cc, cc)

same_err : {A : Type 0} {j k : SetFaultKind} → ◌≡◌ {A = Result A SetFaultKind} (Err j) (Err k) → j ≡ k
same_err e = cc

rest_fails : {A E : Type 0} (x : A) (r : Result (List A) E) {k : E} → cons_ok x r ≡ Err k → r ≡ Err k
rest_fails = grind arith

module _ (role : SetRole) where
  pub fault_is : (has_fill : Bool) (us : List SetChar) {k : SetFaultKind} → FirstFault role has_fill us k
      → sequence (segments role has_fill (set_elements us)) ≡ Err k
  fault_is has_fill us (NoElement f vs j b) = grind (arith, first_set_element-faulty)
  fault_is has_fill us (NoSegment f vs rest p j b e) = grind (arith, first_set_element-StartsElement)
  fault_is has_fill us (LaterFault f vs rest p x j b e later) =
      cc (
        set_elements-first vs p _ (first_set_element-StartsElement vs p _ b),
        fault_is _ _ later,
      )

  pub is_fault : (xs : List (Result SetElement SetFaultKind)) (has_fill : Bool) (us : List SetChar) (k : SetFaultKind)
      → set_elements us ≡ xs → sequence (segments role has_fill xs) ≡ Err k → FirstFault role has_fill us k
  is_fault [] has_fill us k all e = absurd (cc)
  is_fault (y ∷ ys) has_fill [] k all e = absurd (cc)
  is_fault (Err j ∷ ys) has_fill (u ∷ us) k all e = by_first u us
      (λ p rest b is.
      let both = heads (sym is ∙ all) in absurd (cc))
      (λ i b is.
      let (same, none) = heads (sym is ∙ all) in
      NoElement has_fill _ k (subst (StartsInvalid _) (same_err same ∙ same_err e) b))
  is_fault (Ok q ∷ ys) has_fill (u ∷ us) k all e = by_first u us
      (λ p rest b is.
      let (first, others) = heads (sym is ∙ all) in
      let same : p ≡ q = cc in
      let begins = subst (λ (x : SetElement). StartsElement (u ∷ us) x rest) same b in
      by_result _
      (λ x got. LaterFault has_fill _ rest q x k begins got (is_fault ys _ _ k others (rest_fails x _ (rw got at e))))
      (λ j got. NoSegment has_fill _ rest q k begins (got ∙ ap Err (same_err (rw got at e)))))
      (λ i b is.
      let both = heads (sym is ∙ all) in absurd (cc))
