-- `read_string` reads a text as `read_in_steps` does: its characters are those of the steps, each with its first byte
-- where a step has its kind, and its forms are found at the same positions.
use Rattle.ptlangs.proofs
use Rattle.ptlangs.specs
use proofs.Common.{Bool, Err, List, None, Ok, Option, Result, Segment, SetChar, SetElement, SetFaultKind, SetRole, Some}
use proofs.Common.{[], and_then, ap, arith, byte_of, chars, chars_after, cons_ok, drop, eqb, eqb-true, false, is_fill, length}
use proofs.Common.{map, refl, segments, sequence, set_elements, subst, suc, sym, true}
use proofs.Common.{usual, zero, ℕ, ◌+◌, ◌<◌, ◌||◌, ◌∙◌, ◌∷◌, ◌≡◌, ◌≢◌, ◌≤◌}
use proofs.TrGrammar.{StartsElement-front, after_backslash-octal, chars-cons, set_elements-fault, set_elements-first}
use proofs.Common.{CharClass, ne_eqb}
use proofs.TrGrammar.{starts_as}
use specs.Laws.TrPlan.{ReadInSteps}
use specs.Laws.TrReading.{Escaped, Invalid, Plain, after_plain, after_two, char_at}
use specs.Laws.TrReading.{char_or_range, range_to, single_or_range, class_at, class_with_name, equivalence_at, first_set_element, octal}
use specs.Laws.TrReading.{octal_run, or_char, plain_run, repeat_after_star, repeat_at, segment, with_rest}
use specs.Numbers.{is_empty}
use specs.TrChars.{Character, first_char, is_octal_digit, read_all}
use specs.TrClasses.{class_named}
use specs.TrElements.{equivalent, first_segment, is_at, range, repeat_count, repeated, with_one_fill}
use specs.declared.faults.SetFaultKind.TheVariants.{Empty, Octal, SecondFill, UnknownClass}
use specs.declared.tr.elements.SetElement.TheVariants as element
use specs.declared.tr.segments.Segment.TheVariants as part
use Rattle.std.proofs.Common.{nat_le, ⊎_elim}
use Rattle.std.proofs.lemmas.Bool.{cases_Bool}
use Rattle.std.proofs.lemmas.List.{drop-map, length-append, length-drop}
use Rattle.std.proofs.lemmas.List.Sums.{take_while-cons}
use Rattle.std.proofs.Common.{not, ◌&&◌}
use Rattle.std.specs.Prelude.{codes, is_ok, option_map, slice_index_or}
use Rattle.std.specs.Char.{is_ascii_digit, is_ascii_lowercase}
use Rattle.std.specs.List.{take_while}
use Rattle.std.specs.Option.{option_and_then, option_or}
use Rattle.std.specs.Prelude.{if◌then◌else◌, ok_or}
use Rattle.std.specs.Str.Parse.{digits_value}

-- ---- characters

-- a character of the steps, with its first byte
abbrev character : SetChar → Character
character (Plain b) = (b, Ok b)
character (Escaped b) = (92, Ok b)
character (Invalid k) = (92, Err k)

-- the first bytes of characters
abbrev marks : List SetChar → List ℕ
marks us = map (λ (c : Character). c.0) (map character us)

abbrev with_count : ℕ → Character → Character × ℕ
with_count n c = (c, n)

octal_is : (value : ℕ)
    → ◌≡◌ {A = Character} (92, if nat_le value 255 then Ok value else Err Octal) (character (octal value))
octal_is value = grind arith

some_octal : (c : ℕ) (text : List ℕ) → is_octal_digit c ≡ true → is_empty (octal_run (c ∷ text)) ≡ false
some_octal = grind usual

no_octal : (c : ℕ) (text : List ℕ) → is_octal_digit c ≡ false → is_empty (octal_run (c ∷ text)) ≡ true
no_octal = grind usual

escape_is : (text : List ℕ) → first_char (92 ∷ text) ≡ (character (char_at 92 text).0, 1 + (char_at 92 text).1)
escape_is [] = refl
escape_is (c ∷ text) = ⊎_elim
    (λ (is : is_octal_digit c ≡ true).
    rw (some_octal c text is, after_backslash-octal (c ∷ text) (omega arith) is)
    (ap (with_count (1 + length (octal_run (c ∷ text)))) (octal_is (digits_value 8 (octal_run (c ∷ text))))))
    (λ (is : is_octal_digit c ≡ false). rw (no_octal c text is, is) refl)
    (cases_Bool (is_octal_digit c))

char_is : (b : ℕ) (text : List ℕ) → first_char (b ∷ text) ≡ (character (char_at b text).0, 1 + (char_at b text).1)
char_is b text = ⊎_elim (λ (is : eqb b 92 ≡ true). rw (eqb-true b 92 is) (escape_is text))
    (λ (is : eqb b 92 ≡ false). rw is refl) (cases_Bool (eqb b 92))

drop_more : {A : Type 0} (n : ℕ) (x : A) (xs : List A) → drop (1 + n) (x ∷ xs) ≡ drop n xs
drop_more n x xs = let next : 1 + n ≡ suc n = omega arith in rw next refl

chars_are : (n : ℕ) (text : List ℕ) → length text ≤ n → read_all first_char n text ≡ map character (chars text)
chars_are zero [] h = refl
chars_are (suc n) [] h = refl
chars_are zero (b ∷ text) h = absurd (omega arith)
chars_are (suc n) (b ∷ text) h =
    let c = character (char_at b text).0 in
    let taken = (char_at b text).1 in
    ap (λ (read : Character × ℕ). read.0 ∷ read_all first_char n (drop read.1 (b ∷ text))) (char_is b text)
    ∙ ap (λ bs. c ∷ read_all first_char n bs) (drop_more taken b text)
    ∙ ap (λ cs. c ∷ cs) (chars_are n (drop taken text) (omega (arith, length-drop taken text, h)))
    ∙ sym (ap (map character) (chars-cons b text))

length-chars : (bs : List ℕ) (skip : ℕ) → length (chars_after bs skip) ≤ length bs
length-chars [] skip = omega arith
length-chars (b ∷ bs) zero = omega (arith, length-chars bs (char_at b bs).1)
length-chars (b ∷ bs) (suc skip) = omega (arith, length-chars bs skip)

-- ---- marks and runs

-- the characters begin with plain byte `c`, or neither the steps nor `is_at` finds it
by_plain : (P : List SetChar → Type 0) (c : ℕ) → c ≢ 92 → (us : List SetChar)
    → ((vs : List SetChar) → after_plain c vs ≡ None → is_at 0 (c ∷ []) (marks vs) ≡ false → P vs)
    → ((rest : List SetChar) → P (Plain c ∷ rest)) → P us
by_plain P c n [] other found = other [] refl refl
by_plain P c n (Plain b ∷ us) other found = ⊎_elim
    (λ (is : eqb b c ≡ true). subst (λ x. P (Plain x ∷ us)) (sym (eqb-true b c is)) (found us))
    (λ (is : eqb b c ≡ false). other (Plain b ∷ us) (rw is refl) (rw is refl)) (cases_Bool (eqb b c))
by_plain P c n (Escaped b ∷ us) other found =
    let is : eqb 92 c ≡ false = ne_eqb 92 c (λ e. n (sym e)) in other (Escaped b ∷ us) refl (rw is refl)
by_plain P c n (Invalid k ∷ us) other found =
    let is : eqb 92 c ≡ false = ne_eqb 92 c (λ e. n (sym e)) in other (Invalid k ∷ us) refl (rw is refl)

no_two : (c d : ℕ) (text : List ℕ) → is_at 0 (c ∷ []) text ≡ false → is_at 0 (c ∷ d ∷ []) text ≡ false
no_two c d [] e = refl
no_two c d (b ∷ []) e = grind arith
no_two c d (b ∷ a ∷ text) e = grind arith

run_is : (test : ℕ → Bool) → test 92 ≡ false → (us : List SetChar) → take_while test (marks us) ≡ plain_run test us
run_is test n [] = refl
run_is test n (Plain b ∷ us) = grind (arith, take_while-cons, run_is test n us)
run_is test n (Escaped b ∷ us) = grind (arith, take_while-cons)
run_is test n (Invalid k ∷ us) = grind (arith, take_while-cons)

drop_marks : (n : ℕ) (us : List SetChar) → drop n (marks us) ≡ marks (drop n us)
drop_marks n us = drop-map _ n (map character us) ∙ ap (map (λ (c : Character). c.0)) (drop-map character n us)

drop_next : (n : ℕ) (us : List SetChar) (u : SetChar) (rest : List SetChar) → drop n us ≡ u ∷ rest
    → drop (suc n) us ≡ rest
drop_next zero us u rest e = ap (drop 1) e
drop_next (suc n) [] u rest e = cc
drop_next (suc n) (v ∷ us) u rest e = drop_next n us u rest e

-- ---- the bracketed forms

abbrev denoted : List SetChar → ℕ → Result ℕ SetFaultKind
denoted us position = slice_index_or (map (λ (c : Character). c.1) (map character us)) position (Err Empty)

abbrev digits : List SetChar → List ℕ
digits us = take_while is_ascii_digit (drop 3 (marks us))

abbrev name : List SetChar → List ℕ
name us = take_while is_ascii_lowercase (drop 2 (marks us))

abbrev has_repeat : List SetChar → Bool
has_repeat us = is_at 0 (codes "[") (marks us) && is_ok (denoted us 1) && is_at 2 (codes "*") (marks us)
    && is_at (3 + length (digits us)) (codes "]") (marks us)

abbrev has_class : List SetChar → Bool
has_class us = is_at 0 (codes "[:") (marks us) && not (is_empty (name us))
    && is_at (2 + length (name us)) (codes ":]") (marks us)

abbrev has_equivalence : List SetChar → Bool
has_equivalence us = is_at 0 (codes "[=") (marks us) && is_ok (denoted us 2) && is_at 3 (codes "=]") (marks us)

abbrev the_repeat : SetRole → List SetChar → Result Segment SetFaultKind × ℕ
the_repeat role us = (and_then (denoted us 1) (repeated role (repeat_count (digits us))), 4 + length (digits us))

abbrev the_class : List SetChar → Result Segment SetFaultKind × ℕ
the_class us = (ok_or (option_map part.Class (class_named (name us))) UnknownClass, 4 + length (name us))

abbrev the_equivalence : SetRole → List SetChar → Result Segment SetFaultKind × ℕ
the_equivalence role us = (and_then (denoted us 2) (equivalent role), 5)

-- the steps find this form if the condition holds, and then it is the new one
abbrev IsForm : SetRole → List SetChar → Option (SetElement × List SetChar) → Bool
    → Result Segment SetFaultKind × ℕ → Type 0
IsForm role us None is new = is ≡ false
IsForm role us (Some (p, rest)) is new = (is ≡ true) × (new.0 ≡ segment role false p) × (drop new.1 us ≡ rest)

repeated_is : (role : SetRole) (count : Option ℕ) (b : ℕ)
    → repeated role count b ≡ segment role false (element.Repeat b count)
repeated_is = grind arith

equivalent_is : (role : SetRole) (b : ℕ) → equivalent role b ≡ segment role false (element.Equivalence b)
equivalent_is = grind arith

class_is : (role : SetRole) (class : Option CharClass)
    → ok_or (option_map part.Class class) UnknownClass ≡ segment role false (element.Class class)
class_is = grind arith

-- the run of a form ends where the steps end it, and the form ends after one byte
one_at_end : (u v w : SetChar) (n : ℕ) (us : List SetChar)
    → is_at (3 + n) (codes "]") (marks (u ∷ v ∷ w ∷ us)) ≡ is_at 0 (codes "]") (marks (drop n us))
one_at_end u v w n us =
    let next : 3 + n ≡ suc (suc (suc n)) = omega arith in rw (next, drop_marks n us) refl

two_at_end : (u v : SetChar) (n : ℕ) (us : List SetChar)
    → is_at (2 + n) (codes ":]") (marks (u ∷ v ∷ us)) ≡ is_at 0 (codes ":]") (marks (drop n us))
two_at_end u v n us =
    let next : 2 + n ≡ suc (suc n) = omega arith in rw (next, drop_marks n us) refl

repeat_ends : (role : SetRole) (x : SetChar) (b : ℕ) (more : List SetChar) (ds : List ℕ) → byte_of x ≡ Ok b
    → digits (Plain 91 ∷ x ∷ Plain 42 ∷ more) ≡ ds
    → IsForm role (Plain 91 ∷ x ∷ Plain 42 ∷ more)
    (with_rest (element.Repeat b (repeat_count ds)) (after_plain 93 (drop (length ds) more)))
    (is_at (3 + length ds) (codes "]") (marks (Plain 91 ∷ x ∷ Plain 42 ∷ more)))
    (repeated role (repeat_count ds) b, 4 + length ds)
repeat_ends role x b more ds at is = rw (one_at_end (Plain 91) x (Plain 42) (length ds) more)
    (by_plain (λ vs. vs ≡ drop (length ds) more → IsForm role (Plain 91 ∷ x ∷ Plain 42 ∷ more)
    (with_rest (element.Repeat b (repeat_count ds)) (after_plain 93 vs)) (is_at 0 (codes "]") (marks vs))
    (repeated role (repeat_count ds) b, 4 + length ds)) 93 (omega arith) (drop (length ds) more)
    (λ vs none missed same. rw none missed)
    (λ rest same.
    let next : 4 + length ds ≡ suc (suc (suc (suc (length ds)))) = omega arith in
    let left = drop_next (length ds) more (Plain 93) rest (sym same) in
    (refl, repeated_is role (repeat_count ds) b, rw next left)) refl)

repeat_found : (role : SetRole) (x : SetChar) (b : ℕ) (us : List SetChar) → byte_of x ≡ Ok b
    → denoted (Plain 91 ∷ x ∷ us) 1 ≡ Ok b
    → IsForm role (Plain 91 ∷ x ∷ us) (option_and_then (repeat_after_star b) (after_plain 42 us))
    (has_repeat (Plain 91 ∷ x ∷ us)) (the_repeat role (Plain 91 ∷ x ∷ us))
repeat_found role x b us at says = by_plain
    (λ vs. IsForm role (Plain 91 ∷ x ∷ vs) (option_and_then (repeat_after_star b) (after_plain 42 vs))
    (has_repeat (Plain 91 ∷ x ∷ vs)) (the_repeat role (Plain 91 ∷ x ∷ vs))) 42 (omega arith) us
    (λ vs none missed. rw (none, says, missed) refl)
    (λ more.
    let run = run_is is_ascii_digit refl more in
    rw (says, ← run) (repeat_ends role x b more (digits (Plain 91 ∷ x ∷ Plain 42 ∷ more)) at refl))

repeat_inside : (role : SetRole) (us : List SetChar)
    → IsForm role (Plain 91 ∷ us) (repeat_at us) (has_repeat (Plain 91 ∷ us)) (the_repeat role (Plain 91 ∷ us))
repeat_inside role [] = refl
repeat_inside role (Plain b ∷ us) = repeat_found role (Plain b) b us refl refl
repeat_inside role (Escaped b ∷ us) = repeat_found role (Escaped b) b us refl refl
repeat_inside role (Invalid k ∷ us) = refl

class_ends : (role : SetRole) (inside : List SetChar) (ds : List ℕ)
    → IsForm role (Plain 91 ∷ Plain 58 ∷ inside) (class_with_name ds (drop (length ds) inside))
    (not (is_empty ds) && is_at (2 + length ds) (codes ":]") (marks (Plain 91 ∷ Plain 58 ∷ inside)))
    (ok_or (option_map part.Class (class_named ds)) UnknownClass, 4 + length ds)
class_ends role inside [] = refl
class_ends role inside (c ∷ ds) = rw (two_at_end (Plain 91) (Plain 58) (length (c ∷ ds)) inside)
    (by_plain (λ vs. vs ≡ drop (length (c ∷ ds)) inside → IsForm role (Plain 91 ∷ Plain 58 ∷ inside)
    (class_with_name (c ∷ ds) vs) (is_at 0 (codes ":]") (marks vs))
    (ok_or (option_map part.Class (class_named (c ∷ ds))) UnknownClass, 4 + length (c ∷ ds)))
    58 (omega arith) (drop (length (c ∷ ds)) inside)
    (λ vs none missed same. rw (none, no_two 58 93 (marks vs) missed) refl)
    (λ vs. by_plain (λ ws. Plain 58 ∷ ws ≡ drop (length (c ∷ ds)) inside → IsForm role (Plain 91 ∷ Plain 58 ∷ inside)
    (class_with_name (c ∷ ds) (Plain 58 ∷ ws)) (is_at 0 (codes ":]") (marks (Plain 58 ∷ ws)))
    (ok_or (option_map part.Class (class_named (c ∷ ds))) UnknownClass, 4 + length (c ∷ ds))) 93 (omega arith) vs
    (λ ws none missed same. rw (none, missed) refl)
    (λ rest same.
    let next : 4 + length (c ∷ ds) ≡ suc (suc (suc (suc (length (c ∷ ds))))) = omega arith in
    let left = drop_next (suc (length (c ∷ ds))) inside (Plain 93) rest
    (drop_next (length (c ∷ ds)) inside (Plain 58) (Plain 93 ∷ rest) (sym same)) in
    (refl, class_is role (class_named (c ∷ ds)), rw next left))) refl)

class_inside : (role : SetRole) (us : List SetChar)
    → IsForm role (Plain 91 ∷ us) (class_at us) (has_class (Plain 91 ∷ us)) (the_class (Plain 91 ∷ us))
class_inside role us = by_plain
    (λ vs. IsForm role (Plain 91 ∷ vs) (class_at vs) (has_class (Plain 91 ∷ vs)) (the_class (Plain 91 ∷ vs)))
    58 (omega arith) us
    (λ vs none missed. rw (none, missed) refl)
    (λ inside.
    let run = run_is is_ascii_lowercase refl inside in
    rw (← run) (class_ends role inside (name (Plain 91 ∷ Plain 58 ∷ inside))))

equivalence_found : (role : SetRole) (x : SetChar) (b : ℕ) (us : List SetChar) → byte_of x ≡ Ok b
    → denoted (Plain 91 ∷ Plain 61 ∷ x ∷ us) 2 ≡ Ok b
    → IsForm role (Plain 91 ∷ Plain 61 ∷ x ∷ us) (with_rest (element.Equivalence b) (after_two 61 93 us))
    (has_equivalence (Plain 91 ∷ Plain 61 ∷ x ∷ us)) (the_equivalence role (Plain 91 ∷ Plain 61 ∷ x ∷ us))
equivalence_found role x b us at says = by_plain
    (λ vs. IsForm role (Plain 91 ∷ Plain 61 ∷ x ∷ vs) (with_rest (element.Equivalence b) (after_two 61 93 vs))
    (has_equivalence (Plain 91 ∷ Plain 61 ∷ x ∷ vs)) (the_equivalence role (Plain 91 ∷ Plain 61 ∷ x ∷ vs)))
    61 (omega arith) us
    (λ vs none missed. rw (none, says, no_two 61 93 (marks vs) missed) refl)
    (λ vs. by_plain
    (λ ws. IsForm role (Plain 91 ∷ Plain 61 ∷ x ∷ Plain 61 ∷ ws)
    (with_rest (element.Equivalence b) (after_two 61 93 (Plain 61 ∷ ws)))
    (has_equivalence (Plain 91 ∷ Plain 61 ∷ x ∷ Plain 61 ∷ ws))
    (the_equivalence role (Plain 91 ∷ Plain 61 ∷ x ∷ Plain 61 ∷ ws))) 93 (omega arith) vs
    (λ ws none missed. rw (none, says, missed) refl)
    (λ rest. rw says (refl, equivalent_is role b, refl)))

equivalence_inside : (role : SetRole) (us : List SetChar) → IsForm role (Plain 91 ∷ us) (equivalence_at us)
    (has_equivalence (Plain 91 ∷ us)) (the_equivalence role (Plain 91 ∷ us))
equivalence_inside role us = by_plain
    (λ vs. IsForm role (Plain 91 ∷ vs) (equivalence_at vs) (has_equivalence (Plain 91 ∷ vs))
    (the_equivalence role (Plain 91 ∷ vs))) 61 (omega arith) us
    (λ vs none missed. rw (none, missed) refl)
    after_equals
  where
    after_equals : (inside : List SetChar) → IsForm role (Plain 91 ∷ Plain 61 ∷ inside)
        (equivalence_at (Plain 61 ∷ inside)) (has_equivalence (Plain 91 ∷ Plain 61 ∷ inside))
        (the_equivalence role (Plain 91 ∷ Plain 61 ∷ inside))
    after_equals [] = refl
    after_equals (Plain b ∷ us) = equivalence_found role (Plain b) b us refl refl
    after_equals (Escaped b ∷ us) = equivalence_found role (Escaped b) b us refl refl
    after_equals (Invalid k ∷ us) = refl

-- ---- the first segment

-- the first segment of characters is that of their first element
abbrev Agrees : SetRole → List SetChar → Result (SetElement × List SetChar) SetFaultKind
    → Result Segment SetFaultKind × ℕ → Type 0
Agrees role us (Err k) new = new.0 ≡ Err k
Agrees role us (Ok (p, rest)) new = (new.0 ≡ segment role false p) × (drop new.1 us ≡ rest)

abbrev or_else : Option (SetElement × List SetChar) → Result (SetElement × List SetChar) SetFaultKind
    → Result (SetElement × List SetChar) SetFaultKind
or_else None r = r
or_else (Some found) r = Ok found

either : (role : SetRole) (us : List SetChar) (form : Option (SetElement × List SetChar)) (c : Bool)
    (new other : Result Segment SetFaultKind × ℕ) (r : Result (SetElement × List SetChar) SetFaultKind)
    → IsForm role us form c new → Agrees role us r other
    → Agrees role us (or_else form r) (if c then new else other)
either role us None c new other r e f = rw e f
either role us (Some (p, rest)) c new other r (e, value, left) f = rw e (value, left)

range_is : (role : SetRole) (us : List SetChar) (a b : ℕ) (rest : List SetChar) → drop 3 us ≡ rest
    → Agrees role us (range_to a (Ok b) rest) (range a b, 3)
range_is = grind arith

range_from : (role : SetRole) (u : SetChar) (a : ℕ) (v : SetChar) (rest : List SetChar)
    → Agrees role (u ∷ Plain 45 ∷ v ∷ rest) (range_to a (byte_of v) rest)
    (and_then (denoted (u ∷ Plain 45 ∷ v ∷ rest) 2) (range a), 3)
range_from role u a (Plain b) rest = range_is role (u ∷ Plain 45 ∷ Plain b ∷ rest) a b rest refl
range_from role u a (Escaped b) rest = range_is role (u ∷ Plain 45 ∷ Escaped b ∷ rest) a b rest refl
range_from role u a (Invalid k) rest = refl

abbrev has_range : List SetChar → Bool
has_range us = is_at 1 (codes "-") (marks us) && not (is_empty (drop 2 (marks us)))

abbrev the_range : List SetChar → Result Segment SetFaultKind × ℕ
the_range us = (and_then (denoted us 0) (λ a. and_then (denoted us 2) (range a)), 3)

abbrev the_single : List SetChar → Result Segment SetFaultKind × ℕ
the_single us = (and_then (denoted us 0) (λ b. Ok (part.Range b b)), 1)

from_byte : (role : SetRole) (u : SetChar) (a : ℕ) (us : List SetChar)
    → ((vs : List SetChar) → denoted (u ∷ vs) 0 ≡ Ok a)
    → Agrees role (u ∷ us) (single_or_range a us (after_plain 45 us))
    (if has_range (u ∷ us) then the_range (u ∷ us) else the_single (u ∷ us))
from_byte role u a us says = by_plain (λ vs. Agrees role (u ∷ vs) (single_or_range a vs (after_plain 45 vs))
    (if has_range (u ∷ vs) then the_range (u ∷ vs) else the_single (u ∷ vs))) 45 (omega arith) us
    (λ vs none missed. rw (none, missed, says vs) (refl, refl))
    after_dash
  where
    after_dash : (vs : List SetChar)
        → Agrees role (u ∷ Plain 45 ∷ vs) (single_or_range a (Plain 45 ∷ vs) (after_plain 45 (Plain 45 ∷ vs)))
        (if has_range (u ∷ Plain 45 ∷ vs) then the_range (u ∷ Plain 45 ∷ vs) else the_single (u ∷ Plain 45 ∷ vs))
    after_dash [] = rw (says (Plain 45 ∷ [])) (refl, refl)
    after_dash (v ∷ rest) = rw (says (Plain 45 ∷ v ∷ rest)) (range_from role u a v rest)

fault_either : (c : Bool) (x y : Result Segment SetFaultKind × ℕ) (k : SetFaultKind) → x.0 ≡ Err k → y.0 ≡ Err k
    → (if c then x else y).0 ≡ Err k
fault_either true x y k e f = e
fault_either false x y k e f = f

char_agrees : (role : SetRole) (u : SetChar) (us : List SetChar) → Agrees role (u ∷ us) (char_or_range (byte_of u) us)
    (if has_range (u ∷ us) then the_range (u ∷ us) else the_single (u ∷ us))
char_agrees role (Plain b) us = from_byte role (Plain b) b us (λ vs. refl)
char_agrees role (Escaped b) us = from_byte role (Escaped b) b us (λ vs. refl)
char_agrees role (Invalid k) us = fault_either (has_range (Invalid k ∷ us)) (the_range (Invalid k ∷ us))
    (the_single (Invalid k ∷ us)) k refl refl

or_char_is : (form : Option (SetElement × List SetChar)) (u : SetChar) (us : List SetChar)
    → or_char form u us ≡ or_else form (char_or_range (byte_of u) us)
or_char_is None u us = refl
or_char_is (Some found) u us = refl

or_else_or : (a b : Option (SetElement × List SetChar)) (r : Result (SetElement × List SetChar) SetFaultKind)
    → or_else (option_or a b) r ≡ or_else a (or_else b r)
or_else_or None b r = refl
or_else_or (Some found) b r = refl

-- the first segment, if `form`, `class` and `equivalence` are what the steps find after a bracket
first_agrees : (role : SetRole) (u : SetChar) (us : List SetChar)
    (form class equivalence : Option (SetElement × List SetChar))
    → IsForm role (u ∷ us) form (has_repeat (u ∷ us)) (the_repeat role (u ∷ us))
    → IsForm role (u ∷ us) class (has_class (u ∷ us)) (the_class (u ∷ us))
    → IsForm role (u ∷ us) equivalence (has_equivalence (u ∷ us)) (the_equivalence role (u ∷ us))
    → Agrees role (u ∷ us) (or_char (option_or form (option_or class equivalence)) u us)
    (first_segment role (map character (u ∷ us)))
first_agrees role u us form class equivalence a b c =
    rw (
      or_char_is (option_or form (option_or class equivalence)) u us,
      or_else_or form (option_or class equivalence) (char_or_range (byte_of u) us),
      or_else_or class equivalence (char_or_range (byte_of u) us),
    )
    (either role (u ∷ us) form (has_repeat (u ∷ us)) (the_repeat role (u ∷ us)) _ _ a
    (either role (u ∷ us) class (has_class (u ∷ us)) (the_class (u ∷ us)) _ _ b
    (either role (u ∷ us) equivalence (has_equivalence (u ∷ us)) (the_equivalence role (u ∷ us)) _ _ c
    (char_agrees role u us))))

abbrev FirstIs : SetRole → SetChar → List SetChar → Type 0
FirstIs role u us = Agrees role (u ∷ us) (first_set_element (u ∷ us)) (first_segment role (map character (u ∷ us)))

no_form : (role : SetRole) (u : SetChar) (us : List SetChar) → after_plain 91 (u ∷ us) ≡ None
    → is_at 0 (codes "[") (marks (u ∷ us)) ≡ false → FirstIs role u us
no_form role u us none missed = rw none (first_agrees role u us None None None (rw missed refl)
    (rw (no_two 91 58 (marks (u ∷ us)) missed) refl) (rw (no_two 91 61 (marks (u ∷ us)) missed) refl))

abbrev FirstOf : SetRole → List SetChar → Type 0
FirstOf role [] = Unit {0}
FirstOf role (v ∷ vs) = FirstIs role v vs

first_is : (role : SetRole) (u : SetChar) (us : List SetChar) → FirstIs role u us
first_is role u us = by_plain (FirstOf role) 91 (omega arith) (u ∷ us) other
    (λ rest. first_agrees role (Plain 91) rest (repeat_at rest) (class_at rest) (equivalence_at rest)
    (repeat_inside role rest) (class_inside role rest) (equivalence_inside role rest))
  where
    other : (vs : List SetChar) → after_plain 91 vs ≡ None → is_at 0 (91 ∷ []) (marks vs) ≡ false → FirstOf role vs
    other [] none missed = tt
    other (v ∷ vs) none missed = no_form role v vs none missed

-- ---- all segments

-- a second fill is a fault
abbrev unless_fill : Result Segment SetFaultKind → Result Segment SetFaultKind
unless_fill (Ok (part.Fill b)) = Err SecondFill
unless_fill r = r

after_fill : (role : SetRole) (p : SetElement) → segment role true p ≡ unless_fill (segment role false p)
after_fill = grind arith

abbrev segment_after : Bool → Result Segment SetFaultKind → Result Segment SetFaultKind
segment_after true r = unless_fill r
segment_after false r = r

segment_after_is : (role : SetRole) (f : Bool) (p : SetElement) → segment role f p ≡ segment_after f (segment role false p)
segment_after_is role true p = after_fill role p
segment_after_is role false p = refl

one_more : (f : Bool) (r : Result Segment SetFaultKind) (rs : List (Result Segment SetFaultKind))
    (later : Bool → Result (List Segment) SetFaultKind) → ((g : Bool) → with_one_fill g rs ≡ later g)
    → with_one_fill f (r ∷ rs)
    ≡ and_then (segment_after f r) (λ y. cons_ok y (later (f || is_fill (segment_after f r))))
one_more true (Ok (part.Fill b)) rs later is = refl
one_more false (Ok (part.Fill b)) rs later is = ap (cons_ok (part.Fill b)) (is true)
one_more true (Ok (part.Range a b)) rs later is = ap (cons_ok (part.Range a b)) (is true)
one_more false (Ok (part.Range a b)) rs later is = ap (cons_ok (part.Range a b)) (is false)
one_more true (Ok (part.Class c)) rs later is = ap (cons_ok (part.Class c)) (is true)
one_more false (Ok (part.Class c)) rs later is = ap (cons_ok (part.Class c)) (is false)
one_more true (Ok (part.Repeat b n)) rs later is = ap (cons_ok (part.Repeat b n)) (is true)
one_more false (Ok (part.Repeat b n)) rs later is = ap (cons_ok (part.Repeat b n)) (is false)
one_more true (Err k) rs later is = refl
one_more false (Err k) rs later is = refl

one_fault : (f : Bool) (k : SetFaultKind) (rs : List (Result Segment SetFaultKind))
    → with_one_fill f (Err k ∷ rs) ≡ Err k
one_fault true k rs = refl
one_fault false k rs = refl

shorter : (u : SetChar) (us : List SetChar) (p : SetElement) (rest : List SetChar)
    → first_set_element (u ∷ us) ≡ Ok (p, rest) → length rest < length (u ∷ us)
shorter u us p rest e =
    let (front, all, longer) = StartsElement-front (u ∷ us) p rest (starts_as u us e) in
    omega (arith, ap length all, length-append front rest, longer)

-- the segments of characters, read at most `n` times, are those of the steps
abbrev AreRead : SetRole → ℕ → List SetChar → Type 0
AreRead role n us = (f : Bool) → with_one_fill f (read_all (first_segment role) n (map character us))
    ≡ sequence (segments role f (set_elements us))

abbrev read_next : SetRole → ℕ → Bool → SetChar → List SetChar → Result Segment SetFaultKind × ℕ
    → Result (List Segment) SetFaultKind
read_next role n f u us found =
    with_one_fill f (found.0 ∷ read_all (first_segment role) n (drop found.1 (map character (u ∷ us))))

next_is : (role : SetRole) (n : ℕ) (f : Bool) (u : SetChar) (us : List SetChar)
    (r : Result (SetElement × List SetChar) SetFaultKind) → first_set_element (u ∷ us) ≡ r
    → Agrees role (u ∷ us) r (first_segment role (map character (u ∷ us)))
    → ((p : SetElement) (rest : List SetChar) → r ≡ Ok (p, rest) → AreRead role n rest)
    → read_next role n f u us (first_segment role (map character (u ∷ us)))
    ≡ sequence (segments role f (set_elements (u ∷ us)))
next_is role n f u us (Err k) e value later =
    let found = first_segment role (map character (u ∷ us)) in
    let rs = read_all (first_segment role) n (drop found.1 (map character (u ∷ us))) in
    ap (λ r. with_one_fill f (r ∷ rs)) value ∙ one_fault f k rs
    ∙ sym (ap (λ es. sequence (segments role f es)) (set_elements-fault (u ∷ us) k (omega arith) e))
next_is role n f u us (Ok (p, rest)) e (value, left) later =
    let found = first_segment role (map character (u ∷ us)) in
    let rs = read_all (first_segment role) n (map character rest) in
    ap (λ cs. with_one_fill f (found.0 ∷ read_all (first_segment role) n cs))
    (drop-map character found.1 (u ∷ us) ∙ ap (map character) left)
    ∙ ap (λ r. with_one_fill f (r ∷ rs)) value
    ∙ one_more f (segment role false p) rs (λ g. sequence (segments role g (set_elements rest))) (later p rest refl)
    ∙ ap (λ s. and_then s (λ y. cons_ok y (sequence (segments role (f || is_fill s) (set_elements rest)))))
    (sym (segment_after_is role f p))
    ∙ sym (ap (λ es. sequence (segments role f es)) (set_elements-first (u ∷ us) p rest e))

are_read : (n : ℕ) (role : SetRole) (us : List SetChar) → length us ≤ n → AreRead role n us
are_read zero role [] h f = refl
are_read (suc n) role [] h f = refl
are_read zero role (u ∷ us) h f = absurd (omega arith)
are_read (suc n) role (u ∷ us) h f = next_is role n f u us (first_set_element (u ∷ us)) refl (first_is role u us)
    (λ p rest e. are_read n role rest (omega (arith, shorter u us p rest e, h)))

pub read_in_steps : ReadInSteps
read_in_steps role [] = refl
read_in_steps role (b ∷ text) =
    let n = length (b ∷ text) in
    ap (λ cs. with_one_fill false (read_all (first_segment role) n cs)) (chars_are n (b ∷ text) (omega arith))
    ∙ are_read n role (chars (b ∷ text)) (length-chars (b ∷ text) 0) false
