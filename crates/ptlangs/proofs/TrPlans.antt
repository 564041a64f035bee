-- The plan of two strings, step by step, and its tables. Reading never fails for lack of memory.
use Rattle.ptlangs.proofs
use Rattle.ptlangs.specs
use proofs.Common.{Bool, Contents, Delete, DeleteSqueeze, Err, First, Form, List, Member, None, Ok, Option, Result}
use proofs.Common.{Segment, SetChar, SetElement, SetFault, SetFaultKind, SetRole, Some, Squeeze, [], all_bytes}
use proofs.Common.{all_paired, and_then, ap, arith, array, byte_of, chars, chars_after, cond, cons_ok, contents_of}
use proofs.Common.{false, first_array, first_members, image_by, in_string, length, map, marked_array, member_bytes}
use proofs.Common.{member_results, ok_map, plan, plan_of, refl, replicate, result_map_both, segments}
use proofs.Common.{segments_of, sequence, read_string, subst, suc, sym, tables, true, zero, ℕ, ◌-◌, ◌∙◌, ◌∷◌, ◌≡◌, ◌≢◌}
use proofs.TrArrays.{answer_of, class_offsets-are, member_bytes-array, none_contained, paired-plain, paired_from}
use proofs.TrArrays.{string-ok}
use proofs.TrTexts.{read_in_steps}
use specs.Laws.TrReading.{elements_after, elements_from, or_char}
use specs.Laws.TrPlan.{NoMemoryFault}
use specs.Calls.TrTables.{image_of, is_deleted, is_squeezed}
use specs.TrPlan.{Plan, class_offsets, has_valid_classes}
use specs.TrPlan.{plan_from, second_plan, second_role}
use specs.Laws.TrReading.{segment}
use specs.Calls.TrPlan.{takes_second}
use specs.TrTables.{Tables}
use specs.declared.faults.SetFaultKind.TheVariants.{ClassPlace, Memory}
use specs.declared.faults.SetString.{SetString}
use specs.declared.faults.SetString.TheVariants as string

-- ---- strings without a fault

pub mapped_ok : (r : Result (List Segment) SetFaultKind) {f : List Segment → Contents} (y : Contents)
    → Ok y ≡ result_map_both f (λ (k : SetFaultKind). k) r → (ps : List Segment) × (r ≡ Ok ps) × (y ≡ f ps)
mapped_ok = grind arith

-- the classes of a second string that translates are valid if they are paired
valid-paired : (form : Form) (complement : Bool) (firsts ps : List Segment) (n : ℕ) → (form ≡ DeleteSqueeze → ⊥)
    → has_valid_classes form complement (class_offsets 0 0 firsts) (class_offsets n 0 ps)
    ≡ all_paired (first_members complement firsts) (marked_array n ps)
valid-paired = grind (arith, class_offsets-are, paired-plain, paired_from)

-- the tables of a form that translates
abbrev pub translating : List Bool → List ℕ → Tables
translating squeezed images = record { deleted = replicate 256 false; images = images; squeezed = squeezed }

translated : (form : Form) → takes_second form ≡ true → (form ≡ DeleteSqueeze → ⊥) → (from to : List ℕ) (paired : Bool)
    (answer : Result (List ℕ) SetFaultKind) {squeezed : List Bool}
    → answer ≡ answer_of paired (map (image_by from to) all_bytes)
    → squeezed ≡ map (is_squeezed (plan_of form from to)) all_bytes
    → ok_map (translating squeezed) answer
    ≡ ok_map {A = Plan} tables (cond paired (Ok (plan_of form from to)) (Err ClassPlace))
translated form two other from to true = grind (arith, none_contained)
translated form two other from to false = grind (arith, none_contained)

-- The result of reading the second string: its array `to`, which is all of `items`, and the tables of the plan or their
-- fault, `plan`, for a form that deletes and for one that translates, where reading the images gives `answer`.
-- `squeezed` is the table of the squeezed bytes.
pub record SecondRead (form : Form) (from : List ℕ) (firsts : List Member) (items : List (Result Member SetFaultKind))
    (squeezed : List Bool) (plan : Result Tables SetFaultKind) : Type 0 where
  pub to : List Member
  pub left : items ≡ map Ok to
  pub deletes : {images : List ℕ} → form ≡ DeleteSqueeze → images ≡ map (image_by [] []) all_bytes
      → Ok (record { deleted = (contents_of from).has; images = images; squeezed = squeezed }) ≡ plan
  pub translates : {answer : Result (List ℕ) SetFaultKind} → (form ≡ DeleteSqueeze → ⊥)
      → answer ≡ answer_of (all_paired firsts to) (map (image_by from (member_bytes to)) all_bytes)
      → ok_map (translating squeezed) answer ≡ plan

pub second_read : (form : Form) (complement : Bool) (firsts : List Segment) (text : List ℕ) (role : SetRole)
    (fill : ℕ) (squeezed : List Bool) (first unfilled : Contents)
    → takes_second form ≡ true → role ≡ second_role form
    → Ok unfilled ≡ ok_map (λ (ps : List Segment). contents_of (array 0 ps)) (read_string role text)
    → fill ≡ first.length - unfilled.length → first ≡ contents_of (first_array complement firsts)
    → ((ps : List Segment) → read_string role text ≡ Ok ps
    → squeezed ≡ map (is_squeezed (plan_of form (first_array complement firsts) (array fill ps))) all_bytes)
    → SecondRead form (first_array complement firsts) (first_members complement firsts)
    (member_results fill (segments_of role text)) squeezed (ok_map tables (second_plan form complement firsts text))
second_read form complement firsts text role fill squeezed first unfilled two at was e f s =
    let (ps, read, is) = mapped_ok _ _ was in
    let has_fill : fill ≡ length (first_array complement firsts) - length (array 0 ps) = cc in
    let parts = ap (λ q. read_string q text) (sym at) ∙ read in
    record {
      to = marked_array fill ps;
      left = string-ok role text fill ps read;
      deletes = λ is e. rw (parts, ← has_fill, s ps read, e, is) refl;
      translates = λ other is.
          rw (parts, ← has_fill, valid-paired form complement firsts ps fill other)
          (translated form two other _ _ _ _ (rw (← member_bytes-array fill ps) is) (s ps read));
    }

-- ---- the fault of a string is that of the plan

mapped_fault : (f : List Segment → Contents) (r : Result (List Segment) SetFaultKind) (k : SetFaultKind)
    → Err k ≡ result_map_both f (λ (k : SetFaultKind). k) r → r ≡ Err k
mapped_fault = grind arith

pub second_fails : (f : List Segment → Contents) (form : Form) (complement : Bool) (firsts : List Segment)
    (text : List ℕ) (role : SetRole) (k : SetFaultKind) → role ≡ second_role form
    → Err k ≡ ok_map f (read_string role text) → Err k ≡ ok_map tables (second_plan form complement firsts text)
second_fails f form complement firsts text role k at is =
    let fails = ap (λ q. read_string q text) (sym at) ∙ mapped_fault f (read_string role text) k is in
    rw fails refl

pub first_fails : (f : List Segment → Contents) (form : Form) (complement : Bool) (s1 : List ℕ) (s2 : Option (List ℕ))
    (fault : SetFault) → in_string string.First (ok_map f (read_string First s1)) ≡ Err fault
    → Err fault ≡ ok_map tables (plan form complement s1 s2)
first_fails f form complement s1 s2 fault is = by_string (read_string First s1) is
  where
    by_string : (r : Result (List Segment) SetFaultKind)
        → in_string string.First (result_map_both f (λ (k : SetFaultKind). k) r) ≡ Err fault
        → Err fault ≡ result_map_both tables (λ (f : SetFault). f)
        (and_then (in_string string.First r) (λ firsts. plan_from form complement firsts s2))
    by_string (Ok ps) e = cc
    by_string (Err k) e = cc

-- `in_string` changes only a fault
pub in_string-ok : {A : Type 0} (string : SetString) (r : Result A SetFaultKind) (x : A) → Ok x ≡ in_string string r
    → Ok x ≡ r
in_string-ok = grind arith

pub plan_two : (form : Form) (complement : Bool) (s1 s2 : List ℕ) (firsts : List Segment)
    → read_string First s1 ≡ Ok firsts
    → in_string string.Second (result_map_both tables (λ (k : SetFaultKind). k) (second_plan form complement firsts s2))
    ≡ result_map_both tables (λ (f : SetFault). f) (plan form complement s1 (Some s2))
plan_two = grind arith

-- ---- the three tables of a plan

pub tables_are : (p : Plan) {deleted : List Bool} {images : List ℕ} {squeezed : List Bool}
    → deleted ≡ map (is_deleted p) all_bytes → images ≡ map (image_of p) all_bytes
    → squeezed ≡ map (is_squeezed p) all_bytes
    → record { deleted = deleted; images = images; squeezed = squeezed } ≡ tables p
tables_are p d i s = rw (d, i, s) refl

-- ---- the form in the last arm of a match

pub is_squeeze : (form : Form) → takes_second form ≡ false → (form ≡ Delete → ⊥) → form ≡ Squeeze
is_squeeze = grind arith

-- ---- no result has the fault `Memory`

abbrev IsNotMemory : {A : Type 0} → Result A SetFaultKind → Type 0
IsNotMemory (Ok x) = Unit {0}
IsNotMemory (Err k) = k ≢ Memory

abbrev AreNotMemory : List SetChar → Type 0
AreNotMemory [] = Unit {0}
AreNotMemory (u ∷ us) = IsNotMemory (byte_of u) × AreNotMemory us

chars_not_memory : (bs : List ℕ) (skip : ℕ) → AreNotMemory (chars_after bs skip)
chars_not_memory [] skip = tt
chars_not_memory (b ∷ bs) zero = ((grind arith), chars_not_memory bs _)
chars_not_memory (b ∷ bs) (suc skip) = chars_not_memory bs _

element_not_memory : (o : Option (SetElement × List SetChar)) (u : SetChar) (us : List SetChar) → AreNotMemory (u ∷ us)
    → IsNotMemory (or_char o u us)
element_not_memory = grind arith

segment_not_memory : (role : SetRole) (has_fill : Bool) (p : SetElement) → IsNotMemory (segment role has_fill p)
segment_not_memory = grind arith

first_not_memory : {A : Type 0} (x : Result A SetFaultKind) (r : Result (List A) SetFaultKind) → IsNotMemory x
    → IsNotMemory r → IsNotMemory (and_then x (λ y. cons_ok y r))
first_not_memory = grind arith

segments_not_memory : (role : SetRole) (has_fill : Bool) (us : List SetChar) (skip : ℕ) → AreNotMemory us
    → IsNotMemory (sequence (segments role has_fill (elements_after us skip)))
segments_not_memory role has_fill [] skip fine = tt
segments_not_memory role has_fill (u ∷ us) (suc skip) (_, fine) = segments_not_memory _ _ us _ fine
segments_not_memory role has_fill (u ∷ us) zero (first, fine) =
    by_first _ (element_not_memory _ u us (first, fine)) (λ f n. segments_not_memory _ f us n fine)
  where
    by_first : (r : Result (SetElement × List SetChar) SetFaultKind) → IsNotMemory r
        → ((f : Bool) (n : ℕ) → IsNotMemory (sequence (segments role f (elements_after us n))))
        → IsNotMemory (sequence (segments role has_fill
        (elements_from r (λ rest. elements_after us (length us - length rest)))))
    by_first (Err k) fine later = fine
    by_first (Ok (p, rest)) fine later = first_not_memory _ _ (segment_not_memory _ _ p) (later _ _)

string_not_memory : (role : SetRole) (text : List ℕ) → IsNotMemory (read_string role text)
string_not_memory role [] = grind arith
string_not_memory role (b ∷ text) = subst IsNotMemory (sym (read_in_steps role (b ∷ text)))
    (segments_not_memory role false (chars (b ∷ text)) 0 (chars_not_memory (b ∷ text) 0))

class_not_memory : (paired : Bool) (p : Plan) → IsNotMemory (cond paired (Ok p) (Err ClassPlace))
class_not_memory = grind arith

then_not_memory : {A B : Type 0} (r : Result A SetFaultKind) (f : A → Result B SetFaultKind) → IsNotMemory r
    → ((x : A) → IsNotMemory (f x)) → IsNotMemory (and_then r f)
then_not_memory (Ok x) f fine later = later x
then_not_memory (Err k) f fine later = fine

second_not_memory : (form : Form) (complement : Bool) (firsts : List Segment) (text : List ℕ)
    → IsNotMemory (second_plan form complement firsts text)
second_not_memory form complement firsts text =
    then_not_memory (read_string (second_role form) text) _ (string_not_memory (second_role form) text)
    (λ seconds. class_not_memory _ _)

of_string : {A : Type 0} (string : SetString) (r : Result A SetFaultKind) (fault : SetFault) → IsNotMemory r
    → in_string string r ≡ Err fault → fault.kind ≢ Memory
of_string = grind arith

pub never_memory : NoMemoryFault
never_memory form complement s1 s2 fault e = by_first _ s2 (string_not_memory First s1) e
  where
    by_first : (r : Result (List Segment) SetFaultKind) (s2 : Option (List ℕ)) → IsNotMemory r
        → and_then (in_string string.First r) (λ firsts. plan_from form complement firsts s2) ≡ Err fault
        → fault.kind ≢ Memory
    by_first (Err k) s2 first is = grind arith
    by_first (Ok firsts) None first is = cc
    by_first (Ok firsts) (Some text) first is = of_string _ _ _ (second_not_memory _ _ firsts text) is
