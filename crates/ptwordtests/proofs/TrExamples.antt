-- Examples of strings of `tr`, with some input and the output. They hold by computation.
use Prim.Native.String.{String}
use Rattle.std.proofs.Common.{◌≡◌, ℕ, List, [], ◌∷◌, Bool, true, false, not, refl, codes, Some, None, Ok, Err, Option}
use Rattle.std.proofs.Common.{Result, map}
use Rattle.std.specs.Prelude.{filter, zip, ◌==◌, ◌&&◌}
use Rattle.ptlangs.specs.declared.faults.SetFault.{SetFault}
use Rattle.ptlangs.specs.declared.tr.plan.Form.{Form}
use Rattle.ptlangs.specs.declared.tr.plan.Form.TheVariants.{Translate, TranslateSqueeze, Squeeze, Delete}
use Rattle.ptlangs.specs.declared.tr.plan.Form.TheVariants.{DeleteSqueeze}
use Rattle.ptlangs.specs.TrClasses.{all_bytes}
use Rattle.ptlangs.specs.Calls.TrTables.{is_deleted, image_of, is_squeezed}
use Rattle.ptlangs.specs.TrPlan.{Plan, plan}

-- the second byte of a pair is kept, unless it equals the first and is squeezed
abbrev is_kept : (ℕ → Bool) → ℕ × ℕ → Bool
is_kept test p = not ((p.0 == p.1) && test p.1)

abbrev squeeze : (ℕ → Bool) → List ℕ → List ℕ
squeeze test [] = []
squeeze test (b ∷ bs) = b ∷ map (λ (p : ℕ × ℕ). p.1) (filter (is_kept test) (zip (b ∷ bs) bs))

-- the bytes that are not deleted, translated, then squeezed
abbrev tr : Plan → List ℕ → List ℕ
tr plan bytes = squeeze (is_squeezed plan) (map (image_of plan) (filter (λ b. not (is_deleted plan b)) bytes))

-- the output of `tr`; `None` if the strings have a fault
abbrev output_of : Result Plan SetFault → List ℕ → Option (List ℕ)
output_of (Ok p) bytes = Some (tr p bytes)
output_of (Err f) bytes = None

-- the plan of one string, or of two
abbrev plan_of_one : Form → Bool → String → Result Plan SetFault
plan_of_one form complement first = plan form complement (codes first) None

abbrev plan_of_two : Form → Bool → String → String → Result Plan SetFault
plan_of_two form complement first second = plan form complement (codes first) (Some (codes second))

-- a plan, some input, and the output
abbrev examples : List (Result Plan SetFault × List ℕ × List ℕ)
examples =
    (plan_of_two TranslateSqueeze true "[:alpha:]" "[\\n*]", codes "one, two.\n", codes "one\ntwo\n")
    ∷ (plan_of_two Translate false "a-c" "x-y", codes "abcd", codes "xyyd")
    ∷ (plan_of_two DeleteSqueeze false "0-9" "ab", codes "a1ab2bb", codes "ab")
    ∷ (plan_of_two Translate false "[:lower:]" "[:upper:]", codes "ab1z\n", codes "AB1Z\n")
    ∷ (plan_of_two Translate false "\\055a-b" "x[y*02]z", codes "-ab", codes "xyy")
    ∷ (plan_of_one Delete true "0-9", codes "a1b2\n", codes "12")
    ∷ (plan_of_one Delete false "a-c", codes "abcabd\n", codes "d\n")
    ∷ (plan_of_two Translate false "a-c-e" "1-5", codes "a-e", codes "145")
    ∷ (plan_of_two Translate false "aab" "xyz", codes "ab", codes "yz")
    ∷ (plan_of_two Translate false "\\0012" "ab", codes "2", codes "b")
    ∷ (plan_of_two TranslateSqueeze false "ab" "x", codes "abba", codes "x")
    ∷ (plan_of_two TranslateSqueeze true "a" "x", codes "abba\n", codes "axax")
    ∷ (plan_of_one Squeeze false "a", codes "aabaa", codes "aba")
    ∷ (plan_of_two Translate false "[a-c]" "<1-3>", codes "[ab]", codes "<12>")
    ∷ (plan_of_two Translate false "0-9" "[x*5]y", codes "0459", codes "xxyy")
    ∷ (plan_of_two Translate false "[:lower:]1" "[:upper:]", codes "a1", codes "AZ")
    ∷ (plan_of_two DeleteSqueeze false "[:digit:]" "[:space:]", codes "1  2\n\n", codes " \n")
    ∷ (plan_of_one Delete false "[=a=]b", codes "abc", codes "c")
    ∷ (plan_of_two Translate true "\\000-\\377" "[x*]", codes "ab", codes "ab")
    ∷ (plan_of_two Translate false "a-zA-Z" "n-za-mN-ZA-M", codes "Hello", codes "Uryyb")
    ∷ (plan_of_one Delete false "--/", codes "+,-./0", codes "+,0")
    ∷ (plan_of_one Delete false "[==]", codes "[a=]b", codes "ab")
    ∷ (plan_of_one Delete false "[::]", codes "[a:]b", codes "ab")
    ∷ (plan_of_one Delete false "\\08", (0 ∷ 56 ∷ 57 ∷ []), (57 ∷ []))
    ∷ (plan_of_two Translate false "abc" "[a*x]", codes "abc", codes "[a*")
    ∷ (plan_of_two Translate false "abcde" "1[x*]2", codes "abcde", codes "1xxx2")
    ∷ (plan_of_two Translate false "ab" "12[x*]3", codes "ab", codes "12")
    ∷ (plan_of_one Delete false "+-[:digit:]", codes "*+0Z[\\]:digit9", codes "*\\")
    ∷ (plan_of_two Translate false "123[:lower:]" "[x*][:upper:]", codes "12a", codes "xxA")
    ∷ []

are_written : map (λ (row : Result Plan SetFault × List ℕ × List ℕ). output_of row.0 row.1) examples
    ≡ map (λ (row : Result Plan SetFault × List ℕ × List ℕ). Some row.2) examples
unfolding all_bytes
are_written = refl
