-- The grammar of the elements of a string of `tr`, and the law that `set_elements` agrees with it.
use Rattle.std.specs.Prelude.{◌≡◌, ◌↔◌, ◌≤◌, ◌<◌, ℕ, List, [], ◌∷◌, ◌++◌}
use Rattle.std.specs.Prelude.{Ok, map}
use Rattle.std.specs.Prelude.{IsTrue}
use Rattle.std.specs.List.{list_all}
use Rattle.std.specs.Char.{is_ascii_digit, is_ascii_lowercase}
use Rattle.std.specs.Str.{byte}
use Rattle.ptlangs.specs.Laws.TrReading.{Escaped, Invalid, Plain, SetChar}
use Rattle.ptlangs.specs.TrClasses.{class_named}
use Rattle.ptlangs.specs.TrElements.{repeat_count}
use Rattle.ptlangs.specs.Laws.TrReading.{set_elements}
use Rattle.ptlangs.specs.declared.faults.SetFaultKind.{SetFaultKind}
use Rattle.ptlangs.specs.declared.faults.SetFaultKind.TheVariants.{Descending}
use Rattle.ptlangs.specs.declared.tr.elements.SetElement.{SetElement}
use Rattle.ptlangs.specs.declared.tr.elements.SetElement.TheVariants.{Class, Equivalence, Range, Repeat, Single}

-- ---- the grammar

-- the character denotes the byte
pub data DenotesByte : SetChar → ℕ → Type 0 where
  ByItself : (b : ℕ) → DenotesByte (Plain b) b
  ByEscape : (b : ℕ) → DenotesByte (Escaped b) b

-- the characters start with a bracketed form, and the rest comes after it
pub data StartsBracketed : List SetChar → SetElement → List SetChar → Type 0 where
  ARepeat : (u : SetChar) (v : ℕ) (digits : List ℕ) (rest : List SetChar) → DenotesByte u v
      → IsTrue (list_all is_ascii_digit digits)
      → StartsBracketed (Plain (byte "[") ∷ u ∷ Plain (byte "*") ∷ map Plain digits ++ Plain (byte "]") ∷ rest)
      (Repeat v (repeat_count digits)) rest
  AClass : (c : ℕ) (name : List ℕ) (rest : List SetChar) → IsTrue (list_all is_ascii_lowercase (c ∷ name))
      → StartsBracketed
      (Plain (byte "[") ∷ Plain (byte ":") ∷ map Plain (c ∷ name) ++ Plain (byte ":") ∷ Plain (byte "]") ∷ rest)
      (Class (class_named (c ∷ name))) rest
  AnEquivalence : (u : SetChar) (v : ℕ) (rest : List SetChar) → DenotesByte u v
      → StartsBracketed (Plain (byte "[") ∷ Plain (byte "=") ∷ u ∷ Plain (byte "=") ∷ Plain (byte "]") ∷ rest)
      (Equivalence v) rest

-- the characters start with some bracketed form
abbrev pub HasBracketed : List SetChar → Type 0
HasBracketed us = (p : SetElement) × (rest : List SetChar) × StartsBracketed us p rest

-- the characters are a plain dash, one more character and a rest
abbrev pub HasDashAndChar : List SetChar → Type 0
HasDashAndChar us = (u : SetChar) × (rest : List SetChar) × (us ≡ Plain (byte "-") ∷ u ∷ rest)

-- the characters start with the element, and the rest comes after it; a bracketed form has precedence
pub data StartsElement : List SetChar → SetElement → List SetChar → Type 0 where
  InBrackets : (us : List SetChar) (p : SetElement) (rest : List SetChar) → StartsBracketed us p rest
      → StartsElement us p rest
  ARange : (u v : SetChar) (a b : ℕ) (rest : List SetChar) → ¬ HasBracketed (u ∷ Plain (byte "-") ∷ v ∷ rest)
      → DenotesByte u a → DenotesByte v b → a ≤ b
      → StartsElement (u ∷ Plain (byte "-") ∷ v ∷ rest) (Range a b) rest
  Alone : (u : SetChar) (a : ℕ) (rest : List SetChar) → ¬ HasBracketed (u ∷ rest) → ¬ HasDashAndChar rest
      → DenotesByte u a → StartsElement (u ∷ rest) (Single a) rest

-- no element starts here, with the fault that is reported
pub data StartsInvalid : List SetChar → SetFaultKind → Type 0 where
  AnInvalidChar : (k : SetFaultKind) (rest : List SetChar) → StartsInvalid (Invalid k ∷ rest) k
  AnInvalidEnd : (u : SetChar) (a : ℕ) (k : SetFaultKind) (rest : List SetChar)
      → ¬ HasBracketed (u ∷ Plain (byte "-") ∷ Invalid k ∷ rest) → DenotesByte u a
      → StartsInvalid (u ∷ Plain (byte "-") ∷ Invalid k ∷ rest) k
  ADescendingRange : (u v : SetChar) (a b : ℕ) (rest : List SetChar) → ¬ HasBracketed (u ∷ Plain (byte "-") ∷ v ∷ rest)
      → DenotesByte u a → DenotesByte v b → b < a
      → StartsInvalid (u ∷ Plain (byte "-") ∷ v ∷ rest) Descending

-- the characters are these elements, one after another
abbrev pub AreElements : List SetChar → List SetElement → Type 0
AreElements us [] = us ≡ []
AreElements us (p ∷ ps) = (rest : List SetChar) × StartsElement us p rest × AreElements rest ps

-- ---- the law

-- `set_elements` gives the elements of the grammar, all without a fault, and only those
abbrev pub ElementsMatchGrammar : Type 0
ElementsMatchGrammar = (us : List SetChar) (ps : List SetElement) → AreElements us ps ↔ (set_elements us ≡ map Ok ps)
