-- The grammar of lists of elements between separators.
use Rattle.std.specs.Prelude.{ℕ, List, [], ◌∷◌, ◌++◌, ◌≡◌, ◌==◌, ◌||◌, Bool, true}
use Rattle.std.specs.Str.{byte}

-- a byte that separates elements: a comma, a space or a tab
abbrev pub is_list_separator : ℕ → Bool
is_list_separator b = (b == byte ",") || (b == byte " ") || (b == 9)

-- The grammar of a list: elements with a single separator between each two. `Spells` relates the text of an element to
-- its value.
pub data IsListOf {A : Type 0} (Spells : List ℕ → A → Type 0) : List ℕ → List A → Type 0 where
  Last : (e : List ℕ) (x : A) → Spells e x → IsListOf Spells e (x ∷ [])
  More : (e : List ℕ) (s : ℕ) (bs : List ℕ) (x : A) (xs : List A) → Spells e x → is_list_separator s ≡ true
      → IsListOf Spells bs xs → IsListOf Spells (e ++ s ∷ bs) (x ∷ xs)
