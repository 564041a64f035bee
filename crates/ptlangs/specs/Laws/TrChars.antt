-- The grammar of the characters of a string of `tr`, and the law that `chars` agrees with it.
use Rattle.std.specs.Prelude.{◌≡◌, ◌≢◌, ◌↔◌, ◌≤◌, ◌<◌, ℕ, List, [], ◌∷◌, ◌++◌, Bool, true, false}
use Rattle.std.specs.Str.Parse.{digits_value}
use Rattle.std.specs.Str.{byte}
use Rattle.ptlangs.specs.TrChars.{byte_of_escape, is_octal_digit}
use Rattle.ptlangs.specs.Laws.TrReading.{Escaped, Invalid, Plain, SetChar, chars}
use Rattle.ptlangs.specs.declared.faults.SetFaultKind.TheVariants.{Escape, Octal}

-- the bytes start with an octal digit
abbrev pub starts_octal : List ℕ → Bool
starts_octal [] = false
starts_octal (b ∷ bs) = is_octal_digit b

-- the octal digits of an escape before the rest: the first three if there are more
pub data IsOctalRun : List ℕ → List ℕ → Type 0 where
  OneDigit : (a : ℕ) (rest : List ℕ) → is_octal_digit a ≡ true → starts_octal rest ≡ false → IsOctalRun (a ∷ []) rest
  TwoDigits : (a b : ℕ) (rest : List ℕ) → is_octal_digit a ≡ true → is_octal_digit b ≡ true → starts_octal rest ≡ false
      → IsOctalRun (a ∷ b ∷ []) rest
  ThreeDigits : (a b c : ℕ) (rest : List ℕ) → is_octal_digit a ≡ true → is_octal_digit b ≡ true
      → is_octal_digit c ≡ true → IsOctalRun (a ∷ b ∷ c ∷ []) rest

-- the bytes start with the character, and the rest comes after it
pub data SpellsChar : List ℕ → SetChar → List ℕ → Type 0 where
  APlainByte : (b : ℕ) (rest : List ℕ) → b ≢ byte "\\" → SpellsChar (b ∷ rest) (Plain b) rest
  AnOctal : (digits rest : List ℕ) → IsOctalRun digits rest → digits_value 8 digits ≤ 255
      → SpellsChar (byte "\\" ∷ digits ++ rest) (Escaped (digits_value 8 digits)) rest
  ALargeOctal : (digits rest : List ℕ) → IsOctalRun digits rest → 255 < digits_value 8 digits
      → SpellsChar (byte "\\" ∷ digits ++ rest) (Invalid Octal) rest
  AnEscape : (b : ℕ) (rest : List ℕ) → is_octal_digit b ≡ false
      → SpellsChar (byte "\\" ∷ b ∷ rest) (Escaped (byte_of_escape b)) rest
  ALoneBackslash : SpellsChar (byte "\\" ∷ []) (Invalid Escape) []

-- the bytes are these characters, one after another
pub data SpellsChars : List ℕ → List SetChar → Type 0 where
  NoChar : SpellsChars [] []
  AChar : (bs rest : List ℕ) (u : SetChar) (us : List SetChar) → SpellsChar bs u rest → SpellsChars rest us
      → SpellsChars bs (u ∷ us)

-- ---- the law

-- `chars` gives the characters of the grammar, and only those
abbrev pub CharsMatchGrammar : Type 0
CharsMatchGrammar = (bs : List ℕ) (us : List SetChar) → SpellsChars bs us ↔ (chars bs ≡ us)
