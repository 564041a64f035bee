-- The words of a text, which the code splits at each byte 0, are its lines that end with byte 0.
use Rattle.std.proofs.Common.{◌≡◌, ◌⊎◌, ◌==◌, ◌<◌, ℕ, Bool, true, false, List, [], ◌∷◌, ◌++◌, Option, Some, None}
use Rattle.std.proofs.Common.{inl, inr, ap, sym, ◌∙◌, refl, subst, arith, drop, length, take, if◌then◌else◌}
use Rattle.std.proofs.Common.{get_or, suc}
use Rattle.std.proofs.lemmas.List.{take-append-drop}
use Rattle.std.proofs.lemmas.Bool.{false≢true, true≢false}
use Rattle.std.proofs.lemmas.Iterator.{YieldsList}
use Rattle.std.proofs.lemmas.Iterator.Splits.{YieldsList-from_shown_while}
use Rattle.std.proofs.lemmas.Str.{NoCharPasses-byte}
use Rattle.std.specs.Option.{MatchOption}
use Rattle.std.specs.Str.{NoCharPasses}
use Rattle.std.specs.Str.Iter.{split_has_more, split_terminator_parts, split_terminator_pattern, split_terminator_steps}
use Rattle.std.specs.Str.Iter.{split_text}
use Rattle.std.specs.Str.Pattern.{FindsChar}
use Rattle.ptlines.proofs.TextLaws.{lines_cons, lines_of_last}
use Rattle.ptlines.specs.Calls.Text.{IsLine}
use Rattle.ptlines.specs.Text.{lines}

line_of : (bytes : List ℕ) → ((i : ℕ) → i < length bytes → get_or bytes i 0 ≡ 0 → ⊥) → IsLine 0 bytes
line_of [] free = tt
line_of (b ∷ bytes) free =
    (λ is. free 0 (omega arith) is, line_of bytes (λ i within is. free (suc i) (omega (arith, within)) is))

is_line : (bytes : List ℕ) → NoCharPasses (λ d. d == 0) bytes → IsLine 0 bytes
is_line bytes none = line_of bytes (λ i within is. true≢false (sym (ap (λ n. n == 0) is)
    ∙ NoCharPasses-byte (λ d. d == 0) bytes i none within (omega (arith, is))))

-- The word before the first byte 0, and what is left after it.
cut_word : (text word rest : List ℕ) (more : Bool) (o : Option (ℕ × ℕ)) → FindsChar 0 text o
    → MatchOption o ((word ≡ text) × (more ≡ false))
    (λ q. 0 < q.1 → (word ≡ take q.0 text) × (more ≡ true) × (rest ≡ drop q.1 text))
    → IsLine 0 word × (((word ≡ text) × (more ≡ false)) ⊎ ((more ≡ true) × (text ≡ word ++ 0 ∷ rest)))
unfolding lib.Utf8.encode
cut_word text word rest more None finds last = (subst (IsLine 0) (sym last.0) (is_line text finds), inl last)
cut_word text word rest more (Some q) finds cut =
    let parts = cut (omega (arith, finds.1.ends)) in
    let after : drop q.0 text ≡ 0 ∷ rest = finds.1.split ∙ ap (λ (l : List ℕ). 0 ∷ l) (sym parts.2) in (
      subst (IsLine 0) (sym parts.0) (is_line (take q.0 text) finds.0),
      inr (
        parts.1,
        sym (take-append-drop q.0 text)
            ∙ ap (λ (l : List ℕ). l ++ drop q.0 text) (sym parts.0) ∙ ap (λ (l : List ℕ). word ++ l) after,
      ),
    )

-- A word and the words after it.
next_word : (text word rest : List ℕ) (more : Bool) → IsLine 0 word
    → ((word ≡ text) × (more ≡ false)) ⊎ ((more ≡ true) × (text ≡ word ++ 0 ∷ rest)) → (length word ≡ 0 → more ≡ true)
    → lines 0 text ≡ word ∷ (if more then lines 0 rest else [])
next_word text [] rest more line (inl last) some = absurd (false≢true (sym last.1 ∙ some refl))
next_word text (b ∷ word) rest more line (inl last) some =
    ap (lines 0) (sym last.0) ∙ lines_of_last 0 (b ∷ word) line (omega arith)
    ∙ ap (λ m. (b ∷ word) ∷ (if m then lines 0 rest else [])) (sym last.1)
next_word text word rest more line (inr cut) some = ap (lines 0) cut.1 ∙ lines_cons 0 word rest line
    ∙ ap (λ m. word ∷ (if m then lines 0 rest else [])) (sym cut.0)

no_word : (more : Bool) (text : List ℕ)
    → (more ≡ true → (o : Option (ℕ × ℕ)) × FindsChar 0 text o × MatchOption o (length text ≡ 0) (λ q. q.1 ≡ 0))
    → length (if more then lines 0 text else []) ≡ 0
no_word false text ended = refl
no_word true text ended = by_found (ended refl).0 (ended refl).1 (ended refl).2
  where
    by_found : (o : Option (ℕ × ℕ)) → FindsChar 0 text o → MatchOption o (length text ≡ 0) (λ q. q.1 ≡ 0)
        → length (lines 0 text) ≡ 0
    by_found None finds empty = ap (λ l. length (lines 0 l)) (nil_of text empty)
      where
        nil_of : (l : List ℕ) → length l ≡ 0 → l ≡ []
        nil_of [] none = refl
        nil_of (b ∷ l) none = absurd (omega (arith, none))
    by_found (Some q) finds empty = absurd (omega (arith, finds.1.ends, empty))

pub words_come : {s : _} (text : List ℕ) → split_text {P = ℕ} (split_terminator_parts s) ≡ text
    → split_has_more (split_terminator_parts s) ≡ true → split_terminator_pattern s ≡ 0
    → YieldsList (split_terminator_steps FindsChar (λ a b. b ≡ a)) (λ x. x.now) s (lines 0 text)
words_come {s} text text_is more pattern =
    subst (YieldsList (split_terminator_steps FindsChar (λ a b. b ≡ a)) (λ x. x.now) s)
    (λ i. if more i then lines 0 (text_is i) else [])
    (YieldsList-from_shown_while (split_terminator_steps FindsChar (λ a b. b ≡ a)) (λ x. x.now)
    (λ t. if split_has_more (split_terminator_parts t) then lines 0 (split_text (split_terminator_parts t)) else [])
    (λ t. split_terminator_pattern t ≡ 0)
    (λ t u zero k. no_word (split_has_more (split_terminator_parts t)) (split_text (split_terminator_parts t))
    (λ m. let found = k.0 m in
    (found.0, subst (λ d. FindsChar d (split_text (split_terminator_parts t)) found.0) zero found.1, found.2)))
    (λ t x u zero k. let cut = k.2.1 in
    let found = cut_word (split_text (split_terminator_parts t)) x.now (split_text (split_terminator_parts u))
    (split_has_more (split_terminator_parts u)) cut.0
    (subst (λ d. FindsChar d (split_text (split_terminator_parts t)) cut.0) zero cut.1) cut.2 in (
      k.1 ∙ zero,
      ap (λ m. if m then lines 0 (split_text (split_terminator_parts t)) else []) k.0
          ∙ next_word (split_text (split_terminator_parts t)) x.now (split_text (split_terminator_parts u))
          (split_has_more (split_terminator_parts u)) found.0 found.1 k.3,
    ))
    s pattern)
