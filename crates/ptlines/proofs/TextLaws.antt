-- Splitting the text of lines gives these lines, and the text of the lines of a text is that text, perhaps with one
-- more terminator. Also for the complete lines of a text. So a text has one list of lines (`the_lines`), and its
-- complete lines are those up to the last terminator (`the_complete_lines`).
use Rattle.ptlines.proofs
use proofs.Common.{◌≡◌, ◌≢◌, ◌⊎◌, inl, inr, ℕ, ◌==◌, ◌<◌, Bool, true, false, cond, List, [], ◌∷◌, ◌++◌, length, drop}
use proofs.Common.{get_or, refl, sym, ◌∙◌, ap, arith, onto_first, eq-eqb, eqb-false, append-nil, lines}
use proofs.Common.{IsLine, rules, usual}
use Rattle.ptlines.specs.Laws.Text.{AreLines, CompleteLinesAreLines, EndsWithByte, LinesAreUnique}
use Rattle.ptlines.specs.Text.{complete_lines, unlines}

pub byte_eq : (end : ℕ) → (end == end) ≡ true
byte_eq end = eq-eqb end end refl

pub byte_ne : (end b : ℕ) → b ≢ end → (b == end) ≡ false
byte_ne = grind arith

pub lines_cons : (end : ℕ) (front rest : List ℕ) → IsLine end front
    → lines end (front ++ end ∷ rest) ≡ front ∷ lines end rest
lines_cons end [] rest free = rw (byte_eq end) refl
lines_cons end (b ∷ front) rest (differs, free) = grind (arith, lines_cons end front rest free)

pub lines_of_last : (end : ℕ) (line : List ℕ) → IsLine end line → 0 < length line → lines end line ≡ line ∷ []
lines_of_last end [] free some = absurd (omega arith)
lines_of_last end (b ∷ []) (differs, free) some = rw (byte_ne end b differs) refl
lines_of_last end (b ∷ c ∷ line) (differs, free) some = grind (arith, lines_of_last end (c ∷ line) free (omega arith))

pub unlines-append : (end : ℕ) (xs ys : List (List ℕ)) → unlines end (xs ++ ys) ≡ unlines end xs ++ unlines end ys
unlines-append = grind usual

pub unlines_push : (end : ℕ) (xs : List (List ℕ)) (line : List ℕ)
    → unlines end (xs ++ line ∷ []) ≡ unlines end xs ++ (line ++ end ∷ [])
unlines_push = search (rules, unlines-append)

pub AreLines_push : (end : ℕ) (ls : List (List ℕ)) (line : List ℕ) → AreLines end ls → IsLine end line
    → AreLines end (ls ++ line ∷ [])
AreLines_push = grind usual

pub lines_of_unlines : (end : ℕ) (ls : List (List ℕ)) (bytes : List ℕ) → AreLines end ls
    → lines end (unlines end ls ++ bytes) ≡ ls ++ lines end bytes
lines_of_unlines end [] bytes w = refl
lines_of_unlines end (line ∷ ls) bytes (first, others) =
    grind (usual, lines_cons, lines_of_unlines end ls bytes others)

pub lines-unlines : (end : ℕ) (ls : List (List ℕ)) → AreLines end ls → lines end (unlines end ls) ≡ ls
lines-unlines end ls w = ap (lines end) (sym (append-nil (unlines end ls))) ∙ lines_of_unlines end ls [] w
    ∙ append-nil ls

pub complete_lines_none : (end : ℕ) (piece : List ℕ) → IsLine end piece → complete_lines end piece ≡ []
complete_lines_none end [] free = refl
complete_lines_none end (b ∷ piece) (differs, free) = grind (arith, complete_lines_none end piece free)

pub complete_lines_cons : (end : ℕ) (front rest : List ℕ) → IsLine end front
    → complete_lines end (front ++ end ∷ rest) ≡ front ∷ complete_lines end rest
complete_lines_cons end [] rest free = rw (byte_eq end) refl
complete_lines_cons end (b ∷ front) rest (differs, free) = grind (arith, complete_lines_cons end front rest free)

pub complete_lines_of_unlines : (end : ℕ) (ls : List (List ℕ)) (piece : List ℕ) → AreLines end ls → IsLine end piece
    → complete_lines end (unlines end ls ++ piece) ≡ ls
complete_lines_of_unlines end [] piece w p = complete_lines_none end _ p
complete_lines_of_unlines end (line ∷ ls) piece (first, others) p =
    grind (usual, complete_lines_cons, complete_lines_of_unlines end ls piece others p)

lines_extra_terminator : (end : ℕ) (bytes : List ℕ) → bytes ≢ [] → ¬ EndsWithByte end bytes
    → lines end (bytes ++ end ∷ []) ≡ lines end bytes
lines_extra_terminator end [] some not_eof = absurd (some refl)
lines_extra_terminator end (b ∷ []) some not_eof = grind arith
lines_extra_terminator end (b ∷ c ∷ bytes) some not_eof = cc (lines_extra_terminator end (c ∷ bytes) (λ e. cc) (λ
    (front, e). not_eof (b ∷ front, ap (λ xs. b ∷ xs) e)))

pub lines_are : (end : ℕ) (bytes : List ℕ) → AreLines end (lines end bytes)
lines_are end [] = tt
lines_are end (b ∷ bytes) = grind (arith, lines_are end bytes)

tail_ends : (end b c : ℕ) (bytes : List ℕ) → EndsWithByte end (b ∷ c ∷ bytes) → EndsWithByte end (c ∷ bytes)
tail_ends end b c _ ([], e) = cc
tail_ends end b c _ (f ∷ fs, e) = (fs, ap (drop 1) e)

-- one terminator is added if the last line was incomplete
pub unlines-lines : (end : ℕ) (bytes : List ℕ)
    → (unlines end (lines end bytes) ≡ bytes)
    ⊎ ((bytes ≢ []) × ¬ EndsWithByte end bytes × (unlines end (lines end bytes) ≡ bytes ++ end ∷ []))
unlines-lines end [] = inl refl
unlines-lines end (b ∷ []) = grind (arith, not_ended)
  where
    not_ended : (b == end) ≡ false → EndsWithByte end (b ∷ []) → ⊥
    not_ended e ([], h) = eqb-false b end e (ap (λ xs. get_or xs 0 0) h)
    not_ended e (f ∷ fs, h) = not_nil fs (ap (drop 1) h)
      where
        not_nil : (xs : List ℕ) → [] ≡ xs ++ end ∷ [] → ⊥
        not_nil [] z = cc
        not_nil (x ∷ xs) z = cc
unlines-lines end (b ∷ c ∷ bytes) = put (b == end) refl (unlines-lines end (c ∷ bytes))
  where
    put : (t : Bool) → (b == end) ≡ t
        → (unlines end (lines end (c ∷ bytes)) ≡ c ∷ bytes)
        ⊎ ((c ∷ bytes ≢ []) × ¬ EndsWithByte end (c ∷ bytes)
        × (unlines end (lines end (c ∷ bytes)) ≡ (c ∷ bytes) ++ end ∷ []))
        → (unlines end (cond t ([] ∷ lines end (c ∷ bytes)) (onto_first b (lines end (c ∷ bytes)))) ≡ b ∷ c ∷ bytes)
        ⊎ ((b ∷ c ∷ bytes ≢ []) × ¬ EndsWithByte end (b ∷ c ∷ bytes)
        × (unlines end (cond t ([] ∷ lines end (c ∷ bytes)) (onto_first b (lines end (c ∷ bytes))))
        ≡ (b ∷ c ∷ bytes) ++ end ∷ []))
    put true e (inl h) = grind arith
    put true e (inr (n, u, h)) = inr ((λ z. cc), (λ x. u (tail_ends end b c _ x)), grind arith)
    put false e (inl h) = grind arith
    put false e (inr (n, u, h)) = inr ((λ z. cc), (λ x. u (tail_ends end b c _ x)), grind arith)

pub the_lines : LinesAreUnique
the_lines = grind (arith, lines_are, unlines-lines, lines-unlines, lines_extra_terminator)

complete_lines_up_to_last : (end : ℕ) (front rest : List ℕ) → IsLine end rest
    → complete_lines end (front ++ end ∷ rest) ≡ lines end (front ++ end ∷ [])
complete_lines_up_to_last end front rest free =
    let all = front ++ end ∷ [] in
    let whole : unlines end (lines end all) ≡ all = grind (arith, unlines-lines) in
    ap (complete_lines end) (grind usual)
    ∙ complete_lines_of_unlines end _ _ (lines_are end all) free

pub the_complete_lines : CompleteLinesAreLines
the_complete_lines = grind (arith, complete_lines_none, complete_lines_up_to_last)
