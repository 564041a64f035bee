-- Each escape of `paste` is one case of the grammar, so `delim_list` agrees with it in both directions. The fault of a
-- list is the first from left to right.
use Rattle.ptlangs.proofs
use Rattle.ptlangs.specs
use proofs.Common.{Err, List, Ok, Option, Result, Some, [], append-nil, arith, cond_both, cons_ok, delim_list, eqb-true}
use proofs.Common.{length, refl, result_err, subst, ℕ, ◌++◌, ◌<◌, ◌∷◌, ◌≡◌}
use proofs.ListElements.{reads_first}
use specs.Laws.DelimLists.{Backslash, DelimListMatchesGrammar, IsDelim, IsDelimList, Last, More, Newline, Nothing}
use specs.Laws.DelimLists.{Plain}
use specs.Laws.DelimLists.{Tab}
use specs.DelimLists.{delims, escape}
use specs.Laws.DelimLists.{backslash}
use specs.Calls.DelimLists.{delim_list_fault}
use specs.declared.delims.DelimFault.{DelimFault}

-- ---- from the grammar to `delim_list`

element_is_read : (e rest : List ℕ) (d : Option ℕ) → IsDelim e d → delim_list (e ++ rest) ≡ cons_ok d (delims rest)
element_is_read e rest d (Plain b h) = grind arith
element_is_read e rest d Newline = refl
element_is_read e rest d Tab = refl
element_is_read e rest d Backslash = refl
element_is_read e rest d Nothing = refl

accepts : (bs : List ℕ) (ds : List (Option ℕ)) → IsDelimList bs ds → delim_list bs ≡ Ok ds
accepts bs ds (Last e d is) = grind (arith, append-nil, element_is_read e [] d is)
accepts bs ds (More e rest d others is list) = grind (arith, element_is_read, accepts _ _ list)

-- ---- from `delim_list` to the grammar

abbrev Spells : ℕ → Option ℕ → Result (Option ℕ) DelimFault → Type 0
Spells c d r = r ≡ Ok d → IsDelim (backslash ∷ c ∷ []) d

escape_is_spelled : (c : ℕ) (d : Option ℕ) → Spells c d (escape c)
escape_is_spelled = grind (arith, Newline, Tab, Backslash, Nothing)

more_delims : (e rest : List ℕ) (d : Option ℕ) (ds : List (Option ℕ)) → IsDelim e d → delims rest ≡ Ok ds
    → ((xs : List (Option ℕ)) → delim_list rest ≡ Ok xs → IsDelimList rest xs) → IsDelimList (e ++ rest) (d ∷ ds)
more_delims = grind (arith, Last, More, append-nil)

list_is_spelled : (bs : List ℕ) (ds : List (Option ℕ)) → delim_list bs ≡ Ok ds → IsDelimList bs ds
list_is_spelled [] ds h = cc
list_is_spelled (b ∷ []) ds h = grind (arith, Last, Plain)
list_is_spelled (b ∷ c ∷ more) ds h =
    cond_both _ _ _ (λ (r : Result _ DelimFault). r ≡ Ok ds
    → IsDelimList (b ∷ c ∷ more) ds) (λ t e.
    let f = reads_first _ _ ds e in
    rw (eqb-true b backslash t) (subst (IsDelimList _) f.is
    (more_delims _ _ _ _ (escape_is_spelled c _ f.read) f.rest
    (λ xs. list_is_spelled _ xs))))
    (λ n e.
    let f = reads_first (Ok _) _ ds e in
    let first : Some b ≡ f.head = cc in
    subst (IsDelimList _) f.is
    (more_delims _ _ _ _ (subst (IsDelim _) first (Plain b n)) f.rest
    (λ xs. list_is_spelled _ xs)))
    h

pub accepts_the_grammar : DelimListMatchesGrammar
accepts_the_grammar bs ds = (accepts bs ds, list_is_spelled bs ds)

-- ---- the fault of a list

-- the result is not an allocation failure
abbrev IsOfText : {A : Type 0} → Result A DelimFault → Type 0
IsOfText (Ok x) = Unit {0}
IsOfText (Err e) = delim_list_fault e ≡ Some e

after_first : (d : Option ℕ) (r : Result (List (Option ℕ)) DelimFault) → IsOfText r → IsOfText (cons_ok d r)
after_first = grind arith

delims_fault : (bs : List ℕ) → IsOfText (delims bs)
delims_fault [] = tt
delims_fault (b ∷ []) = grind arith
delims_fault (b ∷ c ∷ more) = grind (arith, after_first, delims_fault more, delims_fault (c ∷ more))

delim_fault : (bs : List ℕ) → IsOfText (delim_list bs)
delim_fault bs = grind (arith, delims_fault bs)

module _ (text left : List ℕ) (so_far : result_err (delim_list text) ≡ result_err (delim_list left)) where
  pub left_fault : (e : DelimFault) → delim_list left ≡ Err e → result_err (delim_list text) ≡ delim_list_fault e
  left_fault = grind (arith, delim_fault)

  pub left_without_fault : (d : Option ℕ) (remaining : List ℕ) → 0 < length remaining
      → delim_list left ≡ cons_ok d (delims remaining)
      → result_err (delim_list text) ≡ result_err (delim_list remaining)
  left_without_fault = grind arith
