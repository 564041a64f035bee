-- How the files of a call are split at their ends; and what holds of a call whose memory ran out before the run.
use Rattle.std.proofs.Common.{◌≡◌, ◌⊎◌, ◌<◌, ◌≤◌, ℕ, true, false, List, [], ◌∷◌, ◌++◌, Option, Some, None}
use Rattle.std.proofs.Common.{inl, inr, ap, sym, ◌∙◌, refl, arith, drop, length, take}
use Rattle.std.proofs.Common.{get_or, ◌+◌, ◌-◌, append_assoc, codes}
use Rattle.std.proofs.lemmas.List.{at_drop_more, length-drop, map-append}
use Rattle.std.specs.Borrow.{Bor}
use Rattle.ptrun.specs.Files.{InputBytes}
use Rattle.ptrun.specs.Messages.{memory_message}
use Rattle.ptrun.specs.SpecOfArgs.{spec_of_args}
use Rattle.ptrunc.specs.Calls.Answers.{IsRefused}
use Rattle.ptrunc.specs.Calls.Given.{are_ascending, cut_at, no_file}
use Rattle.ptrunc.specs.Inputs.{file_view, files_view}
use Rattle.ptrunc.specs.Results.{IsRunInMemory}
use Rattle.ptrunc.specs.declared.answer.Answer.{Answer}

-- ---- ends

module _ (begin end size : ℕ) (ends : List ℕ) where
  skipped : end ≡ no_file → are_ascending begin (end ∷ ends) size ≡ are_ascending begin ends size
  skipped is = grind arith

  before_begin : (end ≡ no_file → ⊥) → end < begin → are_ascending begin (end ∷ ends) size ≡ false
  before_begin known low = grind arith

  after_size : (end ≡ no_file → ⊥) → size < end → are_ascending begin (end ∷ ends) size ≡ false
  after_size known high = grind arith

  ascends : (end ≡ no_file → ⊥) → begin ≤ end → end ≤ size
      → are_ascending begin (end ∷ ends) size ≡ are_ascending end ends size
  ascends known low high = grind arith

  others_ascend : (end ≡ no_file → ⊥) → are_ascending begin (end ∷ ends) size ≡ true → are_ascending end ends size ≡ true
  others_ascend known all = grind arith

module _ (begin size : ℕ) (ends : List ℕ) (i : ℕ) where
  pub all_ascend : length ends ≤ i → are_ascending begin (drop i ends) size ≡ true
  all_ascend past = of_nil (drop i ends) (omega (arith, past, length-drop i ends))
    where
      of_nil : (l : List ℕ) → length l ≡ 0 → are_ascending begin l size ≡ true
      of_nil [] none = refl
      of_nil (x ∷ l) none = absurd (omega (arith, none))

  module _ (within : i < length ends) where
    next : are_ascending begin (drop i ends) size ≡ are_ascending begin (get_or ends i 0 ∷ drop (i + 1) ends) size
    next = at_drop_more (λ l. are_ascending begin l size) ends i 0 within

    pub end_skipped : get_or ends i 0 ≡ no_file
        → are_ascending begin (drop i ends) size ≡ are_ascending begin (drop (i + 1) ends) size
    end_skipped is = next ∙ skipped begin (get_or ends i 0) size (drop (i + 1) ends) is

    pub end_descends : (get_or ends i 0 ≡ no_file → ⊥) → (get_or ends i 0 < begin) ⊎ (size < get_or ends i 0)
        → are_ascending begin (drop i ends) size ≡ false
    end_descends known (inl low) = next ∙ before_begin begin (get_or ends i 0) size (drop (i + 1) ends) known low
    end_descends known (inr high) = next ∙ after_size begin (get_or ends i 0) size (drop (i + 1) ends) known high

    pub end_ascends : (get_or ends i 0 ≡ no_file → ⊥) → begin ≤ get_or ends i 0 → get_or ends i 0 ≤ size
        → are_ascending begin (drop i ends) size ≡ are_ascending (get_or ends i 0) (drop (i + 1) ends) size
    end_ascends known low high = next ∙ ascends begin (get_or ends i 0) size (drop (i + 1) ends) known low high

-- ---- files

module _ (begin end : ℕ) (ends bytes : List ℕ) where
  no_file_cut : end ≡ no_file → cut_at begin (end ∷ ends) bytes ≡ None ∷ cut_at begin ends bytes
  no_file_cut is = grind arith

  file_cut : (end ≡ no_file → ⊥)
      → cut_at begin (end ∷ ends) bytes ≡ Some (take (end - begin) (drop begin bytes)) ∷ cut_at end ends bytes
  file_cut known = grind arith

added : (files : List (Option (Bor (List ℕ)))) (x : Option (Bor (List ℕ))) (more whole : InputBytes)
    → files_view files ++ file_view x ∷ more ≡ whole → files_view (files ++ x ∷ []) ++ more ≡ whole
added files x more whole is = ap (λ (l : InputBytes). l ++ more) (map-append file_view files (x ∷ []))
    ∙ append_assoc (files_view files) (file_view x ∷ []) more ∙ is

module _ (files files' : List (Option (Bor (List ℕ)))) (begin begin' i : ℕ) (ends bytes : List ℕ)
    (within : i < length ends)
    (so_far : files_view files ++ cut_at begin (drop i ends) bytes ≡ cut_at 0 ends bytes)
    (in_order : are_ascending begin (drop i ends) (length bytes) ≡ true) where
  abbrev IsNext : Type 0
  IsNext = (files_view files' ++ cut_at begin' (drop (i + 1) ends) bytes ≡ cut_at 0 ends bytes)
      × (are_ascending begin' (drop (i + 1) ends) (length bytes) ≡ true)

  pub no_file_next : get_or ends i 0 ≡ no_file → files' ≡ files ++ None ∷ [] → begin' ≡ begin → IsNext
  no_file_next is files_are begin_is = rw (files_are, begin_is) (
    added files None (cut_at begin (drop (i + 1) ends) bytes) (cut_at 0 ends bytes)
        (ap (λ (l : InputBytes). files_view files ++ l)
        (sym (at_drop_more (λ l. cut_at begin l bytes) ends i 0 within
        ∙ no_file_cut begin (get_or ends i 0) (drop (i + 1) ends) bytes is)) ∙ so_far),
    sym (end_skipped begin (length bytes) ends i within is) ∙ in_order,
  )

  pub file_next : (x : Bor (List ℕ)) → x.now ≡ take (get_or ends i 0 - begin) (drop begin bytes)
      → (get_or ends i 0 ≡ no_file → ⊥) → files' ≡ files ++ Some x ∷ [] → begin' ≡ get_or ends i 0 → IsNext
  file_next x is known files_are begin_is = rw (files_are, begin_is) (
    added files (Some x) (cut_at (get_or ends i 0) (drop (i + 1) ends) bytes) (cut_at 0 ends bytes)
        (ap (λ (l : InputBytes). files_view files ++ l)
        (ap (λ b. Some b ∷ cut_at (get_or ends i 0) (drop (i + 1) ends) bytes) is
        ∙ sym (at_drop_more (λ l. cut_at begin l bytes) ends i 0 within
        ∙ file_cut begin (get_or ends i 0) (drop (i + 1) ends) bytes known)) ∙ so_far),
    others_ascend begin (get_or ends i 0) (length bytes) (drop (i + 1) ends) known
        (sym (at_drop_more (λ l. are_ascending begin l (length bytes)) ends i 0 within) ∙ in_order),
  )

-- ---- want of memory

-- Memory ran out before the run, and this was all that was said.
pub nothing_ran : (words : List (List ℕ)) (w : InputBytes) (out messages' : List ℕ) (a : Answer)
    → IsRefused None (memory_message (codes "ptext")) messages' a → IsRunInMemory words w out messages' a
nothing_ran words w out messages' a refused = record {
  is_exact = λ other. absurd (other refused.status_is);
  out_of_memory = λ four. record {
    text = memory_message (codes "ptext");
    said = inl refused.holds;
    cause = inl (inl refl);
  };
  is_prefix = rw refused.nothing (record { rest = (spec_of_args words).out w; is = refl });
  within = (rw refused.nothing (omega arith), refused.holds.within);
}
