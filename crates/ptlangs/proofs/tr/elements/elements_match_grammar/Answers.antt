-- Answer for `elements_match_grammar`: the characters and elements of a string are those of the grammar, and its
-- fault is that of its first faulty element. They are lemmas of `TrGrammar` and `TrTexts`.
use Rattle.ptlangs.proofs
use proofs.TrGrammar.{AreElements-set_elements, set_elements-AreElements, chars_are, fault_is, is_fault, spelled}
use proofs.TrTexts.{read_in_steps}
use proofs.tr.elements.elements_match_grammar.Goals as goal
use proofs.Common.{SpellsChars, chars, false, refl, subst, sym, ◌∙◌, ◌∷◌}

pub returns : goal.returns
returns c =
    record {
      chars = λ bs us. (chars_are bs us, λ e. subst (SpellsChars bs) e (spelled bs 0));
      elements = λ us ps. (set_elements-AreElements us ps, AreElements-set_elements ps us);
      faults = λ role b text k. (
        λ f. read_in_steps role (b ∷ text) ∙ fault_is role false (chars (b ∷ text)) f,
        λ e. is_fault role _ false (chars (b ∷ text)) k refl (sym (read_in_steps role (b ∷ text)) ∙ e),
      );
      steps = read_in_steps;
    }
