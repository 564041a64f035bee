-- Each call of `open` gives the next of the files in memory.
use Rattle.std.proofs.Common.{◌≡◌, ℕ, zero, suc, List, [], ◌∷◌, ◌++◌, Option, Some, None, ap, sym, ◌∙◌, refl, subst}
use Rattle.std.proofs.Common.{drop, length, map, option_map}
use Rattle.std.proofs.lemmas.List.{map-append}
use Rattle.std.specs.Borrow.{Bor}
use Rattle.ptfiles.specs.Files.{FilesState, Content, Input, IsContent, IsNewInput, Output, source_of}
use Rattle.ptfiles.specs.Private.Files.{OpenPost}
use Rattle.ptrun.specs.Files.{at}
use Rattle.ptrunc.specs.Inputs.{files_view}
use Rattle.ptfiles.specs.Calls.Bytes.{bytes_state}
use Rattle.ptfiles.specs.declared.bytes.Bytes.{Bytes}

at_drop : (files : List (Option (Bor (List ℕ)))) (n : ℕ) → at (files_view (drop n files)) 0 ≡ at (files_view files) n
at_drop files zero = refl
at_drop [] (suc n) = refl
at_drop (file ∷ files) (suc n) = at_drop files n

new_input : (content : Content) (input : Input) → input ≡ option_map source_of content → IsNewInput input
new_input content input is = subst IsNewInput (sym is) (by_content content)
  where
    by_content : (content : Content) → IsNewInput (option_map source_of content)
    by_content None = tt
    by_content (Some bytes) = record { not_eof = refl; unfailed = refl }

module _ (files : List (Option (Bor (List ℕ)))) (created : List (List ℕ)) (outputs : List Output) where
  abbrev state : List (List ℕ) → List (Option Bytes) → FilesState
  state names results = record {
    opened = names;
    inputs = map (option_map bytes_state) results;
    created = created;
    outputs = outputs;
    content = λ count name. Some (at (files_view files) count);
  }

  pub opened_next : (left : List (Option (Bor (List ℕ)))) (names names' : List (List ℕ))
      (results results' : List (Option Bytes)) (name : List ℕ) (file : Option Bytes)
      → names' ≡ names ++ name ∷ [] → results' ≡ results ++ file ∷ [] → left ≡ drop (length names) files
      → IsContent (Some (at (files_view left) 0)) (option_map bytes_state file)
      → OpenPost (state names results) (state names' results') name (option_map bytes_state file)
  opened_next left names names' results results' name file names_are results_are left_is content = record {
    opened = λ i. record {
      opened = names_are i;
      inputs = (ap (map (option_map bytes_state)) results_are
          ∙ map-append (option_map bytes_state) results (file ∷ [])) i;
      created = created;
      outputs = outputs;
      content = λ count name. Some (at (files_view files) count);
    };
    content = subst (λ c. IsContent (Some c) (option_map bytes_state file))
        (ap (λ l. at (files_view l) 0) left_is ∙ at_drop files (length names)) content;
    is_new = new_input (at (files_view left) 0) (option_map bytes_state file) content.0;
  }
