-- The laws of `tr`: translation keeps the number of bytes, and `tr -d` and `tr -cd` share out the bytes.
use Rattle.ptflow.proofs
use Rattle.ptflow.specs
use Rattle.std.proofs.Common.{◌≡◌, ℕ, ◌<◌, Bool, false, List, [], ◌∷◌, refl, ◌∙◌, ap, sym, arith, map, filter, not}
use Rattle.std.proofs.Common.{get_or, None}
use Rattle.std.proofs.Math.Bool.{not-not}
use Rattle.std.specs.List.{AllByRecursion}
use Rattle.std.proofs.lemmas.List.Elements.{recursion_from_All}
use Rattle.std.proofs.lemmas.List.{length-map}
use Rattle.std.proofs.Math.ListN.{get_or-map}
use Rattle.ptlangs.specs.TrClasses.{all_bytes}
use specs.Laws.Outputs.{TranslationKeepsLength, DeletedOrKept}
use specs.TrOutput.{tr, translation}
use proofs.TrLemmas.TrFrom.{from_all, filter_all}
use Rattle.ptlangs.proofs.TrArrays.{table_at, tables_have_map, has_byte-complement}
use Rattle.ptlangs.specs.TrTables.{byte_map_of, deletes, image, squeezes}
use Rattle.ptlangs.specs.Calls.TrTables.{image_of, is_deleted, tables}
use Rattle.ptlangs.specs.TrPlan.{Plan, byte_map, plan_of, has_byte, complement_of}
use Rattle.ptlangs.specs.declared.tr.plan.Form.TheVariants.{Translate, Delete}

none_in_none : (b : ℕ) → get_or (map (λ b. has_byte b []) all_bytes) b false ≡ false
none_in_none b = get_or-map (λ b. has_byte b []) all_bytes b 0

-- If no byte is squeezed, the output is the translation.
unsqueezed : (plan : Plan) → plan.squeezed ≡ [] → (bytes : List ℕ)
    → tr (byte_map plan) bytes ≡ translation (byte_map_of (tables plan)) bytes
unsqueezed plan none bytes = let t = tables plan in
    ap (λ m. tr m bytes) (sym (tables_have_map plan))
    ∙ from_all (squeezes t) (λ b. rw none (none_in_none b)) None (translation (byte_map_of t) bytes)

pub translation_keeps_length : TranslationKeepsLength
translation_keeps_length first second bytes =
    rw (unsqueezed (plan_of Translate first second) refl bytes, filter_all _ none_in_none bytes) (length-map bytes _)

module _ (plan : Plan) (keeps : ℕ → Bool) (from : plan.from ≡ [])
    (same : (b : ℕ) → b < 256 → has_byte b plan.deleted ≡ not (keeps b)) where
  deletion : (bytes : List ℕ) → AllByRecursion (λ b. b < 256) bytes
      → translation (byte_map_of (tables plan)) bytes ≡ filter keeps bytes
  deletion [] low = refl
  deletion (b ∷ bytes) (here, more) =
      let gone : deletes (tables plan) b ≡ not (keeps b) = table_at (is_deleted plan) b false here ∙ same b here in
      let own : image (tables plan) b ≡ b = table_at (image_of plan) b 0 here ∙ rw from refl in
      grind (arith, deletion bytes more)

pub deleted_or_kept : DeletedOrKept
deleted_or_kept array bytes low =
    let all = recursion_from_All _ _ low in
    let deletes = plan_of Delete array [] in
    let keeps = plan_of Delete (complement_of array) [] in (
      unsqueezed deletes refl bytes
          ∙ deletion deletes (λ b. not (has_byte b array)) refl (λ b l. sym (not-not (has_byte b array))) bytes all,
      unsqueezed keeps refl bytes
          ∙ deletion keeps (λ b. has_byte b array) refl (has_byte-complement array) bytes all,
    )
