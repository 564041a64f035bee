-- An empty word between two blanks is skipped, which does not change the remaining words.
use Rattle.ptmerge.proofs
use proofs.Common.{◌≡◌, ◌∷◌, [], None, Some, option_copied, sym, ◌∙◌, MatchOption, slice_split, is_blank}
use proofs.Common.{refl, remaining_fields}
use proofs.JoinLemmas.Fields.{fields_after, skip_empty_word}
use proofs.tools.join.fields.next_word.Goals as goal

pub returns-then-not-is_empty-clause-is_piece : goal.returns-then-not-is_empty-clause-is_piece
returns-then-not-is_empty-clause-is_piece c =
    (rw c.in-Some.is at c.pieces.invariant.fields) _ _ c.first_piece-piece.ensures.is_piece

pub pieces-preserved : goal.pieces-preserved
pieces-preserved c =
    let splits = slice_split is_blank in
    let word = c.first_piece-piece.result.bytes.now in
    let empty = sym c.is_empty.ensures ∙ c.if-not-is_empty.false in
    let skipped = elim c.first_piece-piece.result.rest as (λ o. MatchOption o (splits c.in-Some.bytes.now ≡ word ∷ [])
    (λ b. splits c.in-Some.bytes.now ≡ word ∷ splits b.now)
    → remaining_fields None (option_copied o) ≡ remaining_fields None (Some c.in-Some.bytes.now)) [
      | None ↦ λ m. skip_empty_word None c.in-Some.bytes.now word None refl empty m
      | Some b ↦ λ m. skip_empty_word None c.in-Some.bytes.now word (Some b.now) refl empty m
    ] in
    record {
      same = cc (skipped c.first_piece-piece.ensures.first);
      fields = λ f r p. (rw c.in-Some.is at c.pieces.invariant.fields) f r
          (fields_after None (Some c.in-Some.bytes.now) word _ c.first_piece-piece.ensures.is_piece f r p);
    }
