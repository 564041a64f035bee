-- Each iteration writes the next word after a space; a write that fails leaves a prefix of the words.
use Rattle.ptmerge.proofs
use Rattle.std.proofs.Common.{◌∷◌, ℕ, List}
use proofs.JoinLemmas.Fields.{each_fails, each_more}
use proofs.tools.join.output.write_words.Goals as goal

pub returns-in_err-write_prefixed_field : goal.returns-in_err-write_prefixed_field
returns-in_err-write_prefixed_field g c = each_fails (λ (l : List ℕ). 32 ∷ l) c.in-Some.ensures.first c.words.invariant
    c.write_prefixed_field.ensures.wrote c.in_err-write_prefixed_field.ensures.fault _ c.from_residual.ensures.1

pub words-preserved : goal.words-preserved
words-preserved g c = each_more (λ (l : List ℕ). 32 ∷ l) c.in-Some.ensures.first c.words.invariant
    c.write_prefixed_field.ensures.wrote c.in_ok-write_prefixed_field.ensures.clean
