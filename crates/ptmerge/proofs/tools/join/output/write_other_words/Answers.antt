-- `write_words` writes the words after the join field. A write that fails leaves a prefix of the words.
use Rattle.ptmerge.proofs
use proofs.Common.{◌∷◌, ℕ, List, ap, arith, with_prefix, usual}
use proofs.JoinLemmas.Fields.{partial_ends, each_fails, each_more, others_more, others_rest}
use proofs.tools.join.output.write_other_words.Goals as goal

pub returns-in_err-write_prefixed_field : goal.returns-in_err-write_prefixed_field
returns-in_err-write_prefixed_field g c =
    each_fails (λ (l : List ℕ). 32 ∷ l) (others_more _ _ (omega arith) c.in-Some.ensures.first) c.loop-passed.invariant
    c.write_prefixed_field.ensures.wrote c.in_err-write_prefixed_field.ensures.fault _ c.from_residual.ensures.1

pub loop-passed-preserved : goal.loop-passed-preserved
loop-passed-preserved g c =
    each_more (λ (l : List ℕ). 32 ∷ l) (others_more _ _ (omega arith) c.in-Some.ensures.first) c.loop-passed.invariant
    c.write_prefixed_field.ensures.wrote c.in_ok-write_prefixed_field.ensures.clean

pub returns-in-Some-next_word : goal.returns-in-Some-next_word
returns-in-Some-next_word g c =
    partial_ends (ap (with_prefix 32) (others_rest _ (omega arith) c.in-Some-next_word.ensures.first))
    c.loop-passed.invariant c.write_words.ensures

pub returns-in_default : goal.returns-in_default
returns-in_default g c = grind usual
