-- Only the first 8,192 bytes of the block are written to, so the margin after them does not matter.
use Rattle.ptlines.proofs
use proofs.Common.{◌≡◌, ℕ, List, ◌++◌, Result, length, take, sym, ◌∙◌, subst, arith, take-append-le, take_all}
use proofs.Common.{SourceState, PullPost}
use Rattle.ptlines.specs.declared.sink.Failed.{Failed}
use proofs.reader.read_block.Goals as goal
use Rattle.ptlines.specs.declared.sizes.TheConstants.{BLOCK}

in_front : (old new : SourceState) (into rest : List ℕ) (r : Result ℕ Failed) → length into ≡ BLOCK
    → PullPost old new into r → PullPost old new (take BLOCK (into ++ rest)) r
in_front old new into rest r long =
    let whole = take-append-le BLOCK into rest (omega arith) ∙ take_all BLOCK into (omega arith) in
    subst (λ l. PullPost old new l r) (sym whole)

pub returns-in-Standard-clause-pulled : goal.returns-in-Standard-clause-pulled
returns-in-Standard-clause-pulled g c =
    let long : length c.pull.new.into ≡ BLOCK = omega arith in
    rw c.in-Standard.is (in_front _ _ _ _ _ long c.pull.ensures.pulled)

pub returns-in-File-clause-pulled : goal.returns-in-File-clause-pulled
returns-in-File-clause-pulled g c =
    let long : length c.pull-in-File.new.into ≡ BLOCK = omega arith in
    rw c.in-File.is (in_front _ _ _ _ _ long c.pull-in-File.ensures.pulled)
