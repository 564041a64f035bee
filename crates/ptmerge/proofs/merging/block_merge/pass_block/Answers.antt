-- The input can go on from where the loop ended, and the contract is put together from those of the calls.
use Rattle.ptmerge.proofs
use proofs.Common.{inl, inr, refl}
use proofs.BlockLemmas.{can_resume, is_write_fault}
use proofs.merging.block_merge.pass_block.Goals as goal

pub resume-requires-clause-fits : goal.resume-requires-clause-fits
resume-requires-clause-fits g c =
    let p = c.in_ok-at.ensures.passed in
    can_resume c.block_line-line.ensures.rest p.passed.passed p.reached c.requires.status_is.head
    c.requires.status_is.own_reader

pub returns-in_err-at-clause-passes : goal.returns-in_err-at-clause-passes
returns-in_err-at-clause-passes g c = record {
  head = c.requires.status_is.head;
  old = _;
  head_is = c.block_line-line.ensures.head;
  rest_is = c.block_line-line.ensures.rest;
  ends = inl (
    rw c.order.ensures at c.in_err-at.ensures.failed,
    is_write_fault c.from_residual.ensures.1,
    refl,
    refl,
  );
}

pub returns-clause-passes : goal.returns-clause-passes
returns-clause-passes g c = record {
  head = c.requires.status_is.head;
  old = _;
  head_is = c.block_line-line.ensures.head;
  rest_is = c.block_line-line.ensures.rest;
  ends = inr (record {
    at = _;
    post = rw c.order.ensures at c.in_ok-at.ensures.passed;
    resumed = c.resume.ensures.resumes;
  });
}
