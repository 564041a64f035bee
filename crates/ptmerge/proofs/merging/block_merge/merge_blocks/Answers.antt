-- Both inputs can go on from where the loop ended, and the contract is put together from those of the calls.
use Rattle.ptmerge.proofs
use proofs.Common.{◌∙◌, First, Second, inl, inr, refl}
use proofs.BlockLemmas.{can_resume, is_write_fault}
use proofs.merging.block_merge.merge_blocks.Goals as goal

pub block_line-one-requires-clause-status_is : goal.block_line-one-requires-clause-status_is
block_line-one-requires-clause-status_is g c = c.requires.heads First

pub block_line-two-requires-clause-status_is : goal.block_line-two-requires-clause-status_is
block_line-two-requires-clause-status_is g c = c.requires.heads Second

pub merge_lines-requires-clause-ends : goal.merge_lines-requires-clause-ends
merge_lines-requires-clause-ends g c = c.terminator.ensures ∙ c.requires.blocks.terminator First

pub merge_lines-requires-clause-begins : goal.merge_lines-requires-clause-begins
merge_lines-requires-clause-begins g c =
    rw c.order.ensures (elim [ First ↦ c.block_line-one.ensures.begins | Second ↦ c.block_line-two.ensures.begins ])

pub resume_both-requires-clause-fits : goal.resume_both-requires-clause-fits
resume_both-requires-clause-fits g c =
    let p = c.in_ok-run.ensures.merged in
    elim [
      | First ↦ can_resume c.block_line-one.ensures.rest (p.merged.passed First) (p.reached First)
          (c.requires.heads First) (c.requires.blocks.own_reader First)
      | Second ↦ can_resume c.block_line-two.ensures.rest (p.merged.passed Second) (p.reached Second)
          (c.requires.heads Second) (c.requires.blocks.own_reader Second)
    ]

pub returns-in_err-run-clause-merges : goal.returns-in_err-run-clause-merges
returns-in_err-run-clause-merges g c = record {
  head = c.requires.heads;
  old = _;
  head_is = elim [ First ↦ c.block_line-one.ensures.head | Second ↦ c.block_line-two.ensures.head ];
  rest_is = elim [ First ↦ c.block_line-one.ensures.rest | Second ↦ c.block_line-two.ensures.rest ];
  ends = inl (
    rw c.order.ensures at c.in_err-run.ensures.failed,
    record {
      fault = is_write_fault c.from_residual.ensures.1;
      reader = refl;
      store = refl;
    },
  );
}

pub returns-clause-merges : goal.returns-clause-merges
returns-clause-merges g c = record {
  head = c.requires.heads;
  old = _;
  head_is = elim [ First ↦ c.block_line-one.ensures.head | Second ↦ c.block_line-two.ensures.head ];
  rest_is = elim [ First ↦ c.block_line-one.ensures.rest | Second ↦ c.block_line-two.ensures.rest ];
  ends = inr (record {
    run = _;
    post = rw c.order.ensures at c.in_ok-run.ensures.merged;
    resumed = c.resume_both.ensures.resumes;
  });
}
