-- The input that is left is at a line, and its reader has the terminator of the tool.
use Rattle.ptmerge.proofs
use proofs.Common.{First, Second, arith}
use proofs.merging.block_merge.merge_in_blocks.Goals as goal

pub pass_block-requires-clause-status_is : goal.pass_block-requires-clause-status_is
pass_block-requires-clause-status_is g c = record {
  valid_cursors = c.requires.blocks.valid_cursors;
  head = grind arith;
  own_reader = c.requires.blocks.own_reader First;
}

pub pass_block-requires-clause-ends : goal.pass_block-requires-clause-ends
pass_block-requires-clause-ends g c = c.requires.blocks.terminator First

pub pass_block-requires-in-Ended-Head-clause-status_is : goal.pass_block-requires-in-Ended-Head-clause-status_is
pass_block-requires-in-Ended-Head-clause-status_is g c = record {
  valid_cursors = c.requires.blocks.valid_cursors;
  head = grind arith;
  own_reader = c.requires.blocks.own_reader Second;
}

pub pass_block-requires-in-Ended-Head-clause-ends : goal.pass_block-requires-in-Ended-Head-clause-ends
pass_block-requires-in-Ended-Head-clause-ends g c = c.requires.blocks.terminator Second
