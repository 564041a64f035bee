-- Tools that read all their operands together: `paste`, `uniq`, `comm` and `join`. If an operand could not be opened,
-- every such file is reported and nothing else is done.
use Rattle.std.specs.Prelude.{ℕ, ◌==◌, ◌&&◌, Bool, List, [], None, length, nat_le, slice_index_or, not}
use Rattle.std.specs.Prelude.{if◌then◌else◌}
use Rattle.std.specs.List.{list_any}
use Rattle.ptlines.specs.Engines.{EngineSpec}
use Rattle.ptlangs.specs.Jobs.{Paste}
use Rattle.ptflow.specs.Passes.{pass_engine}
use Rattle.ptflow.specs.PasteCall.{paste_engine}
use Rattle.ptflow.specs.ToolSpec.{ToolSpec}
use Rattle.ptmerge.specs.declared.key_order.Side.{Side}
use Rattle.ptmerge.specs.declared.key_order.Side.TheVariants.{First, Second}
use Rattle.ptrun.specs.CommandSpec.{CommandSpec}
use Rattle.ptrun.specs.Decided.{has_unopened, operand, received_in}
use Rattle.ptrun.specs.Private.Engines.{at_positions}
use Rattle.ptrun.specs.Private.Messages.{disorder_status, disorder_text}
use Rattle.ptrun.specs.Private.Operands.{bytes_of}

-- A tool that reads its inputs together. The operands are given as positions.
pub record JointTool : Type 0 where
  -- its engine, over the inputs at these positions
  pub engine : List ℕ → EngineSpec ℕ
  -- whether the tool accepts these operands
  pub accepts : List ℕ → Bool

-- The position of the only operand.
abbrev pub only_operand : List ℕ → ℕ
only_operand positions = slice_index_or positions 0 0

-- A tool with one input.
abbrev pub one_input_tool : ToolSpec → JointTool
one_input_tool t = record {
  engine = λ positions. at_positions (pass_engine t) (λ u. only_operand positions);
  accepts = λ positions. length positions == 1;
}

-- `paste` without `-s`, over at most 512 operands.
abbrev pub paste_rows_tool : Paste → JointTool
paste_rows_tool job = record {
  engine = paste_engine job;
  accepts = λ positions. nat_le (length positions) 512;
}

-- A tool with two inputs, which must be different ones.
abbrev pub two_input_tool : EngineSpec Side → JointTool
two_input_tool engine = record {
  engine = λ positions. at_positions engine (operand positions);
  accepts = λ positions. (length positions == 2) && not (operand positions First == operand positions Second);
}

-- The specification of the tool named `word` with operands at these positions and files of these names.
abbrev pub joint_spec : List ℕ → JointTool → List (List ℕ) → List ℕ → CommandSpec
joint_spec word t names positions = record {
  out = λ w. if has_unopened positions w then [] else (t.engine positions).text (bytes_of w);
  status = λ w. if has_unopened positions w then 1 else disorder_status ((t.engine positions).disorder (bytes_of w));
  memory_bound = λ w. if has_unopened positions w then 0 else (t.engine positions).size (bytes_of w);
  decided = λ r. if has_unopened positions r then [] else (t.engine positions).decided (received_in r);
  final_message = λ w. if has_unopened positions w then [] else disorder_text word names
      ((t.engine positions).disorder (bytes_of w));
  positions = positions;
  tool = word;
  names = names;
  beyond = record {
    slot_bound = λ w. if has_unopened positions w then 0 else (t.engine positions).slots (bytes_of w);
    keeps_groups = (t.engine positions).keeps_groups;
    sequential = None;
    reads_nothing = λ is_unopened_at. list_any is_unopened_at positions;
    accepts = t.accepts positions;
  };
}
