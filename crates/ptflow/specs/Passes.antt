-- The specification of the engine of a tool with one input. The contract of a call is in Calls/Passes.
use Rattle.std.specs.Prelude.{false, None}
use Rattle.ptflow.specs.ToolSpec.{ToolSpec}
use Rattle.ptlines.specs.Engines.{EngineSpec}

-- The engine of a tool with one input.
abbrev pub pass_engine : ToolSpec → EngineSpec (Unit {0})
pass_engine tool = record {
  text = λ texts. tool.text (texts tt);
  decided = λ given. tool.decided (given tt);
  disorder = λ texts. None;
  size = λ texts. tool.size (texts tt);
  slots = λ texts. tool.slots;
  first_slots = tool.slots;
  keeps_groups = false;
  terminator = tool.end;
  keeps_terminator = tool.keeps_end;
}
