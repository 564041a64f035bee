-- A tool in a run: it reads its operands one after another or together. And the specification of a command, by its
-- tool.
use Rattle.std.specs.Prelude.{ℕ, List, codes, if◌then◌else◌}
use Rattle.ptflow.specs.Cuts.{cut_tool}
use Rattle.ptflow.specs.PasteText.{paste_serial_tool}
use Rattle.ptflow.specs.ToolSpec.{ToolSpec}
use Rattle.ptflow.specs.TrOutput.{tr_tool}
use Rattle.ptflow.specs.Uniqs.{uniq_tool}
use Rattle.ptlangs.specs.Jobs.{Paste}
use Rattle.ptmerge.specs.Comm.{comm_engine}
use Rattle.ptmerge.specs.Join.{join_engine}
use Rattle.ptopts.specs.Commands.{Command, Job, RunComm, RunCut, RunJoin, RunPaste, RunTr, RunUniq}
use Rattle.ptrun.specs.CommandSpec.{CommandSpec}
use Rattle.ptrun.specs.Operands.{positions}
use Rattle.ptrun.specs.Private.Joint.{JointTool, joint_spec, one_input_tool, paste_rows_tool, two_input_tool}
use Rattle.ptrun.specs.Private.Sequential.{sequential_spec}

-- A tool that reads one operand after another, or one that reads all operands together. (`uniq` has one operand, and
-- belongs to the second kind: if its input could not be opened, nothing else is done.)
pub data ToolInRun : Type 0 where
  OneByOne : ToolSpec → ToolInRun
  Together : JointTool → ToolInRun

-- The specification of a command, by how its tool reads its operands.
abbrev pub spec_by_reading : List ℕ → ToolInRun → List (List ℕ) → List ℕ → CommandSpec
spec_by_reading word (OneByOne t) names positions = sequential_spec word t names positions
spec_by_reading word (Together t) names positions = joint_spec word t names positions

-- The specification of the tool named `word` with operands at these positions and files of these names. These three
-- are given once more, so that they are known for any tool.
abbrev pub spec_of_tool : List ℕ → ToolInRun → List (List ℕ) → List ℕ → CommandSpec
spec_of_tool word tool names positions =
    record (spec_by_reading word tool names positions) { positions = positions; tool = word; names = names }

-- `paste -s` reads its operands one after another, and `paste` reads them together.
abbrev pub paste_in_run : Paste → ToolInRun
paste_in_run job =
    if job.serial then OneByOne (paste_serial_tool job) else Together (paste_rows_tool job)

-- The tool that a job asks for.
abbrev pub tool_of_job : Job → ToolInRun
tool_of_job (RunCut job) = OneByOne (cut_tool job)
tool_of_job (RunPaste job) = paste_in_run job
tool_of_job (RunUniq job) = Together (one_input_tool (uniq_tool job))
tool_of_job (RunComm job) = Together (two_input_tool (comm_engine job))
tool_of_job (RunJoin job) = Together (two_input_tool (join_engine job))
tool_of_job (RunTr m) = OneByOne (tr_tool m)

-- The name of this tool.
abbrev pub word_of_job : Job → List ℕ
word_of_job (RunCut job) = codes "cut"
word_of_job (RunPaste job) = codes "paste"
word_of_job (RunUniq job) = codes "uniq"
word_of_job (RunComm job) = codes "comm"
word_of_job (RunJoin job) = codes "join"
word_of_job (RunTr m) = codes "tr"

-- The specification of a parsed command, by its tool. It is `command_spec`.
abbrev pub tool_spec : Command → CommandSpec
tool_spec c = spec_of_tool (word_of_job c.job) (tool_of_job c.job) c.names (positions c.order)
