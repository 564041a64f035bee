-- The syntax of each tool in the code: its options, its constraints and its number of operands.
use Prim.Native.String.{String}
use Rattle.std.specs.Prelude.{ℕ, List, [], ◌∷◌, Bool, true, false, codes, slice_index}
use Rattle.ptopts.specs.Syntax.{letters}
use Rattle.ptopts.specs.declared.tool.Constraint.{Constraint}
use Rattle.ptopts.specs.declared.tool.Constraint.TheVariants.{Conflict, Required}
use Rattle.ptopts.specs.declared.tool.Tool.{Tool}
use Rattle.ptopts.specs.declared.tool.Tool.TheVariants.{Comm, Cut, Join, Paste, Tr, Uniq}
use Rattle.ptopts.specs.declared.tool.Syntax as code

-- the options and operands that a tool accepts
pub record Syntax : Type 0 where
  -- the options without a value
  pub flags : List ℕ
  -- the options with a value
  pub value_letters : List ℕ
  -- those of them that may be repeated
  pub repeatable : List ℕ
  -- conflicts and required options, in the order in which they are checked
  pub constraints : List Constraint
  -- the least and the greatest number of operands
  pub min_operands : ℕ
  pub max_operands : ℕ
  -- at most one of the operands is standard input
  pub stdin_once : Bool

-- two options that conflict
abbrev pub conflict : String → Constraint
conflict letters = Conflict (slice_index (codes letters) 0) (slice_index (codes letters) 1)

-- three options, one of which is required
abbrev pub one_required : String → Constraint
one_required letters = Required (slice_index (codes letters) 0) (slice_index (codes letters) 1)
    (slice_index (codes letters) 2)

-- the constraints of a tool
abbrev pub constraints : Tool → List Constraint
constraints Cut =
    conflict "bc" ∷ conflict "bf" ∷ conflict "cf" ∷ one_required "bcf"
    ∷ conflict "cn" ∷ conflict "fn" ∷ conflict "bd" ∷ conflict "cd" ∷ conflict "bs" ∷ conflict "cs" ∷ []
constraints Uniq = conflict "cd" ∷ conflict "cu" ∷ conflict "du" ∷ []
constraints Join = conflict "av" ∷ []
constraints Tr = conflict "cC" ∷ []
constraints _ = []

-- the least and the greatest number of operands, and whether at most one of them is standard input
abbrev pub operand_limits : Tool → ℕ × ℕ × Bool
operand_limits Cut = (0, 512, false)
operand_limits Paste = (1, 512, false)
operand_limits Uniq = (0, 2, false)
operand_limits Comm = (2, 2, true)
operand_limits Join = (2, 2, true)
operand_limits Tr = (1, 2, false)

-- the syntax of a tool
abbrev pub syntax : Tool → Syntax
syntax tool = record {
  flags = (letters tool).0;
  value_letters = (letters tool).1;
  repeatable = (letters tool).2;
  constraints = constraints tool;
  min_operands = (operand_limits tool).0;
  max_operands = (operand_limits tool).1;
  stdin_once = (operand_limits tool).2;
}

-- the view of a syntax of the code
abbrev pub syntax_view : code.Syntax → Syntax
syntax_view tool_syntax = record {
  flags = tool_syntax.flags.now;
  value_letters = tool_syntax.value_letters.now;
  repeatable = tool_syntax.repeatable.now;
  constraints = tool_syntax.constraints.now;
  min_operands = tool_syntax.min_operands;
  max_operands = tool_syntax.max_operands;
  stdin_once = tool_syntax.stdin_once;
}
