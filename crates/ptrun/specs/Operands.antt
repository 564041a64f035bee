-- The positions of the operands of a command.
use Rattle.std.specs.Prelude.{ℕ, ◌+◌, List, map}
use Rattle.ptopts.specs.declared.inputs.Input.{Input}
use Rattle.ptopts.specs.declared.inputs.Input.TheVariants.{Standard, File}

-- The position of an input: 0 for standard input, and `index` + 1 for a file.
abbrev pub position : Input → ℕ
position Standard = 0
position (File index) = index + 1

-- The positions of the operands, in order.
abbrev pub positions : List Input → List ℕ
positions order = map position order
