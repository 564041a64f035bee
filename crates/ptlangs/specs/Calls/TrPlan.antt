-- The forms of `tr` that have a second string.
use Rattle.std.specs.Prelude.{Bool, true}
use Rattle.std.specs.Prelude.{false}
use Rattle.ptlangs.specs.declared.tr.plan.Form.{Form}
use Rattle.ptlangs.specs.declared.tr.plan.Form.TheVariants.{Delete, DeleteSqueeze, Squeeze, Translate}
use Rattle.ptlangs.specs.declared.tr.plan.Form.TheVariants.{TranslateSqueeze}

-- ---- the plan

-- the form has a second string
abbrev pub takes_second : Form → Bool
takes_second Translate = true
takes_second TranslateSqueeze = true
takes_second Squeeze = false
takes_second Delete = false
takes_second DeleteSqueeze = true
