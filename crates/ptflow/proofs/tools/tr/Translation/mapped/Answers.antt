-- The map kind has the images of the plan. With `Identity` these are the bytes themselves.
use Rattle.ptflow.proofs
use proofs.Common.{sym, ◌∙◌, rules}
use proofs.Vectors.Lanes.{map-id, images_same}
use proofs.tools.tr.Translation.mapped.Goals as goal

pub returns-in-Identity : goal.returns-in-Identity
returns-in-Identity c =
    sym (map-id c.args.bytes.now) ∙ images_same _ (rw c.in-Identity.is at c.args.self.now.is_map_kind) c.type_inv.bytes

pub returns : goal.returns
returns c = search (rules, images_same)
