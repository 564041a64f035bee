-- The field is up to the first separator after its start.
use Rattle.ptmerge.proofs
use proofs.JoinLemmas.FieldMasks.{field_at}
use proofs.tools.join.fields.find_separated.Goals as goal

pub returns : goal.returns
returns c =
    let within = c.if-field-line.false in
    rw c.unwrap_or.ensures (field_at within (c.to_field-field.ensures.field within) _ c.first.ensures)
