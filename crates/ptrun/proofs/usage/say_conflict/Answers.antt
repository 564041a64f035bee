-- The message names two options, each by the UTF-8 code of its letter.
use Rattle.ptrun.proofs
use proofs.Common.{ap, encode_utf8, ◌∙◌}
use proofs.usage.say_conflict.Goals as goal

pub returns : goal.returns
returns g c =
    let first = c.encode_utf8-one.ensures.value ∙ ap encode_utf8 c.from.ensures in
    let second = c.encode_utf8-two.ensures.value ∙ ap encode_utf8 c.from-2.ensures in
    rw (first, second) at c.say.ensures
