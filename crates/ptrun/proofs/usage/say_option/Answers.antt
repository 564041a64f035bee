-- The message names one option, by the UTF-8 code of its letter.
use Rattle.ptrun.proofs.usage.say_option.Goals as goal

pub returns : goal.returns
returns g c = rw (c.encode_utf8-option.ensures.value, c.from.ensures) at c.say.ensures
