-- Answer for `Delims::tab`: the list has one delimiter, a tab.
use Rattle.ptlangs.proofs.delims.Delims.tab.Goals as goal

pub returns : goal.returns
returns g c = rw (c.in_ok-push.ensures.items, c.new-kept.ensures.items)
