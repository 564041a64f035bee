-- Answer for `PasteJob::new`: the job is that of `paste` without options, as its list of delimiters is a tab.
use Rattle.ptlangs.proofs.jobs.PasteJob.new.Goals as goal

pub returns : goal.returns
returns g c = rw c.in_ok-tab.ensures
