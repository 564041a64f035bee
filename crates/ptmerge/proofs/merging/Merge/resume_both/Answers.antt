-- Each call of `resume` in `Merge::resume_both` changes one input only, so what holds for the other stays; both inputs
-- are then at the lines reached, or the line reached of one could not be stored.
use Rattle.ptmerge.proofs
use proofs.Common.{First, Second}
use proofs.merging.Merge.resume_both.Goals as goal

pub resume-requires-clause-fits : goal.resume-requires-clause-fits
resume-requires-clause-fits g c = c.requires.fits First

pub resume-requires-2-clause-fits : goal.resume-requires-2-clause-fits
resume-requires-2-clause-fits g c = rw c.resume.ensures.others (c.requires.fits Second)
