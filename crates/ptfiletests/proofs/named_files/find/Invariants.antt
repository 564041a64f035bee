-- No file so far has this name.
use Rattle.std.proofs.Common.{◌≡◌, drop}
use Rattle.ptfiletests.specs.NamedFiles.{content_of}
use Rattle.ptfiletests.proofs.named_files.find.Given as goal

abbrev pub invariant-loop-file : goal.invariant-loop-file
invariant-loop-file l = content_of (drop l.file-index l.files) l.name ≡ content_of l.files l.name
