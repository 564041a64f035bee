-- `open` returns the source of the next file. The files that are left are those after the files that were
-- opened.
use Rattle.ptrunc.proofs.FileLemmas.{opened_next}
use Rattle.ptrunc.proofs.files.MemoryFilesFiles.open.Goals as goal

pub returns : goal.returns
returns g c = opened_next c.args.self.now.files.now _ _ c.args.self.now.left.now _ _ _ _ c.args.name.now
    c.first_source-file.result c.with-self.ensures.names c.with-self.ensures.results c.args.self.now.left_is
    c.first_source-file.ensures
