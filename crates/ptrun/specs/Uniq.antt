-- The output of `uniq` for what was received of an input.
use Rattle.std.specs.Prelude.{ℕ, List}
use Rattle.ptlines.specs.Received.{Received}
use Rattle.ptlangs.specs.Jobs.{Uniq}
use Rattle.ptflow.specs.Uniqs.{output_of, runs}
use Rattle.ptrun.specs.Lines.{init, known_lines}

-- The output that part of an input decides: that of its runs, except for the last.
abbrev pub uniq_decided : Uniq → Received → List ℕ
uniq_decided job given = output_of job (init (runs job (known_lines job.terminator given)))
