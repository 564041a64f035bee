-- The first line of the current run, and the run itself.
use Rattle.std.specs.Prelude.{ℕ, List, if◌then◌else◌}
use Rattle.ptlines.specs.Slots.{Slots}
use Rattle.ptlines.specs.Calls.Slots.{line}
use Rattle.ptflow.specs.Uniqs.{Run}
use Rattle.ptflow.specs.Private.Uniq.RunsFrom.{run_of}
use Rattle.ptflow.specs.declared.tools.uniq.CurrentRun.{CurrentRun}

-- the copied line, or that in the first slot
abbrev pub first_line : CurrentRun → Slots → List ℕ
first_line run store = if run.is_copied then run.bytes.items else line store 0

-- the current run
abbrev pub current_run_of : CurrentRun → Slots → Run
current_run_of run store = run_of (first_line run store) run.count
