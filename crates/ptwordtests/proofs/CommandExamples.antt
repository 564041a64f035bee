-- Examples of command lines without a fault, each with its command. They hold by computation.
use Rattle.std.proofs.Common.{◌≡◌, ℕ, List, [], ◌∷◌, ◌++◌, true, false, Some, None, Ok, refl, codes, map, replicate}
use Rattle.std.specs.Str.{byte}
use Rattle.ptlangs.specs.CutLists.{is_selected}
use Rattle.ptlangs.specs.Jobs as jobs
use Rattle.ptlangs.specs.Calls.Jobs.{default_paste, default_join}
use Rattle.ptlangs.specs.Private.Jobs.{default_uniq, default_comm}
use Rattle.ptlangs.specs.declared.jobs.Show.TheVariants.{Counts, Repeated, Single}
use Rattle.ptlangs.specs.declared.outlist.File.TheVariants.{First, Second}
use Rattle.ptlangs.specs.declared.outlist.OutField.TheVariants.{Join, Field}
use Rattle.ptlangs.specs.declared.ranges.Interval.{Interval}
use Rattle.ptlangs.specs.TrPlan.{complement_of}
use Rattle.ptlangs.specs.TrPlan.{byte_map}
use Rattle.ptopts.specs.Commands.{Command, RunCut, RunPaste, RunUniq, RunComm, RunJoin, RunTr, Job, command_over}
use Rattle.ptopts.specs.Commands.{command_of_args}
use Rattle.ptfakes.proofs.SplitWords.{words}

abbrev from_to : ℕ → ℕ → Interval
from_to n m = record { first = n; last = m }

-- `cut` by bytes, and by fields between commas
abbrev bytes : List Interval → jobs.Cut
bytes list = record { fields = false; selected = is_selected list; delimiter = 9; only = false; terminator = 10 }

abbrev fields : List Interval → jobs.Cut
fields list = record { fields = true; selected = is_selected list; delimiter = byte ","; only = true; terminator = 10 }

-- `tr` with these arrays
abbrev by_plan : List ℕ → List ℕ → List ℕ → List ℕ → Job
by_plan deleted from to squeezed =
    RunTr (byte_map (record { deleted = deleted; from = from; to = to; squeezed = squeezed }))

-- a job with these operands, and standard output
abbrev over_operands : Job → List (List ℕ) → Command
over_operands job operands = command_over job operands None

abbrev examples : List (List (List ℕ) × Command)
examples =
    (words "cut -b 2-", over_operands (RunCut (bytes (from_to 2 18446744073709551615 ∷ []))) (words "-"))
    ∷ (words "cut -nb 2-", over_operands (RunCut (bytes (from_to 2 18446744073709551615 ∷ []))) (words "-"))
    ∷ (
      words "cut -ssd, -f 2,1 f - -d:",
      over_operands (RunCut (fields (from_to 2 2 ∷ from_to 1 1 ∷ [])))
          (words "f - -d:"),
    )
    ∷ (words "cut -c1 -- -s", over_operands (RunCut (bytes (from_to 1 1 ∷ []))) (words "-s"))
    ∷ (words "cut -zzc 1", over_operands (RunCut (record (bytes (from_to 1 1 ∷ [])) { terminator = 0 })) (words "-"))
    ∷ (
      words "cut -d \n -f 2 -sz",
      over_operands (RunCut (record (fields (from_to 2 2 ∷ [])) { delimiter = 10; terminator = 0 })) (words "-"),
    )
    ∷ (
      (words "cut -sd" ++ (0 ∷ []) ∷ words "-f 2"),
      over_operands (RunCut (record (fields (from_to 2 2 ∷ [])) { delimiter = 0 })) (words "-"),
    )
    ∷ (words "paste" ++ replicate 512 (codes "-"), over_operands (RunPaste default_paste) (replicate 512 (codes "-")))
    ∷ (
      words "paste -ssd \\0, f -d",
      over_operands (RunPaste (record {
        serial = true;
        delimiters = None ∷ Some (byte ",") ∷ [];
        terminator = 10;
      })) (words "f -d"),
    )
    ∷ (
      words "paste -zd \n f",
      over_operands (RunPaste (record { serial = false; delimiters = Some 10 ∷ []; terminator = 0 })) (words "f"),
    )
    ∷ (words "uniq", over_operands (RunUniq default_uniq) (words "-"))
    ∷ (
      words "uniq -cf0 -s 07 f",
      over_operands (RunUniq (record default_uniq { show = Counts; chars = 7 }))
          (words "f"),
    )
    ∷ (words "uniq -d f -", over_operands (RunUniq (record default_uniq { show = Repeated })) (words "f"))
    ∷ (
      words "uniq -us18446744073709551615 - out",
      command_over (RunUniq
          (record default_uniq { show = Single; chars = 18446744073709551615 })) (words "-") (Some (codes "out")),
    )
    ∷ (words "uniq -zc", over_operands (RunUniq (record default_uniq { show = Counts; terminator = 0 })) (words "-"))
    ∷ (words "comm f f", over_operands (RunComm default_comm) (words "f f"))
    ∷ (
      words "comm -12 -1 - -3",
      over_operands (RunComm (record default_comm { hide1 = true; hide2 = true }))
          (words "- -3"),
    )
    ∷ (words "comm -3 -- -- -", over_operands (RunComm (record default_comm { hide3 = true })) (words "-- -"))
    ∷ (words "comm -z f g", over_operands (RunComm (record default_comm { terminator = 0 })) (words "f g"))
    ∷ (
      words "comm -r1 f g",
      over_operands (RunComm (record default_comm { hide1 = true; descending = true }))
          (words "f g"),
    )
    ∷ (words "join f -", over_operands (RunJoin default_join) (words "f -"))
    ∷ (
      words "join -t , -v 1 f g",
      over_operands (RunJoin
          (record default_join { pairs = false; unpaired1 = true; separator = Some (byte ",") })) (words "f g"),
    )
    ∷ (
      words "join -a 2 -e - -o 0,1.2,2.2 -a1 -a2 -12 -2 03 f g",
      over_operands (RunJoin (record default_join {
        unpaired1 = true;
        unpaired2 = true;
        empty = codes "-";
        list = Some (Join ∷ Field First 2 ∷ Field Second 2 ∷ []);
        field1 = 2;
        field2 = 3;
      })) (words "f g"),
    )
    ∷ (
      words "join -t \n -z f g",
      over_operands (RunJoin (record default_join { separator = Some 10; terminator = 0 })) (words "f g"),
    )
    ∷ (
      words "join -r -t , -a 1 f g",
      over_operands (RunJoin
          (record default_join { unpaired1 = true; separator = Some (byte ","); descending = true })) (words "f g"),
    )
    ∷ (words "tr a-c -", over_operands (by_plan [] (codes "abc") (codes "-") []) (words "-"))
    ∷ (words "tr -s ab xy", over_operands (by_plan [] (codes "ab") (codes "xy") (codes "xy")) (words "-"))
    ∷ (words "tr -Cs a", over_operands (by_plan [] [] [] (complement_of (codes "a"))) (words "-"))
    ∷ (words "tr -d 0-3", over_operands (by_plan (codes "0123") [] [] []) (words "-"))
    ∷ (words "tr -ds -c -- -a b", over_operands (by_plan (complement_of (codes "-a")) [] [] (codes "b")) (words "-"))
    ∷ []

are_parsed : map (λ (row : List (List ℕ) × Command). command_of_args row.0) examples
    ≡ map (λ (row : List (List ℕ) × Command). Ok row.1) examples
are_parsed = refl
