-- Worked examples of the theorems on whole outputs: results of them, and outputs that show what they do not say.
use Rattle.std.proofs.Common.{◌≡◌, ℕ, ◌+◌, ◌==◌, List, [], ◌∷◌, ◌++◌, Bool, true, false, refl, length, codes, Some}
use Rattle.std.specs.Fmt.{digits}
use Rattle.ptlangs.specs.Jobs.{Cut, Uniq, Comm, Join}
use Rattle.ptlangs.specs.Private.Jobs.{default_comm}
use Rattle.ptlangs.specs.Calls.Jobs.{default_join}
use Rattle.ptlangs.specs.TrClasses.{all_bytes}
use Rattle.ptlangs.specs.TrPlan.{Plan, plan_of, complement_of}
use Rattle.ptlangs.specs.TrPlan.{byte_map}
use Rattle.ptlangs.specs.declared.tr.plan.Form.TheVariants.{Translate, TranslateSqueeze, Delete}
use Rattle.ptlangs.specs.declared.jobs.Show.TheVariants as show
use Rattle.ptlangs.specs.declared.jobs.Show.{Show}
use Rattle.ptflow.specs.Cuts.{cut}
use Rattle.ptflow.specs.PasteText.{paste, rows_text}
use Rattle.ptflow.specs.TrOutput.{tr}
use Rattle.ptflow.specs.Uniqs.{uniq}
use Rattle.ptmerge.specs.Calls.Comm.{comm_tool}
use Rattle.ptmerge.specs.Comm.{comm_output}
use Rattle.ptmerge.specs.Join.{join_output}
use Rattle.ptmerge.specs.Calls.Join.{join_tool}
use Rattle.ptmerge.specs.MergeSpec.{Lines}
use Rattle.ptmerge.specs.Calls.MergeSpec.{merged_entries}
use Rattle.ptmerge.specs.Calls.Sides.{both}
use Rattle.ptmerge.specs.Laws.Outputs.{columns}

-- ---- cut

abbrev fields_by_comma : (ℕ → Bool) → Bool → Cut
fields_by_comma selected only =
    record { fields = true; selected = selected; delimiter = 44; only = only; terminator = 10 }

-- `cut -f 1-` gives the lines, and so it adds a terminator that is missing.
cut_of_all_ends_lines : cut (fields_by_comma (λ n. true) false) (codes "a,b\n,\nc") ≡ codes "a,b\n,\nc\n"
cut_of_all_ends_lines = refl

-- With `-s` a line without the delimiter is lost.
cut_of_all_with_s : cut (fields_by_comma (λ n. true) true) (codes "a,b\nc\n") ≡ codes "a,b\n"
cut_of_all_with_s = refl

abbrev pasted : List (List ℕ) → List ℕ
pasted row = rows_text (record { serial = false; delimiters = Some 44 ∷ []; terminator = 10 }) (row ∷ [])

abbrev second_of : List (List ℕ) → List ℕ
second_of row = cut (fields_by_comma (λ n. n == 2) false) (pasted row)

second_column : second_of (codes "a" ∷ codes "b" ∷ []) ≡ codes "b\n"
second_column = refl

-- A field that contains the delimiter is two fields for `cut`.
second_of_split_field : second_of (codes "a,x" ∷ codes "b" ∷ []) ≡ codes "x\n"
second_of_split_field = refl

-- A file that is named twice gives its lines to the two columns in turn.
pasted_twice : paste (record { serial = false; delimiters = Some 44 ∷ []; terminator = 10 }) (1 ∷ 1 ∷ [])
    (λ input. codes "a\nb\n") ≡ codes "a,b\n"
pasted_twice = refl

-- ---- uniq

abbrev plain : Show → Uniq
plain show = record { show = show; fields = 0; chars = 0; terminator = 10 }

-- The line of a run is written once by `-d` or `-u`, and not each of its lines.
written_by_d : uniq (plain show.Repeated) (codes "a\na\nb\n") ≡ codes "a\n"
written_by_d = refl

written_by_u : uniq (plain show.Single) (codes "a\na\nb\n") ≡ codes "b\n"
written_by_u = refl

-- Lines that are not adjacent stay, so the output of `uniq` may have a line twice.
not_adjacent : uniq (plain show.All) (codes "a\nb\na\n") ≡ codes "a\nb\na\n"
not_adjacent = refl

-- `uniq -c` counts the lines that it wrote before.
counted_twice : uniq (plain show.Counts) (uniq (plain show.Counts) (codes "a\na\n")) ≡ codes "1 2 a\n"
unfolding digits
counted_twice = refl

-- ---- tr

abbrev a_to_b : Plan
a_to_b = plan_of Translate (codes "a") (codes "b")

translated : tr (byte_map a_to_b) (codes "aa") ≡ codes "bb"
unfolding all_bytes
translated = refl

-- With `-s` the number of bytes is not kept.
translated_and_squeezed : tr (byte_map (plan_of TranslateSqueeze (codes "a") (codes "b"))) (codes "aa") ≡ codes "b"
unfolding all_bytes
translated_and_squeezed = refl

-- `tr -d` and `tr -cd` keep the order of the bytes, so their outputs are in general not the text, one after the other.
deleted : tr (byte_map (plan_of Delete (codes "b") [])) (codes "abc") ++ tr
    (byte_map (plan_of Delete (complement_of (codes "b")) []))
    (codes "abc") ≡ codes "acb"
unfolding all_bytes
deleted = refl

-- ---- comm and join

abbrev compared : Comm → Lines → Lines → Lines
compared job a b = merged_entries (comm_tool job) (both a b)

itself : compared default_comm (codes "a" ∷ codes "b" ∷ []) (codes "a" ∷ codes "b" ∷ []) ≡ codes "\t\ta" ∷ codes "\t\tb"
    ∷ []
itself = refl

-- Lines out of order are not written.
itself_out_of_order : compared default_comm (codes "b" ∷ codes "a" ∷ []) (codes "b" ∷ codes "a" ∷ []) ≡ codes "\t\tb" ∷
    []
itself_out_of_order = refl

-- Then columns 1 and 3 lack lines of the first input.
first_out_of_order : compared (columns default_comm false true true) (codes "b" ∷ codes "a" ∷ []) []
    ++ compared (columns default_comm true true false) (codes "b" ∷ codes "a" ∷ []) [] ≡ codes "b" ∷ []
first_out_of_order = refl

-- `comm` is not symmetric if two columns are shown: the second one has a tab.
not_swapped : compared (columns default_comm false false true) (codes "a" ∷ []) (codes "b" ∷ []) ≡ codes "a" ∷ codes
    "\tb" ∷ []
not_swapped = refl

swapped_with_tab : compared (columns default_comm false false true) (codes "b" ∷ []) (codes "a" ∷ []) ≡ codes "\ta" ∷
    codes "b" ∷ []
swapped_with_tab = refl

-- Of lines out of order not each distinct line is written.
sorted_only : comm_output default_comm (codes "b\na\n") (codes "a\n") ≡ codes "\ta\nb\n"
sorted_only = refl

-- Of lines out of order not each pair is written.
sorted_pairs_only : join_output default_join (codes "b 1\na 2\n") (codes "a 3\n") ≡ []
sorted_pairs_only = refl

abbrev joined : Join → Lines → Lines → ℕ
joined job a b = length (merged_entries (join_tool job) (both a b))

pairs : joined default_join (codes "k 1" ∷ codes "k 2" ∷ codes "l" ∷ []) (codes "k x" ∷ codes "k y" ∷ codes "k z" ∷ [])
    ≡ 6
pairs = refl

-- With `-a 1` there are lines of the first input that have no partner, too.
pairs_and_unpaired : joined (record default_join { unpaired1 = true }) (codes "k 1" ∷ codes "k 2" ∷ codes "l" ∷ [])
    (codes "k x" ∷ codes "k y" ∷ codes "k z" ∷ []) ≡ 7
pairs_and_unpaired = refl
