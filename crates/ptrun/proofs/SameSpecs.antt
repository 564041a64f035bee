-- The specification of a command by functions of its inputs (`command_spec`) is that by its tool (`spec_of_tool`),
-- which the proofs of runs use. The whole output of a tool is what it decides of inputs that are known whole; of `uniq`
-- also the last run.
use Rattle.ptrun.proofs
use Rattle.ptrun.specs
use proofs.Common.{Bool, List, None, Option, Received, Some, [], ap, append-nil, arith, command_spec, empty_input, false}
use proofs.Common.{flat_map, flat_map-append, is_in, map, option_map, positions, refl, spec_of_tool}
use proofs.Common.{true, up_to_unended, ℕ, ◌++◌, ◌+◌, ◌∙◌, ◌∷◌, ◌≡◌}
use proofs.OperandInputs.{any_same}
use proofs.SameLines.{in_turn_same, longest_whole}
use proofs.SameMerges.{comm_same, join_same, reported_same, short}
use proofs.SameTools.{cut_same, first_key_same, group_same, map_twice, paste_same, second_key_same, serial_same}
use proofs.SameTools.{tr_same, uniq_same}
use mathlib.Core.Path.{fun_ext}
use Rattle.std.proofs.Math.ListN.{get_or-map as get_or-map_any}
use Rattle.std.specs.List.{enumerate_from, last_or, range_with_len}
use Rattle.std.specs.Prelude.{◌%◌, ◌&&◌, ◌*◌, ◌==◌, ◌||◌, count_by, filter, fold, if◌then◌else◌, is_none, is_some, length}
use Rattle.std.specs.Prelude.{max, option_to_list, sum_by, take, unwrap_or}
use Rattle.ptflow.specs.Cuts as old_cut
use Rattle.ptflow.specs.PasteText as old_paste
use Rattle.ptflow.specs.Cuts.{select_from}
use Rattle.ptflow.specs.PasteText.{is_row_known, join_with_cycle, paste, paste_serial, row_at, rows_text}
use Rattle.ptflow.specs.TrOutput as old_tr
use Rattle.ptflow.specs.Uniqs as old_uniq
use Rattle.ptflow.specs.Uniqs.{Run, init, output_of, runs, uniq}
use Rattle.ptlangs.specs.Jobs.{Comm, Join, Paste, Uniq}
use Rattle.ptlines.specs.ByteOrder.{Cmp}
use Rattle.ptlines.specs.Slots.{total_bytes}
use Rattle.ptlines.specs.Text.{lines, max_line_length, unlines}
use Rattle.ptmerge.specs.Comm as old_comm
use Rattle.ptmerge.specs.Comm.{comm_entries, itself}
use Rattle.ptmerge.specs.Join as old_join
use Rattle.ptmerge.specs.Join.{join_entries, join_key1, join_key2, max_over_keys}
use Rattle.ptmerge.specs.MergeSpec as old_merge
use Rattle.ptmerge.specs.MergeSpec.{Entries, Lines, MergeDisorder, disordered_line, entries_of_keys, is_up_to}
use Rattle.ptmerge.specs.MergeSpec.{merged_so_far, reported_disorder, sorted_prefix}
use Rattle.ptmerge.specs.Orders.{Key, line_cmp}
use Rattle.ptmerge.specs.declared.key_order.Side.{Side}
use Rattle.ptmerge.specs.declared.key_order.Side.TheVariants.{First, Second}
use Rattle.ptopts.specs.Commands.{Command, Job, RunComm, RunCut, RunJoin, RunPaste, RunTr, RunUniq}
use specs.Comm.{comm}
use specs.Cut.{cut_decided}
use specs.Bounds.{two_of_each}
use specs.Decided.{all_received, has_unopened, inputs_in_turn, inputs_together, operand, received_in, whole}
use specs.Files.{InputBytes, ReceivedInputs, at}
use specs.Join.{join, join_key, max_group}
use specs.Lines.{known_lines, longest, maximum}
use specs.Paste.{columns, paste_decided, paste_serial_decided}
use specs.Slots.{spec_beyond}
use specs.Tr.{tr}
use specs.Uniq.{uniq_decided}
use specs.Merges.{Disorder, Merge, disorder_of, merged}
use specs.Private.Engines.{line_at}
use specs.Private.Messages.{disorder_status, disorder_text}
use specs.Private.Operands.{bytes_of, inputs_of_operands, opened_inputs, opened_values}
use specs.Private.Tools.{tool_of_job}
use specs.SpecOfArgs.{text_of_disorder}

-- ---- what is decided of inputs that are known whole

all_known : (cols : List (List (List ℕ))) (cells : List ℕ) (r : ℕ)
    → is_row_known cols (map (λ p. true) cells) r ≡ true
all_known [] cells r = refl
all_known (c ∷ cols) [] r = refl
all_known (c ∷ cols) (p ∷ cells) r = all_known cols cells r

filter_all : (test : ℕ → Bool) (xs : List ℕ) → ((x : ℕ) → test x ≡ true) → filter test xs ≡ xs
filter_all test [] all = refl
filter_all test (x ∷ xs) all = rw (all x) (ap (λ l. x ∷ l) (filter_all test xs all))

paste_whole : (job : Paste) (cells : List ℕ) (texts : ℕ → List ℕ)
    → old_paste.paste_decided job cells (λ p. whole (texts p)) ≡ paste job cells texts
paste_whole job cells texts =
    let cols = old_paste.columns cells (λ input. lines job.terminator (texts input)) in
    ap (λ rs. rows_text job (map (row_at cols) rs)) (filter_all _ _ (all_known cols cells))

and_true : (b : Bool) → (b && true && true) ≡ b
and_true true = refl
and_true false = refl

merged_whole : (cmp : Cmp) (key1 key2 : Key) (entries : Entries) (ls1 ls2 : Lines)
    → merged_so_far cmp key1 key2 entries true ls1 true ls2 ≡ old_merge.merged cmp key1 key2 entries ls1 ls2
merged_whole cmp key1 key2 entries ls1 ls2 =
    ap (λ wanted. entries_of_keys cmp key1 key2 entries wanted (sorted_prefix cmp key1 ls1) (sorted_prefix cmp key2 ls2))
    (fun_ext (λ k. and_true (is_up_to cmp (reported_disorder cmp key1 key2 ls1 ls2) k)))

init_last : (rs : List Run) → init rs ++ option_to_list (last_or None rs) ≡ rs
init_last [] = refl
init_last (x ∷ []) = refl
init_last (x ∷ y ∷ more) = ap (λ l. x ∷ l) (init_last (y ∷ more))

output_append : (job : Uniq) (rs ss : List Run) → output_of job rs ++ output_of job ss ≡ output_of job (rs ++ ss)
output_append job rs ss = grind (arith, flat_map-append)

uniq_whole : (job : Uniq) (bytes : List ℕ)
    → old_uniq.uniq_decided job (whole bytes) ++ output_of job (option_to_list (last_or None (runs job (lines job.terminator bytes))))
    ≡ uniq job bytes
uniq_whole job bytes = let rs = runs job (lines job.terminator bytes) in
    output_append job (init rs) (option_to_list (last_or None rs)) ∙ ap (output_of job) (init_last rs)

-- ---- inputs that are known whole

at_all : (w : InputBytes) (p : ℕ) → at (all_received w) p ≡ option_map whole (at w p)
at_all w p = get_or-map_any (λ input. option_map whole input) w p None

received_or : (o : Option (List ℕ)) → unwrap_or (option_map whole o) empty_input ≡ whole (unwrap_or o [])
received_or None = refl
received_or (Some bytes) = refl

received_all : (w : InputBytes) → received_in (all_received w) ≡ (λ p. whole (bytes_of w p))
received_all w = fun_ext (λ p. ap (λ o. unwrap_or o empty_input) (at_all w p) ∙ received_or (at w p))

none_same : (o : Option (List ℕ)) → is_none (option_map whole o) ≡ is_none o
none_same None = refl
none_same (Some bytes) = refl

unopened_all : (w : InputBytes) (ps : List ℕ) → has_unopened ps (all_received w) ≡ has_unopened ps w
unopened_all w ps = any_same _ _ ps (λ p. ap is_none (at_all w p) ∙ none_same (at w p))

input_same : (o : Option (List ℕ)) (seen : Bool)
    → option_map (λ x. if seen then empty_input else x) (option_map whole o)
    ≡ option_map whole (option_map (λ x. if seen then [] else x) o)
input_same None seen = refl
input_same (Some bytes) true = refl
input_same (Some bytes) false = refl

inputs_all : (w : InputBytes) (before ps : List ℕ) → inputs_of_operands empty_input (all_received w) before ps
    ≡ map (λ o. option_map whole o) (inputs_of_operands [] w before ps)
inputs_all w before [] = refl
inputs_all w before (p ∷ ps) =
    let first = ap (λ o. option_map (λ x. if is_in before p then empty_input else x) o) (at_all w p)
    ∙ input_same (at w p) (is_in before p) in
    λ i. first i ∷ inputs_all w (before ++ p ∷ []) ps i

values_all : (os : List (Option (List ℕ))) → opened_values (map (λ o. option_map whole o) os) ≡ map whole (opened_values os)
values_all [] = refl
values_all (None ∷ os) = values_all os
values_all (Some bytes ∷ os) = ap (λ l. whole bytes ∷ l) (values_all os)

opened_all : (w : InputBytes) (ps : List ℕ)
    → opened_inputs empty_input (all_received w) ps ≡ map whole (opened_inputs [] w ps)
opened_all w ps = ap opened_values (inputs_all w [] ps) ∙ values_all (inputs_of_operands [] w [] ps)

-- the input of the first or of the second operand
abbrev side_of : ReceivedInputs → List ℕ → Side → Received
side_of r ps side = received_in r (operand ps side)

input_whole : (w : InputBytes) (ps : List ℕ) (side : Side)
    → side_of (all_received w) ps side ≡ whole (bytes_of w (operand ps side))
input_whole w ps side = ap (λ (f : ℕ → Received). f (operand ps side)) (received_all w)

in_turn_whole : (w : InputBytes) (ps : List ℕ) → inputs_in_turn (all_received w) ps ≡ map whole (opened_inputs [] w ps)
in_turn_whole w ps = in_turn_same (all_received w) ps ∙ opened_all w ps

-- ---- tools that read one operand after another

outputs_in_turn : (one : Received → List ℕ) (text : List ℕ → List ℕ) → ((bytes : List ℕ) → one (whole bytes) ≡ text bytes)
    → (xs : List (List ℕ)) → flat_map one (up_to_unended (map whole xs)) ≡ flat_map text xs
outputs_in_turn one text same [] = refl
outputs_in_turn one text same (x ∷ xs) = λ i. same x i ++ outputs_in_turn one text same xs i

out_in_turn : (one : Received → List ℕ) (text : List ℕ → List ℕ) → ((bytes : List ℕ) → one (whole bytes) ≡ text bytes)
    → (w : InputBytes) (ps : List ℕ)
    → flat_map one (up_to_unended (inputs_in_turn (all_received w) ps)) ++ [] ≡ flat_map text (opened_inputs [] w ps)
out_in_turn one text same w ps = append-nil _
    ∙ (ap (λ inputs. flat_map one (up_to_unended inputs)) (in_turn_whole w ps)
    ∙ outputs_in_turn one text same (opened_inputs [] w ps))

decided_in_turn : (one old : Received → List ℕ) → ((given : Received) → one given ≡ old given)
    → (r : ReceivedInputs) (ps : List ℕ) → flat_map one (up_to_unended (inputs_in_turn r ps))
    ≡ flat_map old (up_to_unended (opened_inputs empty_input r ps))
decided_in_turn one old same r ps = λ i. flat_map (λ given. same given i) (up_to_unended (in_turn_same r ps i))

bound_in_turn : (one : Received → ℕ) (size : List ℕ → ℕ) → ((bytes : List ℕ) → one (whole bytes) ≡ size bytes)
    → (w : InputBytes) (ps : List ℕ)
    → maximum (map one (inputs_in_turn (all_received w) ps)) ≡ maximum (map size (opened_inputs [] w ps))
bound_in_turn one size same w ps = ap (λ inputs. maximum (map one inputs)) (in_turn_whole w ps)
    ∙ (ap maximum (map_twice one whole (opened_inputs [] w ps))
    ∙ ap (λ (size : List ℕ → ℕ). maximum (map size (opened_inputs [] w ps))) (fun_ext same))

no_lines : {X : Type 0} (xs : List X) → 0 ≡ maximum (map (λ x. 0) xs)
no_lines [] = refl
no_lines (x ∷ xs) = ap (max 0) (no_lines xs)

unopened_status : (b : Bool) → ◌≡◌ {A = ℕ} (if b || false then 1 else 0) (if b then 1 else 0)
unopened_status true = refl
unopened_status false = refl

-- ---- tools that read their operands together

if_nil : (b : Bool) → ◌≡◌ {A = List ℕ} [] (if b then [] else [])
if_nil true = refl
if_nil false = refl

-- what a function gives for the inputs of a tool that reads them together, if it gives `none` for no inputs
of_together : {X : Type 0} (of : ReceivedInputs → X) (none : X) (b : Bool) (r : ReceivedInputs) → of [] ≡ none
    → of (if b then [] else r) ≡ (if b then none else of r)
of_together of none true r nothing = nothing
of_together of none false r nothing = refl

of_opened : {X : Type 0} (of : ReceivedInputs → X) (none : X) (b : Bool) (r : ReceivedInputs)
    → (if b then none else of (if b then [] else r)) ≡ (if b then none else of r)
of_opened of none true r = refl
of_opened of none false r = refl

if_same : {X : Type 0} (a b : Bool) (none x y : X) → a ≡ b → x ≡ y → (if a then none else x) ≡ (if b then none else y)
if_same a b none x y test same = λ i. if test i then none else same i

of_all : {X : Type 0} (of : ReceivedInputs → X) (none x : X) (w : InputBytes) (ps : List ℕ) → of [] ≡ none
    → of (all_received w) ≡ x → of (inputs_together (all_received w) ps) ≡ (if has_unopened ps w then none else x)
of_all of none x w ps nothing same =
    of_together of none (has_unopened ps (all_received w)) (all_received w) nothing
    ∙ if_same _ _ none (of (all_received w)) x (unopened_all w ps) same

slots_of_opened : (of : ReceivedInputs → ℕ) (x : ℕ) (w : InputBytes) (ps : List ℕ) → of (all_received w) ≡ x
    → (if has_unopened ps (all_received w) then 0 else of (inputs_together (all_received w) ps))
    ≡ (if has_unopened ps w then 0 else x)
slots_of_opened of x w ps same =
    of_opened of 0 (has_unopened ps (all_received w)) (all_received w)
    ∙ if_same _ _ 0 (of (all_received w)) x (unopened_all w ps) same

no_rows : (test : ℕ × ℕ → ℕ → Bool) (xs : List (ℕ × ℕ))
    → fold max 0 (map length (map (λ c. select_from {X = List ℕ} (test c) 0 []) xs)) ≡ 0
no_rows test [] = refl
no_rows test (c ∷ xs) = no_rows test xs

sum_nothing : (t : ℕ) (ps : List ℕ) → sum_by (λ p. longest t (received_in [] p)) ps ≡ 0
sum_nothing t [] = refl
sum_nothing t (p ∷ ps) = sum_nothing t ps

if_zero : (b : Bool) → ◌≡◌ {A = ℕ} (0 + (if b then 0 else 0)) 0
if_zero true = refl
if_zero false = refl

paste_nothing : (job : Paste) (ps : List ℕ) → paste_decided job ps (received_in []) ≡ []
paste_nothing job ps =
    let uses : List ℕ → ℕ → ℕ = λ ps p. count_by (λ q. q == p) ps in
    let cols = columns ps (λ p. known_lines job.terminator (received_in [] p)) in
    ap (λ n. unlines job.terminator (map (λ r. join_with_cycle job.delimiters 0 (row_at cols r))
    (filter (is_row_known cols (map (λ p. (received_in [] p).eof) ps)) (range_with_len 0 n))))
    (no_rows (λ c i. i % uses ps c.1 == uses (take c.0 ps) c.1) (enumerate_from 0 ps))

-- ---- lines out of order

place : List ℕ → Disorder → ℕ × ℕ
place ps d = (operand ps d.file, d.line)

place_same : (ps : List ℕ) (found : Option MergeDisorder) → option_map (place ps) (option_map short found)
    ≡ option_map (line_at (operand ps)) (option_map disordered_line found)
unfolding place
place_same ps None = refl
place_same ps (Some d) = refl

status_same : (ps : List ℕ) (unopened : Bool) (found : Option Disorder)
    → (if unopened || is_some (if unopened then None else found) then 1 else 0)
    ≡ (if unopened then 1 else disorder_status (option_map (place ps) found))
status_same ps true found = refl
status_same ps false None = refl
status_same ps false (Some d) = refl

text_same : (word : List ℕ) (names : List (List ℕ)) (ps : List ℕ) (unopened : Bool) (found : Option Disorder)
    → text_of_disorder word names ps (if unopened then None else found)
    ≡ (if unopened then [] else disorder_text word names (option_map (place ps) found))
unfolding place
text_same word names ps true found = refl
text_same word names ps false None = refl
text_same word names ps false (Some d) = refl

-- the disorder that is found in inputs that are read together
abbrev found : Merge → ReceivedInputs → List ℕ → Option Disorder
found m r ps = disorder_of m (side_of r ps)

found_all : (m : Merge) (w : InputBytes) (ps : List ℕ)
    → found m (inputs_together (all_received w) ps) ps ≡ (if has_unopened ps w then None else found m (all_received w) ps)
found_all m w ps = of_all (λ r. found m r ps) None (found m (all_received w) ps) w ps refl refl

both_whole : (w : InputBytes) (ps : List ℕ) → side_of (all_received w) ps ≡ (λ side. whole (bytes_of w (operand ps side)))
both_whole w ps = fun_ext (input_whole w ps)

comm_place : (job : Comm) (w : InputBytes) (ps : List ℕ)
    → option_map (place ps) (found (comm job) (all_received w) ps)
    ≡ option_map (line_at (operand ps)) (option_map disordered_line
    (old_comm.comm_disorder job (bytes_of w (operand ps First)) (bytes_of w (operand ps Second))))
comm_place job w ps =
    ap (λ (given : Side → Received). option_map (place ps) (disorder_of (comm job) given)) (both_whole w ps)
    ∙ (ap (option_map (place ps)) (reported_same (comm job) (λ side. whole (bytes_of w (operand ps side))))
    ∙ place_same ps _)

join_place : (job : Join) (w : InputBytes) (ps : List ℕ)
    → option_map (place ps) (found (join job) (all_received w) ps)
    ≡ option_map (line_at (operand ps)) (option_map disordered_line
    (old_join.join_disorder job (bytes_of w (operand ps First)) (bytes_of w (operand ps Second))))
join_place job w ps =
    ap (λ (given : Side → Received). option_map (place ps) (disorder_of (join job) given)) (both_whole w ps)
    ∙ (ap (option_map (place ps)) (reported_same (join job) (λ side. whole (bytes_of w (operand ps side))))
    ∙ (place_same ps _ ∙ (λ i. option_map (line_at (operand ps)) (option_map disordered_line
    (reported_disorder (line_cmp job.descending) (first_key_same job i) (second_key_same job i)
    (lines job.terminator (bytes_of w (operand ps First))) (lines job.terminator (bytes_of w (operand ps Second))))))))

-- ---- bounds

longest_input : (t : ℕ) (w : InputBytes) (ps : List ℕ) (side : Side)
    → longest t (side_of (all_received w) ps side) ≡ max_line_length t (bytes_of w (operand ps side))
longest_input t w ps side = ap (longest t) (input_whole w ps side) ∙ longest_whole t (bytes_of w (operand ps side))

longest_columns : (t : ℕ) (w : InputBytes) (ps : List ℕ)
    → sum_by (λ p. longest t (received_in (all_received w) p)) ps ≡ sum_by (λ p. max_line_length t (bytes_of w p)) ps
longest_columns t w ps = ap (λ (size : ℕ → ℕ). sum_by size ps)
    (fun_ext (λ p. ap (λ (f : ℕ → Received). longest t (f p)) (received_all w) ∙ longest_whole t (bytes_of w p)))

group_whole : (measure : Lines → ℕ) (job : Join) (w : InputBytes) (ps : List ℕ)
    → max_group measure (join_key job Second) (known_lines job.terminator (side_of (all_received w) ps Second))
    ≡ max_over_keys measure (join_key2 job) (lines job.terminator (bytes_of w (operand ps Second)))
    (lines job.terminator (bytes_of w (operand ps Second)))
group_whole measure job w ps =
    ap (λ g. max_group measure (join_key job Second) (known_lines job.terminator g)) (input_whole w ps Second)
    ∙ group_same measure job (lines job.terminator (bytes_of w (operand ps Second)))

-- ---- the specification

spec_of_paste : (word : List ℕ) (job : Paste) (serial : Bool) (c : Command)
    → command_spec word (record c { job = RunPaste (record job { serial = serial }) })
    ≡ spec_of_tool word (tool_of_job (RunPaste (record job { serial = serial }))) c.names
    (positions c.order)
spec_of_paste word job true c = let ps = positions c.order in
    λ i. record (command_spec word (record c { job = RunPaste (record job { serial = true }) })) {
      out = λ w. out_in_turn (paste_serial_decided job) (paste_serial job) (λ bytes. refl) w ps i;
      status = λ w. unopened_status (has_unopened ps w) i;
      memory_bound = λ w. bound_in_turn (longest job.terminator) (max_line_length job.terminator)
          (longest_whole job.terminator) w ps i;
      decided = λ r. decided_in_turn (paste_serial_decided job) (old_paste.paste_serial_decided job) (serial_same job) r ps i;
      beyond = record (spec_beyond (RunPaste (record job { serial = true })) ps) {
        slot_bound = λ w. no_lines (opened_inputs [] w ps) i;
        sequential = Some (λ given. serial_same job given i);
      };
    }
spec_of_paste word job false c = let ps = positions c.order in
    λ i. record (command_spec word (record c { job = RunPaste (record job { serial = false }) })) {
      out = λ w. of_all (λ r. paste_decided job ps (received_in r) ++ []) [] _ w ps
          (append-nil _ ∙ paste_nothing job ps)
          (append-nil _ ∙ (paste_same job ps (received_in (all_received w))
          ∙ (ap (old_paste.paste_decided job ps) (received_all w) ∙ paste_whole job ps (bytes_of w)))) i;
      status = λ w. unopened_status (has_unopened ps w) i;
      memory_bound = λ w. of_all (λ r. sum_by (λ p. longest job.terminator (received_in r p)) ps) 0 _ w ps
          (sum_nothing job.terminator ps) (longest_columns job.terminator w ps) i;
      decided = λ r. (of_together (λ r. paste_decided job ps (received_in r)) [] (has_unopened ps r) r (paste_nothing job ps)
          ∙ ap (λ all. if has_unopened ps r then [] else all) (paste_same job ps (received_in r))) i;
      final_message = λ w. if_nil (has_unopened ps w) i;
      beyond = record (spec_beyond (RunPaste (record job { serial = false })) ps) {
        slot_bound = λ w. if_same _ _ 0 (length ps) (length ps) (unopened_all w ps) refl i;
      };
    }

same_job : (word : List ℕ) (job : Job) (c : Command) → command_spec word (record c { job = job })
    ≡ spec_of_tool word (tool_of_job job) c.names (positions c.order)
same_job word (RunCut job) c = let ps = positions c.order in
    λ i. record (command_spec word (record c { job = RunCut job })) {
      out = λ w. out_in_turn (cut_decided job) (old_cut.cut job) (λ bytes. refl) w ps i;
      status = λ w. unopened_status (has_unopened ps w) i;
      memory_bound = λ w. bound_in_turn (longest job.terminator) (max_line_length job.terminator)
          (longest_whole job.terminator) w ps i;
      decided = λ r. decided_in_turn (cut_decided job) (old_cut.cut_decided job) (cut_same job) r ps i;
      beyond = record (spec_beyond (RunCut job) ps) {
        slot_bound = λ w. bound_in_turn (λ given. if job.fields then 1 else 0) (λ bytes. if job.fields then 1 else 0)
            (λ bytes. refl) w ps i;
        sequential = Some (λ given. cut_same job given i);
      };
    }
same_job word (RunTr m) c = let ps = positions c.order in
    λ i. record (command_spec word (record c { job = RunTr m })) {
      out = λ w. out_in_turn (λ given. tr m given.bytes) (old_tr.tr m) (tr_same m) w ps i;
      status = λ w. unopened_status (has_unopened ps w) i;
      memory_bound = λ w. no_lines (opened_inputs [] w ps) i;
      decided = λ r. decided_in_turn (λ given. tr m given.bytes) (old_tr.tr_decided m) (λ given. tr_same m given.bytes) r ps i;
      beyond = record (spec_beyond (RunTr m) ps) {
        slot_bound = λ w. no_lines (opened_inputs [] w ps) i;
        sequential = Some (λ given. tr_same m given.bytes i);
      };
    }
same_job word (RunPaste job) c = spec_of_paste word job job.serial c
same_job word (RunUniq job) c = let ps = positions c.order in
    let last : Received → List ℕ =
    λ g. output_of job (option_to_list (last_or None (runs job (known_lines job.terminator g)))) in
    λ i. record (command_spec word (record c { job = RunUniq job })) {
      out = λ w. of_all (λ r. uniq_decided job (side_of r ps First) ++ last (side_of r ps First)) [] _ w ps refl
          (ap (λ g. uniq_decided job g ++ last g) (input_whole w ps First)
          ∙ (ap (λ l. l ++ last (whole (bytes_of w (operand ps First))))
          (uniq_same job (whole (bytes_of w (operand ps First))))
          ∙ uniq_whole job (bytes_of w (operand ps First)))) i;
      status = λ w. unopened_status (has_unopened ps w) i;
      memory_bound = λ w. of_all (λ r. 2 * longest job.terminator (side_of r ps First)) 0 _ w ps refl
          (ap (λ n. 2 * n) (longest_input job.terminator w ps First)) i;
      decided = λ r. (of_together (λ r. uniq_decided job (side_of r ps First)) [] (has_unopened ps r) r refl
          ∙ ap (λ all. if has_unopened ps r then [] else all) (uniq_same job (side_of r ps First))) i;
      final_message = λ w. if_nil (has_unopened ps w) i;
      beyond = record (spec_beyond (RunUniq job) ps) {
        slot_bound = λ w. if_same _ _ 0 2 2 (unopened_all w ps) refl i;
      };
    }
same_job word (RunComm job) c = let ps = positions c.order in
    λ i. record (command_spec word (record c { job = RunComm job })) {
      out = λ w. of_all (λ r. merged (comm job) (side_of r ps) ++ []) [] _ w ps refl
          (append-nil _ ∙ (comm_same job (side_of (all_received w) ps)
          ∙ (ap (λ (given : Side → Received). old_comm.comm_decided job (given First) (given Second)) (both_whole w ps)
          ∙ ap (unlines job.terminator) (merged_whole (line_cmp job.descending) itself itself (comm_entries job)
          (lines job.terminator (bytes_of w (operand ps First))) (lines job.terminator (bytes_of w (operand ps Second))))))) i;
      status = λ w. (ap (λ found. if has_unopened ps w || is_some found then 1 else 0) (found_all (comm job) w ps)
          ∙ (status_same ps (has_unopened ps w) (found (comm job) (all_received w) ps)
          ∙ ap (λ found. if has_unopened ps w then 1 else disorder_status found) (comm_place job w ps))) i;
      memory_bound = λ w. of_all (λ r. two_of_each job.terminator (side_of r ps)) 0 _ w ps refl
          (λ i. 2 * longest_input job.terminator w ps First i + 2 * longest_input job.terminator w ps Second i) i;
      decided = λ r. (of_together (λ r. merged (comm job) (side_of r ps)) [] (has_unopened ps r) r refl
          ∙ ap (λ all. if has_unopened ps r then [] else all) (comm_same job (side_of r ps))) i;
      final_message = λ w. (ap (text_of_disorder word c.names ps) (found_all (comm job) w ps)
          ∙ (text_same word c.names ps (has_unopened ps w) (found (comm job) (all_received w) ps)
          ∙ ap (λ found. if has_unopened ps w then [] else disorder_text word c.names found) (comm_place job w ps))) i;
      beyond = record (spec_beyond (RunComm job) ps) {
        slot_bound = λ w. if_same _ _ 0 4 4 (unopened_all w ps) refl i;
      };
    }
same_job word (RunJoin job) c = let ps = positions c.order in
    let group : (Lines → ℕ) → ReceivedInputs → ℕ = λ measure r. if job.pairs
    then max_group measure (join_key job Second) (known_lines job.terminator (side_of r ps Second)) else 0 in
    λ i. record (command_spec word (record c { job = RunJoin job })) {
      out = λ w. of_all (λ r. merged (join job) (side_of r ps) ++ []) [] _ w ps refl
          (append-nil _ ∙ (join_same job (side_of (all_received w) ps)
          ∙ (ap (λ (given : Side → Received). old_join.join_decided job (given First) (given Second)) (both_whole w ps)
          ∙ ap (unlines job.terminator) (merged_whole (line_cmp job.descending) (join_key1 job) (join_key2 job)
          (join_entries job)
          (lines job.terminator (bytes_of w (operand ps First))) (lines job.terminator (bytes_of w (operand ps Second))))))) i;
      status = λ w. (ap (λ found. if has_unopened ps w || is_some found then 1 else 0) (found_all (join job) w ps)
          ∙ (status_same ps (has_unopened ps w) (found (join job) (all_received w) ps)
          ∙ ap (λ found. if has_unopened ps w then 1 else disorder_status found) (join_place job w ps))) i;
      memory_bound = λ w. of_all (λ r. two_of_each job.terminator (side_of r ps) + group (sum_by length) r) 0 _ w ps
          (if_zero job.pairs)
          (λ i. (2 * longest_input job.terminator w ps First i + 2 * longest_input job.terminator w ps Second i)
          + (if job.pairs then group_whole total_bytes job w ps i else 0)) i;
      decided = λ r. (of_together (λ r. merged (join job) (side_of r ps)) [] (has_unopened ps r) r refl
          ∙ ap (λ all. if has_unopened ps r then [] else all) (join_same job (side_of r ps))) i;
      final_message = λ w. (ap (text_of_disorder word c.names ps) (found_all (join job) w ps)
          ∙ (text_same word c.names ps (has_unopened ps w) (found (join job) (all_received w) ps)
          ∙ ap (λ found. if has_unopened ps w then [] else disorder_text word c.names found) (join_place job w ps))) i;
      beyond = record (spec_beyond (RunJoin job) ps) {
        slot_bound = λ w. slots_of_opened (λ r. 4 + group length r) _ w ps
            (λ i. 4 + (if job.pairs then group_whole length job w ps i else 0)) i;
      };
    }

pub spec_same : (word : List ℕ) (c : Command)
    → command_spec word c ≡ spec_of_tool word (tool_of_job c.job) c.names (positions c.order)
spec_same word c = same_job word c.job c
