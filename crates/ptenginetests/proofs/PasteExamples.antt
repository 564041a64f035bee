-- Worked examples of `paste`, with and without `-s`: the output, and the part of it that is determined by what was
-- received. And a `paste` that pushes nothing of long inputs does not have a bounded lag.
use Rattle.std.proofs.Common.{◌≡◌, ◌≤◌, ℕ, zero, suc, Bool, List, [], ◌∷◌, ◌++◌, true, false, cond, length, drop, refl}
use Rattle.std.proofs.Common.{sym, ◌∙◌, ap, subst, arith, codes, Option, Some, None, length-append}
use Rattle.std.specs.Prelude.{replicate, slice_index_or}
use Rattle.std.proofs.lemmas.Bool.{false≢true}
use Rattle.std.proofs.lemmas.List.{length-replicate}
use Rattle.ptlines.specs.Received.{Received, empty_input, known_lines}
use Rattle.ptlines.specs.Lag.{LaggedInput}
use Rattle.ptlines.specs.Calls.Lag.{BoundedLag}
use Rattle.ptlines.specs.Calls.Outputs.{Output}
use Rattle.ptlines.specs.Text.{lines, complete_lines}
use Rattle.ptlines.specs.Calls.Text.{IsLine}
use Rattle.ptlines.proofs.TextLaws.{complete_lines_none}
use Rattle.ptlangs.specs.Jobs.{Paste}
use Rattle.ptflow.specs.Private.PasteCall.{update_at}
use Rattle.ptflow.specs.PasteText.{columns, known_rows, rows_text, paste, paste_serial, paste_decided}
use Rattle.ptflow.specs.PasteText.{paste_serial_decided, paste_size}
use Rattle.ptlines.specs.declared.sizes.TheConstants.{BLOCK}
use Rattle.std.specs.Prelude.{◌*◌}

abbrev job : List (Option ℕ) → Paste
job delimiters = record { serial = false; delimiters = delimiters; terminator = 10 }

-- The texts by their indices.
abbrev at : List (List ℕ) → ℕ → List ℕ
at texts input = slice_index_or texts input []

abbrev zero_job : Paste
zero_job = record { serial = false; delimiters = Some 9 ∷ []; terminator = 0 }

delimiters_begin_anew : paste (job (None ∷ Some 44 ∷ [])) (0 ∷ 0 ∷ 0 ∷ []) (at (codes "1\n2\n3\n4\n" ∷ []))
    ≡ codes "12,3\n4,\n"
delimiters_begin_anew = refl

cells_share_an_input : paste (job (Some 9 ∷ [])) (1 ∷ 0 ∷ 2 ∷ 0 ∷ []) (at (codes "1\n2\n3\n" ∷ codes "a\n" ∷ [] ∷ []))
    ≡ codes "a\t1\t\t2\n\t3\t\t\n"
cells_share_an_input = refl

nothing_of_nothing : paste (job (Some 9 ∷ [])) (0 ∷ []) (at []) ≡ []
nothing_of_nothing = refl

no_cells : paste (job (Some 9 ∷ [])) [] (at (codes "a\n" ∷ [])) ≡ []
no_cells = refl

zero_ends_lines : paste zero_job (0 ∷ 1 ∷ []) (at (codes "a\nb\0c" ∷ codes "d\0" ∷ [])) ≡ codes "a\nb\td\0c\t\0"
zero_ends_lines = refl

lines_of_each_cell : paste_size (job (Some 9 ∷ [])) (0 ∷ 0 ∷ 1 ∷ []) (at (codes "abc\nde\n" ∷ codes "abcd\n" ∷ [])) ≡ 10
lines_of_each_cell = refl

-- ---- `paste -s`

lines_in_a_row : paste_serial (job (Some 44 ∷ Some 59 ∷ [])) (codes "a\nb\nc\n") ≡ codes "a,b;c\n"
lines_in_a_row = refl

empty_row : paste_serial (job (Some 44 ∷ Some 59 ∷ [])) [] ≡ codes "\n"
empty_row = refl

empty_and_newline : paste_serial (job (None ∷ Some 10 ∷ [])) (codes "a\nb\nc\nd\n") ≡ codes "ab\ncd\n"
empty_and_newline = refl

zero_ends_lines_in_series : paste_serial zero_job (codes "a\nb\0c") ≡ codes "a\nb\tc\0"
zero_ends_lines_in_series = refl

-- ---- the part of the output that is determined

abbrev some_received : ℕ → Received
some_received input =
    slice_index_or (record { bytes = codes "1\n2\n3\n"; eof = true } ∷ record {
      bytes = codes "x\ny";
      eof = false;
    } ∷ []) input empty_input

row_of_known_cells : paste_decided (job (Some 9 ∷ [])) (0 ∷ 1 ∷ []) some_received ≡ codes "1\tx\n"
row_of_known_cells = refl

whole_lines_in_series : paste_serial_decided (job (Some 9 ∷ [])) (record { bytes = codes "x\ny\nz"; eof = false })
    ≡ codes "x\ty"
whole_lines_in_series = refl

-- ---- bounded lag

free_front : (front last : List ℕ) → IsLine 10 (front ++ last) → IsLine 10 front
free_front [] last free = tt
free_front (b ∷ front) last free = (free.0, free_front front last free.1)

letters_free : (n : ℕ) → IsLine 10 (replicate n 120)
letters_free zero = tt
letters_free (suc n) = (λ same. absurd (omega (arith, same)), letters_free n)

-- If a first line is empty and the second one is longer than two blocks, the first line was received two blocks
-- earlier.
line_received : (n : ℕ) → 2 * BLOCK ≤ n → (came : Received) → came.bytes ≡ 10 ∷ replicate n 120 → came.eof ≡ false
    → (b : LaggedInput came) → (b.earlier.eof ≡ false) × (known_lines 10 b.earlier ≡ [] ∷ [])
line_received n long came is going b = by_end b.earlier.eof refl
  where
    by_bytes : (bytes last : List ℕ) → 10 ∷ replicate n 120 ≡ bytes ++ last → length last ≤ 2 * BLOCK
        → complete_lines 10 bytes ≡ [] ∷ []
    by_bytes [] last split short = absurd (omega (arith, ap length split, length-replicate {A = ℕ} n 120, long, short))
    by_bytes (x ∷ bytes) last split short =
        let first : 10 ≡ x = ap (λ (l : List ℕ). slice_index_or l 0 0) split in
        let rest : replicate n 120 ≡ bytes ++ last = ap (drop 1) split in
        ap (λ (y : ℕ). complete_lines 10 (y ∷ bytes)) (sym first)
        ∙ ap (λ (l : List (List ℕ)). [] ∷ l)
        (complete_lines_none 10 bytes (free_front bytes last (subst (IsLine 10) rest (letters_free n))))

    by_end : (e : Bool) → b.earlier.eof ≡ e → (b.earlier.eof ≡ false) × (known_lines 10 b.earlier ≡ [] ∷ [])
    by_end true eof = absurd (false≢true (sym going ∙ b.eof eof))
    by_end false eof = (
      eof,
      (λ i. cond (eof i) (lines 10 b.earlier.bytes) (complete_lines 10 b.earlier.bytes))
          ∙ by_bytes b.earlier.bytes b.last (sym is ∙ b.split) b.short,
    )

-- Two inputs that have ended, with one line and with none, and an input of which more than two blocks were received.
abbrev three_inputs : ℕ → Received
three_inputs input =
    slice_index_or (record { bytes = codes "a\n"; eof = true } ∷ empty_input ∷ record
    { bytes = 10 ∷ replicate 20000 120; eof = false } ∷ []) input empty_input

abbrev decided_of : (ℕ → Received) → List ℕ
decided_of = paste_decided (job (Some 9 ∷ [])) (0 ∷ 1 ∷ 2 ∷ [])

-- A `paste` that pushes nothing of these inputs does not have a bounded lag.
no_row_pushed : (was is : Output) → BoundedLag {I = Unit {0}}
    (λ came. decided_of (update_at 2 (came tt) three_inputs)) (λ u. three_inputs 2) was is [] → ⊥
no_row_pushed was is k =
    let then : ((k.processing.before tt).earlier.eof ≡ false)
    × (known_lines 10 (k.processing.before tt).earlier ≡ [] ∷ []) =
    line_received 20000 (omega arith) (three_inputs 2) refl refl (k.processing.before tt) in
    let decided : decided_of (update_at 2 (k.processing.before tt).earlier three_inputs) ≡ codes "a\t\t\n" =
    λ i. rows_text (job (Some 9 ∷ [])) (known_rows
    (columns (0 ∷ 1 ∷ 2 ∷ []) (λ input. slice_index_or ((codes "a" ∷ []) ∷ [] ∷ then.1 i ∷ []) input []))
    (true ∷ true ∷ then.0 i ∷ [])) in
    absurd (omega (
      arith,
      ap length k.processing.begins.is,
      ap length decided,
      length-append (decided_of (update_at 2
          (k.processing.before tt).earlier three_inputs)) k.processing.begins.rest,
    ))
