-- Worked examples of `uniq`: the output with each option, and the part of it that is determined by what was received.
use Rattle.std.proofs.Common.{◌≡◌, ℕ, [], false, refl, codes}
use Rattle.std.specs.Fmt.{digits}
use Rattle.ptlangs.specs.Jobs.{Uniq}
use Rattle.ptlangs.specs.declared.jobs.Show.{Show}
use Rattle.ptlangs.specs.declared.jobs.Show.TheVariants.{All, Counts, Repeated, Single}
use Rattle.ptflow.specs.Uniqs.{uniq, uniq_decided}

abbrev job : Show → ℕ → ℕ → Uniq
job show fields chars = record { show = show; fields = fields; chars = chars; terminator = 10 }

counts_each_run : uniq (job Counts 0 0) (codes "a\na\nb\na") ≡ codes "2 a\n1 b\n1 a\n"
unfolding digits
counts_each_run = refl

passes_over_fields_then_bytes : uniq (job All 1 1) (codes " x 1a\ny 1a\n") ≡ codes " x 1a\n"
passes_over_fields_then_bytes = refl

counts_after_a_field : uniq (job Counts 1 0) (codes "1 x\n2 x\n3 y") ≡ codes "2 1 x\n1 3 y\n"
unfolding digits
counts_after_a_field = refl

missing_fields_are_empty_keys : uniq (job All 2 0) (codes "a b\nc\n") ≡ codes "a b\n"
missing_fields_are_empty_keys = refl

missing_bytes_are_empty_keys : uniq (job All 0 18446744073709551615) (codes "a\nb\n") ≡ codes "a\n"
missing_bytes_are_empty_keys = refl

most_of_both : uniq (job All 18446744073709551615 18446744073709551615) (codes "a\nb\n") ≡ codes "a\n"
most_of_both = refl

tabs_are_blanks : uniq (job All 1 0) (codes "a\tx\nb\tx\nb x\n") ≡ codes "a\tx\nb x\n"
tabs_are_blanks = refl

repeated_only : uniq (job Repeated 0 0) (codes "a\na\nb\n") ≡ codes "a\n"
repeated_only = refl

single_only : uniq (job Single 0 0) (codes "a\na\nb\n") ≡ codes "b\n"
single_only = refl

nothing_of_nothing : uniq (job Counts 0 0) [] ≡ []
nothing_of_nothing = refl

zero_ends_lines : uniq (record { show = Counts; fields = 0; chars = 0; terminator = 0 }) (codes "a\0a\0b")
    ≡ codes "2 a\01 b\0"
unfolding digits
zero_ends_lines = refl

-- With `-z` a newline is not a blank.
newline_is_in_a_word : uniq (record { show = All; fields = 1; chars = 0; terminator = 0 })
    (codes "a\nx y\0b y\0b\nz y\0") ≡ codes "a\nx y\0"
newline_is_in_a_word = refl

-- ---- the part of the output that is determined

last_run_is_open : uniq_decided (job All 0 0) (record { bytes = codes "a\na\nb"; eof = false }) ≡ []
last_run_is_open = refl

run_before_the_last : uniq_decided (job Counts 0 0) (record { bytes = codes "a\nb\nc"; eof = false }) ≡ codes "1 a\n"
unfolding digits
run_before_the_last = refl
