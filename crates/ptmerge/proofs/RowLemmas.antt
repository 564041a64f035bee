-- The output for a key with several lines, which are written where they are in their block: that for each line of the
-- first input with each of the second one. So it is for `join`.
use Rattle.ptmerge.proofs
use Rattle.ptmerge.specs
use proofs.Common.{◌≡◌, cond, List, ℕ, [], ◌∷◌, true, false, refl, arith, append-nil, unlines-append, Key, Lines, Ok}
use proofs.Common.{Output, PushEffect, flat_map, map, unlines}
use proofs.JoinLemmas.Fields.{PartialWrite, partial_ends, partial_fails, partial_more, partial_starts}
use proofs.JoinLemmas.Group.{pair_of}
use Rattle.ptlangs.specs.Jobs.{Join}
use Rattle.std.specs.Prelude.{IsErrAnd, Result}
use specs.Join.{join_entries}
use specs.Private.BlockLines.{HaveKey, IsEachWithEach, further_lines, key_lines, row, rows}
use specs.Private.Write.{WriteBytesPost}
use specs.declared.merging.block_lines.KeyLines.{KeyLines}

-- ---- the lines of a key, one after another

-- the output for the lines before `now` is written; `h` is that for one line
pub record EachWritten (end : ℕ) (h : List ℕ → Lines) (key : Key) (k : List ℕ) (all now : KeyLines)
    (was is : Output) : Type 0 where
  pub amid : PartialWrite was is (unlines end (flat_map h (key_lines end all)))
      (unlines end (flat_map h (key_lines end now)))
  pub have : HaveKey key k (key_lines end now)
  pub clean : is.write_failed ≡ false

pub each_starts : {end : ℕ} {h : List ℕ → Lines} {key : Key} {k : List ℕ} {all : KeyLines} {was : Output}
    → HaveKey key k (key_lines end all) → was.write_failed ≡ false → EachWritten end h key k all all was was
each_starts have clean = record { amid = partial_starts refl; have = have; clean = clean }

module _ {end : ℕ} {h : List ℕ → Lines} {key : Key} {k : List ℕ} {all now : KeyLines} {was is new : Output}
    (i : EachWritten end h key k all now was is) (wrote : PushEffect is new (unlines end (h now.line.now))) where
  pub each_written : {next : KeyLines} → further_lines end now ≡ key_lines end next
      → new.write_failed ≡ false → EachWritten end h key k all next was new
  each_written {next} e clean = record {
    amid = partial_more (rw e (unlines-append end _ _)) i.amid wrote clean;
    have = (rw e at i.have).1;
    clean = clean;
  }

  pub all_written : {E : Type 0} → further_lines end now ≡ [] → new.write_failed ≡ false
      → WriteBytesPost {E = E} was new (unlines end (flat_map h (key_lines end all))) (Ok tt)
  all_written e clean =
      partial_ends (rw (e, append-nil (h now.line.now)) refl) i.amid
      (record { wrote = wrote; clean = λ c. clean; fault = tt })

  pub each_fails_at : {E : Type 0} {r : Result (Unit {0}) E} (P : E → Type 0) → IsErrAnd r P
      → new.write_failed ≡ true → WriteBytesPost was new (unlines end (flat_map h (key_lines end all))) r
  each_fails_at P err_is fault =
      partial_fails P err_is _ (unlines-append end _ _) i.amid wrote fault

-- ---- `join`

module _ (job : Join) (k : List ℕ) where
  row_is : (x : List ℕ) (g : Lines)
      → row (join_entries job) k x g ≡ cond job.pairs (map (pair_of job k x) g) []
  row_is x [] = grind arith
  row_is x (y ∷ g) = grind (arith, row_is x g)

  rows_are : (f g : Lines)
      → rows (join_entries job) k f g ≡ cond job.pairs (flat_map (λ x. map (pair_of job k x) g) f) []
  rows_are [] g = grind arith
  rows_are (x ∷ f) g = grind (arith, row_is x g, rows_are f g)

pub each_with_each : (job : Join) → IsEachWithEach (join_entries job)
each_with_each job k x y f g = grind (arith, rows_are job k (x ∷ f) (y ∷ g))
