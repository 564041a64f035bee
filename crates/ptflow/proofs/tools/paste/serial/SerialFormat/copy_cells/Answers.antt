-- Bytes that are stored at an index follow the first bytes (`put_taken`), and the bytes of the cycle, by which the
-- terminators were replaced, are the delimiters.
use Rattle.ptflow.proofs
use proofs.Common.{◌≡◌, ◌+◌, ◌-◌, ◌%◌, ◌≤◌, ◌++◌, ℕ, List, length, take, drop, ◌∙◌, ap, arith, with_replacements}
use proofs.Common.{length-take-le, take_at, take-append-add, count_by, is_byte}
use borrow.Rule.Slice.PartMut.{put_mid}
use proofs.PasteLemmas.Replaced.{length-replaced}
use proofs.tools.paste.serial.SerialFormat.copy_cells.Goals as goal

put_taken : (at : ℕ) (was xs : List ℕ) {n : ℕ} → length xs ≡ n → at + n ≤ length was
    → take (at + n) (put_mid at (at + n - at) was xs) ≡ take at was ++ xs
put_taken at was xs {n} long room =
    let front = length-take-le at was (omega arith) in
    cc (
      take-append-add (take at was) (xs ++ drop (at + n - at) (drop at was)) n,
      take_at xs (drop (at + n - at) (drop at was)) n long,
    )

pub returns-clause-copied : goal.returns-clause-copied
returns-clause-copied c =
    let cycle = c.in-Some.cycle in
    let bytes = c.args.bytes.now in
    let is = c.args.self.now.is_cycle cycle c.in-Some.is in
    record {
      is = put_taken _ _ _ (ap length c.replace-index.ensures.replaced
          ∙ length-replaced _ _ _ _) (omega arith)
          ∙ ap (◌++◌ (take c.args.at c.args.into.now))
          (c.replace-index.ensures.replaced ∙ (λ i. with_replacements (is.terminator i)
          (λ n. is.bytes n i) c.args.index bytes));
      later = c.replace-index.ensures.next
          ∙ (λ i. (c.args.index + count_by (is_byte (is.terminator i)) bytes) % is.len i);
    }
