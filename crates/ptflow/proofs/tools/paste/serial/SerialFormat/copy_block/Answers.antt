-- The terminator that was held back comes first (`held_is`), then all bytes but the last, then the last, which is not
-- counted if it is a terminator (`last_copied`).
use Rattle.ptflow.proofs
use proofs.Common.{◌≡◌, ◌+◌, ◌-◌, ◌<◌, ◌++◌, ℕ, Bool, true, false, cond, List, [], ◌∷◌, length, take, get_or, refl}
use proofs.Common.{arith, append_assoc, take_all, take_more_set, from_bool, row_rest, usual, Option, ◌==◌, not, set}
use proofs.Common.{eqb-true, take-set, length-append}
use Rattle.std.proofs.lemmas.List.{length-take, take_more}
use proofs.PasteLemmas.Replaced.{copied_on}
use proofs.tools.paste.serial.SerialFormat.copy_block.Goals as goal

held_is : (complete : Bool) (end : ℕ) (rest : List ℕ) {size : ℕ} → size ≡ from_bool complete
    → cond complete (end ∷ rest) rest ≡ take size (end ∷ []) ++ rest
held_is = grind usual

-- A last byte that is a terminator is not counted.
last_copied : (end : ℕ) (delims : List (Option ℕ)) (number last : ℕ) (more into : List ℕ) {at size : ℕ}
    → at < length into → (t : Bool) → (last == end) ≡ t → size ≡ from_bool (not t)
    → take at into ++ row_rest end delims number (last ∷ more)
    ≡ take (at + size) (set into at last) ++ row_rest end delims number (cond t (end ∷ more) more)
last_copied end delims number last more into {at} {size} low true is none =
    let same : at + size ≡ at = omega arith in cc (take-set into at last, eqb-true last end is)
last_copied end delims number last more into {at} low false is one =
    grind (
      arith,
      take_more_set into at last low,
      append_assoc (take at into) (last ∷ []) (row_rest end delims number more),
    )

pub returns-clause-copied : goal.returns-clause-copied
returns-clause-copied c = λ more.
    let block = c.args.block.now in
    let last = get_or block (length block - 1) 0 in
    let bytes = take (length block - 1) block in
    let parts : bytes ++ last ∷ [] ≡ block = grind (arith, take_more, take_all) in
    let low : c.copy_cells-most.result.end < length c.copy_cells-most.new.into =
    omega (
      arith,
      length-take c.from-size.result (c.args.self.now.terminator ∷ []),
      length-take (length block - 1) block,
    ) in
    cc (
      held_is _ _ _ c.from-size.ensures,
      append_assoc bytes (last ∷ []) more,
      copied_on (bytes ++ (last ∷ more)) (omega (arith, length-append bytes (last ∷ more)))
          c.copy_cells-front.ensures.copied,
      copied_on (last ∷ more) (omega arith) c.copy_cells-most.ensures.copied,
      last_copied _ _ _ _ _ _
          low _ refl c.from.ensures,
    )
