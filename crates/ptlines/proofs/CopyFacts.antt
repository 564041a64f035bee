-- Copies by vectors. A copy of a whole vector copies its first bytes too; the others do not matter. Two vectors that
-- overlap copy all bytes. The bytes after a stored vector do not change, nor those after the last of two.
use Rattle.ptlines.proofs
use proofs.Common.{◌≡◌, ℕ, ◌+◌, ◌≤◌, List, length, take, drop, ◌++◌, sym, ◌∙◌, ap, arith, length-take-le, take-take}
use proofs.Common.{put_chunk, take-append-add, usual, drop-drop, length-append, ◌-◌}
use Rattle.std.proofs.lemmas.Simd.{put_chunk_is}
use Rattle.std.proofs.lemmas.List.{append_assoc, drop_at}

pub copied_prefix : (at few many : ℕ) (was is bytes : List ℕ) → at ≤ length was → few ≤ many
    → take (at + many) is ≡ take at was ++ take many bytes → take (at + few) is ≡ take at was ++ take few bytes
copied_prefix at few many was is bytes within fewer copied =
    sym (grind usual)
    ∙ ap (take (at + few)) copied
    ∙ ap (λ n. take (n + few) (take at was ++ take many bytes)) (sym (length-take-le at was within))
    ∙ take-append-add (take at was) (take many bytes) few
    ∙ ap (λ b. take at was ++ b) (take-take few many bytes fewer)

-- the first `n` bytes and the last `n`, which may overlap
pub copied_ends : (at last n : ℕ) (was between is bytes : List ℕ) → at ≤ length was → last ≤ n → last + n ≡ length bytes
    → take (at + n) between ≡ take at was ++ take n bytes
    → take (at + last + n) is ≡ take (at + last) between ++ take n (drop last bytes)
    → take (at + length bytes) is ≡ take at was ++ bytes
copied_ends at _ n was _ is _ within less whole first second = grind (usual, copied_prefix)

-- a vector that is stored changes no byte after it
pub behind_chunk : (at n : ℕ) (was bytes : List ℕ) → length bytes ≡ n → at + n ≤ length was
    → drop (at + n) (put_chunk at was bytes) ≡ drop (at + n) was
behind_chunk at n was bytes long room =
    let rest = drop (length bytes) (drop at was) in
    ap (drop (at + n)) (put_chunk_is at was bytes (omega arith) ∙ sym (append_assoc (take at was) bytes rest))
    ∙ drop_at (take at was ++ bytes) rest (at + n) (grind (arith, length-append, length-take-le))
    ∙ drop-drop (length bytes) at was
    ∙ ap (λ k. drop (at + k) was) long

-- what changes nothing from one index on, and then nothing from a later one on, changes nothing from the later one on
pub behind_both : (near far : ℕ) (was between is : List ℕ) → near ≤ far → drop near between ≡ drop near was
    → drop far is ≡ drop far between → drop far is ≡ drop far was
behind_both near far was between is before first second =
    let split : (bytes : List ℕ) → drop (far - near) (drop near bytes) ≡ drop far bytes
    = λ bytes. drop-drop (far - near) near bytes ∙ ap (λ n. drop n bytes) (omega arith) in
    second ∙ sym (split between) ∙ ap (drop (far - near)) first ∙ split was
