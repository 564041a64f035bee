-- The effect of a push on an output (`PushEffect`): of nothing; of two pushes, which are one push of the
-- concatenation; after a failed write, when nothing changes any more; of a block that is written out; of bytes that
-- go directly to the sink; and of a write that fails.
use Rattle.ptlines.proofs
use Rattle.ptlines.specs
use proofs.Common.{◌≡◌, ℕ, true, false, List, [], ◌++◌, Option, arith, Result, append_known, Output}
use proofs.Common.{IsKnownPrefix, PushEffect, rules, usual}
use specs.declared.out.WriteFault.{WriteFault}
use specs.Calls.Outputs.{output_bytes, PushPost, with_buffered, with_written_out}
use specs.Private.Outputs.{OutputErr}
use proofs.KnownBytes.{append_known-append, append_known-nil}

pub known_prefix_refl : (known : Option (List ℕ)) → IsKnownPrefix known known
known_prefix_refl = grind (arith, append_known-nil)

pub push_nothing : (o : Output) → PushEffect o o []
push_nothing o = grind (arith, append_known-nil)

pub push_past_failure : (a b : Output) (xs ys : List ℕ) → b.write_failed ≡ true → PushEffect a b xs
    → PushEffect a b (xs ++ ys)
push_past_failure = grind (arith, append_known-append)

pub push_trans : (a b c : Output) (xs ys : List ℕ) → b.write_failed ≡ false → PushEffect a b xs → PushEffect b c ys
    → PushEffect a c (xs ++ ys)
push_trans = grind (arith, append_known-append)

-- the block is filled with these bytes, and written
pub push_filled : (old new : Output) (bytes : List ℕ) → old.write_failed ≡ false
    → new ≡ with_written_out (with_buffered old bytes) → PushEffect old new bytes
push_filled = grind (usual, known_prefix_refl)

pub push_post_trans : {E : Type 0} (a b c : Output) (xs ys : List ℕ) (r : Result (Unit {0}) E) → b.write_failed ≡ false
    → PushEffect a b xs → PushPost b c ys r → PushPost a c (xs ++ ys) r
push_post_trans a b c xs ys r clean first second = search (rules, push_trans)

-- the block was filled with the first of the bytes, and could not be written
pub push_broken : (old mid new : Output) (first rest bytes : List ℕ) → old.write_failed ≡ false
    → bytes ≡ first ++ rest → mid ≡ with_buffered old first → OutputErr mid new mid.buffered → PushEffect old new bytes
push_broken old mid new first rest bytes clean is filled broken =
    let all : append_known (output_bytes old) bytes ≡ append_known (output_bytes new) (broken.rest ++ rest) =
    grind (usual, is, filled, broken.split, broken.accepted, broken.buffered) in
    grind arith

-- the block was filled with the first of the bytes and written, and the rest was pushed
pub push_rest : (old mid written new : Output) (first rest bytes : List ℕ) (r : Result (Unit {0}) WriteFault)
    → old.write_failed ≡ false → bytes ≡ first ++ rest → mid ≡ with_buffered old first
    → written ≡ with_written_out mid → PushPost written new rest r → PushPost old new bytes r
push_rest old mid written new first rest bytes r clean is filled written_out post =
    rw is (push_post_trans old written new first rest r (grind arith)
    (push_filled old written first clean (grind arith)) post)
