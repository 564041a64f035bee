-- The bounded lag of output: all output that was pushed while no write had failed, except for at most one block of
-- 8,192 bytes, is in the sink. So the lag is bounded after such a push (`bounded_lag_now`), and still is after
-- another one that may fail (`bounded_lag_after`).
use Rattle.ptlines.proofs
use proofs.Common.{◌≡◌, ℕ, ◌+◌, ◌≤◌, false, List, ◌++◌, Option, None, Some, length, max, sym, ◌∙◌, ap, arith}
use proofs.Common.{length-append, append_known, Received, IsPrefix, Output, IsKnownPrefix, PushEffect, rules, usual}
use Rattle.ptlines.specs.Calls.Lag.{ProcessLag, BufferLag, BoundedLag}
use proofs.Push.{known_prefix_refl}
use Rattle.ptlines.specs.declared.sizes.TheConstants.{BLOCK}

unfoldable pub known_length : Option (List ℕ) → ℕ
known_length None = 0
known_length (Some bytes) = length bytes

-- what was written to the sink since `was`, and how much is missing
buffer_lag_bytes : (was mid is : Option (List ℕ)) (buffered waits bytes : List ℕ) → IsKnownPrefix was mid
    → IsKnownPrefix mid is → append_known mid waits ≡ append_known (append_known was buffered) bytes
    → length waits ≤ max BLOCK (length buffered)
    → (written_out : List ℕ) × (is ≡ append_known was written_out)
    × (length buffered + length bytes ≤ length written_out + max BLOCK (length buffered))
unfolding known_length
buffer_lag_bytes None mid is buffered waits bytes first second all few = (
  buffered ++ bytes,
  cc,
  grind (arith, length-append),
)
buffer_lag_bytes (Some t) mid is buffered waits bytes first second all few = (
  first.front ++ second.front,
  grind usual,
  omega (
    arith,
    ap known_length (sym (ap (λ m. append_known m waits) first.is) ∙ all),
    length-append first.front second.front,
    length-append t first.front,
    length-append (t ++ first.front) waits,
    length-append t buffered,
    length-append (t ++ buffered) bytes,
  ),
)

buffer_lag : (was mid is : Output) (pushed bytes : List ℕ) → PushEffect was mid pushed → mid.write_failed ≡ false
    → IsKnownPrefix mid.accepted is.accepted → IsPrefix bytes pushed → BufferLag was is bytes
buffer_lag was mid is _ _ wrote clean kept front =
    let (written_out, accepted, most) =
    buffer_lag_bytes _ _ _ _ _ _ wrote.kept kept (wrote.whole clean) wrote.buffered in
    grind (arith, length-append)

module _ {I : Type 0} (decided : (I → Received) → List ℕ) (came : I → Received) (was mid : Output) (pushed : List ℕ)
    (processing : ProcessLag decided came pushed)
    (wrote : PushEffect was mid pushed) (clean : mid.write_failed ≡ false) where
  pub bounded_lag_now : BoundedLag decided came was mid pushed
  bounded_lag_now =
      record {
        processing = processing;
        buffering = search (rules, buffer_lag, known_prefix_refl);
      }

  pub bounded_lag_after : (is : Output) (bytes : List ℕ) → PushEffect mid is bytes
      → BoundedLag decided came was is (pushed ++ bytes)
  bounded_lag_after is _ more =
      record {
        processing = record {
          before = processing.before;
          begins = grind usual;
        };
        buffering = search (rules, buffer_lag);
      }
