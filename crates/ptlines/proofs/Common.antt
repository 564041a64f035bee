-- The names that many proofs of this crate use, imported from other files so that a proof imports them from here.
-- And `usual`, the rules that most searches take.
use Rattle.ptlines.specs
use Rattle.std.proofs.lemmas
pub use Rattle.std.proofs.Common.{Bool, Err, Fits, List, None, Ok, OnErr, OnOk, Option, Result, Some, [], ap, arith}
pub use Rattle.std.proofs.Common.{cond, drop, false, get_or, inl, inr, length, length-append, map, max, min, not, refl}
pub use Rattle.std.proofs.Common.{rules, set, subst, suc, sym, take, true, zero, ℕ, ◌%◌, ◌*◌, ◌++◌, ◌+◌, ◌-◌, ◌<◌}
pub use Rattle.std.proofs.Common.{◌==◌, ◌^◌, ◌∙◌, ◌∷◌, ◌≡◌, ◌≢◌, ◌≤◌, ◌⊎◌}
pub use Rattle.std.proofs.Math.Seq.{take-add, take-append-add}
pub use lemmas.Bool.{eq-eqb, eqb-false}
use lemmas.Grind.{common_steps}
pub use lemmas.List.{append-nil, drop-drop, drop-take, drop_all, length-map, length-take-le, set-set, take-append-le}
pub use lemmas.List.{take-take, take_all, take_rest, with_items_is}
pub use lemmas.Simd.{chunk-fits, length-chunk, length-put_chunk, take_more_put_chunk}
pub use Rattle.std.specs.Io.KnownBytes.{append_known, prepend_known}
pub use Rattle.std.specs.List.{onto_first, prefix_len}
pub use Rattle.std.specs.Prelude.{bit_or, slice_range, swap}
pub use Rattle.std.specs.Simd.Lanes.{Each1, chunk, mask_l, put_chunk}
pub use Rattle.memchr.specs.Find.{IsFirst, IsFirstByte, Nowhere, Passes, is_byte}
pub use specs.Received.{IsPrefix, HasReceived, Received}
pub use specs.Calls.Outputs.{IsKnownPrefix, Output, PushEffect}
pub use specs.Calls.Readers.{AdvanceOk, IsSound, ReaderAdvance}
pub use specs.Readers.{IsDone, Reader}
pub use specs.Calls.Sinks.{WriteOutOk}
pub use specs.Sinks.{unflushed_after}
pub use specs.Slots.{Slots, total_bytes}
pub use specs.Calls.Slots.{line, with_line}
pub use specs.Private.Sources.{PullOk, PullPost}
pub use specs.Sources.{SourceState}
pub use specs.Calls.Text.{IsLine}
pub use specs.Text.{lines}
pub use specs.declared.store.LineFault.{LineFault}
pub use specs.declared.store.LineFault.TheVariants.{Read}

-- what most searches take
pub ruleset usual = (arith, common_steps)
