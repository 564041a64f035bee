-- `join` in the blocks of its readers: an order by the join fields is that of the tool, so a merge of the blocks is one
-- of `join`, and keeps the invariant of its loop.
use Rattle.ptmerge.proofs
use Rattle.ptmerge.specs
use proofs.Common.{◌≡◌, ℕ, List, refl, sym, subst, Side, Cmp, Key, both, MergeFault, MergeState, Ok, Result, Sorted}
use Rattle.ptlangs.specs.Jobs.{Join}
use proofs.MergeLemmas.{kept_order}
use proofs.JoinLemmas.{BetweenGroups, LoopOfJoin}
use proofs.PassedLemmas.{blocks_on}
use specs.Calls.MergeSteps.{AreValidCursors}
use specs.Private.BlockLines.{in_order}
use specs.Private.Passed.{BlocksPost}
use specs.Calls.Join.{join_with, join_key, join_tool}

pub blocks_joined : (job : Join) {cmp : Cmp} {key : Side → Key} {cursor next : Side → Sorted} {was is : MergeState}
    {result : Result (Unit {0}) MergeFault} → ((side : Side) (x : List ℕ) → key side x ≡ join_key job side x)
    → BlocksPost (in_order (join_tool job) cmp key) cursor next was is result
    → BlocksPost (join_with job cmp key) cursor next was is result
blocks_joined job {cmp} {key} {cursor} {next} {was} {is} {result} keys post =
    subst (λ tool. BlocksPost tool cursor next was is result)
    (subst (λ k. in_order (join_tool job) cmp k ≡ join_with job cmp k) (sym (λ i side x. keys side x i)) refl) post

pub joined_by_blocks : {O : Type 0} (cmp : O → Cmp) (key : O → Side → Key) {job : Join} {old was : MergeState}
    {one two : Sorted} {a b start : O} → LoopOfJoin job cmp key old BetweenGroups was one two a start
    → {is : MergeState} {one2 two2 : Sorted} {u : Unit {0}}
    → BlocksPost (join_with job (cmp a) (key a)) (both one two) (both one2 two2) was is (Ok u) → b ≡ a
    → AreValidCursors (key b) one2 two2 is.store → LoopOfJoin job cmp key old BetweenGroups is one2 two2 b start
joined_by_blocks cmp key k post same valid =
    let t = k.iteration in
    let (here, between) = blocks_on t.here t.between post (rw same at valid) in
    kept_order same k.order (record { w = t.w; keys = t.keys; here = here; between = between })
