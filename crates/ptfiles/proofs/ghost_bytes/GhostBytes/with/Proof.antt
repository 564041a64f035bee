-- The proof of `GhostBytes::with`, statement by statement of its body, which does nothing at run time: `GhostBytes`
-- may be made with any items, and so with those of `self` and the bytes after them.
use Rattle.std.proofs.Common.{[], ◌∷◌, ◌++◌, refl}
use Rattle.std.proofs.raw_atomic.Walks.{leaves, proved}
use base.Logic.{emp}
use contract.Monad.{fact_i}
use denote.Exit.{yes}
use denote.RattleType.{owns}
use denote.Ref.{shr_vals}
use denote.Signature.{types_at}
use denote.Slice.{shr_slice_vals}
use denote.Steps.{nothing}
use denote.Triple.Entry.{alive}
use denote.Triple.Walked.{Stays, stay_dropped, walk_of}
use types.ByLocal.{alloc_all, free_all, look_at, pass_all, sets}
use types.Kit.{◌$◌, ◌∵◌, !, by, fjoin, frame, keep, qed, raw, split, suffices, ‵, ◌⊛◌}
use types.Part.{agg}
use types.Run.{enter, no_more, returns}
use Rattle.ptfiles.proofs.GhostBytesMade.{empty, made}
use Rattle.ptfiles.specs.contracts.ghost_bytes.GhostBytes as ghost_bytes
use Rattle.ptfiles.specs.contracts.ghost_bytes.GhostBytes.with as f
use Rattle.ptfiles.proofs.ghost_bytes.GhostBytes.with.Code as code
use Rattle.ptfiles.proofs.ghost_bytes.GhostBytes.with.Statement.{statement}

pub with_spec : {M : Type 1} → statement M
with_spec 𝓤 𝓛 𝓜 𝓡 wired =
    let F = f.ended in let c = f.clauses 𝓛 𝓜.mem 𝓡.returns in
    let stayed : Stays F.signature.params F.kept = (stay_dropped _ yes, (stay_dropped _ yes, tt)) in
    let W = walk_of 𝓛 F stayed c in
    let passed_on = 𝓛.laws.⇛_intro (emp 𝓤) in
    proved 𝓛 F stayed c 𝓜 𝓡 (λ κs x w vs ok. passed_on, (λ κs x w vs ok. passed_on, tt))
    f.Key.name code.function (code.unfolded 𝓤 𝓛.H 𝓜 𝓡 wired)
    (λ κs. (shr_vals, (shr_slice_vals, tt)))
    (λ κs. (λ x vs is. is.0, (λ x vs is. is.0.0, tt)))
    (λ κs qs bounds a none are.
    let y : W.Ghost = ((κs, qs, bounds, a, (shr_vals a.0, (shr_slice_vals a.1.0, tt))), tt) in
    let result : ghost_bytes.the_row.Denot = record { items = a.0.now.items ++ a.1.0.now } in
    qed 𝓛 ((raw (alive 𝓛 F.signature κs qs) ⊛ ‵ (owns (types_at F.signature.params κs) a y.0.4)) ∷ raw ((c κs a).requires tt) ∷ []) ∵
    keep ! (0 ∷ []) $ split ! $ keep ! (0 ∷ []) $
    enter ! _ _ _ _ _ $ alloc_all ! (λ l. pass_all ! refl ((tt, tt), ((tt, (tt, (record { fits = are.1.0.0.1.0 }, tt))), tt)) $
    sets ! (agg ! (no_more !)) refl (tt, tt) $
    returns ! (look_at ! 0 refl) $ free_all ! refl $ keep ! (0 ∷ []) $
    suffices ! _ (leaves 𝓛 F stayed c y empty result (tt, (tt, tt)) (tt, (tt, tt))) $
    frame ! $ nothing ! $ nothing ! $ fjoin ! $ nothing ! $ fjoin ! $ frame ! $ made ! result $ frame ! $
    by ! (fact_i 𝓤 _ _ refl)))
