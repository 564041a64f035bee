-- The proof of `GhostBytes::new`, statement by statement of its body: `GhostBytes` are made with no items.
use Rattle.std.proofs.Common.{[], ◌∷◌, refl}
use Rattle.std.proofs.raw_atomic.Walks.{leaves, proved}
use base.Fml.{ftrue}
use contract.Monad.{fact_i}
use denote.Triple.Entry.{alive}
use denote.Triple.Walked.{walk_of}
use types.ByLocal.{alloc_all, free_all, look_at, pass_all, sets}
use types.Kit.{◌$◌, ◌∵◌, !, by, frame, keep, qed, raw, split, suffices, ‵, ◌⊛◌}
use types.Part.{agg}
use types.Run.{enter, no_more, returns}
use Rattle.ptfiles.proofs.GhostBytesMade.{empty, made}
use Rattle.ptfiles.specs.contracts.ghost_bytes.GhostBytes as ghost_bytes
use Rattle.ptfiles.specs.contracts.ghost_bytes.GhostBytes.new as f
use Rattle.ptfiles.proofs.ghost_bytes.GhostBytes.new.Code as code
use Rattle.ptfiles.proofs.ghost_bytes.GhostBytes.new.Statement.{statement}

pub new_spec : {M : Type 1} → statement M
new_spec 𝓤 𝓛 𝓜 𝓡 wired =
    let F = f.ended in let c = f.clauses 𝓛 𝓜.mem 𝓡.returns in let W = walk_of 𝓛 F tt c in
    proved 𝓛 F tt c 𝓜 𝓡 tt
    f.Key.name code.function (code.unfolded 𝓤 𝓛.H 𝓜 𝓡 wired)
    (λ κs. tt) (λ κs. tt) (λ κs qs bounds a none are.
    let y : W.Ghost = ((κs, qs, bounds, a, tt), tt) in
    let result : ghost_bytes.the_row.Denot = record { items = [] } in
    qed 𝓛 ((raw (alive 𝓛 F.signature κs qs) ⊛ ‵ ftrue) ∷ raw ((c κs a).requires tt) ∷ []) ∵
    keep ! (0 ∷ []) $ split ! $
    enter ! _ _ _ _ _ $ alloc_all ! (λ l. pass_all ! refl tt $
    sets ! (agg ! (no_more !)) refl (tt, tt) $
    returns ! (look_at ! 0 refl) $ free_all ! refl $ keep ! (0 ∷ 1 ∷ []) $
    suffices ! _ (leaves 𝓛 F tt c y empty result tt tt) $
    frame ! $ frame ! $ made ! result $ frame ! $ by ! (fact_i 𝓤 _ _ refl)))
