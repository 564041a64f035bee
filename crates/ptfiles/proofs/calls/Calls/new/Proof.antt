-- A `Calls` is made with no names and no results.
use Rattle.std.proofs.Common.{[], ◌∷◌, refl}
use Rattle.std.proofs.raw_atomic.Walks.{leaves, proved}
use mir.MapTy.{inst_fn}
use mir.Syntax.{Args, a_type}
use base.Fml.{ftrue}
use contract.Monad.{fact_i}
use denote.Param.{layouts}
use denote.Triple.Entry.{alive}
use denote.Triple.Walked.{walk_of}
use types.ByLocal.{alloc_all, free_all, get, look_at, pass_all, sets}
use types.Kit.{◌$◌, ◌∵◌, !, by, frame, keep, qed, raw, split, suffices, ‵, ◌⊛◌}
use types.Part.{agg}
use types.Run.{and_then, enter, no_more, returns}
use Rattle.ptfiles.proofs.CallsMade.{empty, made}
use Rattle.ptfiles.specs.contracts.calls.Calls as calls
use Rattle.ptfiles.specs.contracts.calls.Calls.new as f
use Rattle.ptfiles.proofs.calls.Calls.new.Code as code
use Rattle.ptfiles.proofs.calls.Calls.new.Statement.{statement}

pub new_spec : {M : Type 1} → statement M
new_spec 𝓤 𝓛 𝓜 𝓡 wired T _ =
    let F = f.ended T in let c = f.clauses T 𝓛 𝓜.mem 𝓡.returns in let W = walk_of 𝓛 F tt c in
    let types : Args = layouts (a_type ∷ []) (T, tt) in
    proved 𝓛 F tt c 𝓜 𝓡 tt
    (f.Key.name types) (inst_fn types code.function) (code.unfolded 𝓤 𝓛.H 𝓜 𝓡 wired (T, tt))
    (λ κs. tt) (λ κs. tt) (λ κs qs bounds a none are.
    let y : W.Ghost = ((κs, qs, bounds, a, tt), tt) in
    let result : (calls.the_row T).Denot = record { of = record {}; names = []; results = [] } in
    qed 𝓛 ((raw (alive 𝓛 F.signature κs qs) ⊛ ‵ ftrue) ∷ raw ((c κs a).requires tt) ∷ []) ∵
    keep ! (0 ∷ []) $ split ! $
    enter ! _ _ _ _ _ $ alloc_all ! (λ l. pass_all ! refl tt $
    sets ! (agg ! (no_more !)) refl (tt, tt) $
    sets ! (agg ! (and_then ! (get ! refl) (no_more !))) refl (tt, (tt, tt)) $
    returns ! (look_at ! 0 refl) $ free_all ! refl $ keep ! (0 ∷ 1 ∷ []) $
    suffices ! _ (leaves 𝓛 F tt c y empty result tt tt) $
    frame ! $ frame ! $ made ! T result $ frame ! $ by ! (fact_i 𝓤 _ _ (refl, refl))))
