-- The request fails when the counter is 0, and otherwise has the result of the inner allocator. Assumes `Logic`.
use Rattle.std.proofs.Common.{◌≡◌, Bool, true, false, [], ◌∷◌, Ok, Err, refl, ap, w64}
use Rattle.std.proofs.raw_atomic.Walks.{proved}
use Rattle.std.proofs.alloc.Shapes.{after}
use mir.Val.{Val, vint}
use mir.MapTy.{inst_fn}
use base.Logic.{id⊢}
use base.Fml.{ftrue, flft, fsep}
use prog.Memory.{size, align, capped}
use contract.BorrowLft.{◌⊑◌, ⊑_trans}
use contract.Monad.{fact}
use contract.Running.{tables}
use types.Kit.{‵, raw, prop, ◌⊛◌, some, later, at_ret, Sq, ◌$◌, ◌∵◌, !, qed, done, move, drop, keep, use0, use1, split}
use types.Kit.{split3, join, pick, fsplit, fjoin, feq_l, group, suffices, await}
use types.Part.{agg}
use types.Run.{enter, stop, fld, addr, lit, no_more, and_then, first, branches, skips, exec, returns, returns_within}
use types.ByLocal.{env, alloc_all, pass_all, free_all, look_at, get, through, sets, lands_as}
use denote.Builtin.{usize, bool}
use denote.Exit.{yes}
use denote.Plain.{uint_vals, uint_Tells}
use denote.RattleType.{owns}
use denote.RawPtr.{block_ptr}
use denote.Ref.{shr_vals}
use denote.Signature.{plain, types_at}
use denote.Steps.{heard, nothing, only}
use denote.Triple.Call.{calls_at}
use denote.Triple.Table.{framed}
use denote.Triple.Walked.{Stays, stay_dropped, walk_of, ends_at, Goes-dropped}
use Rattle.std.specs.Allocator.{block_if_ok}
use Rattle.std.proofs.alloc.Calls.{Al, seen, token, Answer, answer_val, Answer-typed, Answer-Ok, Answer-err, Takes}
use Rattle.std.proofs.alloc.Calls.{at_takes, Answered, Takes-goes, Takes-gives, answers}
use Rattle.ptfakes.proofs.FailingAllocParts.{lent, filled, inner_at, left_at, shown_at, parts, used_up, none_left, Asks}
use Rattle.ptfakes.proofs.FailingAllocParts.{question, asks}
use Rattle.ptfakes.proofs.failing_alloc.next_fails.Met as next_fails
use Rattle.ptfakes.specs.contracts.failing_alloc.FailingAllocAllocator.allocate as F
use Rattle.ptfakes.proofs.failing_alloc.FailingAllocAllocator.allocate.Statement.{statement}
use Rattle.ptfakes.proofs.failing_alloc.FailingAllocAllocator.allocate.Code as code

pub allocate_spec : {M : Type 1} → statement M
allocate_spec 𝓤 𝓛 𝓜 𝓡 wired B laws ghosts calls drops met _ =
    let Z : Al = record { row = B; laws = laws; g = ghosts; d = calls; drops = drops } in
    let body = inst_fn (filled Z) code.function in
    let T = F.ended B ghosts calls drops in
    let c = F.clauses B ghosts calls drops 𝓛 𝓜.mem 𝓡.returns in
    let 𝓣 = tables 𝓤 𝓛.H 𝓜 𝓡 𝓡.env in
    let used : Stays T.signature.params T.kept = (stay_dropped _ yes, (stay_dropped _ yes, (stay_dropped _ yes, tt))) in
    let W = walk_of 𝓛 T used c in
    let Inner = Takes Z 𝓛 𝓜.mem 𝓡.returns in
    let goes = Goes-dropped 𝓛 2 (plain (λ _. usize)) yes (λ κs x w. refl) in
    proved 𝓛 T used c 𝓜 𝓡 (Goes-dropped 𝓛 2 (lent Z) yes (λ κs x w. refl), (goes, (goes, tt)))
    (F.Key.name (filled Z)) body (code.unfolded 𝓤 𝓛.H 𝓜 𝓡 wired (B, tt) calls drops)
    (λ κs. (shr_vals, (uint_vals w64, (uint_vals w64, tt))))
    (λ κs. ((λ r vs is. is.0), (uint_Tells w64, (uint_Tells w64, tt))))
    (λ κs qs bounds a τ are.
    let r = a.0 in let n = a.1.0 in let al = a.1.1.0 in let h = r.now.inner in
    let κ = κs.0 in let q = qs.0 in let p = inner_at Z r.ref_ptr in let left = left_at Z r.ref_ptr in
    let y : W.Ghost = ((κs, qs, bounds, a, (shr_vals r, (vint w64 n ∷ [], (vint w64 al ∷ [], tt)))), τ) in
    let g = at_takes Z 𝓛 𝓜.mem 𝓡.returns κ q p h n al τ in
    let fits : Type 0 = (capped (size τ) ≡ n) × (capped (align τ) ≡ al) in
    -- at the end of both branches: the result, the block that it owns, and the tokens
    let out : (v : Val) (is : Answer.Denot) → Sq 𝓛
    (‵ (Answer.own_val is (v ∷ [])) ∷ ‵ (block_if_ok (token Z h) τ is) ∷ ‵ (flft κ q) ∷ ‵
    (flft κs.1.0 qs.1.0) ∷ []) (prop (W.post y v)) = λ v is.
    suffices ! _ (ends_at 𝓛 T used c y v is (tt, (tt, (tt, tt))) (tt, (tt, (tt, tt))))
    $ use0 𝓛 (‵ (used_up 3)) (none_left 𝓛 3) $ join ! $ nothing ! $ move !
    (3 ∷ 4 ∷ 0 ∷ 1 ∷ []) $ group ! 3 $ join ! $ done ! in
    let refused = use0 𝓛 (‵ (Answer.own_val (Err (record {})) (answer_val false 0 0 ∷ [])))
    (Answer-err 𝓛) $ out (answer_val false 0 0) (Err (record {})) in
    qed 𝓛 (((‵ (flft κ q) ⊛ ‵ (flft κs.1.0 qs.1.0) ⊛ ‵ ftrue) ⊛ ‵ (owns (types_at T.signature.params κs) a y.0.4))
    ∷ (raw (fact 𝓤 (κs.1.0 ⊑ B.lives)) ⊛ raw (fact 𝓤 fits)) ∷ []) ∵
    move ! (1 ∷ []) $ split ! $ heard ! _ (λ lives. heard ! _ (λ is.
    split ! $ split3 ! $ move ! (3 ∷ []) $ fsplit ! $ use1 𝓛 (‵ (seen Z κ p h) ⊛ ‵ (shown_at κ left))
    (parts Z 𝓛 κs r) $ split ! $ keep ! (1 ∷ 3 ∷ 0 ∷ 4 ∷ [])
    $ join ! $ use1 𝓛 (raw ((Asks 𝓛 𝓜.mem 𝓡.returns κ q left).pre (question 𝓛 𝓜.mem 𝓡.returns κ q left)))
    (asks 𝓛 𝓜.mem 𝓡.returns κ q left)
    $ enter ! _ _ _ _ _
    $ alloc_all ! (λ l. pass_all ! refl (
      (tt, tt),
      ((tt, record { fits = are.1.0.1 }), ((tt, record { fits = are.1.1.0.1 }), tt)),
    )
    $ sets ! (addr ! (through ! refl (fld ! refl (stop !)))) refl (tt, tt)
    $ calls_at ! (framed 𝓤 𝓛.H 𝓜 𝓣) (Asks 𝓛 𝓜.mem 𝓡.returns κ q left)
    (next_fails.met 𝓤 𝓛 𝓜 𝓡 (code.calls-ptfakes::failing_alloc::next_fails 𝓡.env wired))
    (question 𝓛 𝓜.mem 𝓡.returns κ q left)
    (and_then ! (get ! refl) (no_more !)) (λ told.
    -- the result, and the token that is given back
    use1 𝓛
    (later (some (λ (r : Bool). ((‵ (flft κ q) ⊛ ‵ ftrue) ⊛ ‵ (bool.own_val r (told ∷ []))) ⊛ some
    (λ (ws : Unit {0} × Unit {0}). ‵ (fsep ftrue ftrue) ⊛ ‵ ftrue)))) (id⊢ 𝓤 _)
    $ await ! tt $ pick ! (λ r. split ! $ move ! (1 ∷ []) $ drop ! $ split ! $ split ! $ move !
    (1 ∷ []) $ drop ! $ move ! (1 ∷ []) $ feq_l ! (λ e.
    lands_as ! (ap only e) refl (tt, tt) $ first ! $ branches ! (get ! refl)
    (λ is_refused.
    sets ! (agg ! (no_more !)) refl (tt, tt) $ sets !
    (agg ! (and_then ! (lit ! tt) (and_then ! (get ! refl) (no_more !)))) refl (Answer-typed false 0 0)
    $ returns_within ! (W.post y) refl (look_at ! 0 refl) $ free_all ! refl $ keep ! (0 ∷ 2 ∷ []) $ nothing ! $ refused)
    (λ is_passed.
    skips ! $ exec ! 𝓣.C 𝓣.Λ (env body.locals l) (after 3 body.body) (at_ret _ (W.post y)) $ sets !
    (addr ! (through ! refl (fld ! refl (stop !)))) refl (tt, tt)
    $ move ! (1 ∷ 0 ∷ []) $ join ! $ use1 𝓛 (raw (Inner.pre g))
    (Takes-goes Z 𝓛 𝓜.mem 𝓡.returns κ q p h
    (⊑_trans κ κs.1.0 B.lives bounds.0 lives) n al τ is.0 is.1 are.1.0.1 are.1.1.0.1)
    $ calls_at ! (framed 𝓤 𝓛.H 𝓜 𝓣) Inner (met.allocate drops) g
    (and_then ! (get ! refl) (and_then ! (get ! refl) (and_then ! (get ! refl) (no_more !)))) (λ v.
    use1 𝓛 (later (raw (Answered Z 𝓛 𝓜.mem 𝓡.returns h τ v) ⊛ ‵ (flft κ q)))
    (Takes-gives Z 𝓛 𝓜.mem 𝓡.returns κ q p h n al τ v)
    $ await ! tt $ split ! $ answers Z ! 𝓜.mem 𝓡.returns h τ v
    (λ b o e. fjoin ! $ lands_as ! e refl (Answer-typed true b o) $ returns ! (look_at ! 0 refl) $ free_all ! refl
    $ use0 𝓛 (‵ (Answer.own_val (Ok (block_ptr b o)) (answer_val true b o ∷ []))) (Answer-Ok 𝓛 b o) $ out
    (answer_val true b o) (Ok (block_ptr b o)))
    (λ e. nothing ! $ lands_as ! e refl (Answer-typed false 0 0) $ returns !
    (look_at ! 0 refl) $ free_all ! refl $ refused))))))))))
