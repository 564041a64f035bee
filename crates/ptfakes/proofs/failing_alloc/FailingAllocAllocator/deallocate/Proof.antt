-- The block is returned to the inner allocator. Assumes `Logic`.
use Rattle.std.proofs.Common.{◌≡◌, [], ◌∷◌, refl, w64}
use Rattle.std.proofs.raw_atomic.Walks.{proved}
use mir.Val.{vunit, vint, vptr}
use mir.MapTy.{inst_fn}
use base.Logic.{never, fst∗}
use base.Fml.{ftrue, flft, fsep}
use prog.Memory.{size, align, capped}
use prog.Wp.{WpFn}
use types.Logic.{sem}
use contract.BorrowLft.{◌⊑◌, ⊑_trans}
use contract.Monad.{fact}
use contract.Running.{tables}
use types.Kit.{‵, raw, prop, ◌⊛◌, later, given, ◌$◌, ◌∵◌, !, qed, done, move, keep, use0, use1, split, split3, join}
use types.Kit.{learn, fsplit, feq_i, group, regoal, suffices, await}
use types.Run.{enter, stop, fld, addr, no_more, and_then, of_opd, unit_lit, returns}
use types.ByLocal.{alloc_all, pass_all, free_all, look_at, get, through, sets, lands_as}
use denote.Builtin.{usize, RawPtr}
use denote.Exit.{yes}
use denote.Plain.{uint_vals, uint_Tells}
use denote.RattleType.{owns}
use denote.RawPtr.{Ptr, block_ptr, null_ptr, ptr_val, room_for, in_a_block, rawptr_vals, rawptr_Tells}
use denote.Ref.{shr_vals}
use denote.Signature.{plain, types_at}
use denote.Steps.{heard, nothing}
use denote.Triple.Call.{calls_at}
use denote.Triple.Table.{framed}
use denote.Triple.Walked.{Stays, stay_dropped, walk_of, ends_at, Goes-dropped}
use Rattle.std.proofs.alloc.Calls.{Al, seen, token, Gives, at_gives, Gives-goes, Gives-Gives}
use Rattle.ptfakes.proofs.FailingAllocParts.{lent, filled, inner_at, left_at, shown_at, parts, used_up, none_left}
use Rattle.ptfakes.specs.contracts.failing_alloc.FailingAllocAllocator.deallocate as F
use Rattle.ptfakes.proofs.failing_alloc.FailingAllocAllocator.deallocate.Statement.{statement}
use Rattle.ptfakes.proofs.failing_alloc.FailingAllocAllocator.deallocate.Code as code

pub deallocate_spec : {M : Type 1} → statement M
deallocate_spec 𝓤 𝓛 𝓜 𝓡 wired B laws ghosts calls drops met _ =
    let Z : Al = record { row = B; laws = laws; g = ghosts; d = calls; drops = drops } in
    let body = inst_fn (filled Z) code.function in
    let T = F.ended B ghosts calls drops in
    let c = F.clauses B ghosts calls drops 𝓛 𝓜.mem 𝓡.returns in
    let 𝓣 = tables 𝓤 𝓛.H 𝓜 𝓡 𝓡.env in
    let used : Stays T.signature.params T.kept =
    (stay_dropped _ yes, (stay_dropped _ yes, (stay_dropped _ yes, (stay_dropped _ yes, tt)))) in
    let W = walk_of 𝓛 T used c in
    let Back = Gives Z 𝓛 𝓜.mem 𝓡.returns in
    let goes = Goes-dropped 𝓛 2 (plain (λ _. usize)) yes (λ κs x w. refl) in
    proved 𝓛 T used c 𝓜 𝓡 (
      Goes-dropped 𝓛 2 (lent Z) yes (λ κs x w. refl),
      (Goes-dropped 𝓛 2 (plain (λ _. RawPtr)) yes (λ κs x w. refl), (goes, (goes, tt))),
    )
    (F.Key.name (filled Z)) body (code.unfolded 𝓤 𝓛.H 𝓜 𝓡 wired (B, tt) calls drops)
    (λ κs. (shr_vals, (rawptr_vals, (uint_vals w64, (uint_vals w64, tt)))))
    (λ κs. ((λ r vs is. is.0), (rawptr_Tells, (uint_Tells w64, (uint_Tells w64, tt)))))
    (λ κs qs bounds a τ are.
    let r = a.0 in let n = a.1.1.0 in let al = a.1.1.1.0 in
    let κ = κs.0 in let q = qs.0 in let p = inner_at Z r.ref_ptr in
    let y : Ptr → W.Ghost = λ x. (
      (
        κs,
        qs,
        bounds,
        (r, (x, (n, (al, tt)))),
        (shr_vals r, (rawptr_vals x, (vint w64 n ∷ [], (vint w64 al ∷ [], tt)))),
      ),
      τ,
    ) in
    let given_back = λ (x : Ptr). fsep (room_for τ x) (token Z r.now.inner τ x) in
    let fits : Type 0 = (capped (size τ) ≡ n) × (capped (align τ) ≡ al) in
    qed 𝓛 (((‵ (flft κ q) ⊛ ‵ (flft κs.1.0 qs.1.0) ⊛ ‵ ftrue) ⊛ ‵
    (owns (types_at T.signature.params κs) a (y a.1.0).0.4))
    ∷ (raw (fact 𝓤 (κs.1.0 ⊑ B.lives)) ⊛ raw (fact 𝓤 fits) ⊛ ‵ (given_back a.1.0)) ∷ []) ∵
    move ! (1 ∷ []) $ split3 ! $ heard ! _ (λ lives. heard ! _ (λ is.
    in_a_block ! a.1.0 given_back (fst∗ 𝓤 (never 𝓤) (sem 𝓛 (token Z r.now.inner τ null_ptr))) (λ b o e.
    regoal ! (λ x. prop (WpFn 𝓤 𝓛.H 𝓣.C 𝓣.Λ body
    (vptr r.ref_ptr.0 r.ref_ptr.1 ∷ ptr_val x ∷ vint w64 n ∷ vint w64 al ∷ []) (W.post (y x)))) e refl $
    let g = at_gives Z 𝓛 𝓜.mem 𝓡.returns κ q p r.now.inner b o n al τ in
    -- passed to the call: the block, the right to free it, the inner allocator, and the token of its lifetime
    fsplit ! $ move ! (2 ∷ []) $ split ! $ split3 ! $ move ! (3 ∷ []) $ fsplit !
    $ use1 𝓛 (‵ (seen Z κ p r.now.inner) ⊛ ‵ (shown_at κ (left_at Z r.ref_ptr))) (parts Z 𝓛 κs r) $ split ! $ keep !
    (6 ∷ 7 ∷ 0 ∷ 3 ∷ 4 ∷ []) $ group ! 4
    $ use1 𝓛 (raw (Back.pre g)) (Gives-goes Z 𝓛 𝓜.mem 𝓡.returns κ q p r.now.inner
    (⊑_trans κ κs.1.0 B.lives bounds.0 lives) b o n al τ is.0 is.1 are.1.1.0.1 are.1.1.1.0.1)
    $ enter ! _ _ _ _ _
    $ alloc_all ! (λ l. pass_all ! refl (
      (tt, tt),
      ((tt, tt), ((tt, record { fits = are.1.1.0.1 }), ((tt, record { fits = are.1.1.1.0.1 }), tt))),
    )
    $ sets ! (addr ! (through ! refl (fld ! refl (stop !)))) refl (tt, tt)
    $ calls_at ! (framed 𝓤 𝓛.H 𝓜 𝓣) Back (met.deallocate drops) g
    (and_then ! (get ! refl) (and_then ! (get ! refl)
    (and_then ! (get ! refl) (and_then ! (get ! refl) (no_more !))))) (λ v.
    use1 𝓛 (later (given (v ≡ vunit) (‵ (flft κ q))))
    (Gives-Gives Z 𝓛 𝓜.mem 𝓡.returns κ q p r.now.inner b o n al τ v) $ await ! tt $ learn ! (λ is_unit.
    lands_as ! is_unit refl (tt, tt) $ sets ! (of_opd ! (unit_lit !)) refl (tt, tt) $ returns !
    (look_at ! 0 refl) $ free_all ! refl
    $ suffices ! _ (ends_at 𝓛 T used c (y (block_ptr b o)) vunit tt (tt, (tt, (tt, (tt, tt)))) (
      tt,
      (tt, (tt, (tt, tt))),
    ))
    -- left after the call: the tokens, the used up parameters, and the unit value
    $ nothing ! $ feq_i ! _ (vunit ∷ []) _ refl $ use0 𝓛 (‵ (used_up 4))
    (none_left 𝓛 4) $ join ! $ nothing ! $ move ! (3 ∷ 4 ∷ 0 ∷ 1 ∷ []) $ group ! 3 $ join ! $ done !)))))))
