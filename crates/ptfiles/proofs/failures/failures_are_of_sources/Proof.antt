-- The proof that an opened reader has failed only if the source in it says so. The model of a reader is what it
-- shows of some fields, and that is known of each reader in the slice. So the body, which does nothing, is walked
-- only for this fact.
use Rattle.std.proofs.Common.{◌≡◌, Bool, false, ℕ, ◌<◌, [], ◌∷◌, refl, sym, ap, ◌∙◌, ◌⊎◌, inl, inr, get_or, length}
use Rattle.std.proofs.lemmas.Bool.{true≢false}
use Rattle.std.proofs.raw_atomic.Walks.{proved}
use base.Fml.{ftrue}
use base.Logic.{emp}
use denote.Exit.{yes}
use denote.Known.{Known, nothing_known, view_known, shr_slice_known}
use denote.Param.{bounded, param}
use denote.RattleType.{RattleType}
use denote.Slice.{ShrSlice, shr_slice_vals, shr_slice_Tells}
use denote.Steps.{nothing, peeks}
use denote.Triple.Entry.{alive}
use denote.Triple.Walked.{Stays, walk_of, says, stay_dropped, ends_at}
use mir.MapTy.{inst_fn}
use mir.Syntax.{Args, a_type, dcons, dnil, named}
use mir.Val.{vunit}
use types.ByLocal.{alloc_all, pass_all, free_all, look_at, sets}
use types.Kit.{‵, raw, ◌⊛◌, ◌$◌, ◌∵◌, !, qed, done, move, keep, split, join, feq_i, suffices}
use types.Run.{enter, of_opd, unit_lit, returns}
use Rattle.ptlines.specs.Private.InputSource.{input_state, is_unopened_source}
use Rattle.ptlines.specs.Readers.{Reader}
use Rattle.ptlines.specs.Sources.{SourceState}
use Rattle.ptlines.specs.declared.source.InputSource.{InputSource}
use Rattle.ptlines.specs.declared.source.InputSource.TheVariants.{Standard, File, Unopened}
use Rattle.ptlines.specs.declared.source.Source.{Ghosts}
use Rattle.ptlines.specs.declared.reader.LineReader.TheView.{view, invariant}
use Rattle.ptlines.specs.declared.reader.LineReader as reader
use Rattle.ptlines.specs.contracts.reader.LineReader as row
use Rattle.ptlines.specs.contracts.reader.LineReader.TheInside as fields
use Rattle.ptfiles.specs.Private.Failures.{FailedAsSource}
use Rattle.ptfiles.specs.contracts.failures.failures_are_of_sources as f
use Rattle.ptfiles.proofs.failures.failures_are_of_sources.Statement.{statement}
use Rattle.ptfiles.proofs.failures.failures_are_of_sources.Code as code

-- If an opened input has failed, or has not, the source in it says so.
failed_as_source : {S R : Type 0} → (s : S → SourceState) → (r : R → SourceState) → (input : InputSource S R)
    → {failed : Bool} → failed ≡ (input_state s r input).failed → is_unopened_source input ≡ false
    → ((x : S) × (failed ≡ (s x).failed)) ⊎ ((x : R) × (failed ≡ (r x).failed))
failed_as_source s r (Standard x) is opened = inl (x, is)
failed_as_source s r (File x) is opened = inr (x, is)
failed_as_source s r Unopened is opened = absurd (true≢false opened)

module _ (S R : RattleType) (s : Ghosts S.Denot) (r : Ghosts R.Denot) where
  abbrev Fields : RattleType
  Fields = fields.the_row (param 0 S) (param 1 R) s r

  abbrev Row : RattleType
  Row = row.the_row (param 0 S) (param 1 R) s r

  abbrev known : Known Row
  known = view_known Fields (nothing_known Fields) Reader
      (reader.the_code S.Denot R.Denot (param 0 S).coded (param 1 R).coded)
      (view S.Denot R.Denot s r) (invariant S.Denot R.Denot s r)

  known_failed : (reader : Reader) → known.Fact reader → FailedAsSource s.state r.state reader
  known_failed reader is opened =
      failed_as_source s.state r.state is.0.input (ap (λ (x : Reader). x.failed) (sym is.1.0))
      (ap (λ (x : Reader). x.refused) is.1.0 ∙ opened)

pub failures_are_of_sources_spec : {M : Type 1} → statement M
failures_are_of_sources_spec {M} 𝓤 𝓛 𝓜 𝓡 wired S R _ _ s S-dict r R-dict S-drop R-drop _ _ _ _ =
    let F = f.ended S R s S-dict r R-dict S-drop R-drop in
    let c = f.clauses S R s S-dict r R-dict S-drop R-drop 𝓛 𝓜.mem 𝓡.returns in
    let stayed : Stays F.signature.params F.kept = (stay_dropped _ yes, tt) in
    let W = walk_of 𝓛 F stayed c in
    let given = dcons S-dict (dcons R-dict (dcons S-drop (dcons R-drop dnil))) in
    let types : Args = bounded (a_type ∷ a_type ∷ []) (S, (R, tt)) given in
    proved 𝓛 F stayed c 𝓜 𝓡 (λ κs x w vs ok. 𝓛.laws.⇛_intro (emp 𝓤), tt) (f.Key.name types)
    (inst_fn types code.function) (code.unfolded 𝓤 𝓛.H 𝓜 𝓡 wired (S, (R, tt)) S-dict R-dict S-drop R-drop)
    (λ κs. (shr_slice_vals, tt)) (λ κs. (shr_slice_Tells (named 0) κs.0 (Row S R s r), tt))
    (λ κs qs bounds a none are.
    let vs = shr_slice_vals a.0 in
    let y : W.Ghost = ((κs, qs, bounds, a, (vs, tt)), none) in
    let slice = ShrSlice (named 0) κs.0 (Row S R s r) in
    let all = shr_slice_known (Row S R s r) (known S R s r) (named 0) κs.0 in
    qed 𝓛 ((raw (alive 𝓛 F.signature κs qs) ⊛ ‵ (slice.own_val a.0 vs) ⊛ ‵ ftrue) ∷ raw ((c κs a).requires none) ∷ []) ∵
    split ! $ move ! (1 ∷ []) $ split ! $ keep ! (0 ∷ 2 ∷ []) $
    peeks ! slice (λ x us. all.Fact x) (λ x us. (all.owned x us).go M 𝓤 𝓛) a.0 vs (λ facts. keep ! (1 ∷ []) $
    enter ! _ _ _ _ _ $ alloc_all ! (λ l. pass_all ! refl ((tt, (tt, (record { fits = are.0.0.1.0 }, tt))), tt) $
    sets ! (of_opd ! (unit_lit !)) refl (tt, tt) $
    returns ! (look_at ! 0 refl) $ free_all ! refl $
    suffices ! _ (ends_at 𝓛 F stayed c y vunit tt (tt, tt) (tt, tt)) $
    says ! (λ (i : ℕ) (d : Reader) (lt : i < length a.0.now).
    known_failed S R s r (get_or a.0.now i d) (facts i d lt)) $
    feq_i ! _ (vunit ∷ []) _ refl $ nothing ! $ nothing ! $ join ! $ move ! (2 ∷ []) $ done !)))
