-- A `Calls` owns nothing, so it can be made with any names and results.
use Rattle.std.proofs.Common.{List, [], ◌∷◌, refl}
use seplogic.Ra.Ura.{Ura}
use mir.Val.{Val, vstruct, vcons, vnil}
use types.Logic.{Logic}
use types.Kit.{Goal, Item, Step, ‵}
use denote.RattleType.{RattleType}
use denote.Shadow.{pure_i}
use Rattle.ptfiles.specs.contracts.calls.Calls as calls

abbrev pub marker : Val
marker = vstruct vnil

abbrev pub empty : Val
empty = vstruct (vcons marker vnil)

module _ {M : Type 1} {𝓤 : Ura M} {𝓛 : Logic 𝓤} {K : Type 0} {Γ : List (Item 𝓤)} {G : Goal 𝓤 𝓛.H} where
  pub made : K → (T : RattleType) (x : (calls.the_row T).Denot) → Step K 𝓛 (‵ ((calls.the_row T).own_val x (empty ∷ [])) ∷ Γ) G Γ G
  made t T x = pure_i t ((calls.the_row T).own_val x (empty ∷ []))
      (λ vss. (tt, (λ us. (tt, tt), tt)), tt)
      (((marker ∷ [], tt), (refl, ((tt, (refl, tt)), tt))), tt)
