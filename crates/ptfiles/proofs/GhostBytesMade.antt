-- `GhostBytes` own nothing, so they can be made with any items.
use Rattle.std.proofs.Common.{List, [], ◌∷◌, refl}
use seplogic.Ra.Ura.{Ura}
use mir.Val.{Val, vstruct, vnil}
use types.Logic.{Logic}
use types.Kit.{Goal, Item, Step, ‵}
use denote.Shadow.{pure_i}
use Rattle.ptfiles.specs.contracts.ghost_bytes.GhostBytes as ghost_bytes

abbrev pub empty : Val
empty = vstruct vnil

module _ {M : Type 1} {𝓤 : Ura M} {𝓛 : Logic 𝓤} {K : Type 0} {Γ : List (Item 𝓤)} {G : Goal 𝓤 𝓛.H} where
  pub made : K → (x : ghost_bytes.the_row.Denot) → Step K 𝓛 (‵ (ghost_bytes.the_row.own_val x (empty ∷ [])) ∷ Γ) G Γ G
  made t x = pure_i t (ghost_bytes.the_row.own_val x (empty ∷ []))
      (λ vss. (tt, tt), tt)
      ((tt, (refl, tt)), tt)
