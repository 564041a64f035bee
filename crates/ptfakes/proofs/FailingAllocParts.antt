-- For the proofs of the calls of the failing allocator of the tests, which use it through a shared reference: the
-- two fields that they use, the call that counts down, and the parameters that are used up at the end. Assumes
-- `Logic`.
use Rattle.std.proofs.Common.{ℕ, zero, suc, ◌+◌, [], ◌∷◌, refl, Bor}
use seplogic.Ra.Ura.{Ura}
use mir.Syntax.{Args, a_type, dnil, dcons}
use mir.Val.{vptr}
use base.Logic.{SProp, ent, sep, emp}
use base.Fml.{Lft, Share, Fml, ftrue, fsep, flft}
use prog.Memory.{Memory, size, align, up}
use prog.Routine.{Routine}
use types.Logic.{Logic, sem}
use types.Kit.{‵, ◌$◌, ◌∵◌, !, qed, keep, move, use0, join, fsplit, fjoin, feq_i, done}
use contract.Lifetimes.{Lfts}
use contract.Monad.{Fun}
use denote.Builtin.{u64, RefOf}
use denote.Memory.{hidden_shr}
use denote.Opens.{unhide}
use denote.Param.{bounded, param}
use denote.Ref.{shr_vals}
use denote.Signature.{Slot, plain}
use denote.Steps.{nothing}
use denote.Triple.Spec.{triple_of}
use denote.Triple.Statement.{Contract}
use Rattle.std.proofs.alloc.Calls.{Al, α, seen}
use Rattle.std.specs.contracts.cell.Cell as cell
use Rattle.ptfakes.specs.contracts.failing_alloc.FailingAlloc as refusing
use Rattle.ptfakes.specs.contracts.failing_alloc.next_fails as next_fails

-- the parameters that a call leaves, all of which are used up
abbrev pub used_up : ℕ → Fml
used_up zero = ftrue
used_up (suc n) = fsep ftrue (used_up n)

pub none_left : {M : Type 1} {𝓤 : Ura M} (𝓛 : Logic 𝓤) (n : ℕ) → ent 𝓤 (emp 𝓤) (sem 𝓛 (used_up n))
none_left 𝓛 zero = qed 𝓛 [] ∵ nothing ! $ done !
none_left 𝓛 (suc n) = qed 𝓛 [] ∵ use0 𝓛 (‵ (used_up n)) (none_left 𝓛 n) $ nothing ! $ fjoin ! $ done !

-- a counter that is reached through a shared reference
abbrev pub shown_at : Lft → ℕ × ℕ → Fml
shown_at κ p = hidden_shr (cell.the_row u64) κ (record { value = tt }) p.0 p.1

module _ (Z : Al) where
  -- the parameter of a call that is the allocator of the tests over Z
  abbrev pub lent : Slot 2
  lent = RefOf (0 ∷ []) tt (plain (λ κs. refusing.the_row (param 0 Z.row))) (λ κs. tt)

  -- the arguments of the calls: that allocator, its methods and its drop
  abbrev pub filled : Args
  filled = bounded (a_type ∷ []) (Z.row, tt) (dcons Z.d (dcons Z.drops dnil))

  -- the addresses of its fields
  abbrev pub inner_at : ℕ × ℕ → ℕ × ℕ
  inner_at p = (p.0, p.1 + up (align (α Z)) 0)

  abbrev pub left_at : ℕ × ℕ → ℕ × ℕ
  left_at p = (p.0, p.1 + up 8 (up (align (α Z)) 0 + size (α Z)))

  pub parts : {M : Type 1} {𝓤 : Ura M} (𝓛 : Logic 𝓤) (κs : Lfts 2) (r : Bor (refusing.the_row Z.row).Denot)
      → ent 𝓤 (sem 𝓛 ((lent.row κs).own_val r (shr_vals r)))
      (sep 𝓤 (sem 𝓛 (seen Z κs.0 (inner_at r.ref_ptr) r.now.inner)) (sem 𝓛 (shown_at κs.0 (left_at r.ref_ptr))))
  parts {𝓤 = 𝓤} 𝓛 κs r =
      qed 𝓛 (‵ ((lent.row κs).own_val r (shr_vals r)) ∷ []) ∵ fsplit ! $ move !
      (1 ∷ []) $ unhide ! $ fsplit ! $ fsplit !
      $ move ! (1 ∷ []) $ fsplit ! $ keep ! (2 ∷ 0 ∷ []) $ done !

-- the call that counts down, for a counter at the address p
module _ {M : Type 1} {𝓤 : Ura M} (𝓛 : Logic 𝓤) (at_mem : Memory → SProp 𝓤) (run : Routine
    → Fun 𝓤) (κ : Lft) (q : Share) (p : ℕ × ℕ) where
  abbrev pub Asks : Contract 𝓤
  Asks = triple_of 𝓛 next_fails.signature (next_fails.spec 𝓛 at_mem run)

  abbrev pub question : Asks.Ghost
  question =
      (((κ, tt), (q, tt), tt, (record { ref_ptr = p; now = record { value = tt } }, tt), (vptr p.0 p.1 ∷ [], tt)), tt)

  pub asks : ent 𝓤 (sep 𝓤 (sem 𝓛 (shown_at κ p)) (𝓛.A.lft κ q)) (Asks.pre question)
  asks =
      qed 𝓛 (‵ (shown_at κ p) ∷ ‵ (flft κ q) ∷ []) ∵ nothing ! $ move ! (1 ∷ 0 ∷ []) $ feq_i ! _
      (vptr p.0 p.1 ∷ []) _ refl $ fjoin ! $ fjoin !
      $ nothing ! $ move ! (2 ∷ 0 ∷ []) $ join ! $ join ! $ nothing ! $ move ! (1 ∷ []) $ done !
