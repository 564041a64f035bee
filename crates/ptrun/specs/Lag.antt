-- A bound on the lag of the output: however a run ends, the output that was decided two blocks of input ago is written,
-- except for at most one block after a failed write.
use Rattle.std.specs.Prelude.{◌≡◌, ◌≤◌, ℕ, ◌+◌, Bool, true, false, List, [], ◌∷◌, ◌++◌, Option, Some, None, length}
use Rattle.std.specs.Prelude.{flat_map, take, set}
use Rattle.ptlines.specs.Engines.{is_in}
use Rattle.ptlines.specs.Lag.{LaggedInput}
use Rattle.ptlines.specs.Received.{IsPrefix, Received}
use Rattle.ptrun.specs.CommandSpec.{CommandSpec}
use Rattle.ptrun.specs.Files.{ReceivedInputs, at}
use Rattle.ptrun.specs.Decided.{inputs_in_turn, up_to_unended}
use Rattle.ptlines.specs.declared.sizes.TheConstants.{BLOCK}

-- `bytes` were written: all of them, or after a failed write all except at most one block (8,192 bytes).
pub record IsWrittenUpToBlock (bytes written : List ℕ) (failed : Bool) : Type 0 where
  pub front : List ℕ
  pub lost : List ℕ
  pub split : bytes ≡ front ++ lost
  pub begins : IsPrefix front written
  pub few : length lost ≤ BLOCK
  pub none : failed ≡ false → lost ≡ []

-- `P` holds of the output that was decided when at most two blocks fewer of the last input were received. The inputs
-- before it count whole.
abbrev pub LagOfLast : (Received → List ℕ) → List Received → (List ℕ → Type 0) → Type 0
LagOfLast decided_of_one came P = (done : List Received) (last : Received) → came ≡ done ++ last ∷ []
    → (before : LaggedInput last) × P (flat_map decided_of_one (up_to_unended (done ++ before.earlier ∷ [])))

-- `P` holds of the output that was decided when at most two blocks fewer of the input at any one of these positions
-- were received, regardless of what was received from the others.
abbrev pub LagOfAny : List ℕ → (ReceivedInputs → List ℕ) → ReceivedInputs → (List ℕ → Type 0) → Type 0
LagOfAny positions decided r P = (position : ℕ) (came : Received) → is_in positions position ≡ true
    → at r position ≡ Some came
    → (before : LaggedInput came) × P (decided (set r position (Some before.earlier)))

-- One of the two: the former for a tool that reads its operands one after another, over the first `n` of them and the
-- next one; the latter for one that reads them together.
abbrev pub LagBy : CommandSpec → ReceivedInputs → ℕ → (List ℕ → Type 0) → Option (Received → List ℕ) → Type 0
LagBy m r n P (Some decided_of_one) = LagOfLast decided_of_one (inputs_in_turn r (take (n + 1) m.positions)) P
LagBy m r n P None = LagOfAny m.positions m.decided r P

-- `P` holds of the output that the command had decided at most two blocks of input earlier; `n` operands are done.
abbrev pub HasBoundedLag : CommandSpec → ReceivedInputs → ℕ → (List ℕ → Type 0) → Type 0
HasBoundedLag m r n P = LagBy m r n P m.beyond.sequential
