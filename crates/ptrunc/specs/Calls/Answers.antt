-- The status of an answer, by the exit status of a run; and the contract of calls that run nothing.
use Rattle.std.specs.Prelude.{◌≡◌, ◌⊎◌, ◌<◌, ℕ, List, Option, Some, None}
use Rattle.ptrunc.specs.Results.{Holds}
use Rattle.ptrunc.specs.declared.answer.Answer.{Answer}
use Rattle.ptrunc.specs.declared.answer.Part.{Part}

-- The status of an answer, by the exit status of the run; there is none if memory ran out.
abbrev pub StatusPost : Option ℕ → Part → Part → ℕ → Type 0
StatusPost None out messages' status = status ≡ 4
StatusPost (Some exit) out messages' status =
    (out.lacking ≡ 0 → messages'.lacking ≡ 0 → status ≡ exit)
    × ((0 < out.lacking) ⊎ (0 < messages'.lacking) → status ≡ 3)

-- Nothing was run: the room of the messages holds this text, and the status is that of this exit status.
pub record IsRefused (exit : Option ℕ) (text messages' : List ℕ) (a : Answer) : Type 0 where
  pub status_is : StatusPost exit a.out a.messages a.status
  pub nothing : a.out ≡ record { written = 0; lacking = 0 }
  pub holds : Holds messages' a.messages text
