-- The contract of a run over memory, by the words of the command and the bytes of its inputs.
use Rattle.std.specs.Prelude.{◌≡◌, ℕ, ◌+◌, ◌<◌, ◌≤◌, ◌⊎◌, List, ◌++◌, codes, length, take, ⊤}
use Rattle.ptflow.specs.declared.faults.FlowFault.{FlowFault}
use Rattle.ptflow.specs.declared.faults.FlowFault.TheVariants.{Memory, Read, Write}
use Rattle.ptlines.specs.Received.{IsPrefix}
use Rattle.ptrun.specs.CommandSpec.{CommandSpec, messages, operand_messages}
use Rattle.ptrun.specs.Files.{InputBytes}
use Rattle.ptrun.specs.Messages.{fault_message, memory_message}
use Rattle.ptrun.specs.SpecOfArgs.{spec_of_args, tool_name}
use Rattle.ptrunc.specs.declared.answer.Answer.{Answer}
use Rattle.ptrunc.specs.declared.answer.Part.{Part}

-- The room holds the beginning of a text, as much as fits, and the part counts its bytes and those that did not fit.
pub record Holds (room : List ℕ) (part : Part) (text : List ℕ) : Type 0 where
  pub begins : take part.written room ≡ take part.written text
  pub counts : part.written + part.lacking ≡ length text
  pub within : part.written ≤ length room
  pub is_full : 0 < part.lacking → part.written ≡ length room

-- The rooms hold the output and the messages that the command must write, and the status is the one that it must
-- return; or 3, if there was too little room for one of the two.
pub record IsExactInMemory (m : CommandSpec) (w : InputBytes) (out messages' : List ℕ) (a : Answer) : Type 0 where
  pub out_holds : Holds out a.out (m.out w)
  pub messages_hold : Holds messages' a.messages (messages m w)
  pub status_is : a.out.lacking ≡ 0 → a.messages.lacking ≡ 0 → a.status ≡ m.status w
  pub lacks_room : (0 < a.out.lacking) ⊎ (0 < a.messages.lacking) → a.status ≡ 3

-- ---- memory ran out

-- A request for memory can fail, and so can a write: the bytes of a created file need memory, and those for which there is
-- no room may be too many to be counted. No read fails.
abbrev pub IsOfMemory : FlowFault → Type 0
IsOfMemory Memory = ⊤
IsOfMemory Write = ⊤
IsOfMemory (Read position) = ⊥

-- Memory ran out before the run, while its words or its files were listed or while the words were parsed.
abbrev pub IsBeforeRun : List (List ℕ) → List ℕ → Type 0
IsBeforeRun words text = (text ≡ memory_message (codes "ptext")) ⊎ (text ≡ memory_message (tool_name words))

-- The run stopped after some operands.
pub record IsStoppedRun (m : CommandSpec) (w : InputBytes) (text : List ℕ) : Type 0 where
  pub operands : ℕ
  pub fault : FlowFault
  pub of_memory : IsOfMemory fault
  pub text_is : text ≡ operand_messages m w operands ++ fault_message m.tool m.names fault

-- The run was complete, but one of the rooms is full, and what did not fit is too much to be counted.
abbrev pub IsFull : List ℕ → Part → Type 0
IsFull room part = part.written ≡ length room

pub record IsUncounted (m : CommandSpec) (w : InputBytes) (out messages' : List ℕ) (a : Answer) (text : List ℕ) : Type 0
  where
    pub text_is : text ≡ messages m w
    pub full : IsFull out a.out ⊎ IsFull messages' a.messages

-- The room of the messages is full, and the text that did not fit is too much to be counted.
pub record HoldsBeginning (room : List ℕ) (part : Part) (text : List ℕ) : Type 0 where
  pub begins : IsPrefix (take part.written room) text
  pub counts : part.written + part.lacking ≤ length text
  pub full : IsFull room part

-- The cause of status 4, with the text of the messages.
pub record IsOutOfMemory (words : List (List ℕ)) (w : InputBytes) (out messages' : List ℕ) (a : Answer) : Type 0 where
  pub text : List ℕ
  pub said : Holds messages' a.messages text ⊎ HoldsBeginning messages' a.messages text
  pub cause : IsBeforeRun words text
      ⊎ (IsStoppedRun (spec_of_args words) w text ⊎ IsUncounted (spec_of_args words) w out messages' a text)

-- ---- a run

-- The postcondition of a run over memory. Status 4 says that memory ran out.
pub record IsRunInMemory (words : List (List ℕ)) (w : InputBytes) (out messages' : List ℕ) (a : Answer) : Type 0 where
  pub is_exact : (a.status ≡ 4 → ⊥) → IsExactInMemory (spec_of_args words) w out messages' a
  pub out_of_memory : a.status ≡ 4 → IsOutOfMemory words w out messages' a
  pub is_prefix : IsPrefix (take a.out.written out) ((spec_of_args words).out w)
  pub within : (a.out.written ≤ length out) × (a.messages.written ≤ length messages')
