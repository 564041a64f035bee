-- Laws of the plan of `tr`: a string is rejected with its first fault, and never for lack of memory.
use Rattle.std.specs.Prelude.{◌≡◌, ◌≢◌, ◌↔◌, ℕ, ◌||◌, List, ◌∷◌, Bool}
use Rattle.std.specs.Prelude.{false, Option, Ok, Err}
use Rattle.ptlangs.specs.Laws.TrElements.{StartsElement, StartsInvalid}
use Rattle.ptlangs.specs.Laws.TrReading.{SetChar, chars}
use Rattle.ptlangs.specs.TrElements.{read_string}
use Rattle.ptlangs.specs.TrPlan.{plan}
use Rattle.ptlangs.specs.Laws.TrReading.{is_fill, segment, string_segments}
use Rattle.ptlangs.specs.declared.faults.SetFault.{SetFault}
use Rattle.ptlangs.specs.declared.faults.SetFaultKind.{SetFaultKind}
use Rattle.ptlangs.specs.declared.faults.SetFaultKind.TheVariants.{Memory}
use Rattle.ptlangs.specs.declared.tr.elements.SetElement.{SetElement}
use Rattle.ptlangs.specs.declared.tr.plan.Form.{Form}
use Rattle.ptlangs.specs.declared.tr.segments.Segment.{Segment}
use Rattle.ptlangs.specs.declared.tr.segments.SetRole.{SetRole}

-- ---- the segments of an array

-- The first element of the characters that has no segment has this fault; `has_fill` says whether a fill came before.
pub data FirstFault (role : SetRole) : Bool → List SetChar → SetFaultKind → Type 0 where
  NoElement : (has_fill : Bool) (us : List SetChar) (k : SetFaultKind) → StartsInvalid us k
      → FirstFault role has_fill us k
  NoSegment : (has_fill : Bool) (us rest : List SetChar) (p : SetElement) (k : SetFaultKind) → StartsElement us p rest
      → segment role has_fill p ≡ Err k → FirstFault role has_fill us k
  LaterFault : (has_fill : Bool) (us rest : List SetChar) (p : SetElement) (x : Segment) (k : SetFaultKind)
      → StartsElement us p rest → segment role has_fill p ≡ Ok x → FirstFault role (has_fill || is_fill (Ok x)) rest k
      → FirstFault role has_fill us k

-- a string is rejected with the fault of its first faulty element
abbrev pub FirstFaultIsReported : Type 0
FirstFaultIsReported = (role : SetRole) (b : ℕ) (text : List ℕ) (k : SetFaultKind)
    → FirstFault role false (chars (b ∷ text)) k ↔ (read_string role (b ∷ text) ≡ Err k)

-- a string is read as it is in steps: as the segments of the elements of its characters
abbrev pub ReadInSteps : Type 0
ReadInSteps = (role : SetRole) (text : List ℕ) → read_string role text ≡ string_segments role text

-- ---- the plan

-- reading a string never fails for lack of memory
abbrev pub NoMemoryFault : Type 0
NoMemoryFault = (form : Form) (complement : Bool) (s1 : List ℕ) (s2 : Option (List ℕ)) (fault : SetFault)
    → plan form complement s1 s2 ≡ Err fault → fault.kind ≢ Memory
