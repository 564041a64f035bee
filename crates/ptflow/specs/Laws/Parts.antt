-- Laws of the output for a text that is cut into two parts: where the cut has to be, so that the output of `cut`,
-- `tr`, `uniq` or `paste` is that for each part, one after the other. For `tr` also what happens elsewhere, and for
-- `uniq` the output for lines that are chosen by their keys.
use Rattle.std.specs.Prelude.{◌≡◌, ◌≢◌, ◌⊎◌, ◌≤◌, ◌<◌, ◌*◌, ℕ, Bool, true, false, List, [], ◌∷◌, ◌++◌, length, filter}
use Rattle.std.specs.List.{AllByRecursion}
use Rattle.ptflow.specs.Cuts.{cut}
use Rattle.ptflow.specs.PasteText.{paste, uses_of}
use Rattle.ptflow.specs.TrOutput.{tr}
use Rattle.ptflow.specs.Uniqs.{Run, key, output_of, runs, uniq}
use Rattle.ptlangs.specs.Jobs.{Cut, Paste, Uniq}
use Rattle.ptlangs.specs.TrPlan.{ByteMap}
use Rattle.ptlines.specs.Laws.Parts.{HasOnlyCompleteLines}
use Rattle.ptlines.specs.Text.{lines, unlines}

-- the list begins with this item
abbrev pub BeginsWith : {X : Type 0} → X → List X → Type 0
BeginsWith {X} x xs = (rest : List X) × (xs ≡ x ∷ rest)

-- the list ends with this item
abbrev pub EndsWith : {X : Type 0} → X → List X → Type 0
EndsWith {X} x xs = (front : List X) × (xs ≡ front ++ x ∷ [])

-- ---- cut: after any terminator

-- If the first part is complete lines, the output for both is the output for each, one after the other.
abbrev pub CutOfParts : Type 0
CutOfParts = (job : Cut) (a b : List ℕ) → HasOnlyCompleteLines job.terminator a
    → cut job (a ++ b) ≡ cut job a ++ cut job b

-- ---- tr: anywhere but between two equal bytes that are squeezed

-- no byte is squeezed
abbrev pub SqueezesNone : ByteMap → Type 0
SqueezesNone m = (byte : ℕ) → m.squeezes byte ≡ false

-- If nothing is squeezed, the output for both parts is the output for each, one after the other.
abbrev pub TrOfAnyParts : Type 0
TrOfAnyParts = (m : ByteMap) (a b : List ℕ) → SqueezesNone m → tr m (a ++ b) ≡ tr m a ++ tr m b

-- if the output for one part ends with the byte with which that for the other begins, that byte is not squeezed
abbrev pub MeetUnsqueezed : ByteMap → List ℕ → List ℕ → Type 0
MeetUnsqueezed m a b = (byte : ℕ) → EndsWith byte (tr m a) → BeginsWith byte (tr m b)
    → m.squeezes byte ≡ false

-- If the outputs do not meet in a squeezed byte, the output for both is that for each, one after the other.
abbrev pub TrOfParts : Type 0
TrOfParts = (m : ByteMap) (a b : List ℕ) → MeetUnsqueezed m a b
    → tr m (a ++ b) ≡ tr m a ++ tr m b

-- the cut is after a byte that is not deleted and whose image is not squeezed
abbrev pub TrAfterByte : Type 0
TrAfterByte = (m : ByteMap) (byte : ℕ) (a b : List ℕ) → EndsWith byte a → m.deletes byte ≡ false
    → m.squeezes (m.image byte) ≡ false
    → tr m (a ++ b) ≡ tr m a ++ tr m b

-- if the outputs for both parts have the same squeezed byte at the cut, it is written once
abbrev pub TrMeetsTwice : Type 0
TrMeetsTwice = (m : ByteMap) (byte : ℕ) (a b rest : List ℕ) → m.squeezes byte ≡ true
    → EndsWith byte (tr m a) → tr m b ≡ byte ∷ rest
    → tr m (a ++ b) ≡ tr m a ++ rest

-- ---- uniq: after a line whose key differs from that of the next one

-- the last line of one part and the first line of the other have different keys
abbrev pub KeysChange : Uniq → List ℕ → List ℕ → Type 0
KeysChange job a b = (last first : List ℕ) → EndsWith last (lines job.terminator a)
    → BeginsWith first (lines job.terminator b) → key job last ≢ key job first

-- If the cut is after a complete line and between two keys, the output for both is that for each.
abbrev pub UniqOfParts : Type 0
UniqOfParts = (job : Uniq) (a b : List ℕ) → HasOnlyCompleteLines job.terminator a → KeysChange job a b
    → uniq job (a ++ b) ≡ uniq job a ++ uniq job b

-- Equal keys are adjacent, as in a sorted text: each line has the key of the next one, or its key does not occur again.
abbrev pub HasGroupedKeys : Uniq → List (List ℕ) → Type 0
HasGroupedKeys job [] = Unit {0}
HasGroupedKeys job (line ∷ more) =
    (((next : List ℕ) × BeginsWith next more × (key job line ≡ key job next))
    ⊎ AllByRecursion (λ other. key job line ≢ key job other) more)
    × HasGroupedKeys job more

-- the output for the lines with some keys is the output of the runs with these keys
abbrev pub UniqByKey : Type 0
UniqByKey = (job : Uniq) (taken : List ℕ → Bool) (bytes : List ℕ) → let ls = lines job.terminator bytes in
    HasGroupedKeys job ls
    → uniq job (unlines job.terminator (filter (λ line. taken (key job line)) ls))
    ≡ output_of job (filter (λ (run : Run). taken (key job run.line)) (runs job ls))

-- ---- paste without -s: after the same row in all inputs

-- The first part of an input that is named by `cells` operands has the lines of `rows` rows: that many, all complete;
-- or at most that many, and the second part is empty.
abbrev pub IsRowSplit : ℕ → ℕ → ℕ → List ℕ → List ℕ → Type 0
IsRowSplit end rows cells a b =
    (HasOnlyCompleteLines end a × (length (lines end a) ≡ rows * cells))
    ⊎ ((b ≡ []) × (length (lines end a) ≤ rows * cells))

-- If each input is cut after the same row, the output for both parts is that for each. Inputs are given by their index.
abbrev pub PasteOfParts : Type 0
PasteOfParts = (job : Paste) (cells : List ℕ) (rows : ℕ) (a b : ℕ → List ℕ)
    → ((place : ℕ) → 0 < uses_of cells place → IsRowSplit job.terminator rows (uses_of cells place) (a place) (b place))
    → paste job cells (λ place. a place ++ b place) ≡ paste job cells a ++ paste job cells b
