-- The merge of the lines of two blocks: keys in order, what it requires of a tool, the lines passed in the block of one
-- input, and the contracts of a step and of the whole merge of both, or of one after the end of the other input. `head`
-- is the current line of an input, and `rest` the bytes of its block after this line.
use Rattle.std.specs.Prelude.{◌≡◌, ◌⊎◌, ℕ, suc, ◌+◌, ◌≤◌, List, [], ◌∷◌, ◌++◌, length, map, take}
use Rattle.std.specs.Prelude.{Bool, true, false, Option, Some, None}
use Rattle.std.specs.List.{flat_map}
use Rattle.std.specs.Ordering.{is_eq, is_gt}
use Rattle.ptlines.specs.Calls.Outputs.{Output, PushEffect}
use Rattle.ptlines.specs.Calls.Text.{IsLine}
use Rattle.ptlines.specs.Laws.Text.{AreLines}
use Rattle.ptlines.specs.Text.{complete_lines, unlines}
use Rattle.ptlines.specs.ByteOrder.{Cmp}
use Rattle.ptlines.specs.declared.sizes.TheConstants.{BLOCK}
use Rattle.ptmerge.specs.Calls.MergeSpec.{MergeTool, entries_by_key, entries_of_key}
use Rattle.ptmerge.specs.Calls.Sides.{both, with_side}
use Rattle.ptmerge.specs.MergeSpec.{Entries, Lines, lines_with_key}
use Rattle.ptmerge.specs.Orders.{Key}
use Rattle.ptmerge.specs.declared.key_order.Side.{Side}
use Rattle.ptmerge.specs.declared.key_order.Side.TheVariants.{First, Second}
use Rattle.ptmerge.specs.declared.merging.block_lines.BlockLine.{BlockLine}
use Rattle.ptmerge.specs.declared.merging.block_lines.BlockRun.{BlockRun}
use Rattle.ptmerge.specs.declared.merging.block_lines.KeyLines.{KeyLines}
use Rattle.ptmerge.specs.declared.merging.block_lines.WholeKey.{WholeKey}
use Rattle.ptmerge.specs.declared.merging.cursor.Reached.{Reached}

-- ---- keys in order

-- The key `a` is at most the key `b`.
abbrev pub AtMost : Cmp → List ℕ → List ℕ → Type 0
AtMost cmp a b = is_gt (cmp a b) ≡ false

-- Each of these keys has the property.
abbrev pub Each : (List ℕ → Type 0) → Lines → Type 0
Each P [] = Unit {0}
Each P (x ∷ xs) = P x × Each P xs

-- The key of each line is `k`.
abbrev pub HaveKey : Key → List ℕ → Lines → Type 0
HaveKey key k xs = Each (λ x. x ≡ k) (map key xs)

-- The key of each line has the property.
abbrev pub EachKey : (List ℕ → Type 0) → Key → Lines → Type 0
EachKey P key xs = Each P (map key xs)

-- The key is out of order after the key `last`, if there is one.
abbrev pub is_disordered : Cmp → Option (List ℕ) → List ℕ → Bool
is_disordered cmp None k = false
is_disordered cmp (Some l) k = is_gt (cmp l k)

-- No line is out of order after the one before it. Before the first there was the key `last`.
abbrev pub IsSortedFrom : Cmp → Key → Option (List ℕ) → Lines → Type 0
IsSortedFrom cmp key last [] = Unit {0}
IsSortedFrom cmp key last (x ∷ xs) = (is_disordered cmp last (key x) ≡ false) × IsSortedFrom cmp key (Some (key x)) xs

-- ---- the tool

-- The tool in an order of its keys.
abbrev pub in_order : MergeTool → Cmp → (Side → Key) → MergeTool
in_order tool cmp key = record tool { cmp = cmp; key = key }

-- The output lines for a line that one input alone has, which has the key `k`.
abbrev pub entries_alone : Entries → Side → List ℕ → List ℕ → Lines
entries_alone entries First k x = entries k (x ∷ []) []
entries_alone entries Second k x = entries k [] (x ∷ [])

-- The output for a key that one input alone has is that of each line.
pub record IsLineByLine (entries : Entries) : Type 0 where
  pub none : (k : List ℕ) → entries k [] [] ≡ []
  pub first : (k x : List ℕ) (g : Lines) → entries k (x ∷ g) [] ≡ entries k (x ∷ []) [] ++ entries k g []
  pub second : (k x : List ℕ) (g : Lines) → entries k [] (x ∷ g) ≡ entries k [] (x ∷ []) ++ entries k [] g

-- The output for a key is that of a line of each input, and then that of the others.
abbrev pub IsPairByPair : Entries → Type 0
IsPairByPair entries = (k x y : List ℕ) (f g : Lines)
    → entries k (x ∷ f) (y ∷ g) ≡ entries k (x ∷ []) (y ∷ []) ++ entries k f g

-- The output for a line of the first input with each of these lines of the second one.
abbrev pub row : Entries → List ℕ → List ℕ → Lines → Lines
row entries k x g = flat_map (λ y. entries k (x ∷ []) (y ∷ [])) g

-- The output for each of these lines of the first input with each of those of the second one.
abbrev pub rows : Entries → List ℕ → Lines → Lines → Lines
rows entries k f g = flat_map (λ x. row entries k x g) f

-- The output for a key is that of each line of the first input with each line of the second one.
abbrev pub IsEachWithEach : Entries → Type 0
IsEachWithEach entries = (k x y : List ℕ) (f g : Lines)
    → entries k (x ∷ f) (y ∷ g) ≡ rows entries k (x ∷ f) (y ∷ g)

-- The lines of both inputs are merged by the keys of the tool.
pub record IsBlockTool (tool : MergeTool) (key : Side → Key) : Type 0 where
  pub keys : (side : Side) (x : List ℕ) → key side x ≡ tool.key side x
  pub alone : IsLineByLine tool.entries

-- ---- the lines of one input

-- So many lines fit in a block.
abbrev pub IsInBlock : BlockLine → Type 0
IsInBlock line = line.passed + length line.rest.now ≤ BLOCK

-- The line has this key.
abbrev pub HasKey : Key → BlockLine → Type 0
HasKey key line = line.key.now ≡ key line.head.now

-- No line was passed yet.
pub record CanMerge (key : Key) (line : BlockLine) : Type 0 where
  pub passed : line.passed ≡ 0
  pub same : line.same ≡ false
  pub in_block : IsInBlock line
  pub key_is : HasKey key line

-- The next line of an input is in its block and in order.
pub record IsNextLine (end : ℕ) (cmp : Cmp) (key : Key) (line next : BlockLine) : Type 0 where
  pub bytes : line.rest.now ≡ next.head.now ++ (end ∷ next.rest.now)
  pub whole : IsLine end next.head.now
  pub ordered : AtMost cmp (key line.head.now) (key next.head.now)
  pub same : next.same ≡ is_eq (cmp (key line.head.now) (key next.head.now))
  pub key_is : HasKey key next
  pub passed : next.passed ≡ line.passed + 1

-- No line was passed.
pub record IsUnmoved (old now : BlockLine) (q : Lines) : Type 0 where
  pub none : q ≡ []
  pub same : now ≡ old

-- The lines `q` were passed, which are the line `old` and then lines of the block.
pub record IsMoved (end : ℕ) (cmp : Cmp) (key : Key) (old now : BlockLine) (q : Lines) : Type 0 where
  pub middle : Lines
  pub lines : q ≡ old.head.now ∷ middle
  pub bytes : old.rest.now ≡ unlines end middle ++ (now.head.now ++ (end ∷ now.rest.now))
  pub whole : AreLines end middle × IsLine end now.head.now
  pub ordered : IsSortedFrom cmp key (Some (key old.head.now)) (middle ++ now.head.now ∷ [])
  pub passed : now.passed ≡ old.passed + suc (length middle)

-- The lines `q` were passed, if any, and none before them.
abbrev pub ArePassed : ℕ → Cmp → Key → BlockLine → BlockLine → Lines → Type 0
ArePassed end cmp key old now q = (old.passed ≡ 0) × (IsUnmoved old now q ⊎ IsMoved end cmp key old now q)

-- The lines `f` were passed, from the line `first` on, and have its key.
pub record IsInKey (end : ℕ) (cmp : Cmp) (key : Key) (first now : BlockLine) (f : Lines) : Type 0 where
  pub passed : IsMoved end cmp key first now f
  pub own : HaveKey key (key first.head.now) f
  pub ordered : AtMost cmp (key first.head.now) (key now.head.now)
  pub same : now.same ≡ is_eq (cmp (key first.head.now) (key now.head.now))
  pub in_block : IsInBlock now
  pub key_is : HasKey key now

-- Lines were passed, from the line `first` on, and have its key.
pub record IsReachedInKey (end : ℕ) (cmp : Cmp) (key : Key) (first now : BlockLine) : Type 0 where
  pub f : Lines
  pub passed : IsInKey end cmp key first now f

-- So many lines of the bytes after the first one.
abbrev pub further_lines : ℕ → KeyLines → Lines
further_lines end g = take g.more (complete_lines end g.rest.now)

-- The first line, and those after it.
abbrev pub key_lines : ℕ → KeyLines → Lines
key_lines end g = g.line.now ∷ further_lines end g

-- These lines, if there are any.
abbrev pub lines_if_any : ℕ → Option KeyLines → Lines
lines_if_any end None = []
lines_if_any end (Some g) = key_lines end g

-- All lines with the key of the line `first`.
pub record IsWholeKey (end : ℕ) (cmp : Cmp) (key : Key) (first : BlockLine) (whole : WholeKey) : Type 0 where
  pub passed : IsInKey end cmp key first whole.after (key_lines end whole.lines)
  pub new : whole.after.same ≡ false

-- Where the input is.
pub record IsReached (line : BlockLine) (reached : Reached) : Type 0 where
  pub passed : reached.passed ≡ line.passed
  pub size : reached.size ≡ length line.head.now
  pub left : reached.left ≡ length line.rest.now

-- ---- the lines of both

-- Each of these lines has a key that is at least that of the input's current line.
abbrev pub MayFollowHeads : MergeTool → (Side → BlockLine) → (Side → Lines) → Type 0
MayFollowHeads tool now r =
    (side : Side) → EachKey (AtMost tool.cmp (tool.key side (now side).head.now)) (tool.key side) (r side)

-- The lines passed come first, whatever follows of keys that are not below the current ones, and were written.
pub record AreMerged (tool : MergeTool) (old now : Side → BlockLine) (was is : Output) : Type 0 where
  pub q : Side → Lines
  pub passed : (side : Side) → ArePassed tool.terminator tool.cmp (tool.key side) (old side) (now side) (q side)
  pub first : (wanted : List ℕ → Bool) (r : Side → Lines) → MayFollowHeads tool now r
      → entries_by_key tool wanted (λ side. q side ++ r side)
      ≡ entries_by_key tool wanted q ++ entries_by_key tool wanted r
  pub under : (of side : Side)
      → EachKey (λ k. AtMost tool.cmp k (tool.key of (now of).head.now)) (tool.key side) (q side)
  pub wrote : PushEffect was is (unlines tool.terminator (entries_by_key tool (λ k. true) q))
  pub clean : is.write_failed ≡ false
  pub in_block : (side : Side) → IsInBlock (now side)
  pub key_is : (side : Side) → HasKey (tool.key side) (now side)

-- The current line is passed, which has the key `k`, and lines with this key after it. Or it stays, with a greater key.
abbrev pub IsPassedOrAbove : MergeTool → Side → List ℕ → BlockLine → BlockLine → Lines → Type 0
IsPassedOrAbove tool side k now next f =
    ((tool.key side now.head.now ≡ k) × IsInKey tool.terminator tool.cmp (tool.key side) now next f)
    ⊎ ((f ≡ []) × (is_gt (tool.cmp (tool.key side now.head.now) k) ≡ true) × (next ≡ now))

-- The current lines with the least key `k` are passed, and were written. They are the lines `f`, and come before
-- further ones with this key.
pub record IsStep (tool : MergeTool) (now next : Side → BlockLine) (was is : Output) : Type 0 where
  pub k : List ℕ
  pub f : Side → Lines
  pub passes : (side : Side) → IsPassedOrAbove tool side k (now side) (next side) (f side)
  pub first : (r : Side → Lines) → MayFollowHeads tool next r
      → tool.entries k (f First ++ lines_with_key (tool.key First) (r First) k)
      (f Second ++ lines_with_key (tool.key Second) (r Second) k)
      ≡ tool.entries k (f First) (f Second) ++ entries_of_key tool r k
  pub wrote : PushEffect was is (unlines tool.terminator (entries_by_key tool (λ k. true) f))

-- The lines are merged, and the write of the last ones failed.
pub record HasFailed (tool : MergeTool) (old : Side → BlockLine) (was is : Output) : Type 0 where
  pub before : Side → BlockLine
  pub now : Side → BlockLine
  pub mid : Output
  pub merged : AreMerged tool old before was mid
  pub step : IsStep tool before now mid is
  pub failed : is.write_failed ≡ true

-- Where both inputs are.
abbrev pub AreReached : (Side → BlockLine) → BlockRun → Type 0
AreReached now run = (side : Side) → IsReached (now side) (both run.first run.second side)

-- The lines of two blocks are merged, up to lines that were not passed.
pub record BlockRunPost (tool : MergeTool) (old : Side → BlockLine) (run : BlockRun) (was is : Output) : Type 0 where
  pub now : Side → BlockLine
  pub reached : AreReached now run
  pub merged : AreMerged tool old now was is

-- ---- the lines of one input, after the end of the other

-- These lines of one input, and none of the other.
abbrev pub only : Side → Lines → Side → Lines
only s q = with_side s q (λ side. [])

-- The lines passed come first, whatever follows of keys that are not below the current one, and were written.
pub record ArePassedAlone (tool : MergeTool) (s : Side) (old now : BlockLine) (was is : Output) : Type 0 where
  pub q : Lines
  pub passed : ArePassed tool.terminator tool.cmp (tool.key s) old now q
  pub first : (wanted : List ℕ → Bool) (r : Lines) → EachKey (AtMost tool.cmp (tool.key s now.head.now)) (tool.key s) r
      → entries_by_key tool wanted (only s (q ++ r))
      ≡ entries_by_key tool wanted (only s q) ++ entries_by_key tool wanted (only s r)
  pub under : EachKey (λ k. AtMost tool.cmp k (tool.key s now.head.now)) (tool.key s) q
  pub wrote : PushEffect was is (unlines tool.terminator (entries_by_key tool (λ k. true) (only s q)))
  pub clean : is.write_failed ≡ false
  pub in_block : IsInBlock now
  pub key_is : HasKey (tool.key s) now

-- The lines are passed, and the write of the last one failed.
pub record HasFailedAlone (tool : MergeTool) (s : Side) (old : BlockLine) (was is : Output) : Type 0 where
  pub before : BlockLine
  pub now : BlockLine
  pub mid : Output
  pub merged : ArePassedAlone tool s old before was mid
  pub next : IsNextLine tool.terminator tool.cmp (tool.key s) before now
  pub wrote : PushEffect mid is
      (unlines tool.terminator (entries_by_key tool (λ k. true) (only s (before.head.now ∷ []))))
  pub failed : is.write_failed ≡ true

-- The lines of a block are passed, up to one that was not.
pub record LineRunPost (tool : MergeTool) (s : Side) (old : BlockLine) (at : Reached) (was is : Output) : Type 0 where
  pub now : BlockLine
  pub reached : IsReached now at
  pub passed : ArePassedAlone tool s old now was is
