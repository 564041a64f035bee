-- The lines that were read of an input, and how they lie in the slots of a store. A slot changes only if its own input
-- reads, so two lines of each input, none longer than its longest line, bound the bytes stored.
use Rattle.ptmerge.proofs
use Rattle.std.proofs.lemmas
pub use proofs.Common.{◌≡◌, ◌⊎◌, ℕ, ◌+◌, ◌<◌, ◌≤◌, true, false, List, [], ◌∷◌, ◌++◌, length, max, refl, ◌∙◌, arith}
pub use proofs.Common.{append_assoc, length-append, append-nil, Received, IsConsistent, known_lines, Reader, Slots}
pub use proofs.Common.{unlines, lines, complete_lines, IsLine, AreLines, max_length, advance_ok_trans, HasNoLine, usual}
pub use proofs.Common.{IsFirstLineAndBlock, ◌≢◌, zero, suc, ◌*◌, get_or, set, line, total_bytes, with_new_slot}
pub use proofs.Common.{with_line, Side, First, Second, Sorted, HasSlots, Bool, both, with_side, other, length-set}
pub use proofs.Common.{Lines, MergeTool, drop, sym}
pub use Rattle.ptlines.proofs.MaxLength.{max_length-append, piece_le_max_length}
pub use Rattle.std.proofs.Common.{rules}
use Rattle.ptlines.proofs.TextLaws.{AreLines_push, complete_lines_cons, complete_lines_none, lines_of_last}
use Rattle.ptlines.proofs.TextLaws.{lines_of_unlines}
use lemmas.List.{drop-set-lt}
pub use Rattle.ptlines.proofs.Received.{received_with}
pub use Rattle.ptlines.proofs.TextLaws.{unlines_push}
pub use Rattle.ptlines.specs.Calls.ReadLine.{FillLine}
pub use Rattle.ptlines.specs.Calls.Readers.{AdvanceOk, IsSound, ReaderAdvance}
pub use Rattle.ptlines.specs.Readers.{IsDone}
pub use Rattle.ptmerge.specs.Calls.MergeSlots.{EnsureFourSlotsPost}
pub use Rattle.ptmerge.specs.Private.MergeSlots.{ClearFourSlotsPost}

-- ---- lines that were read

-- The bytes received are the lines read so far, and all but the last have their terminator. So every input that begins
-- with these bytes begins with these lines.

ended_more : (end : ℕ) (ls : Lines) (bytes : List ℕ) → AreLines end ls
    → complete_lines end (unlines end ls ++ bytes) ≡ ls ++ complete_lines end bytes
ended_more end [] bytes w = refl
ended_more end (line ∷ ls) bytes (free, more) = grind (usual, complete_lines_cons, ended_more end ls bytes more)

-- `ls` are the lines of `given`: all have their terminator, or the last one lacks it at the end of the source
abbrev pub IsReadAs : ℕ → List ℕ → Lines → Reader → Type 0
IsReadAs end given ls now = ((given ≡ unlines end ls) × AreLines end ls) ⊎ ((lines end given ≡ ls) × IsDone now)

pub record LinesRead (end : ℕ) (old now : Reader) (ls : Lines) : Type 0 where
  pub given : List ℕ
  pub so_far : IsReadAs end given ls now
  pub advance_ok : AdvanceOk old now given
  pub terminator : now.terminator ≡ end

pub record GivesNothing (new : Reader) (bytes : List ℕ) : Type 0 where
  pub bytes_are : bytes ≡ []
  pub buffered : new.buffered ≡ []
  pub eof : new.eof ≡ true

done_gives_nothing : {now new : Reader} {bytes : List ℕ} → IsDone now → ReaderAdvance now new bytes
    → GivesNothing new bytes
done_gives_nothing = grind usual

abbrev pub HasBegun : Reader → Lines → Type 0
HasBegun now ls = IsDone now ⊎ (0 < length ls)

pub one_line_at_most : (end : ℕ) (piece : List ℕ) → IsLine end piece → length (lines end piece) ≤ 1
one_line_at_most end [] free = omega arith
one_line_at_most end _ free = grind (usual, lines_of_last)

pub lines_read_more : {end : ℕ} {old now new : Reader} {ls : Lines} {before after : Slots} {slot : ℕ}
    → LinesRead end old now ls → (e : FillLine now new before after slot) → LinesRead end old new (ls ++ e.line ∷ [])
lines_read_more {end} {old} {now} {new} c e =
    record {
      given = c.given ++ (e.line ++ e.terminator);
      so_far = search (rules, unlines_push, AreLines_push, lines_of_unlines, lines_of_last, append-nil, length-append);
      advance_ok = advance_ok_trans old now new _ _ c.advance_ok e.advance_ok;
      terminator = grind arith;
    }

pub record Continues (now : Reader) (ls all : Lines) : Type 0 where
  pub more : Lines
  pub is : all ≡ ls ++ more
  pub done : IsDone now → more ≡ []

-- no line of `ls`, nor this piece of a further line, is longer than the longest line of `all`
pub record HoldsLines (now : Reader) (ls : Lines) (piece : List ℕ) (all : Lines) : Type 0 where
  pub continues : Continues now ls all
  pub longest : max (max_length ls) (length piece) ≤ max_length all

module _ {end : ℕ} {old now new : Reader} {ls : Lines} {piece : List ℕ} (c : LinesRead end old now ls)
    (reads : ReaderAdvance now new piece) (line : IsLine now.terminator piece) where
  abbrev came : Received
  came = received_with (c.given ++ piece) new

  free : IsLine end piece
  free = rw c.terminator at line

  front_of : c.given ≡ unlines end ls → (rest : List ℕ)
      → ((c.given ++ piece) ++ new.buffered) ++ rest ≡ unlines end ls ++ (piece ++ (new.buffered ++ rest))
  front_of is _ = rw is (simp append_assoc)

  pub lines_read_of_input : (input : List ℕ) → IsConsistent came input → HoldsLines now ls piece (lines end input)
  lines_read_of_input = search (
    rules,
    front_of,
    lines_of_unlines,
    done_gives_nothing,
    max_length-append,
    piece_le_max_length,
  )

  -- the lines that are known to be complete: `ls` and, if a read failed, no more
  pub record KnownLines (ws : Lines) : Type 0 where
    pub known : Continues now ls ws
    pub exact : new.buffered ≡ [] → new.eof ≡ false → ws ≡ ls

  pub lines_read_known : KnownLines (known_lines end came)
  lines_read_known = grind (usual, lines_read_of_input, front_of, ended_more, complete_lines_none, append-nil)

  pub begun_gives_line : HasBegun now ls → ¬ HasNoLine end came
  begun_gives_line begun none =
      grind (usual, complete_lines_none end _ none.unterminated, length-append ls lines_read_known.known.more)

  pub one_line_and_block : IsSound new → length ls + length (lines end piece) ≤ 1 → IsFirstLineAndBlock end came
  one_line_and_block = search (rules, lines_of_unlines, length-append, done_gives_nothing)

-- ---- a function of the side

pub put_both : {X Y : Type 0} (P : Side → X → Y → Type 0) (s : Side) (x : X) (f : Side → X) (y : Y) (g : Side → Y)
    → P s x y → P (other s) (f (other s)) (g (other s))
    → (side : Side) → P side (with_side s x f side) (with_side s y g side)
put_both P s x f y g p q _ = grind (arith, q)

module _ {X : Type 0} (P : Side → X → Type 0) where
  pub put_each : (s : Side) (x : X) (f : Side → X) → P s x → ((side : Side) → P side (f side)) → (side : Side)
      → P side (with_side s x f side)
  put_each = search rules

pub put_same : {X : Type 0} (s : Side) (x : X) (f : Side → X) → with_side s x f s ≡ x
put_same = grind arith

pub put_other : {X : Type 0} (s : Side) (x : X) (f : Side → X) → with_side s x f (other s) ≡ f (other s)
put_other = grind arith

pub side_case : (Q : Side → Type 0) (s : Side) → Q s → Q (other s) → (side : Side) → Q side
side_case = grind arith

-- ---- the slots

pub record AreLow (cursor : Sorted) : Type 0 where
  pub current : cursor.current_slot < 4
  pub previous : cursor.previous_slot < 4
  pub apart : cursor.current_slot ≢ cursor.previous_slot

pub low_slot : (s : Side) (cursor : Sorted) → HasSlots s cursor → AreLow cursor
low_slot = grind arith

pub slots_apart : (s : Side) (a c : Sorted) → HasSlots s a → HasSlots (other s) c
    → (a.previous_slot ≢ c.current_slot) × (a.previous_slot ≢ c.previous_slot)
slots_apart = grind arith

pub line_other : (s : Slots) (a b : ℕ) (bytes : List ℕ) → a ≢ b → line (with_line s a bytes) b ≡ line s b
line_other = search rules

added_same : (xs : Lines) (i : ℕ) → get_or (xs ++ [] ∷ []) i [] ≡ get_or xs i []
added_same (x ∷ xs) (suc i) = added_same xs i
added_same _ i = grind arith

pub line_added : (s : Slots) (slot : ℕ) → line (with_new_slot s) slot ≡ line s slot
line_added s slot = added_same s.lines slot

-- Two lines of each input, of at most `m` bytes each, and `more` bytes in the other slots.
abbrev pub HasLines : (Side → ℕ) → ℕ → Lines → Type 0
HasLines m more (a ∷ b ∷ c ∷ d ∷ rest) =
    (length a ≤ m First) × (length b ≤ m First) × (length c ≤ m Second) × (length d ≤ m Second)
    × (total_bytes rest ≡ more)
HasLines m more few = ⊥

four_total : (a b c d : List ℕ) (rest : Lines)
    → total_bytes (a ∷ b ∷ c ∷ d ∷ rest) ≡ ((length a + length b) + length c) + length d + total_bytes rest
four_total = grind usual

pub record LinesTotal (xs : Lines) (m : Side → ℕ) (more : ℕ) : Type 0 where
  pub four : 4 ≤ length xs
  pub most : total_bytes xs ≤ 2 * m First + 2 * m Second + more
  pub is : total_bytes xs ≡ ((length (get_or xs 0 []) + length (get_or xs 1 [])) + length (get_or xs 2 [])) + length
      (get_or xs 3 []) + more

pub has_lines_total : (xs : Lines) (m : Side → ℕ) (more : ℕ) → HasLines m more xs → LinesTotal xs m more
has_lines_total = grind (arith, four_total)

set_line : (s : Side) (cursor : Sorted) (xs : Lines) (m k : Side → ℕ) (more : ℕ) (x : List ℕ)
    → HasSlots s cursor → HasLines m more xs → ((side : Side) → m side ≤ k side) → length x ≤ k s
    → HasLines k more (set xs cursor.previous_slot x)
set_line = search rules

-- ---- the store of a tool

pub record Extends (was now : Lines) : Type 0 where
  pub more : Lines
  pub is : now ≡ was ++ more

abbrev pub AllExtend : (Side → Lines) → (Side → Lines) → Type 0
AllExtend was now = (side : Side) → Extends (was side) (now side)

pub extends_itself : (ls : Lines) → Extends ls ls
extends_itself ls = record { more = []; is = sym (append-nil ls) }

pub extends_on : {a b c : Lines} → Extends a b → Extends b c → Extends a c
extends_on = grind (arith, append_assoc)

pub longer : {was now : Lines} → Extends was now → max_length was ≤ max_length now
longer = grind (arith, max_length-append)

pub side_extends : (s : Side) (ls : Side → Lines) {now : Lines} → Extends (ls s) now → AllExtend ls (with_side s now ls)
side_extends = search (rules, put_each)

abbrev pub HasRoom : MergeTool → Lines → (Side → Lines) → Type 0
HasRoom tool g ls = (2 * max_length (ls First) + 2 * max_length (ls Second) + total_bytes g ≤ tool.size ls)
    × (4 + length g ≤ tool.slots ls)

-- the peak and the slots stay within the measure of these lines; the first four slots and the earlier ones are there
abbrev pub FitsIn : MergeTool → Slots → Slots → (Side → Lines) → Type 0
FitsIn tool before after ls =
    (after.peak ≤ max before.peak (tool.size ls)) × (length after.lines ≤ max (length before.lines) (tool.slots ls))
    × (max (length before.lines) 4 ≤ length after.lines)

-- Two lines of each input, and then the lines `g` of a group, within the measure for all lines that the inputs may
-- continue with.
pub record GroupStore (tool : MergeTool) (before store : Slots) (ls : Side → Lines) (g : Lines) : Type 0 where
  pub tail : Lines
  pub split : drop 4 store.lines ≡ g ++ tail
  pub empty : total_bytes tail ≡ 0
  pub lines : HasLines (λ side. max_length (ls side)) (total_bytes g) store.lines
  pub room : (all : Side → Lines) → AllExtend ls all → HasRoom tool g all
  pub fits : (all : Side → Lines) → AllExtend ls all → FitsIn tool before store all
  pub four : 4 ≤ length store.lines
  pub denied : store.denied ≡ false

pub store_starts : {tool : MergeTool} {before store : Slots} → ((ls : Side → Lines) → HasRoom tool [] ls)
    → EnsureFourSlotsPost before store → before.denied ≡ false → total_bytes before.lines ≡ 0
    → GroupStore tool before store (λ side. []) []
store_starts = grind (arith, four_total)

pub total_within : (tool : MergeTool) {ls all : Side → Lines} (g xs : Lines)
    → HasLines (λ side. max_length (ls side)) (total_bytes g) xs → AllExtend ls all → HasRoom tool g all
    → total_bytes xs ≤ tool.size all
total_within = grind (arith, has_lines_total, longer)

pub group_store_line : {tool : MergeTool} {before store after : Slots} {ls now : Side → Lines} {g : Lines} (s : Side)
    (cursor : Sorted) → HasSlots s cursor → (x : List ℕ) → GroupStore tool before store ls g → AllExtend ls now
    → length x ≤ max_length (now s) → after ≡ with_line store cursor.previous_slot x
    → GroupStore tool before after now g
group_store_line {tool} {store = store} {ls = ls} {now} {g} s cursor slots x k up fit is =
    let inside = set_line s cursor store.lines (λ side. max_length (ls side)) (λ side. max_length (now side))
    (total_bytes g) x slots k.lines (λ side. longer (up side)) fit in
    let on = λ (all : Side → Lines) (more : AllExtend now all) (side : Side). extends_on (up side) (more side) in
    let size = length-set store.lines cursor.previous_slot x in
    rw is (record {
      tail = k.tail;
      split = drop-set-lt 4 store.lines cursor.previous_slot x (low_slot s cursor slots).previous ∙ k.split;
      empty = k.empty;
      lines = inside;
      room = λ all more. k.room all (on all more);
      fits = λ all more. let most = total_within tool g _ inside more (k.room all (on all more)) in
          omega (arith, k.fits all (on all more), size);
      four = omega arith;
      denied = k.denied;
    })

cleared : (lines : Lines) (peak : ℕ) (denied : Bool) → 4 ≤ length lines
    → let s : Slots = record { lines = lines; peak = peak; denied = denied } in
    ClearFourSlotsPost s (with_line (with_line (with_line (with_line s 0 []) 1 []) 2 []) 3 [])
cleared (a ∷ b ∷ c ∷ d ∷ rest) peak denied four = search (rules, four_total)
cleared few peak denied four = absurd (omega arith)

pub four_cleared : (s a b c d : Slots) → 4 ≤ length s.lines → a ≡ with_line s 0 [] → b ≡ with_line a 1 []
    → c ≡ with_line b 2 [] → d ≡ with_line c 3 [] → ClearFourSlotsPost s d
four_cleared s a b c d four is0 is1 is2 is3 = rw (is3, is2, is1, is0) (cleared _ _ _ four)
