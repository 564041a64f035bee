-- A merge of two inputs by the keys of their lines: its output, and the disorder that is reported.
use Rattle.std.specs.Prelude.{ℕ, ◌+◌, ◌&&◌, ◌||◌, Bool, false, true, List, [], ◌++◌, length, map, filter, nat_lt}
use Rattle.std.specs.Prelude.{Option, Some, None, is_some, unwrap_or, if◌then◌else◌}
use Rattle.std.specs.List.{flat_map, last_or}
use Rattle.std.specs.Option.{option_map_or}
use Rattle.std.specs.Ordering.{is_le, is_lt}
use Rattle.ptlines.specs.ByteOrder.{Cmp}
use Rattle.ptlines.specs.Received.{Received}
use Rattle.ptlines.specs.Text.{unlines}
use Rattle.ptmerge.specs.MergeSpec.{Lines, distinct_keys, lines_with_key, sorted_prefix}
use Rattle.ptmerge.specs.Orders.{Key}
use Rattle.ptmerge.specs.declared.key_order.Side.{Side}
use Rattle.ptmerge.specs.declared.key_order.Side.TheVariants.{First, Second}
use Rattle.ptrun.specs.Lines.{known_lines}

-- A merge is given by the byte that ends a line, the order of keys, the key of a line of each input, and the output
-- lines for a key, given the lines with this key in both inputs.
pub record Merge : Type 0 where
  pub end : ℕ
  pub cmp : Cmp
  pub key : Side → Key
  pub entries : List ℕ → Lines → Lines → Lines

-- An input that is out of order: which one, its last key in order, and the number of the line after that, from 1.
pub record Disorder : Type 0 where
  pub file : Side
  pub last_key : List ℕ
  pub line : ℕ

-- The disorder of an input with these lines, if they are out of order.
abbrev pub disorder_in : Merge → Side → Lines → Option Disorder
disorder_in m file ls = let sorted = sorted_prefix m.cmp (m.key file) ls in
    let last = unwrap_or (last_or None (map (m.key file) sorted)) [] in
    if nat_lt (length sorted) (length ls)
    then Some (record { file = file; last_key = last; line = length sorted + 1 }) else None

-- The one with the lesser last key, or else the first.
abbrev pub reported : Cmp → Option Disorder → Option Disorder → Option Disorder
reported cmp None b = b
reported cmp (Some a) None = Some a
reported cmp (Some a) (Some b) = if is_lt (cmp b.last_key a.last_key) then Some b else Some a

-- The disorder that is reported, by what was received of both.
abbrev pub disorder_of : Merge → (Side → Received) → Option Disorder
disorder_of m given = let found : Side → Option Disorder = λ side. disorder_in m side (known_lines m.end (given side)) in
    reported m.cmp (found First) (found Second)

-- No line to come has this key: the end is reached, or a line has a later key; or there is a disorder, after which no
-- more lines of that input are used.
abbrev pub is_final : Merge → Side → Received → List ℕ → Bool
is_final m file given k = let ls = known_lines m.end given in given.eof || is_some (disorder_in m file ls)
    || option_map_or (λ line. is_lt (m.cmp k (m.key file line))) (last_or None ls) false

-- The output: the entries of each key that is final in both inputs, in the order of the keys; those after the last key
-- in order of the disorder that is reported are left out.
abbrev pub merged : Merge → (Side → Received) → List ℕ
merged m given =
    let sorted : Side → Lines = λ side. sorted_prefix m.cmp (m.key side) (known_lines m.end (given side)) in
    let with_key : Side → List ℕ → Lines = λ side. lines_with_key (m.key side) (sorted side) in
    let keys = distinct_keys m.cmp (map (m.key First) (sorted First) ++ map (m.key Second) (sorted Second)) in
    let stop = disorder_of m given in
    let is_before : List ℕ → Bool = λ k. option_map_or (λ (d : Disorder). is_le (m.cmp k d.last_key)) stop true in
    unlines m.end (flat_map (λ k. m.entries k (with_key First k) (with_key Second k))
    (filter (λ k. is_before k && is_final m First (given First) k && is_final m Second (given Second) k) keys))
