-- A merge of two lists of lines by their keys: its output lines, the first line that is not in order, and the output
-- lines that do not depend on lines that are still unread.
use Rattle.std.specs.Prelude.{ℕ, ◌+◌, ◌*◌, ◌&&◌, ◌||◌, cond, List, [], ◌∷◌, ◌++◌, length, map, filter, Option, Some, None}
use Rattle.std.specs.Prelude.{is_some, Bool, true, false, nat_lt, bytes_eq, if◌then◌else◌, unwrap_or}
use Rattle.std.specs.List.{flat_map, last_or}
use Rattle.std.specs.Ordering.{match_ordering, is_lt, is_gt, is_le}
use Rattle.ptlines.specs.ByteOrder.{Cmp}
use Rattle.ptlines.specs.Text.{max_line_length}
use Rattle.ptmerge.specs.Orders.{Key}
use Rattle.ptmerge.specs.declared.key_order.Side.{Side}
use Rattle.ptmerge.specs.declared.key_order.Side.TheVariants.{First, Second}

-- A list of lines.
abbrev pub Lines : Type 0
Lines = List (List ℕ)

-- ---- output by key

-- A key inserted into a sorted list of keys, unless it is already there.
abbrev pub insert_key : Cmp → List ℕ → Lines → Lines
insert_key cmp k [] = k ∷ []
insert_key cmp k (x ∷ xs) = match_ordering (cmp k x) (k ∷ x ∷ xs) (x ∷ xs) (x ∷ insert_key cmp k xs)

-- The distinct keys, sorted.
abbrev pub distinct_keys : Cmp → Lines → Lines
distinct_keys cmp [] = []
distinct_keys cmp (k ∷ ks) = insert_key cmp k (distinct_keys cmp ks)

-- The lines with the key `k`, in their order.
abbrev pub lines_with_key : Key → Lines → List ℕ → Lines
lines_with_key key ls k = filter (λ line. bytes_eq (key line) k) ls

-- The output lines for a key, given the lines with this key in the two lists.
abbrev pub Entries : Type 0
Entries = List ℕ → Lines → Lines → Lines

-- The output lines for each distinct key of two lists that is `wanted`, in the order of the keys.
abbrev pub entries_of_keys : Cmp → Key → Key → Entries → (List ℕ → Bool) → Lines → Lines → Lines
entries_of_keys cmp key1 key2 entries wanted ls1 ls2 =
    flat_map (λ k. entries k (lines_with_key key1 ls1 k) (lines_with_key key2 ls2 k))
    (filter wanted (distinct_keys cmp (map key1 ls1 ++ map key2 ls2)))

-- ---- lines out of order

-- The longest prefix that is in order.
abbrev pub sorted_prefix : Cmp → Key → Lines → Lines
sorted_prefix cmp key [] = []
sorted_prefix cmp key (x ∷ []) = x ∷ []
sorted_prefix cmp key (x ∷ y ∷ more) =
    cond (is_gt (cmp (key x) (key y))) (x ∷ []) (x ∷ sorted_prefix cmp key (y ∷ more))

-- The first line that is out of order, counted from 1, and the key of the line before it.
pub record FirstDisorder : Type 0 where
  pub last_key : List ℕ
  pub line : ℕ

-- The first line of a list that is out of order, if there is one.
abbrev pub first_disorder : Cmp → Key → Lines → Option FirstDisorder
first_disorder cmp key ls =
    let part = sorted_prefix cmp key ls in
    if nat_lt (length part) (length ls)
    then Some (record { last_key = unwrap_or (last_or None (map key part)) []; line = length part + 1 })
    else None

-- The input that is out of order, and its first line that is.
pub record MergeDisorder : Type 0 where
  pub file : Side
  pub first_disorder : FirstDisorder

-- The disorder that is reported: that of the input whose last key in order is less, or of the first input if these keys
-- are equal.
abbrev pub earlier_disorder : Cmp → Option FirstDisorder → Option FirstDisorder → Option MergeDisorder
earlier_disorder cmp None None = None
earlier_disorder cmp None (Some b) = Some (record { file = Second; first_disorder = b })
earlier_disorder cmp (Some a) None = Some (record { file = First; first_disorder = a })
earlier_disorder cmp (Some a) (Some b) =
    if is_lt (cmp b.last_key a.last_key)
    then Some (record { file = Second; first_disorder = b })
    else Some (record { file = First; first_disorder = a })

-- The key is at most the last key in order before the reported disorder.
abbrev pub is_up_to : Cmp → Option MergeDisorder → List ℕ → Bool
is_up_to cmp None k = true
is_up_to cmp (Some d) k = is_le (cmp k d.first_disorder.last_key)

-- The disorder that is reported for two lists, if one of them is not sorted.
abbrev pub reported_disorder : Cmp → Key → Key → Lines → Lines → Option MergeDisorder
reported_disorder cmp key1 key2 ls1 ls2 = earlier_disorder cmp (first_disorder cmp key1 ls1) (first_disorder cmp key2 ls2)

-- The input that is out of order, and the number of its line.
abbrev pub disordered_line : MergeDisorder → Side × ℕ
disordered_line d = (d.file, d.first_disorder.line)

-- ---- the output

-- The output lines of a merge of two lists: for each distinct key of both, in order, the entries for the lines that have
-- it. If a list is not in order, only for the keys up to the reported disorder.
abbrev pub merged : Cmp → Key → Key → Entries → Lines → Lines → Lines
merged cmp key1 key2 entries ls1 ls2 =
    entries_of_keys cmp key1 key2 entries (is_up_to cmp (reported_disorder cmp key1 key2 ls1 ls2))
    (sorted_prefix cmp key1 ls1) (sorted_prefix cmp key2 ls2)

-- The bytes of two longest lines of each of two texts.
abbrev pub two_lines_of_each : ℕ → List ℕ → List ℕ → ℕ
two_lines_of_each terminator first second =
    2 * max_line_length terminator first + 2 * max_line_length terminator second

-- ---- the output that is already decided

-- The key is less than the key of the last line.
abbrev pub is_below : Cmp → List ℕ → Option (List ℕ) → Bool
is_below cmp k None = false
is_below cmp k (Some last) = is_lt (cmp k last)

-- After the complete lines `ls`, no further line of the input can have the key `k`: a later key is known, or the input
-- has ended or is out of order.
abbrev pub is_past : Cmp → Key → Bool → Lines → List ℕ → Bool
is_past cmp key eof ls k =
    if eof || is_some (first_disorder cmp key ls) then true else is_below cmp k (last_or None (map key ls))

-- The output for the key is decided: no further line of either input can change it.
abbrev pub is_key_decided : Cmp → Key → Key → Bool → Lines → Bool → Lines → List ℕ → Bool
is_key_decided cmp key1 key2 eof1 ls1 eof2 ls2 k =
    is_up_to cmp (reported_disorder cmp key1 key2 ls1 ls2) k && is_past cmp key1 eof1 ls1 k
    && is_past cmp key2 eof2 ls2 k

-- The output lines that are decided by the complete lines received so far, and by which inputs have ended.
abbrev pub merged_so_far : Cmp → Key → Key → Entries → Bool → Lines → Bool → Lines → Lines
merged_so_far cmp key1 key2 entries eof1 ls1 eof2 ls2 =
    entries_of_keys cmp key1 key2 entries (is_key_decided cmp key1 key2 eof1 ls1 eof2 ls2)
    (sorted_prefix cmp key1 ls1) (sorted_prefix cmp key2 ls2)
