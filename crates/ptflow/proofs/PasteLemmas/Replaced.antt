-- Bytes whose terminators are replaced in turn by given texts: of two parts of a text, of 64 bytes, where the
-- terminators are the bits of a mask, and byte by byte. Then the output of `paste -s` from a position on.
use Rattle.ptflow.proofs
use Rattle.ptflow.specs
use proofs.Common.{◌≡◌, ◌≢◌, ℕ, zero, suc, ◌+◌, ◌-◌, ◌%◌, ◌^◌, ◌==◌, ◌<◌, ◌≤◌, Bool, cond, List, [], ◌∷◌, ◌++◌, length}
use proofs.Common.{map, take, drop, get_or, slice_set, refl, sym, ◌∙◌, ap, arith, bit_and, count_by, count_ones, mask_l}
use proofs.Common.{chunk, mod-add-mod, mod-eq_of_lt, take-add, take_at, take-append-drop, take-set-lt, eq-eqb, usual}
use proofs.Common.{set-append_right, drop_more, take_more_set, length-set, is_byte, byte_ne, IsLine, IsNth}
use proofs.Common.{length-take-le, length-chunk, length-put_chunk, take_more_put_chunk, put_chunk, ones-mask_l}
use proofs.Common.{with_replacements, cycle_byte, IsReplacedTo, true, false, Option, append_assoc}
use proofs.Common.{append-nil, append_cancel_right, lines, complete_lines, IsPrefix, Paste, delimiter, join_with_cycle}
use proofs.Common.{paste_serial_decided, row_rest, option_to_list, None, Some, IsFirstByte, line_before_terminator}
use proofs.Common.{mod-lt, take_with_terminator, length-append}
use lib.Count.{count_trailing_zeros}
use proofs.Vectors.NextTerminator.{none_counted}
use Rattle.ptlines.proofs.MatchWindows.{after_set, cleared, without}
use specs.declared.simd.replace.Cycle.{Cycle}
use proofs.Passes.Exits.{line_split, complete_prefix}
use specs.declared.tools.paste.serial.ColumnPos.{ColumnPos}
use specs.Private.Paste.SerialRest.{CopyCellsPost, serial_rest}
use specs.declared.tools.paste.serial.SerialFormat.{SerialFormat}

module _ (end : ℕ) where
  pub counted : (b : ℕ) (bytes : List ℕ) {t : Bool} → (b == end) ≡ t
      → count_by (is_byte end) (b ∷ bytes) ≡ cond t 1 0 + count_by (is_byte end) bytes
  counted b bytes is = grind usual

  module _ (text_of : ℕ → List ℕ) where
    pub replaced-append : (number : ℕ) (xs ys : List ℕ) → with_replacements end text_of number (xs ++ ys)
        ≡ with_replacements end text_of number xs
        ++ with_replacements end text_of (number + count_by (is_byte end) xs) ys
    replaced-append number [] ys = grind arith
    replaced-append number (b ∷ xs) ys =
        grind (usual, replaced-append (number + 1) xs ys, replaced-append number xs ys)

    -- A line contains no terminator, so its bytes stay.
    pub replaced_none : (number : ℕ) (line : List ℕ) → IsLine end line
        → with_replacements end text_of number line ≡ line
    replaced_none number [] free = refl
    replaced_none number (b ∷ line) (other, free) = cc (byte_ne end b other, replaced_none number line free)

    pub replaced_line : (number : ℕ) (line rest : List ℕ) → IsLine end line
        → with_replacements end text_of number (line ++ end ∷ rest)
        ≡ line ++ (text_of number ++ with_replacements end text_of (number + 1) rest)
    replaced_line number line rest free =
        grind (usual, replaced-append number line (end ∷ rest), replaced_none, none_counted)

  -- Only the index in the cycle matters.
  replaced_mod : (text_at : ℕ → List ℕ) (len m n : ℕ) → m % len ≡ n % len → (bytes : List ℕ)
      → with_replacements end (λ k. text_at (k % len)) m bytes ≡ with_replacements end (λ k. text_at (k % len)) n bytes
  replaced_mod text_at len m n same [] = refl
  replaced_mod text_at len m n same (b ∷ bytes) =
      let next = sym (mod-add-mod m len 1) ∙ ap (λ k. (k + 1) % len) same ∙ mod-add-mod n len 1 in
      λ i. cond (b == end) (text_at (same i) ++ replaced_mod text_at len (m + 1) (n + 1) next bytes i)
      (b ∷ replaced_mod text_at len m n same bytes i)

  -- ---- one byte for each terminator

  module _ (byte : ℕ → ℕ) where
    abbrev all : ℕ → List ℕ → List ℕ
    all = with_replacements end (λ n. byte n ∷ [])

    pub length-replaced : (number : ℕ) (bytes : List ℕ) → length (all number bytes) ≡ length bytes
    length-replaced number [] = refl
    length-replaced number (b ∷ bytes) = grind (arith, length-replaced (number + 1) bytes, length-replaced number bytes)

    pub replaced_by_map : (b : ℕ) → ((n : ℕ) → byte n ≡ b) → (number : ℕ) (bytes : List ℕ)
        → all number bytes ≡ map (λ x. cond (x == end) b x) bytes
    replaced_by_map b same number [] = refl
    replaced_by_map b same number (x ∷ bytes) =
        grind (arith, replaced_by_map b same (number + 1) bytes, replaced_by_map b same number bytes)

    pub take-replaced : (at number : ℕ) (bytes : List ℕ) → at ≤ length bytes
        → take at (all number bytes) ≡ all number (take at bytes)
    take-replaced at number bytes within =
        let front = take at bytes in
        let rest = all (number + count_by (is_byte end) front) (drop at bytes) in
        cc (
          take-append-drop at bytes,
          replaced-append _ _ _ _,
          take_at (all number front) rest at (length-replaced _ _ ∙ length-take-le at bytes within),
        )

    -- Only the first n terminators are replaced.
    abbrev first_replaced : ℕ → ℕ → List ℕ → List ℕ
    first_replaced zero number bytes = bytes
    first_replaced (suc n) number [] = []
    first_replaced (suc n) number (b ∷ bytes) = cond (b == end) (byte number ∷ first_replaced n (number + 1) bytes)
        (b ∷ first_replaced (suc n) number bytes)

    replaced_next : (n number : ℕ) (bytes : List ℕ) (k : ℕ) → k < length bytes
        → is_byte end (get_or bytes k 0) ≡ true → count_by (is_byte end) (take k bytes) ≡ n
        → slice_set (first_replaced n number bytes) k (byte (number + n)) ≡ first_replaced (suc n) number bytes
    replaced_next n number [] k low test before = absurd (omega arith)
    replaced_next zero number (b ∷ bytes) zero low test before = grind arith
    replaced_next (suc m) number (b ∷ bytes) zero low test before = absurd (omega arith)
    replaced_next zero number (b ∷ bytes) (suc k) low test before =
        let more = replaced_next zero number bytes k (omega arith) test in
        grind (arith, counted b (take k bytes))
    replaced_next (suc m) number (b ∷ bytes) (suc k) low test before =
        let one = replaced_next m (number + 1) bytes k (omega arith) test in
        let more = replaced_next (suc m) number bytes k (omega arith) test in
        grind (arith, counted b (take k bytes))

    all_replaced : (number : ℕ) (bytes : List ℕ) (n : ℕ) → n ≡ count_by (is_byte end) bytes
        → first_replaced n number bytes ≡ all number bytes
    all_replaced number [] zero e = refl
    all_replaced number [] (suc n) e = refl
    all_replaced number (b ∷ bytes) zero e = grind (arith, counted b bytes, all_replaced number bytes zero)
    all_replaced number (b ∷ bytes) (suc m) e =
        grind (arith, counted, all_replaced (number + 1) bytes m, all_replaced number bytes (suc m))

-- ---- the terminators of a chunk, one by one

-- Of the 64 bytes at `at`, n terminators were replaced, and `marked` has the others.
pub record ReplaceInvariant (end : ℕ) (byte : ℕ → ℕ) (first at : ℕ) (from was : List ℕ) (n marked : ℕ)
    (to : List ℕ) : Type 0 where
  pub room : at + 64 ≤ length from
  pub same : length was ≡ length from
  pub bits : marked ≡ mask_l (without n (map (is_byte end) (chunk at 64 from)))
  pub long : length to ≡ length from
  pub is : take (at + 64) to ≡ take at was ++ first_replaced end byte n first (chunk at 64 from)

module _ {end : ℕ} {byte : ℕ → ℕ} where
  pub replace_starts : {first at marked : ℕ} {from was : List ℕ} → at + 64 ≤ length from
      → length was ≡ length from → marked ≡ mask_l (map (is_byte end) (chunk at 64 from))
      → ReplaceInvariant end byte first at from was 0 marked (put_chunk at was (chunk at 64 from))
  replace_starts {at = at} {from = from} {was} room same is =
      let long = length-chunk at 64 _ room in
      record {
        room = room;
        same = same;
        bits = is;
        long = cc (length-put_chunk at was (chunk at 64 from));
        is = take_more_put_chunk at was _ _ (omega arith) (omega arith);
      }

  module _ {first at : ℕ} {from was : List ℕ} {n marked : ℕ} {to : List ℕ}
      (r : ReplaceInvariant end byte first at from was n marked to)
      {mask : ℕ} (is : mask ≡ mask_l (map (is_byte end) (chunk at 64 from))) where
    abbrev ends : List ℕ
    ends = chunk at 64 from

    ends_counted : count_ones mask ≡ count_by (is_byte end) ends
    ends_counted = cc (ones-mask_l _ _)

    module _ (some : n < count_ones mask) where
      abbrev bit : ℕ
      bit = count_trailing_zeros 64 marked

      nth : IsNth (is_byte end) 0 n ends bit
      nth = after_set _ _ n (omega (arith, length-chunk at 64 _ r.room)) (omega (arith, ends_counted)) r.bits

      low : bit < 64
      low = let (within, _, _) = nth in omega (arith, length-chunk at 64 _ r.room)

      pub end_within : at + bit < length to
      end_within = omega (arith, low)

      pub replace_next : {rest put : ℕ} {to' : List ℕ} → marked < 2 ^ 64 → put ≡ byte (first + n)
          → rest ≡ bit_and marked ((marked + (2 ^ 64 - 1)) % 2 ^ 64) → to' ≡ slice_set to (at + bit) put
          → ReplaceInvariant end byte first at from was (n + 1) rest to'
      replace_next {rest} {put} small put_is rest_is to_is =
          let next : suc n ≡ n + 1 = omega arith in
          record {
            room = r.room;
            same = r.same;
            bits = cc (cleared n _ small r.bits);
            long = cc (length-set to (at + bit) put);
            is =
                let (within, test, before) = nth in
                let there : at + bit - at ≡ bit = omega arith in
                let step = replaced_next end byte n first ends bit within test before in
                grind (usual, take-set-lt, set-append_right);
          }

    pub replace_end : n ≡ count_ones mask
        → (n ≡ count_by (is_byte end) ends) × (take (at + 64) to ≡ take at was ++ all end byte first ends)
    replace_end over = grind (arith, ends_counted, all_replaced)

-- ---- some more bytes, from a cycle

abbrev ends_in : Cycle → List ℕ → ℕ
ends_in cycle = count_by (is_byte cycle.terminator)

abbrev copied : Cycle → ℕ → List ℕ → List ℕ
copied cycle = with_replacements cycle.terminator (cycle_byte cycle)

module _ {cycle : Cycle} {first index at : ℕ} {from to to' : List ℕ} (long : length to' ≡ length from)
    (r : IsReplacedTo cycle first index at from to) where
  pub replaced_more : (size : ℕ) {next : ℕ} → at + size ≤ length from
      → next ≡ (index + ends_in cycle (take size (drop at from))) % cycle.len
      → take (at + size) to' ≡ take at to ++ copied cycle index (take size (drop at from))
      → IsReplacedTo cycle first next (at + size) from to'
  replaced_more size room is more =
      let front = take at from in
      let here = take size (drop at from) in
      let split = take-add at size from in
      let so_far = first + ends_in cycle front in
      let count : first + ends_in cycle (take (at + size) from) ≡ so_far + ends_in cycle here =
      grind usual in
      record {
        within = room;
        same = long;
        next = cc (mod-add-mod so_far cycle.len (ends_in cycle here));
        is = cc (
          replaced_mod _ (λ k. get_or cycle.unrolled k 0 ∷ []) _ index so_far (mod-eq_of_lt (omega arith) ∙ r.next)
              here,
          replaced-append cycle.terminator (cycle_byte cycle) first front here,
        );
      }

  module _ (room : at < length from) where
    pub replaced_terminator : {next v : ℕ} → get_or from at 0 ≡ cycle.terminator → v ∷ [] ≡ cycle_byte cycle index
        → next ≡ (index + 1) % cycle.len → to' ≡ slice_set (slice_set to at (get_or from at 0)) at v
        → IsReplacedTo cycle first next (at + 1) from to'
    replaced_terminator is_end is later set =
        let test = eq-eqb (get_or from at 0) _ is_end in
        let one = ap (take 1) (drop_more _ at 0 room) in
        replaced_more 1 (omega arith) (cc) (grind usual)

    pub replaced_other : get_or from at 0 ≢ cycle.terminator → to' ≡ slice_set to at (get_or from at 0)
        → index < cycle.len → IsReplacedTo cycle first index (at + 1) from to'
    replaced_other other set less =
        let x = get_or from at 0 in
        let test = byte_ne _ x other in
        let one = ap (take 1) (drop_more _ at 0 room) in
        let number : index + ends_in cycle (take 1 (drop at from)) ≡ index = grind arith in
        replaced_more 1 (omega arith) (cc (mod-eq_of_lt less)) (cc (take_more_set to at x (omega arith)))

-- ---- the rest of a series

-- The output of `paste -s` from a position on: a terminator is replaced if bytes follow, so one at the end is held
-- back.

module _ (end : ℕ) (delims : List (Option ℕ)) where
  row_next : (number b : ℕ) (bytes : List ℕ) → (b == end) ≡ true → 0 < length bytes
      → row_rest end delims number (b ∷ bytes) ≡ delimiter delims number ++ row_rest end delims (number + 1) bytes
  row_next number b [] is some = absurd (omega arith)
  row_next number b (x ∷ bytes) is some = grind (arith, append_assoc)

  row_other : (number b : ℕ) (bytes : List ℕ) → (b == end) ≡ false
      → row_rest end delims number (b ∷ bytes) ≡ b ∷ row_rest end delims number bytes
  row_other number b bytes is = grind arith

  row_rest_on : (number : ℕ) (bytes more : List ℕ) → 0 < length more
      → row_rest end delims number (bytes ++ more) ≡ with_replacements end (delimiter delims) number bytes
      ++ row_rest end delims (number + count_by (is_byte end) bytes) more
  row_rest_on number [] more some = grind arith
  row_rest_on number (b ∷ bytes) more some = grind (
    arith,
    append_assoc,
    length-append,
    row_next,
    row_other,
    row_rest_on (number + 1) bytes more some,
    row_rest_on number bytes more some,
    counted end b bytes,
  )

  joined_mod : (m n : ℕ) → m % length delims ≡ n % length delims → (ls : List (List ℕ))
      → join_with_cycle delims m ls ≡ join_with_cycle delims n ls
  joined_mod m n same [] = refl
  joined_mod m n same (x ∷ []) = refl
  joined_mod m n same (x ∷ y ∷ ls) =
      let len = length delims in
      let next = sym (mod-add-mod m len 1) ∙ ap (λ k. (k + 1) % len) same ∙ mod-add-mod n len 1 in
      λ i. x ++ option_to_list (get_or delims (same i) None) ++ joined_mod (m + 1) (n + 1) next (y ∷ ls) i

  joined_begins : (number : ℕ) (xs ys : List (List ℕ)) → IsPrefix (join_with_cycle delims number xs)
      (join_with_cycle delims number (xs ++ ys))
  joined_begins number [] ys = record { rest = join_with_cycle delims number ys; is = refl }
  joined_begins number (x ∷ []) [] = record { rest = []; is = sym (append-nil x) }
  joined_begins number (x ∷ []) (y ∷ ys) = grind usual
  joined_begins number (x ∷ z ∷ xs) ys = grind (usual, joined_begins (number + 1) (z ∷ xs) ys)

pub copied_more : {format : SerialFormat} {index next last : ℕ} {xs ys before middle after : List ℕ}
    → CopyCellsPost format index xs before next middle → CopyCellsPost format next ys middle last after
    → CopyCellsPost format index (xs ++ ys) before last after
copied_more {format} {index} {next} {xs = xs} {ys} {before} p q =
    let end = format.terminator in
    let delims = format.delims.now in
    let len = length delims in
    let number = index + count_by (is_byte end) xs in
    let same : next % len ≡ number % len = rw p.later (mod-eq_of_lt (mod-lt number format.some)) in
    let all : number + count_by (is_byte end) ys ≡ index + count_by (is_byte end) (xs ++ ys) =
    grind usual in
    record {
      is = cc (
        replaced-append end _ _ xs ys,
        replaced_mod end (λ k. option_to_list (get_or delims k None)) len _ _ same ys,
        append_assoc before (with_replacements end (delimiter delims) index xs)
            (with_replacements end (delimiter delims) number ys),
      );
      later = grind (arith, mod-add-mod);
    }

pub line_copied : {format : SerialFormat} (index : ℕ) {next at : ℕ} (rest before : List ℕ) {line text : List ℕ}
    → IsFirstByte (is_byte format.terminator) rest (Some at) → next ≡ (index + 1) % length format.delims.now
    → line ≡ before ++ take at rest → text ≡ line ++ delimiter format.delims.now index
    → CopyCellsPost format index (take (at + 1) rest) before next text
line_copied {format} index {next} {at} rest before first next_is line_is text_is =
    let end = format.terminator in
    let free = line_before_terminator end _ at first in
    let one : count_by (is_byte end) ((take at rest) ++ end ∷ []) ≡ 1 =
    grind (usual, counted, none_counted) in
    rw (take_with_terminator end _ at first) (grind (usual, replaced_line, append-nil, append_assoc))

pub copied_on : {format : SerialFormat} {index : ℕ} {bytes before : List ℕ} {next : ℕ} {after : List ℕ} (more : List ℕ)
    → 0 < length more → CopyCellsPost format index bytes before next after
    → before ++ row_rest format.terminator format.delims.now index (bytes ++ more)
    ≡ after ++ row_rest format.terminator format.delims.now next more
copied_on more some p = grind (arith, mod-eq_of_lt, mod-lt, row_rest_on, joined_mod, append_assoc)

-- The output for the received bytes begins with their complete lines.
pub serial_is_decided : (job : Paste) (format now : SerialFormat) → format.terminator ≡ job.terminator
    → format.delims.now ≡ job.delimiters → now ≡ format → (given pushed : List ℕ) (cell : ColumnPos)
    → row_rest format.terminator format.delims.now 0 (given ++ []) ≡ pushed ++ serial_rest now cell []
    → IsPrefix (paste_serial_decided job (record { bytes = given; eof = false })) pushed
serial_is_decided job format now ends are same given pushed cell on =
    let end = format.terminator in
    let delims = format.delims.now in
    let text = join_with_cycle delims 0 (lines end (given ++ [])) in
    let is = append_cancel_right text pushed (end ∷ []) (grind arith) in
    let b = joined_begins end delims 0 (complete_lines end given) (lines end ((line_split end given).piece ++ [])) in
    rw (← ends, ← are) (grind (usual, complete_prefix, append-nil))
