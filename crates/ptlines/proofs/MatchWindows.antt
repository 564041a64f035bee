-- The n-th item of a list that passes a test: the lowest set bit of a mask of which the lowest n were cleared. Then
-- counts of such items, and the n-th of them, in the first bytes. A window of a list, which moves after an item as its
-- mask is shifted, and the masks that windows begin with.
use Rattle.ptlines.proofs
use Rattle.std.proofs.lemmas
use proofs.Common.{◌≡◌, ℕ, zero, suc, ◌+◌, ◌-◌, ◌%◌, ◌^◌, ◌<◌, ◌≤◌, Bool, true, false, cond, not, Some}
use proofs.Common.{List, [], ◌∷◌, length, map, take, drop, refl, sym, ◌∙◌, ap, arith, rules, usual, inl, inr}
use proofs.Common.{prefix_len, mask_l, chunk, take-add, take-take, length-take-le, length-chunk, length-map, drop-drop}
use proofs.Common.{take_all, take_rest, drop-take, IsFirst, IsFirstByte, Nowhere, Option, Passes}
use Rattle.std.specs.Option.{option_map}
use proofs.MatchMasks.{none_if_zero_mask, first_at_lowest_bit, first_after, mask_after}
use Rattle.ptlines.specs.Calls.Scan.{IsNth, IsMatchWindow, IsAfterNth}
use Rattle.ptlines.specs.declared.scan.MatchWindow.{MatchWindow}
use Rattle.std.proofs.Common.{◌/◌, get_or-take, get_or-drop, length-drop}
use Rattle.std.specs.Int.RustNames.{count_ones}
use Rattle.std.specs.List.{count_by}
use Rattle.memchr.specs.Find.{NoneBefore}
use lemmas.Bool.{cases_lt}
use lemmas.List.{map-id, take-map, get_or-map}
use lemmas.List.Sums.{count_by_more_yes, get_or-le-sum_by, sum_by-append, sum_by-take-le}
use lemmas.Simd.{first_set_mask_l, ones-mask_l}
use lib.Bits.{bit_and, and_step, and_self, and_zero_l}
use lib.Count.{count_trailing_zeros}

-- ---- bits of a mask

abbrev pub clear_first : List Bool → List Bool
clear_first [] = []
clear_first (true ∷ bits) = false ∷ bits
clear_first (false ∷ bits) = false ∷ clear_first bits

-- the first n set bits are cleared
abbrev pub without : ℕ → List Bool → List Bool
without zero bits = bits
without (suc n) bits = clear_first (without n bits)

without_set : (n : ℕ) (bits : List Bool) → without (suc n) (true ∷ bits) ≡ false ∷ without n bits
without_set zero bits = refl
without_set (suc n) bits = ap clear_first (without_set n bits)

without_clear : (n : ℕ) (bits : List Bool) → without n (false ∷ bits) ≡ false ∷ without n bits
without_clear zero bits = refl
without_clear (suc n) bits = ap clear_first (without_clear n bits)

length-clear_first : (bits : List Bool) → length (clear_first bits) ≡ length bits
length-clear_first [] = refl
length-clear_first (true ∷ bits) = refl
length-clear_first (false ∷ bits) = ap suc (length-clear_first bits)

length-without : (n : ℕ) (bits : List Bool) → length (without n bits) ≡ length bits
length-without zero bits = refl
length-without (suc n) bits = length-clear_first (without n bits) ∙ length-without n bits

pub and_less : (bits : List Bool) → bit_and (mask_l bits) (mask_l bits - 1) ≡ mask_l (clear_first bits)
and_less [] = and_zero_l 0
and_less (true ∷ bits) = search (rules, and_self, and_step)
and_less (false ∷ bits) = grind (arith, and_less bits, and_step)

-- the lowest set bit is cleared
pub cleared : (n : ℕ) {x : ℕ} (bits : List Bool) → x < 2 ^ 64 → x ≡ mask_l (without n bits)
    → bit_and x ((x + (2 ^ 64 - 1)) % 2 ^ 64) ≡ mask_l (without (suc n) bits)
cleared n bits small is = grind (arith, and_less (without n bits))

lowest_set : (bits : List Bool) → length bits ≤ 64 → prefix_len not bits < length bits
    → count_trailing_zeros 64 (mask_l bits) ≡ prefix_len not bits
lowest_set bits few some = grind (arith, map-id bits, first_set_mask_l (λ b. b) bits (length bits) refl few)

-- ---- the item that passes after n others

behind : (bits : List Bool) (n : ℕ) → n < count_by (λ t. t) bits
    → IsNth (λ t. t) false n bits (prefix_len not (without n bits))
behind [] n lt = absurd (omega arith)
behind (true ∷ bits) zero lt = (omega arith, refl, refl)
behind (true ∷ bits) (suc n) lt = grind (usual, without_set n bits, behind bits n)
behind (false ∷ bits) n lt = grind (usual, without_clear n bits, behind bits n)

count_bits : (p : ℕ → Bool) (xs : List ℕ) → count_by (λ t. t) (map p xs) ≡ count_by p xs
count_bits p xs = cc (map-id (map p xs), ones-mask_l (λ t. t) (map p xs), ones-mask_l p xs)

pub after_set : (p : ℕ → Bool) (xs : List ℕ) (n : ℕ) {rest : ℕ} → length xs ≤ 64 → n < count_by p xs
    → rest ≡ mask_l (without n (map p xs)) → IsNth p 0 n xs (count_trailing_zeros 64 rest)
after_set p xs n few lt is =
    let (within, passes, before) = behind (map p xs) n (rw count_bits lt) in
    grind (usual, length-without, lowest_set, take-map, get_or-map, length-map)

-- ---- in a chunk of some bytes

module _ (p : ℕ → Bool) (bytes : List ℕ) where
  pub count_up_to : (i j : ℕ) → i ≤ j → count_by p (take i bytes) ≤ count_by p (take j bytes)
  count_up_to i j le = grind (arith, sum_by-take-le (λ b. cond (p b) 1 0) (take j bytes) i, take-take)

  count_parts : (at n : ℕ)
      → count_by p (take (at + n) bytes) ≡ count_by p (take at bytes) + count_by p (take n (drop at bytes))
  count_parts at n = simp (take-add, sum_by-append)

  pub count_chunk : (at : ℕ)
      → count_by p (take (at + 64) bytes) ≡ count_by p (take at bytes) + count_by p (chunk at 64 bytes)
  count_chunk at = count_parts at 64

  module _ (size at m k : ℕ) (room : at + size ≤ length bytes) (h : IsNth p 0 m (chunk at size bytes) k) where
    pub near : k < size
    near = omega (arith, length-chunk at size bytes room)

    pub count_in_prefix : count_by p (take (at + k) bytes) ≡ count_by p (take at bytes) + m
    count_in_prefix = grind (usual, take-add)

    -- among the first `to` bytes
    module _ {to before index : ℕ} (is : index ≡ at + k) (counted : count_by p (take at bytes) + m ≡ before) where
      pub nth_in_prefix : index < to → to ≤ length bytes → IsNth p 0 before (take to bytes) index
      nth_in_prefix lt le = grind (usual, get_or-take, near, take-take, count_in_prefix)

      pub none_in_prefix : to ≤ index → count_by p (take to bytes) ≤ before
      none_in_prefix ge = grind (arith, count_up_to, count_in_prefix)

  pub first_is : (at : ℕ) → IsNth p 0 0 bytes at → NoneBefore (Passes p bytes) 0 (length bytes) at × Passes p bytes at
  first_is at (within, passes, none) = (grind (arith, get_or-take, get_or-le-sum_by, length-take-le), passes)

-- ---- a window of a list

module _ (p : ℕ → Bool) (bytes : List ℕ) {from to : ℕ} (order : from ≤ to) (fits : to ≤ length bytes) where
  abbrev front : List ℕ
  front = take to bytes

  same_start : take from front ≡ take from bytes
  same_start = take-take from to bytes order

  -- the item that passes after those before an index is not before it
  pub nth_later : (before : ℕ) {at : ℕ} → IsNth p 0 (before + count_by p (take from bytes)) front at → from ≤ at
  nth_later before {at} (within, passes, counted) = elim (cases_lt at from) [
    | inl lt ↦ absurd (omega (
      arith,
      count_by_more_yes p front at 0 within passes,
      count_up_to p front (at + 1) from (omega arith),
      ap (count_by p) same_start,
    ))
    | inr ge ↦ ge
  ]

  pub nth_from : {before at : ℕ} → IsNth p 0 (before + count_by p (take from bytes)) front at
      → IsNth p 0 before (drop from front) (at - from)
  nth_from {before} {at} nth =
      let later = nth_later before nth in
      let is : from + (at - from) ≡ at = omega arith in
      let (within, passes, counted) = nth in (
        omega (arith, length-drop from front),
        rw (get_or-drop, is) passes,
        omega (arith, (rw is at (count_parts p front from (at - from))), ap (count_by p) same_start),
      )

  pub few_from : {before : ℕ} → count_by p front ≤ before + count_by p (take from bytes)
      → count_by p (drop from front) ≤ before
  few_from {before} few =
      let is : from + (to - from) ≡ to = omega arith in
      let long = length-take-le to bytes fits in
      let whole = take_all to front (omega arith) in
      let rest : take (to - from) (drop from front) ≡ drop from front =
      take_all _ _ (omega (arith, length-drop from front)) in
      let parts = rw (is, whole, rest) at (count_parts p front from (to - from)) in
      omega (arith, ap (count_by p) same_start)

module _ (p : ℕ → Bool) (bytes : List ℕ) where
  -- the window of the next n items at an index, and that of the last ones
  pub window_of : (at n : ℕ) {mask : ℕ} → n ≤ 64 → at + n ≤ length bytes → mask ≡ mask_l (map p (chunk at n bytes))
      → IsMatchWindow p bytes (record { at = at; mask = mask; end = at + n })
  window_of at n {mask} few within is = record {
    order = omega arith;
    within = within;
    few = omega arith;
    is = let all : at + n - at ≡ n = omega arith in rw all is;
  }

  pub last_window : (at : ℕ) {mask : ℕ} → at ≤ length bytes → length bytes < at + 64
      → mask ≡ mask_l (map p (drop at bytes))
      → IsMatchWindow p bytes (record { at = at; mask = mask; end = length bytes })
  last_window at {mask} order few is = record {
    order = order;
    within = omega arith;
    few = omega arith;
    is = rw (take_all (length bytes - at) (drop at bytes) (omega (arith, length-drop at bytes))) is;
  }

  module _ {w : MatchWindow} (is : IsMatchWindow p bytes w) where
    abbrev part : List ℕ
    part = take (w.end - w.at) (drop w.at bytes)

    size : w.at + (w.end - w.at) ≤ length bytes
    size = omega (arith, is.order)

    window_few : length part ≤ 64
    window_few = omega (arith, length-chunk w.at (w.end - w.at) bytes size)

    window_ones : count_ones w.mask ≡ count_by p part
    window_ones = ap count_ones is.is ∙ ones-mask_l p part

    pub window_counted : count_by p (take w.end bytes) ≡ count_by p (take w.at bytes) + count_ones w.mask
    window_counted =
        let whole : w.at + (w.end - w.at) ≡ w.end = omega arith in
        rw (whole, ← window_ones) at (count_parts p bytes w.at (w.end - w.at))

    pub nth_in_window : {left index : ℕ} → left < count_ones w.mask
        → ((test : ℕ → Bool) (items : List ℕ) → length items ≤ 64 → w.mask ≡ mask_l (map test items)
        → left < count_by test items → IsNth test 0 left items index)
        → IsNth p 0 left part index
    nth_in_window lt nth = nth p part window_few is.is (omega (arith, window_ones))

    pub nowhere_in_window : w.mask ≡ 0 → Nowhere (Passes p bytes) w.at w.end
    nowhere_in_window none =
        let all : w.at + (w.end - w.at) ≡ w.end = omega arith in
        rw all at (none_if_zero_mask p bytes w.at (w.end - w.at) w.mask size is.is none)

    pub first_past : w.mask ≡ 0 → (r : Option ℕ) → IsFirstByte p (take (length bytes - w.end) (drop w.end bytes)) r
        → IsFirst (Passes p bytes) w.at (length bytes) (option_map (λ at. w.end + at) r)
    first_past none r first =
        first_after p bytes w.at w.end is.order (nowhere_in_window none) r (rw take_rest at first)

    pub first_in_window : (w.mask ≡ 0 → ⊥)
        → IsFirst (Passes p bytes) w.at (length bytes) (Some (w.at + count_trailing_zeros 64 w.mask))
    first_in_window some =
        let few : w.end - w.at ≤ 64 = omega arith in
        let (first, found) = first_at_lowest_bit p bytes w.at (w.end - w.at) w.mask few size is.is some in
        (record { low = first.low; high = omega (arith, size); before = first.before }, found)

    module _ {index left : ℕ} (nth : IsNth p 0 left part index) where
      pub window_inside : index < w.end - w.at
      window_inside = near p bytes (w.end - w.at) w.at left index size nth

      -- the window after this item
      abbrev next : MatchWindow
      next = record { at = w.at + index + 1; mask = w.mask / 2 ^ index / 2; end = w.end }

      shorter : next.mask ≡ mask_l (map p (take (next.end - next.at) (drop next.at bytes)))
      shorter =
          let left = w.end - (w.at + index + 1) in
          let whole : index + 1 + left ≡ w.end - w.at = omega (arith, window_inside) in
          let next_at : w.at + (index + 1) ≡ w.at + index + 1 = omega arith in
          let rest = drop w.at bytes in
          mask_after p part index is.is ∙ ap (λ xs. mask_l (map p xs))
          (ap (λ n. drop (index + 1) (take n rest)) (sym whole) ∙ drop-take (index + 1) left rest
          ∙ ap (take left) (drop-drop (index + 1) w.at bytes ∙ ap (λ n. drop n bytes) next_at))

      next_window : IsMatchWindow p bytes next
      next_window = record {
        order = omega (arith, window_inside);
        within = is.within;
        few = omega arith;
        is = shorter;
      }

      pub after_in_window : {to before : ℕ} {old : MatchWindow} → to ≤ length bytes
          → left + count_by p (take w.at bytes) ≡ before + count_by p (take old.at bytes)
          → IsAfterNth p bytes to before old next
      after_in_window {to} {before} {old} fits counted = record {
        found = λ near_to. nth_in_prefix p bytes (w.end - w.at) w.at left index size nth (omega arith) (omega arith)
            (omega arith) fits;
        none = λ past. none_in_prefix p bytes (w.end - w.at) w.at left index size nth {index = w.at + index} refl
            (omega arith) (omega arith);
        some = omega arith;
        moved = λ near_to. next_window;
      }

  module _ {to before : ℕ} {old : MatchWindow} (fits : to ≤ length bytes) where
    pub after_all : count_by p (take to bytes) ≤ before + count_by p (take old.at bytes)
        → IsAfterNth p bytes to before old (record { at = to + 1; mask = 0; end = to + 1 })
    after_all few = record {
      found = λ near_to. absurd (omega arith);
      none = λ past. few;
      some = omega arith;
      moved = λ near_to. absurd (omega arith);
    }

    -- after the items between two windows
    pub from_before : {left : ℕ} {middle w : MatchWindow} → IsAfterNth p bytes to left middle w
        → left + count_by p (take middle.at bytes) ≡ before + count_by p (take old.at bytes)
        → IsAfterNth p bytes to before old w
    from_before next counted = record {
      found = λ near_to. rw counted at (next.found near_to);
      none = λ past. omega (arith, counted);
      some = next.some;
      moved = next.moved;
    }

    -- from a window at the first item on, after all of them or not
    module _ (start : old.at ≡ 0) {w : MatchWindow} (next : IsAfterNth p bytes to before old w) where
      pub nth_from_start : w.at ≤ to → IsNth p 0 before (take to bytes) (w.at - 1)
      nth_from_start near_to =
          let none : before + count_by p (take old.at bytes) ≡ before = rw start (omega arith) in
          rw none at (next.found near_to)

      pub few_from_start : to < w.at → count_by p (take to bytes) ≤ before
      few_from_start past =
          let none : before + count_by p (take old.at bytes) ≡ before = rw start (omega arith) in
          rw none at (next.none past)
