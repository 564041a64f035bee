-- The mask of the bytes that a filter removes of 64, as four of 16 bits, and that of the bytes that it keeps.
use Rattle.ptflow.proofs
use Rattle.std.proofs.lemmas
use proofs.Common.{◌≢◌, sym, arith, ◌≡◌, ℕ, ◌+◌, ◌-◌, ◌*◌, ◌%◌, ◌^◌, ◌<◌, ◌≤◌, Bool, not, List, ℤ, [], ◌∷◌, ◌++◌, map}
use proofs.Common.{length, refl, ◌∙◌, chunk, mask_l, cond, length-chunk, length-map, bit_or, bit_and, map-append, zip2}
use proofs.Common.{top, eqb, cast_unsigned, w8, mask_of, keep_flags, mask_l-mod, length-append, take, drop}
use proofs.Common.{removed_mask, select_by, w64, one_shl, mask_append}
use proofs.Vectors.Compress.{all_but_one, all_selected, chunk_parts, in_four, kept_at, pairs_long, parts_append}
use proofs.Vectors.Compress.{select_kept}
use Rattle.std.specs.Int.Count.{count_trailing_zeros}
use lemmas.Nat.Bits.{bit_at-trailing_zeros}
use lemmas.Grind.{or_before_shift}

both_full : (flags : List Bool) → removed_mask flags + mask_l flags + 1 ≡ 2 ^ length flags
both_full [] = refl
both_full (flag ∷ flags) = grind (arith, both_full flags)

module _ (flags : List Bool) {m : ℕ} (is : m ≡ removed_mask flags) where
  full : {n : ℕ} → length flags ≡ n → m + mask_l flags + 1 ≡ 2 ^ n
  full long = rw (is, ← long) (both_full _)

  module _ (long : length flags ≡ 16) where
    pub mask_16 : m < 65536
    mask_16 = omega (arith, full long)

  module _ (long : length flags ≡ 64) where
    none_of : (bytes : List ℕ) → length bytes ≡ 64 → m ≡ 0 → select_by flags bytes ≡ bytes
    none_of _ size none = all_selected _ _ (omega arith) (rw long (omega (arith, full long)))

    -- the index of the first one that is removed
    first_of : 0 < m → count_trailing_zeros 64 m < 64
    first_of some = (bit_at-trailing_zeros w64 m some (omega (arith, full long))).0

    one_of : (bytes : List ℕ) → length bytes ≡ 64 → 0 < m → m ≡ 1 * 2 ^ count_trailing_zeros 64 m % 2 ^ 64
        → select_by flags bytes ≡ take (count_trailing_zeros 64 m) bytes ++ drop (count_trailing_zeros 64 m + 1) bytes
    one_of bytes size some one =
        let low = first_of some in
        all_but_one flags bytes (count_trailing_zeros 64 m) (omega arith) (omega arith)
        (rw long (omega (arith, one ∙ one_shl (count_trailing_zeros 64 m) 64 low, full long)))

-- ---- 64 bytes by the masks of four times 16

join_mask : (front back : List Bool) (p n : ℕ) {m : ℕ} → length front ≡ n → p ≡ 2 ^ n → m ≡ removed_mask back
    → removed_mask (front ++ back) ≡ removed_mask front + p * m
join_mask front back p n long pow is = rw (map-append, mask_append, length-map front not, long, pow, is) refl

abbrev pub or_four : ℕ → ℕ → ℕ → ℕ → ℕ
or_four a b c d = bit_or (bit_or (bit_or a (b * 65536 % 18446744073709551616))
    (c * 4294967296 % 18446744073709551616)) (d * 281474976710656 % 18446744073709551616)

module _ (fa fb fc fd : List Bool) (la : length fa ≡ 16) (lb : length fb ≡ 16) (lc : length fc ≡ 16)
    (ld : length fd ≡ 16) {a b c d : ℕ} (ea : a ≡ removed_mask fa) (eb : b ≡ removed_mask fb)
    (ec : c ≡ removed_mask fc) (ed : d ≡ removed_mask fd)
  where
    four_masks : or_four a b c d ≡ removed_mask (((fa ++ fb) ++ fc) ++ fd)
    four_masks =
        let low_a = mask_16 fa ea la in
        let low_b = mask_16 fb eb lb in
        let low_c = mask_16 fc ec lc in
        let low_d = mask_16 fd ed ld in
        let two = or_before_shift a b 65536 18446744073709551616 refl low_a (omega arith) in
        let a_b = bit_or a (b * 65536 % 18446744073709551616) in
        let three = or_before_shift a_b c 4294967296 18446744073709551616 refl (omega (arith, two)) (omega arith) in
        let four = or_before_shift (bit_or a_b (c * 4294967296 % 18446744073709551616)) d 281474976710656
        18446744073709551616 refl (omega (arith, two, three)) (omega arith) in
        let ab = join_mask fa fb _ 16 la refl eb in
        let abc = join_mask (fa ++ fb) fc 4294967296 32 (omega (arith, length-append fa fb)) refl ec in
        let abcd = join_mask ((fa ++ fb) ++ fc) fd 281474976710656 48
        (omega (arith, length-append (fa ++ fb) fc, length-append fa fb)) refl ed in
        omega (arith, two, three, four, ab, abc, abcd, ea)

removed_lanes : (test : ℕ → Bool) (before bytes : List ℕ) → map (top 7) (zip2 bit_and
    (zip2 (λ a b. cond (eqb a b) 255 0) before bytes) (map (cast_unsigned w8) (mask_of test bytes)))
    ≡ map not (keep_flags test before bytes)
removed_lanes _ [] bytes = refl
removed_lanes _ _ [] = refl
removed_lanes test (a ∷ before) (b ∷ bytes) = grind (arith, removed_lanes test before bytes)

module _ (test : ℕ → Bool) (before bytes : List ℕ) (paired : length bytes ≤ length before) where
  abbrev pub flags_of_chunk : ℕ → ℕ → List Bool
  flags_of_chunk k n = keep_flags test (chunk k n before) (chunk k n bytes)

  flags_long : (k n : ℕ) → k + n ≤ length bytes → length (flags_of_chunk k n) ≡ n
  flags_long = pairs_long _ before bytes paired

  module _ (k : ℕ) (room : k + 16 ≤ length bytes) where
    module _ {lanes : List ℤ} (is : lanes ≡ mask_of test (chunk k 16 bytes)) where
      pub removed_mask_is : mask_l (map (top 7) (zip2 bit_and
          (zip2 (λ a b. cond (eqb a b) 255 0) (chunk k 16 before) (chunk k 16 bytes)) (map (cast_unsigned w8) lanes)))
          % 2 ^ 64 ≡ removed_mask (flags_of_chunk k 16)
      removed_mask_is = rw (is, removed_lanes _ _ _)
          (mask_l-mod _ 64
          (omega (arith, length-map (flags_of_chunk k 16) not, flags_long k 16 room)))

      pub removed_mask_small : mask_l (map (top 7) (zip2 bit_and
          (zip2 (λ a b. cond (eqb a b) 255 0) (chunk k 16 before) (chunk k 16 bytes)) (map (cast_unsigned w8) lanes)))
          % 2 ^ 64 < 65536
      removed_mask_small = mask_16 _ removed_mask_is (flags_long k 16 room)

    -- the bytes that are stored by the complement of the mask
    pub kept_by : (m : ℕ) (was is : List ℕ) → m ≡ removed_mask (flags_of_chunk k 16)
        → ((flags : List Bool) → length flags ≡ 16 → 65535 - m ≡ mask_l flags
        → is ≡ was ++ select_by flags (chunk k 16 bytes)) → is ≡ was ++ kept_at test before bytes k 16
    kept_by m was is masked packed =
        rw select_kept at (packed _ (flags_long k 16 room) (omega (arith, full _ masked (flags_long k 16 room))))

  module _ (at : ℕ) (room : at + 64 ≤ length bytes) {a b c d : ℕ} (ea : a ≡ removed_mask (flags_of_chunk at 16))
      (eb : b ≡ removed_mask (flags_of_chunk (at + 16) 16)) (ec : c ≡ removed_mask (flags_of_chunk (at + 32) 16))
      (ed : d ≡ removed_mask (flags_of_chunk (at + 48) 16)) where
    all_is : or_four a b c d ≡ removed_mask (flags_of_chunk at 64)
    all_is =
        rw (in_four flags_of_chunk _ (λ k n m low. rw (chunk_parts k n m before, chunk_parts k n m bytes)
        (parts_append test (chunk k n before) (chunk k n bytes) (chunk (k + n) m before) (chunk (k + n) m bytes)
        (omega (arith, length-chunk))).1) at room)
        (four_masks _ _ _ _ (flags_long at 16 (omega arith)) (flags_long (at + 16) 16 (omega arith))
        (flags_long (at + 32) 16 (omega arith)) (flags_long (at + 48) 16 (omega arith)) ea eb ec ed)

    pub first_removed : or_four a b c d ≢ 0 → count_trailing_zeros 64 (or_four a b c d) < 64
    first_removed some = first_of _ all_is (flags_long at 64 room) (omega arith)

    pub none_removed : or_four a b c d ≡ 0 → chunk at 64 bytes ≡ kept_at test before bytes at 64
    none_removed none = sym (none_of _ all_is (flags_long at 64 room) _ (length-chunk at 64 bytes room) none)
        ∙ select_kept test (chunk at 64 before) (chunk at 64 bytes)

    pub one_removed : let index = count_trailing_zeros 64 (or_four a b c d) in
        or_four a b c d ≢ 0 → or_four a b c d ≡ 1 * 2 ^ index % 2 ^ 64
        → take index (chunk at 64 bytes) ++ drop (index + 1) (chunk at 64 bytes) ≡ kept_at test before bytes at 64
    one_removed some one =
        sym (one_of _ all_is (flags_long at 64 room) _ (length-chunk at 64 bytes room) (omega arith) one)
        ∙ select_kept test (chunk at 64 before) (chunk at 64 bytes)
