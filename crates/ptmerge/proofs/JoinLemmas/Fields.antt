-- Fields of a line of `join`: how they are found, and written in several writes of which one may fail. Joining undoes
-- splitting, so a line can be written unchanged, and the fields after a field are the bytes after it.
use Rattle.ptmerge.proofs
use Rattle.ptmerge.specs
use Rattle.std.proofs.lemmas
use proofs.Common.{◌≡◌, ⊎_elim, false, ℕ, List, ◌++◌, Result, Ok, Err, IsErrAnd, true, Output, PushPost, PushEffect}
use proofs.Common.{push_trans, ◌∷◌, [], refl, append_assoc, arith, length-drop, length-append, suc, ◌+◌, ◌-◌, ◌≤◌, Bool}
use proofs.Common.{Option, None, Some, length, drop, get_or, sym, ap, zero, ◌<◌, ◌==◌, cond, position, MatchOption}
use proofs.Common.{filter, is_some, slice_split, is_blank, Lines, is_separator, entry_with_list, usual}
use proofs.Common.{remaining_fields, map, remove, unwrap_or, append-nil, flat_map-append, Join, output_separator, entry}
use proofs.Common.{join_fields, other_fields, is_single_spaced, with_prefix, First, Second, Side}
use lemmas.Bool.{cases_Bool, eqb-true}
use Rattle.ptlines.proofs.Push.{push_past_failure}
use Rattle.std.specs.List.{flat_map, slice_range, join_with_byte, onto_first}
use Rattle.std.proofs.Common.{rules, take}
use specs.Private.Write.{WriteBytesPost}
use lemmas.List.{length-take-le, drop-drop, take-append-drop}
use lemmas.List.Quantifiers.{position-Some}
use Rattle.ptlangs.specs.declared.outlist.OutField.{OutField}
use specs.declared.key_order.Span.{Span}
use Rattle.memchr.specs.Find.{IsFirstByte}
use lemmas.List.Sums.{position_or_len_is}
use Rattle.ptlangs.proofs.ListElements.{split_around, split_whole}
use specs.Calls.Join.{join_key}
use specs.Join.{or_filler, is_nonempty, field_named, nth_field}
use specs.Private.JoinFields.{IsFieldFound, IsFirstPieceEnd, IsFieldIn, IsPiece, around, HasOneLine}
use specs.Private.JoinFields.{IsUnchanged, is_evenly_separated}
use specs.Private.Join.{entry_alone}
use specs.Calls.KeySpan.{IsKeySpan}

-- ---- writes

-- Several writes to an output that may have failed: after a failed write nothing more is written. The bytes written so
-- far and the rest together are all bytes, so a call that fails leaves a prefix, and the last call completes them.

wrote_then : {a b c : Output} {xs ys : List ℕ} → (a.write_failed ≡ false → b.write_failed ≡ false)
    → PushEffect a b xs → PushEffect b c ys → PushEffect a c (xs ++ ys)
wrote_then {a} {b} {c} {xs} {ys} clean p q =
    ⊎_elim (λ fault. grind arith) (λ fine. push_trans a b c xs ys (clean fine) p q) (cases_Bool _)

pub then_pushes : {E : Type 0} {a b c : Output} {xs ys : List ℕ} {r : Result (Unit {0}) E}
    → (a.write_failed ≡ false → b.write_failed ≡ false) → PushEffect a b xs → PushPost b c ys r
    → PushPost a c (xs ++ ys) r
then_pushes clean p q = search (rules, wrote_then)

pub push_is_write : {E : Type 0} {a b : Output} {xs : List ℕ} {r : Result (Unit {0}) E} → PushPost a b xs r
    → WriteBytesPost a b xs r
push_is_write = search rules

pub push_fails : {E : Type 0} {a b : Output} {xs : List ℕ} {r : Result (Unit {0}) E} (P : E → Type 0) → IsErrAnd r P
    → b.write_failed ≡ true → PushEffect a b xs → PushPost a b xs r
push_fails {r = Err e} P err_is fault wrote = search rules
push_fails {r = Ok u} P err_is fault wrote = absurd err_is

-- of the bytes `all`, the bytes `left` are still to be written
pub record PartialWrite (was is : Output) (all left : List ℕ) : Type 0 where
  pub done : List ℕ
  pub split : all ≡ done ++ left
  pub wrote : PushEffect was is done
  pub clean : was.write_failed ≡ false → is.write_failed ≡ false

pub partial_starts : {was : Output} {all left : List ℕ} → all ≡ left → PartialWrite was was all left
partial_starts = search rules

pub partial_first : {was is : Output} {all bytes left : List ℕ} → all ≡ bytes ++ left → PushEffect was is bytes
    → is.write_failed ≡ false → PartialWrite was is all left
partial_first split wrote clean = grind arith

module _ {E : Type 0} {r : Result (Unit {0}) E} (P : E → Type 0) (err_is : IsErrAnd r P)
    {was new : Output} {all bytes : List ℕ} (left : List ℕ) where
  pub first_fails : all ≡ bytes ++ left → PushEffect was new bytes → new.write_failed ≡ true
      → WriteBytesPost was new all r
  first_fails = grind (arith, push_past_failure)

  pub partial_fails : {is : Output} {now : List ℕ} → now ≡ bytes ++ left → PartialWrite was is all now
      → PushEffect is new bytes → new.write_failed ≡ true → WriteBytesPost was new all r
  partial_fails e a wrote fault =
      push_is_write (push_fails P err_is fault (rw (a.split, e, ← append_assoc a.done bytes left)
      (push_past_failure was new _ _ fault (wrote_then a.clean a.wrote wrote))))

pub partial_more : {was is new : Output} {all bytes now left : List ℕ} → now ≡ bytes ++ left
    → PartialWrite was is all now → PushEffect is new bytes → new.write_failed ≡ false → PartialWrite was new all left
partial_more e a wrote clean = partial_first (grind usual) (wrote_then a.clean a.wrote wrote) clean

pub partial_ends : {E : Type 0} {r : Result (Unit {0}) E} {was is new : Output} {all bytes now : List ℕ} → now ≡ bytes
    → PartialWrite was is all now → WriteBytesPost is new bytes r → WriteBytesPost was new all r
partial_ends e a m = grind (arith, (wrote_then a.clean a.wrote m.wrote))

-- a piece is added to a row, and `rest` is still to be added
row_whole : (row left piece rest next pushed : List ℕ) → next ≡ piece ++ rest → row ++ piece ≡ pushed ++ left
    → row ++ next ≡ pushed ++ (left ++ rest)
row_whole row left piece rest next pushed is split = grind (usual, append_assoc)

module _ {was now new : Output} {all next pushed : List ℕ} (row left piece rest : List ℕ)
    (a : PartialWrite was now all (row ++ next)) (is : next ≡ piece ++ rest) (split : row ++ piece ≡ pushed ++ left)
    (wrote : PushEffect now new pushed) where
  pub piece_added : (now.write_failed ≡ false → new.write_failed ≡ false) → PartialWrite was new all (left ++ rest)
  piece_added clean = grind (
    arith,
    row_whole row left piece rest next pushed is split,
    append_assoc a.done pushed,
    wrote_then a.clean a.wrote wrote,
  )

  pub piece_fails : new.write_failed ≡ true → {E : Type 0} {r : Result (Unit {0}) E} (P : E → Type 0) → IsErrAnd r P
      → WriteBytesPost was new all r
  piece_fails fault P err_is = partial_fails P err_is (left ++ rest) (row_whole row _ _ _ _ _ is split) a wrote fault

pub first_piece_fails : {was new : Output} {all pushed : List ℕ} (row left piece rest : List ℕ) → row ≡ []
    → all ≡ piece ++ rest → row ++ piece ≡ pushed ++ left → PushEffect was new pushed → new.write_failed ≡ true
    → {E : Type 0} {r : Result (Unit {0}) E} (P : E → Type 0) → IsErrAnd r P → WriteBytesPost was new all r
first_piece_fails row left piece rest empty all split wrote fault P err_is =
    piece_fails row left piece rest (partial_starts (rw empty all)) refl split wrote fault P err_is

module _ {X : Type 0} (f : X → List ℕ) {xs more : List X} {x : X} (is : xs ≡ x ∷ more) {was now new : Output}
    {all : List ℕ} (a : PartialWrite was now all (flat_map f xs)) (wrote : PushEffect now new (f x)) where
  pub each_more : new.write_failed ≡ false → PartialWrite was new all (flat_map f more)
  each_more = partial_more (rw is) a wrote

  pub each_fails : new.write_failed ≡ true → {E : Type 0} {r : Result (Unit {0}) E} (P : E → Type 0) → IsErrAnd r P
      → WriteBytesPost was new all r
  each_fails fault P err_is = partial_fails P err_is (flat_map f more) (rw is) a wrote fault

pub first_is_position : (test : ℕ → Bool) (bytes : List ℕ) (r : Option ℕ) → IsFirstByte test bytes r
    → r ≡ position test bytes
first_is_position test bytes None none = grind (arith, (position_or_len_is test bytes (length bytes) 0), none)
first_is_position _ _ _ (range, found) = grind (arith, position_or_len_is)

pub none_past : (fs : Lines) (i n : ℕ) → drop i fs ≡ [] → i ≤ n → drop n fs ≡ []
none_past fs i n none le = grind (arith, drop-drop (n - i) i fs)

pub drop_next : (fs more : Lines) (f : List ℕ) (i : ℕ) → drop i fs ≡ f ∷ more → drop (i + 1) fs ≡ more
drop_next fs _ f i some = rw (← drop-drop 1 i fs, some)

abbrev pub remaining_length : Option (List ℕ) → ℕ
remaining_length None = 0
remaining_length (Some bytes) = suc (length bytes)

abbrev pub AreFieldsOf : Option ℕ → Option (List ℕ) → Option (List ℕ) → Type 0
AreFieldsOf separator line left = (field : List ℕ) (remainder : Option (List ℕ))
    → IsFieldIn separator left field remainder → IsFieldIn separator line field remainder

pub fields_after : (separator : Option ℕ) (line : Option (List ℕ)) (field : List ℕ) (remainder : Option (List ℕ))
    → IsFieldIn separator line field remainder → AreFieldsOf separator line remainder
fields_after separator None field remainder p f r q = absurd p
fields_after separator (Some l) field None p f r q = absurd q
fields_after separator (Some l) field (Some b) p f r q =
    let (end, ends, _) = p.ends in
    record {
      front = p.front ++ (field ++ end ∷ q.front);
      tail = q.tail;
      is = rw (p.is, ends, q.is) (simp append_assoc);
      ends = q.ends;
    }

pub piece_at : (separator : Option ℕ) (bytes : List ℕ) (at : ℕ)
    → position (is_separator separator) bytes ≡ Some at → IsPiece separator bytes (take at bytes)
    (Some (take (length bytes - (at + 1)) (drop (at + 1) bytes)))
piece_at separator bytes at is = let (within, found, _) = position-Some _ bytes at 0 is in
    record {
      front = [];
      tail = drop at bytes;
      is = sym (take-append-drop at bytes);
      ends = (get_or bytes at 0, grind usual, found);
    }

pub ends_at : (separator : Option ℕ) (bytes : List ℕ) (at : ℕ) (end : Option ℕ)
    → end ≡ position (is_separator separator) bytes → end ≡ Some at → IsFirstPieceEnd separator bytes at
ends_at separator bytes at end first some = grind (arith, split_around (is_separator separator) bytes at)

pub ends_whole : (separator : Option ℕ) (bytes : List ℕ) (end : Option ℕ)
    → end ≡ position (is_separator separator) bytes → end ≡ None → IsFirstPieceEnd separator bytes (length bytes)
ends_whole = grind (usual, split_whole)

pub first_piece_span : (c number end : ℕ) (line : List ℕ) → number ≤ 1 → IsFirstPieceEnd (Some c) line end
    → IsKeySpan line (nth_field number (remaining_fields (Some c) (Some line))) (record { start = 0; end = end })
first_piece_span = grind arith

pub skip_empty_word : (separator : Option ℕ) (bytes field : List ℕ) (remainder : Option (List ℕ))
    → is_some separator ≡ false → (length field == 0) ≡ true
    → MatchOption remainder (slice_split (is_separator separator) bytes ≡ field ∷ [])
    (λ left. slice_split (is_separator separator) bytes ≡ field ∷ slice_split (is_separator separator) left)
    → remaining_fields separator remainder ≡ remaining_fields separator (Some bytes)
skip_empty_word = grind arith

pub prefixed_fields : (c : ℕ) (bytes : List ℕ) → with_prefix c (slice_split (λ b. b == c) bytes) ≡ c ∷ bytes
prefixed_fields c [] = refl
prefixed_fields c (x ∷ xs) = search (rules, prefixed_fields c xs)

join_is_prefixed : (byte : ℕ) (f : List ℕ) (fs : Lines) → join_with_byte byte (f ∷ fs) ≡ f ++ with_prefix byte fs
join_is_prefixed _ f [] = sym (append-nil f)
join_is_prefixed byte f (g ∷ fs) = cc (join_is_prefixed byte g fs)

-- ---- the other fields, after `count` of them

pub others_more : (count i : ℕ) {fs more : Lines} {f : List ℕ} → i < count → fs ≡ f ∷ more
    → remove fs (count - i) ≡ f ∷ remove more (count - (i + 1))
others_more = search rules

pub others_rest : (n : ℕ) {fs more : Lines} {f : List ℕ} → n ≡ 0 → fs ≡ f ∷ more → remove fs n ≡ more
others_rest n last is = rw (is, last)

pub entry_plain : (job : Join) (k : List ℕ) (one two : Option (List ℕ)) → job.list ≡ None
    → entry job k (remaining_fields job.separator one) (remaining_fields job.separator two) ≡ k
    ++ (with_prefix (output_separator job.separator) (other_fields job.field1 (remaining_fields job.separator one))
    ++ with_prefix (output_separator job.separator) (other_fields job.field2 (remaining_fields job.separator two)))
entry_plain = grind (arith, join_is_prefixed, flat_map-append)

pub between_is : (separator : Option ℕ) → output_separator separator ≡ unwrap_or separator 32
between_is = grind arith

pub first_then_rest : (f : OutField → List ℕ) (items : List OutField) (d : OutField) → 1 ≤ length items
    → {bytes : List ℕ} → bytes ≡ f (get_or items 0 d)
    → map f items ≡ bytes ∷ map f (take (length items - 1) (drop 1 items))
first_then_rest = grind usual

abbrev pub output_item : Join → List ℕ → Option (List ℕ) → Option (List ℕ) → OutField → List ℕ
output_item job k one two i =
    or_filler job.empty (field_named i k (remaining_fields job.separator one) (remaining_fields job.separator two))

pub entry_listed : (job : Join) (k : List ℕ) (one two : Option (List ℕ)) (items : List OutField) (d : OutField)
    → 1 ≤ length items → {bytes : List ℕ} → bytes ≡ output_item job k one two (get_or items 0 d)
    → entry_with_list job (Some items) k one two ≡ bytes ++ with_prefix (output_separator job.separator)
    (map (output_item job k one two) (take (length items - 1) (drop 1 items)))
entry_listed = grind (arith, first_then_rest, join_is_prefixed)

-- ---- words with single spaces are written unchanged

abbrev pub words_of : Lines → List ℕ
words_of split = with_prefix 32 (filter is_nonempty split)

-- after a blank, and after a byte of a word
abbrev pub WordsAre : Bool → List ℕ → Type 0
WordsAre true bytes = words_of (slice_split is_blank bytes) ≡ 32 ∷ bytes
WordsAre false bytes = (c : ℕ) → words_of (onto_first c (slice_split is_blank bytes)) ≡ 32 ∷ c ∷ bytes

word_more : (c b : ℕ) (split : Lines) {l : List ℕ} → words_of (onto_first b split) ≡ 32 ∷ b ∷ l
    → words_of (onto_first c (onto_first b split)) ≡ 32 ∷ c ∷ b ∷ l
word_more c b _ is = grind arith

pub single_spaced_words : (blank : Bool) (bytes : List ℕ) → is_single_spaced blank bytes ≡ true → WordsAre blank bytes
single_spaced_words true [] tidy = cc
single_spaced_words true (b ∷ bytes) tidy =
    let ih = λ (h : is_single_spaced false bytes ≡ true). single_spaced_words false bytes h b in
    grind arith
single_spaced_words false [] tidy = λ c. refl
single_spaced_words false (b ∷ bytes) tidy =
    λ c.
    let more = λ (h : is_single_spaced false bytes ≡ true). word_more c b _ (single_spaced_words false bytes h b) in
    grind (arith, single_spaced_words true bytes)

-- ---- lines that are written unchanged

pub pair_is : (job : Join) (key : List ℕ) {one two : List ℕ} (end : ℕ) → IsUnchanged job First one
    → IsUnchanged job Second two → join_key job First one ≡ key → join_key job Second two ≡ key
    → one ++ take (length two - length key) (drop (length key) two) ++ end ∷ []
    ≡ entry job key (join_fields job.separator one) (join_fields job.separator two) ++ end ∷ []
pair_is job key {one} {two} end w1 w2 keyed1 keyed2 = grind (usual, entry_plain job key (Some one) (Some two) w1.list)

first_is : (job : Join) (key : List ℕ) {line : List ℕ} → IsUnchanged job First line
    → nth_field job.field1 (join_fields job.separator line) ≡ key
    → line ≡ entry job key (join_fields job.separator line) []
first_is job key {line} w keyed = grind (arith, entry_plain job key (Some line) None w.list, append-nil)

second_is : (job : Join) (key : List ℕ) {line : List ℕ} → IsUnchanged job Second line
    → nth_field job.field2 (join_fields job.separator line) ≡ key
    → line ≡ entry job key [] (join_fields job.separator line)
second_is job key {line} w keyed = grind (arith, entry_plain job key None (Some line) w.list)

pub alone_is : (job : Join) (key : List ℕ) (side : Side) {line : List ℕ} → IsUnchanged job side line
    → join_key job side line ≡ key → line ≡ entry_alone job side key line
alone_is job key First w keyed = first_is job key w keyed
alone_is job key _ w keyed = second_is job key w keyed

pub one_line_is : {job same : Join} {key k : List ℕ} (side : Side) (line : List ℕ) (one two : Option (List ℕ))
    → same ≡ job → k ≡ key → HasOneLine side line one two
    → entry_with_list same same.list k one two ≡ entry_alone job side key line
one_line_is First line one two jobs keys is = rw (jobs, keys, is.0, is.1)
one_line_is _ _ one two jobs keys is = rw (jobs, keys, is.0, is.1)

pub space_is : (blank : Bool) (b : ℕ) (v : List ℕ) → is_blank b ≡ true → is_single_spaced blank (b ∷ v) ≡ true
    → (b ≡ 32) × (is_single_spaced true v ≡ true)
space_is _ b v here spaced = grind (arith, here)

spaced_suffix : (blank : Bool) (xs : List ℕ) (b : ℕ) (ys : List ℕ) → is_single_spaced blank (xs ++ b ∷ ys) ≡ true
    → is_blank b ≡ true → (b ≡ 32) × (is_single_spaced true ys ≡ true)
spaced_suffix _ [] b ys s here = space_is _ b ys here s
spaced_suffix blank (x ∷ xs) b ys s here = grind (arith, spaced_suffix (x == 32) xs b ys)

-- ---- the bytes before a field and after it

pub even_prefixed : (separator : Option ℕ) (line : List ℕ) → is_evenly_separated separator line ≡ true
    → with_prefix (output_separator separator) (join_fields separator line) ≡ output_separator separator ∷ line
even_prefixed (Some c) line even = prefixed_fields c line
even_prefixed None line even = single_spaced_words true line even

pub after_piece : (separator : Option ℕ) (line field : List ℕ) (remainder : Option (List ℕ)) (end : ℕ)
    → IsPiece separator line field remainder
    → MatchOption remainder (end ≡ length line) (λ bytes. end + 1 + length bytes ≡ length line)
    → is_evenly_separated separator line ≡ true
    → with_prefix (output_separator separator) (remaining_fields separator remainder) ≡ drop end line
after_piece separator line field None end p e even = grind usual
after_piece separator line field (Some bytes) end p e even = grind (usual, by)
  where
    by : (separator : Option ℕ) (byte : ℕ) → is_separator separator byte ≡ true
        → is_evenly_separated separator ((p.front ++ field) ++ byte ∷ bytes) ≡ true
        → with_prefix (output_separator separator) (join_fields separator bytes) ≡ byte ∷ bytes
    by (Some c) byte test even = cc (prefixed_fields c _, eqb-true byte c test)
    by None byte test even =
        let (is_space, spaced) = spaced_suffix true (p.front ++ field) byte bytes even test in
        cc (single_spaced_words true bytes spaced)

remove_past : (fs : Lines) (i : ℕ) → drop i fs ≡ [] → remove fs i ≡ fs
remove_past [] zero none = refl
remove_past [] (suc i) none = refl
remove_past (f ∷ fs) zero none = cc
remove_past (f ∷ fs) (suc i) none = cc (remove_past fs i none)

remove_at : (fs : Lines) (i : ℕ) (f : List ℕ) (more : Lines) → drop i fs ≡ f ∷ more → remove fs i ≡ take i fs ++ more
remove_at [] zero f more is = cc
remove_at [] (suc i) f more is = cc
remove_at (g ∷ fs) zero f more is = cc
remove_at (g ∷ fs) (suc i) f more is = cc (remove_at fs i f _ is)

cut_before : (c : ℕ) (before more line : List ℕ) → before ++ (c ∷ more) ≡ c ∷ line → (rest : List ℕ)
    → before ++ rest ≡ cond (length before == 0) rest (c ∷ take (length before - 1) line ++ rest)
cut_before c [] more line is rest = refl
cut_before c _ _ _ is _ = grind usual

-- without a field: the bytes before it, except the separator, and those after it
pub around_is : (separator : Option ℕ) (number : ℕ) (line : List ℕ) (found : Option Span)
    → IsFieldFound separator number line found → is_evenly_separated separator line ≡ true
    → with_prefix (output_separator separator) (other_fields number (join_fields separator line))
    ≡ around (output_separator separator) line found
around_is separator number line None none even = grind (arith, remove_past, even_prefixed)
around_is separator number line (Some span) f even =
    let c = output_separator separator in
    let fs = join_fields separator line in
    let word = slice_range line span.start span.end in
    let rest = drop span.end line in
    let before = with_prefix c (take (number - 1) fs) in
    let line_is : before ++ (c ∷ (word ++ rest)) ≡ c ∷ line =
    let all = rw (← take-append-drop (number - 1) fs, f.is, flat_map-append) at (even_prefixed separator line even) in
    cc (f.after even) in
    let long : length before ≡ span.start = omega (
      arith,
      ap length line_is,
      length-append before (c ∷ (word ++ rest)),
      length-append word rest,
      length-drop span.end line,
      length-take-le (span.end - span.start) (drop span.start line) (omega (arith, length-drop span.start line)),
    ) in
    let cut = rw long at (cut_before c before (word ++ rest) line line_is rest) in
    grind (usual, remove_at)

-- ---- what the functions of `join` name on themselves

pub ruleset first_piece_steps = (split_whole, split_around, piece_at)

pub ruleset remaining_steps = (none_past, drop_next, fields_after)

pub ruleset other_fields_steps = (around_is, between_is, push_is_write)
