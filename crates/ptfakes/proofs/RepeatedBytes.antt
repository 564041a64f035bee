-- Reads of the sources of the tests. A source of one byte repeated fills the buffer with it beforehand, so a read
-- gives what its model says. And each read that the model of these sources allows is one that `Source` allows.
use Rattle.std.proofs.Common.{◌≡◌, ℕ, ◌-◌, ◌<◌, ◌≤◌, Bool, List, [], ◌++◌, length, take, drop, replicate, min, refl}
use Rattle.std.proofs.Common.{sym, ◌∙◌, ap, arith, take-append-drop, Some}
use Rattle.std.proofs.Common.{true, false, ◌∷◌, length-drop, eq-eqb}
use Rattle.std.proofs.lemmas.Bool.Decides.{nat_tests}
use Rattle.std.specs.Prelude.{◌||◌, ◌==◌}
use Rattle.std.proofs.lemmas.List.{take-replicate, drop-replicate, length-replicate}
use Rattle.ptlines.specs.Private.Sources.{PullOk}
use Rattle.ptfakes.specs.Calls.{count_after}
use Rattle.ptfakes.specs.FakeSource.{FakeSource, FakePullOk, source_state}

-- a buffer filled with the byte begins with the bytes left
prefix_of_repeated : (byte left size n : ℕ) (into : List ℕ) → into ≡ replicate size byte → n ≤ left → n ≤ size
    → take n into ≡ take n (replicate left byte)
prefix_of_repeated byte left size n into filled within fits =
    ap (take n) filled ∙ take-replicate n size byte fits ∙ sym (take-replicate n left byte within)

pub pull_of_repeated : (byte left size buffer ok_calls made n : ℕ) (eof failed : Bool) (into : List ℕ) → into
    ≡ replicate buffer byte → n ≡ min (min left size) (length into) → made < ok_calls
    → FakePullOk (record {
      left = replicate left byte;
      size = size;
      ok_calls = ok_calls;
      pulls = made;
      eof = eof;
      failed = failed;
    })
    (record {
      left = replicate (left - n) byte;
      size = size;
      ok_calls = ok_calls;
      pulls = count_after made;
      eof = eof || (n == 0);
      failed = failed;
    }) into n
pull_of_repeated byte left size buffer ok_calls made n eof failed into filled count passes =
    let fits : n ≤ buffer = omega (arith, count, ap length filled, length-replicate buffer byte) in
    let within : n ≤ left = omega (arith, count) in
    record {
      passes = passes;
      count = omega (arith, count, length-replicate left byte);
      given = prefix_of_repeated byte left buffer n into filled within fits;
      is = λ i. record {
        left = sym (drop-replicate n left byte) i;
        size = size;
        ok_calls = ok_calls;
        pulls = count_after made;
        eof = eof || (n == 0);
        failed = failed;
      };
    }

eof_unchanged : (b : Bool) (n : ℕ) → 0 < n → (b || (n == 0)) ≡ b
eof_unchanged true n some = refl
eof_unchanged false n some = grind (arith, nat_tests)

eof_reached : (b : Bool) (n : ℕ) → n ≡ 0 → (b || (n == 0)) ≡ true
eof_reached true n none = refl
eof_reached false n none = eq-eqb n 0 none

nil_if_empty : (xs : List ℕ) → length xs ≡ 0 → xs ≡ []
nil_if_empty [] none = refl
nil_if_empty (x ∷ xs) none = cc

-- a read of the fake source has the effect that `Source` requires
pub fake_pull_is_pull : (old new : FakeSource) (into : List ℕ) (n : ℕ) → FakePullOk old new into n → 0 < old.size
    → 0 < length into → PullOk (source_state old) (source_state new) into n
fake_pull_is_pull old new into n piece some room =
    let left : new.left ≡ drop n old.left = ap (λ (f : FakeSource). f.left) piece.is in
    let eof : new.eof ≡ (old.eof || (n == 0)) = ap (λ (f : FakeSource). f.eof) piece.is in
    let none : n ≡ 0 → length old.left ≡ 0 = λ e. omega (arith, piece.count, e, some, room) in
    record {
      fits = omega (arith, piece.count);
      moved = ap (λ (l : List ℕ). Some l)
          (sym (take-append-drop n old.left) ∙ ap (λ (l : List ℕ). l ++ drop n old.left) (sym piece.given)
          ∙ ap (λ (l : List ℕ). take n into ++ l) (sym left));
      failed = ap (λ (f : FakeSource). f.failed) piece.is;
      more = λ h. eof ∙ eof_unchanged old.eof n h;
      eof = λ h. eof ∙ eof_reached old.eof n h;
      at_end = λ h. nil_if_empty new.left (omega (arith, ap length left, length-drop n old.left, none h));
    }
