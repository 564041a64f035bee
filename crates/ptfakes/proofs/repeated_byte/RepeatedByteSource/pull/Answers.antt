-- Answers for `pull` of `RepeatedByte`: a read has the effect that the model gives it (`fed`), and so one that
-- `Source` allows (`pulled`). The buffer is filled with the byte, so any number of its first bytes are what the
-- source gives.
use Rattle.std.proofs.Common.{◌≡◌, ◌<◌, ◌-◌, length, min, replicate, arith, rules, ap}
use Rattle.std.specs.Prelude.{◌||◌, ◌==◌}
use Rattle.ptfakes.specs.FakeSource.{FakeSource}
use Rattle.ptfakes.proofs.RepeatedBytes.{pull_of_repeated, fake_pull_is_pull}
use Rattle.ptfakes.proofs.repeated_byte.RepeatedByteSource.pull.Goals as goal

pub returns-clause-pulled : goal.returns-clause-pulled
returns-clause-pulled c =
    let r = c.self.inside in
    let count : c.min-count.result ≡ min (min r.left r.size) (length c.fill.new.self) = cc in
    let some : 0 < c.args.self.now.size =
    omega (arith, c.self.invariant, ap (λ (f : FakeSource). f.size) c.self.view_is) in
    fake_pull_is_pull c.args.self.now
    (record {
      left = replicate (r.left - c.min-count.result) r.byte;
      size = r.size;
      ok_calls = c.next_succeeds.new.self.ok_calls;
      pulls = c.next_succeeds.new.self.made;
      eof = r.eof || (c.min-count.result == 0);
      failed = r.failed;
    })
    c.fill.new.self c.min-count.result
    (rw (← c.self.view_is, c.next_succeeds.ensures.counted)
    (pull_of_repeated r.byte r.left r.size _ r.calls.ok_calls r.calls.made c.min-count.result r.eof
    r.failed c.fill.new.self (c.fill.ensures.after (λ y e. e)) count (search rules)))
    some (omega (arith, c.fill.ensures.len, c.requires))

pub returns-clause-fed : goal.returns-clause-fed
returns-clause-fed c =
    let r = c.self.inside in
    let count : c.min-count.result ≡ min (min r.left r.size) (length c.fill.new.self) = cc in
    rw (← c.self.view_is, c.next_succeeds.ensures.counted)
    (pull_of_repeated r.byte r.left r.size _ r.calls.ok_calls r.calls.made c.min-count.result r.eof
    r.failed c.fill.new.self (c.fill.ensures.after (λ y e. e)) count (search rules))
