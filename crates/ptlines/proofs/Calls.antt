-- How a call of any engine meets its postcondition (`CallPost`): if the output had failed before, if one of the
-- first slots could not be added, and otherwise from the progress that the call made (`CallProgress`). If a call
-- meets it from the state in which the terminator of the readers was set, it also does from the state before that.
use Rattle.ptlines.proofs
use Rattle.ptlines.specs
use proofs.Common.{◌≡◌, ℕ, ◌<◌, ◌≤◌, true, false, List, [], Option, length, max, refl, sym, ◌∙◌, ap, arith, Reader}
use proofs.Common.{ReaderAdvance, IsSound, Received, IsPrefix, PushEffect}
use specs.Calls.Engines.{InputNames, CallState, CallEnd, Complete, OutOfOrder, ReadFault, WriteFault, MemoryFault}
use specs.Engines.{EngineSpec}
use specs.Calls.Engines.{CallPost, CallOutcome, AreAllConsistent, AllPushed, terminator_after, with_input}
use specs.Calls.Lag.{BoundedLag}
use proofs.Lag.{bounded_lag_now}
use proofs.Push.{push_nothing}
use proofs.Received.{received_with, has_received, has_received_set}

pub reads_nothing : (r : Reader) → ReaderAdvance r r []
reads_nothing r = grind arith

-- The bytes received before a call, and by its end.
abbrev pub given_before : {I : Type 0} → CallState I → I → Received
given_before old i = received_with [] (old.reader i)

abbrev pub given_by : {I : Type 0} → CallState I → (I → List ℕ) → I → Received
given_by new bytes i = received_with (bytes i) (new.reader i)

module _ {I : Type 0} (names : InputNames I) (engine : EngineSpec I) where
  pub call_on_failed_output : {old : CallState I} → old.out.write_failed ≡ true → old.store.denied ≡ false
      → CallPost names engine old old WriteFault
  call_on_failed_output {old} fault not_denied = record {
    given = λ i. received_with [] (old.reader i);
    came = grind arith;
    untouched = λ i unread. refl;
    pushed = [];
    wrote = push_nothing _;
    ends = grind arith;
    is_prefix = grind arith;
    decided_is_written = λ i read failed clean. cc;
    bounded_lag = λ i read clean. cc;
    peak = grind arith;
    slots = grind arith;
    added = λ clean. cc;
    unread = λ clean few. cc;
    terminator = λ i read clean. cc;
    unchanged_if_failed = grind arith;
  }

  -- A first slot could not be added: only the terminator of the readers was set.
  module _ (old new : CallState I) (clean : old.out.write_failed ≡ false) (same_output : new.out ≡ old.out)
      (ends : (i : I) → names.is_read i ≡ true
      → terminator_after engine (old.reader i).terminator ≡ engine.terminator)
      (set : (i : I) → names.is_read i ≡ true
      → new.reader i ≡ record (old.reader i) { terminator = engine.terminator })
      (untouched : (i : I) → names.is_read i ≡ false → new.reader i ≡ old.reader i) where
    unfoldable pub call_without_slots : ((i : I) → names.is_read i ≡ true → IsSound (old.reader i))
        → ((i : I) → names.is_read i ≡ true → (old.reader i).failed ≡ false)
        → new.store.denied ≡ true → new.store.peak ≡ old.store.peak
        → length old.store.lines ≤ length new.store.lines → length new.store.lines < engine.first_slots
        → ((texts : I → List ℕ) → engine.first_slots ≤ max (length old.store.lines) (engine.slots texts))
        → ((i : I) → names.is_read i ≡ true → IsPrefix
        (engine.decided (with_input names i (record { bytes = []; eof = false }) (given_before old))) [])
        → CallPost names engine old new MemoryFault
    call_without_slots sound unfailed denied same_peak least few most nothing_decided = record {
      given = given_before old;
      came = λ i read.
          let all = has_received (old.reader i) (old.reader i) [] (reads_nothing (old.reader i)) in
          rw (set i read) (record {
            moved = all.moved;
            count = all.count;
            eof = all.eof;
            refused = all.refused;
            still = all.still;
            end = all.end;
          });
      untouched = untouched;
      pushed = [];
      wrote = rw same_output (push_nothing old.out);
      ends = record {
        denied = denied;
        unfailed = λ i read. ap (λ r. r.failed) (set i read);
        clean = cc;
        left = λ enough. absurd (omega (arith, enough, few));
      };
      is_prefix = λ texts agree. record { rest = engine.text texts; is = refl };
      decided_is_written = λ i read failed fine. cc (unfailed i read, ap (λ r. r.failed) (set i read));
      bounded_lag = λ i read fine. rw same_output (bounded_lag_now {I = Unit {0}}
          (λ came. engine.decided (with_input names i (came tt) (given_before old))) (λ u. given_before old i)
          old.out old.out []
          (record {
            before = λ u. record {
              earlier = record { bytes = []; eof = false };
              last = (old.reader i).buffered;
              split = refl;
              short = omega (arith, (sound i read).buffered);
              eof = λ never. cc;
            };
            begins = nothing_decided i read;
          }) (push_nothing old.out) clean);
      peak = λ texts agree. omega (arith, same_peak);
      slots = λ texts agree. omega (arith, few, most texts);
      added = λ fine. record { least = least; all = λ allowed. cc };
      unread = λ fine less. record { readers = set; output = same_output };
      terminator = λ i read fine. ap (λ r. r.terminator) (set i read) ∙ sym (ends i read);
      unchanged_if_failed = λ fault. cc;
    }

  -- The progress of a call that had its first slots: it took `bytes` from each input.
  module _ (old new : CallState I) (bytes : I → List ℕ) where
    abbrev given : I → Received
    given = given_by new bytes

    pub record CallProgress (pushed : List ℕ) : Type 0 where
      pub reads : (i : I) → names.is_read i ≡ true → ReaderAdvance (old.reader i) (new.reader i) (bytes i)
      pub untouched : (i : I) → names.is_read i ≡ false → new.reader i ≡ old.reader i
      pub never_failed : (i : I) → names.is_read i ≡ true → (old.reader i).failed ≡ false
      pub writable : old.out.write_failed ≡ false
      pub wrote : PushEffect old.out new.out pushed
      pub is_prefix : (texts : I → List ℕ) → AreAllConsistent names given texts → IsPrefix pushed (engine.text texts)
      pub bounded_lag : (i : I) → names.is_read i ≡ true → BoundedLag {I = Unit {0}}
          (λ came. engine.decided (with_input names i (came tt) given)) (λ u. given i) old.out new.out pushed
      pub peak : (texts : I → List ℕ) → AreAllConsistent names given texts
          → new.store.peak ≤ max old.store.peak (engine.size texts)
      pub slots : (texts : I → List ℕ) → AreAllConsistent names given texts
          → length new.store.lines ≤ max (length old.store.lines) (engine.slots texts)
      pub least : length old.store.lines ≤ length new.store.lines
      pub room : engine.first_slots ≤ length new.store.lines
      -- the readers had the terminator of the engine before, if it has one
      pub terminator : (i : I) → names.is_read i ≡ true
          → terminator_after engine (old.reader i).terminator ≡ (old.reader i).terminator

    abbrev pub DecidedIfReadFailed : List ℕ → CallEnd I → Type 0
    DecidedIfReadFailed pushed (ReadFault input) =
        (i : I) → names.is_read i ≡ true → (new.reader i).failed ≡ true → IsPrefix (engine.decided given) pushed
    DecidedIfReadFailed pushed other = Unit {0}

    module _ {pushed : List ℕ} (p : CallProgress pushed) where
      pub decided_at : (end : CallEnd I) → CallOutcome names engine old new given pushed end
          → DecidedIfReadFailed pushed end → (i : I) → names.is_read i ≡ true → (new.reader i).failed ≡ true
          → new.out.write_failed ≡ false → IsPrefix (engine.decided given) pushed
      decided_at (ReadFault input) e decided i read failed clean = decided i read failed
      decided_at Complete e decided i read failed clean = grind arith
      decided_at (OutOfOrder input line) e decided i read failed clean = grind arith
      decided_at WriteFault e decided i read failed clean = cc (e.write_failed)
      decided_at _ e decided i read failed clean = grind arith

      unfoldable pub call_ends : (end : CallEnd I) → CallOutcome names engine old new given pushed end
          → DecidedIfReadFailed pushed end → CallPost names engine old new end
      call_ends end e decided = record {
        given = given;
        came = λ i read. has_received (old.reader i) (new.reader i) (bytes i) (p.reads i read);
        untouched = p.untouched;
        pushed = pushed;
        wrote = p.wrote;
        ends = e;
        is_prefix = p.is_prefix;
        decided_is_written = decided_at end e decided;
        bounded_lag = λ i read clean. p.bounded_lag i read;
        peak = p.peak;
        slots = p.slots;
        added = λ clean. record { least = p.least; all = λ allowed. p.room };
        unread = λ clean few. absurd (omega (arith, few));
        terminator = λ i read clean. (p.reads i read).terminator ∙ sym (p.terminator i read);
        unchanged_if_failed = λ fault. cc (p.writable);
      }

  -- The terminator of the readers was set before the call.
  module _ (sets : engine.keeps_terminator ≡ false) (old set new : CallState I)
      (clean : old.out.write_failed ≡ false) (same_output : set.out ≡ old.out)
      (same_store : set.store ≡ old.store) (is : (i : I) → names.is_read i ≡ true
      → set.reader i ≡ record (old.reader i) { terminator = engine.terminator })
      (other : (i : I) → names.is_read i ≡ false → set.reader i ≡ old.reader i) where
    pushed_set : {given : I → Received} {pushed : List ℕ} {found : Option (I × ℕ)}
        → AllPushed names engine set new given pushed found → AllPushed names engine old new given pushed found
    pushed_set e = grind arith

    pub ends_set : (given : I → Received) (pushed : List ℕ) (end : CallEnd I)
        → CallOutcome names engine set new given pushed end → CallOutcome names engine old new given pushed end
    ends_set given pushed Complete e = pushed_set e
    ends_set given pushed (OutOfOrder input line) e = grind arith
    ends_set given pushed (ReadFault input) e = grind arith
    ends_set given pushed WriteFault e = grind arith
    ends_set _ _ _ e = grind arith

    unfoldable pub call_set : {end : CallEnd I} → CallPost names engine set new end → CallPost names engine old new end
    call_set {end} c = record {
      given = c.given;
      came = λ i read. has_received_set (old.reader i) (set.reader i) engine.terminator (is i read) (new.reader i)
          (c.given i) (c.came i read);
      untouched = λ i unread. c.untouched i unread ∙ other i unread;
      pushed = c.pushed;
      wrote = rw same_output at c.wrote;
      ends = ends_set c.given c.pushed end c.ends;
      is_prefix = c.is_prefix;
      decided_is_written = c.decided_is_written;
      bounded_lag = λ i read fine.
          rw same_output at (c.bounded_lag i read (ap (λ o. o.write_failed) same_output ∙ fine));
      peak = λ texts agree. rw same_store at (c.peak texts agree);
      slots = λ texts agree. rw same_store at (c.slots texts agree);
      added = λ fine. rw same_store at (c.added (ap (λ o. o.write_failed) same_output ∙ fine));
      unread = λ fine few. let none = c.unread (ap (λ o. o.write_failed) same_output ∙ fine) few in record {
        readers = λ i read. none.readers i read
            ∙ ap {B = Reader} (λ (r : Reader). record r { terminator = engine.terminator }) (is i read);
        output = none.output ∙ same_output;
      };
      terminator = λ i read fine. c.terminator i read (ap (λ o. o.write_failed) same_output ∙ fine)
          ∙ rw sets refl;
      unchanged_if_failed = λ fault. cc;
    }
