-- A run that is given a target returns the same one, by the marks of their states. And what is said of a marked state
-- holds of the sink itself.
use Rattle.std.proofs.Common.{◌≡◌, ℕ, suc, Bool, false, List, [], ◌∷◌, Option, Some, None, ap, sym, ◌∙◌, refl, subst}
use Rattle.std.specs.Io.KnownBytes.{append_known}
use Rattle.ptlines.specs.Readers.{Reader}
use Rattle.ptlines.specs.Sinks.{SinkState}
use Rattle.ptlines.specs.Slots.{Slots}
use Rattle.ptrun.specs.CommandSpec.{CommandSpec}
use Rattle.ptrun.specs.Files.{ReceivedInputs}
use Rattle.ptflow.specs.declared.faults.FlowFault.{FlowFault}
use Rattle.ptrun.specs.Calls.Runs.{RunWithStorePost}
use Rattle.ptrun.specs.Runs.{Outcome, IsRun, RunEnd, sinks}
use Rattle.ptfiles.specs.Outputs.{closed_state}
use Rattle.ptfiles.specs.Private.Outputs.{IsStandard, known_or, mark, output_state, target_state}
use Rattle.ptfiles.specs.declared.output.Output.{Output}
use Rattle.ptfiles.specs.declared.output.Target.{Target}
use Rattle.ptfiles.specs.declared.output.Target.TheVariants as to

-- ---- marks

known_of : Option (List ℕ) → Option (List ℕ)
known_of (Some (kind ∷ suc n ∷ bytes)) = Some bytes
known_of bytes = None

unmark : SinkState → SinkState
unmark s = record s { accepted = known_of s.accepted }

unmark_mark : (kind : ℕ) (written : List ℕ) (s : SinkState) → unmark (mark kind written s) ≡ s
unfolding unmark known_of
unmark_mark kind written s = λ i. record s { accepted = by_bytes s.accepted i }
  where
    by_bytes : (known : Option (List ℕ)) → known_of (Some (kind ∷ known_or written known)) ≡ known
    by_bytes None = refl
    by_bytes (Some bytes) = refl

marks_are_equal : (kind : ℕ) (written after : List ℕ) (a b : SinkState) → mark kind after a ≡ mark kind written b
    → a ≡ b
marks_are_equal kind written after a b same =
    sym (unmark_mark kind after a) ∙ ap unmark same ∙ unmark_mark kind written b

-- bytes that were added behind a mark were added to the sink
added_behind : (kind : ℕ) (written after : List ℕ) (old new : Option (List ℕ)) (bytes : List ℕ)
    → Some (kind ∷ known_or after new) ≡ append_known (Some (kind ∷ known_or written old)) bytes
    → new ≡ append_known old bytes
added_behind kind written after None None bytes is = refl
added_behind kind written after None (Some new) bytes is = cc
added_behind kind written after (Some old) None bytes is = cc
added_behind kind written after (Some old) (Some new) bytes is = cc

pub new_state : {W F : Type 0} (of_out : W → SinkState) (of_file : F → SinkState) (output : Output W F)
    {target : Target W F} → output.target ≡ target → output.written.items ≡ []
    → output_state of_out of_file output ≡ target_state of_out of_file target []
new_state of_out of_file output is none = λ i. target_state of_out of_file (is i) (none i)

-- ---- a run returns the target that it was given

pub unused_is : {W : Type 0} {unused : Option W} {given out : W} → unused ≡ Some given → unused ≡ Some out → out ≡ given
unused_is given out = cc

pub not_none : {W : Type 0} {unused : Option W} {given : W} → unused ≡ Some given → unused ≡ None → ⊥
not_none given none = cc

module _ {W F : Type 0} (of_out : W → SinkState) (of_file : F → SinkState) (target : Target W F) (after bytes : List ℕ)
  where
    pub standard_returned : (written : List ℕ) (old : SinkState)
        → (target_state of_out of_file target after).accepted ≡ append_known (mark 2 written old).accepted bytes
        → (out : W) × (target ≡ to.Standard out)
    standard_returned written old is = by_target target is
      where
        by_target : (t : Target W F)
            → (target_state of_out of_file t after).accepted ≡ append_known (mark 2 written old).accepted bytes
            → (out : W) × (t ≡ to.Standard out)
        by_target (to.Standard out) is = (out, refl)
        by_target (to.File file) is = cc
        by_target (to.Nowhere failed) is = cc

    pub returns_standard : {first : SinkState} (written : List ℕ) (old : SinkState) → first ≡ mark 2 written old
        → (target_state of_out of_file target after).accepted ≡ append_known first.accepted bytes → IsStandard target
    returns_standard written old first is =
        subst IsStandard (sym (standard_returned written old (rw first at is)).1) tt

    pub file_returned : (written : List ℕ) (old : SinkState)
        → (target_state of_out of_file target after).accepted ≡ append_known (mark 1 written old).accepted bytes
        → (file : F) × (target ≡ to.File file)
    file_returned written old is = by_target target is
      where
        by_target : (t : Target W F)
            → (target_state of_out of_file t after).accepted ≡ append_known (mark 1 written old).accepted bytes
            → (file : F) × (t ≡ to.File file)
        by_target (to.Standard out) is = cc
        by_target (to.File file) is = (file, refl)
        by_target (to.Nowhere failed) is = cc

    pub nowhere_returned : (target_state of_out of_file target after).accepted
        ≡ append_known (closed_state false).accepted bytes → (failed : Bool) × (target ≡ to.Nowhere failed)
    nowhere_returned is = by_target target is
      where
        by_target : (t : Target W F)
            → (target_state of_out of_file t after).accepted ≡ append_known (closed_state false).accepted bytes
            → (failed : Bool) × (t ≡ to.Nowhere failed)
        by_target (to.Standard out) is = cc
        by_target (to.File file) is = cc
        by_target (to.Nowhere failed) is = (failed, refl)

-- ---- a run that is given a marked sink is one that is given the sink

module _ (kind : ℕ) (written after : List ℕ) (m : CommandSpec) (old new : List Reader) (messages : SinkState)
    (s s' : SinkState) (o : Outcome) where
  stopped : (received : ReceivedInputs) (pushed message : List ℕ) (done : ℕ) (fault : Option FlowFault)
      → RunEnd m received old new pushed message (record o { out = mark kind after s' }) done fault
      → RunEnd m received old new pushed message (record o { out = s' }) done fault
  stopped received pushed message done None ends = ends
  stopped received pushed message done (Some fault) ends = ends

  is_run_behind : IsRun m old new (sinks (mark kind written s) messages) (record o { out = mark kind after s' })
      → IsRun m old new (sinks s messages) (record o { out = s' })
  is_run_behind r = record {
    received = r.received;
    came = r.came;
    written = r.written;
    output = added_behind kind written after s.accepted s'.accepted r.written r.output;
    message = r.message;
    has_said = r.has_said;
    operands_done = r.operands_done;
    fault = r.fault;
    ends = stopped r.received r.written r.message r.operands_done r.fault r.ends;
    is_prefix = r.is_prefix;
    names_failed_read = r.names_failed_read;
    decided_is_written = r.decided_is_written;
    bounded = r.bounded;
    beyond = record {
      flushed = r.beyond.flushed;
      flushes = r.beyond.flushes;
      untouched = r.beyond.untouched;
      ended = r.beyond.ended;
      left = r.beyond.left;
      bounded_lag = r.beyond.bounded_lag;
    };
  }

  pub run_behind : (lent left : Slots)
      → RunWithStorePost m old new (sinks (mark kind written s) messages) (record o { out = mark kind after s' }) lent left
      → RunWithStorePost m old new (sinks s messages) (record o { out = s' }) lent left
  unfolding is_run_behind
  run_behind lent left r = record {
    run = record { run = is_run_behind r.run.run; slots = r.run.slots };
    is_exact = λ w bytes unfailed writes fits. let e = r.is_exact w bytes unfailed writes fits in record {
      out = added_behind kind written after s.accepted s'.accepted (m.out w) e.out;
      messages = e.messages;
      status_is = e.status_is;
      bounded = e.bounded;
    };
    reads_nothing = λ none. let u = r.reads_nothing none in
        (u.0, (marks_are_equal kind written after s' s u.1.0, u.1.1, u.1.2));
    keeps_nothing = r.keeps_nothing;
  }
