-- Runs that have ended are runs as specified (`IsRun`), whether they read nothing or processed their inputs. The main
-- theorem is that the result of such a run is exact unless a call failed: the bytes that the readers have are
-- consistent with the bytes received, and each cause of a failure contradicts a premise. Then the same for arguments.
use Rattle.ptrun.proofs
use Rattle.ptrun.specs
use proofs.Common.{All, All-map, AreInputsConsistent, AreReadToEnd, Bool, CommandPost, CommandSpec, Completion, Err}
use proofs.Common.{FlowFault, HasCause, HasSaid, Input, InputBytes, InputsPre, IsPrefix, IsRun, IsTooLong, List, Memory}
use proofs.Common.{None, Ok, Option, Output, PushEffect, Read, Reader, Received, ReceivedInputs, Result, RunInputsEnd}
use proofs.Common.{RunInputsPost, SinkState, Slots, Some, Write, [], ap, append-nil, append_known, arith, cases_Bool}
use proofs.Common.{usual, tool_spec, cond, ended_operands, false, false≢true, fault_view, is_reader_unopened}
use proofs.Common.{is_unopened, length, length-append, map, messages, position, positions, push_trans, reader_at, refl}
use proofs.Common.{rules, sinks, spec_of_parsed, spec_of_tool, sym, true, usage_message, usage_status, ℕ, ⊎_elim, ◌++◌}
use proofs.Common.{◌<◌, ◌==◌, ◌∙◌, ◌∷◌, ◌≡◌, ◌≤◌}
use proofs.MessageWrites.{said_trans}
use proofs.OperandInputs.{earlier_map, fresh_all, kept_up, nothing_decided, nothing_read}
use proofs.SameSpecs.{spec_same}
use proofs.OperandInputs.{positions_within, received_at, received_of, some_same}
use Rattle.ptlines.proofs.KnownBytes.{append_known-nil}
use Rattle.ptopts.proofs.CommandGrammar.{meant_as_spelled}
use Rattle.ptopts.proofs.EachTool.{AreInputsOf, are_inputs}
use Rattle.ptopts.specs.Laws.Theorems.{Spelled, SpellsCommand}
use Rattle.ptopts.specs.declared.fault.UseFault.{UseFault}
use specs.Private.Driver.{EndRunPost, FinishPost, result_message}
use specs.Calls.Runs.{IsMeant, RunPre, RunWithStorePost, outcome_of, sink_of}
use specs.Files.{AreNewInputs, HasBytesAt, HasReceivedAt, IsConsistentAt, IsNewOrUnopened}
use specs.Runs.{IsExact, IsExactUnlessFailed, Outcome, RunEnd, Sinks}
use Rattle.std.proofs.lemmas.List.{append_cancel_left, nil_from_length}
use Rattle.ptopts.specs.declared.command.Command as code
use specs.Private.Tools.{tool_of_job, word_of_job}
use specs.SpecOfArgs.{command_spec, is_memory_fault, message_only, spec_of_args, spec_of_result, tool_name}
use Rattle.ptopts.specs.Commands.{Command, Job, RunComm, RunCut, RunJoin, RunPaste, RunTr, RunUniq, command_of_args, job}
use Rattle.ptopts.specs.Syntax.{tools}
use Rattle.std.proofs.lemmas.Slice.Eq.{bytes_eq-Decides}
use Rattle.std.specs.Prelude.{⊤, bytes_eq, find, option_map}

-- ---- the bytes that reached the sink

pub record Reached (was new : Output) (pushed : List ℕ) : Type 0 where
  pub front : List ℕ
  pub rest : List ℕ
  pub split : pushed ≡ front ++ rest
  pub accepted : new.accepted ≡ append_known was.accepted front
  pub whole : new.write_failed ≡ false → new.buffered ≡ [] → rest ≡ []
  pub unknown : was.accepted ≡ None → rest ≡ []

reached_of : (was new : Output) (pushed : List ℕ) → was.buffered ≡ [] → PushEffect was new pushed
    → Reached was new pushed
reached_of was new pushed empty w = by_known was.accepted refl
  where
    by_known : (known : Option (List ℕ)) → was.accepted ≡ known → Reached was new pushed
    by_known None is = record {
      front = pushed;
      rest = [];
      split = sym (append-nil pushed);
      accepted = rw (w.kept.is, is) refl;
      whole = λ _ _. refl;
      unknown = λ _. refl;
    }
    by_known (Some t) is = record {
      front = w.kept.front;
      rest = new.buffered ++ w.beginning.front;
      split = split;
      accepted = w.kept.is;
      whole = λ clean none.
          let same = ap length (some_same (rw (w.kept.is, is, empty) at (w.whole clean))) in
          nil_from_length _
          (grind (arith, length-append));
      unknown = λ none. cc;
    }
      where
        split : pushed ≡ w.kept.front ++ (new.buffered ++ w.beginning.front)
        split = append_cancel_left t pushed (w.kept.front ++ (new.buffered ++ w.beginning.front))
            (grind usual)

-- ---- the bytes of the readers are consistent with the bytes received

bytes_consistent_at : (old new : Reader) (o : Option Received) (v : Option (List ℕ)) → IsNewOrUnopened old
    → HasReceivedAt old new o → HasBytesAt old v → IsConsistentAt o v
bytes_consistent_at old new None None fresh k bytes = tt
bytes_consistent_at old new None (Some b) fresh (unopened, same) (opened, left, short) = cc
bytes_consistent_at old new (Some g) None fresh (opened, received) unopened = cc
bytes_consistent_at old new (Some g) (Some b) fresh (opened, received) (_, left, short) = grind arith

not_too_long : (o : Option Received) (v : Option (List ℕ)) (old : Reader) → IsConsistentAt o v → HasBytesAt old v
    → IsTooLong o → ⊥
not_too_long None v old a bytes long = long
not_too_long (Some g) None old a bytes long = a
not_too_long (Some g) (Some b) old a (opened, left, short) long = grind (arith, length-append)

-- ---- no call failed

pub exact_of_run : (m : CommandSpec) (old new : List Reader) (before : Sinks) (o : Outcome) → All IsNewOrUnopened old
    → IsRun m old new before o → IsExactUnlessFailed m old new before o
exact_of_run m old new before o fresh k w bytes none fine not_denied = by_fault k.fault k.ends
  where
    agrees : AreInputsConsistent k.received w
    agrees q = bytes_consistent_at _ _ _ _ (fresh_all old fresh q) (k.came q) (bytes q)

    unfailed : (n : ℕ) (fault : FlowFault) → HasCause m k.received old new o.out.failed o.denied n fault → ⊥
    unfailed n (Read p) c =
        ⊎_elim (λ failed. none p failed) (λ long. not_too_long _ _ (reader_at old p) (agrees p) (bytes p) long) c.2
    unfailed n Write c = false≢true (sym fine ∙ c)
    unfailed n Memory c = false≢true (sym not_denied ∙ c.0)

    by_fault : (fault : Option FlowFault) → RunEnd m k.received old new k.written k.message o k.operands_done fault
        → IsExact m w before o
    by_fault None (all, unbroken, fits, read, says) = let (out, message, status) = says w agrees in record {
      out = grind (arith, agrees);
      messages = grind (arith, append-nil, agrees);
      status_is = status;
      bounded = k.bounded w agrees;
    }
    by_fault (Some fault) (within, status, cause, says) = absurd (unfailed k.operands_done fault cause)

-- ---- a run that reads nothing

-- There is nothing to read, the output is unchanged, and `text` is the only message.
pub unread : (m : CommandSpec) {old : List Reader} {out messages_old messages_new : SinkState} {text : List ℕ}
    (status : ℕ)
    → m.beyond.sequential ≡ None → m.beyond.reads_nothing (is_reader_unopened old) ≡ true
    → ((r : ReceivedInputs) → ((q : ℕ) → is_reader_unopened old q ≡ is_unopened r q) → m.decided r ≡ [])
    → All IsNewOrUnopened old → out.failed ≡ false → HasSaid messages_old messages_new text
    → ((w : InputBytes) → AreInputsConsistent (map received_of old) w
    → (m.out w ≡ []) × (text ≡ messages m w) × (status ≡ m.status w))
    → AreReadToEnd old (ended_operands m (length m.positions) status)
    → IsRun m old old (sinks out messages_old)
    (record { out = out; messages = messages_new; status = status; peak = 0; denied = false })
unread m {old} {out} {messages_old} {messages_new} {text} status at_once nothing undecided fresh fine has_said says
    ended = let came = nothing_read old (fresh_all old fresh) in record {
      received = map received_of old;
      came = came;
      written = [];
      output = sym (append_known-nil _);
      message = text;
      has_said = has_said;
      operands_done = length m.positions;
      fault = None;
      ends = grind (arith, received_at);
      is_prefix = grind arith;
      names_failed_read = grind arith;
      decided_is_written = grind arith;
      bounded = λ w agrees. omega arith;
      beyond = record {
        flushed = λ settled _. settled;
        flushes = grind arith;
        untouched = λ q other. refl;
        ended = ended;
        left = λ memory. cc;
        bounded_lag = rw at_once
            (nothing_decided m.positions m.decided (map received_of old) out.failed
            (grind arith));
      };
    }

pub message_only_run : {text : List ℕ} {is : ℕ} {old : List Reader} {out messages_old messages_new : SinkState}
    {status : ℕ}
    → All IsNewOrUnopened old → out.failed ≡ false → HasSaid messages_old messages_new text → status ≡ is
    → IsRun (message_only text is) old old (sinks out messages_old)
    (record { out = out; messages = messages_new; status = status; peak = 0; denied = false })
message_only_run {text} {is} {old = old} {status = status} fresh fine has_said status_is = unread _
    _ refl refl (λ r same. refl) fresh fine has_said (λ w agrees. (refl, refl, status_is)) (no_operand (status == 0))
  where
    no_operand : (b : Bool) → AreReadToEnd old (cond b [] [])
    no_operand true q named = absurd (false≢true named)
    no_operand false q named = absurd (false≢true named)

-- ---- the end of a run

abbrev fault_of : Result Completion FlowFault → Option FlowFault
fault_of (Ok done) = None
fault_of (Err fault) = Some fault

module _ {m : CommandSpec} {old new : List Reader} {was is is' : Output}
    {messages_first messages_old messages_new messages_last : SinkState} {before store : Slots}
    {run_result : Result Completion FlowFault} {status : ℕ} (nothing_said : HasSaid messages_first messages_old [])
    (k : RunInputsPost m old new was is messages_old messages_new before store run_result)
    (last : EndRunPost m.tool m.names is is' messages_new messages_last run_result status)
    (fresh : All IsNewOrUnopened old) (unused : RunPre before was) where
  abbrev final_result : Result Completion FlowFault
  final_result = last.final_result

  abbrev o : Outcome
  o = outcome_of is' messages_last store status

  f : FinishPost is is' run_result final_result
  f = last.finished

  -- the last output, except for the count of flushes
  abbrev sent : Output
  sent = record is' { flushes = is.flushes }

  wrote : PushEffect was sent k.pushed
  wrote =
      ⊎_elim (grind arith) (λ clean. rw (append-nil k.pushed) at (push_trans was is _ _ [] clean k.wrote f.wrote))
      (cases_Bool _)

  reached : Reached was sent k.pushed
  reached = reached_of was sent k.pushed unused.nothing_buffered wrote

  begins : (w : InputBytes) → AreInputsConsistent k.received w → IsPrefix reached.front (m.out w)
  begins w agrees = grind (usual, reached)

  abbrev last_message : List ℕ
  last_message = result_message m.tool m.names final_result

  ends_as : (r : Result Completion FlowFault) → final_result ≡ r
      → RunInputsEnd m k.received old new k.pushed is'.write_failed store.denied k.operands_done r
      → RunEnd m k.received old new reached.front (k.message ++ last_message) o k.operands_done (fault_of r)
  ends_as (Ok done) same (complete, says) = grind (arith, rules)
  ends_as (Err fault) same e = grind arith

  run_of : IsRun m old new (sinks (sink_of was) messages_first) o
  run_of = record {
    received = k.received;
    came = k.came;
    written = reached.front;
    output = grind arith;
    message = k.message ++ last_message;
    has_said = search (rules, said_trans);
    operands_done = k.operands_done;
    fault = fault_of final_result;
    ends = ends_as _ refl (grind arith);
    is_prefix = begins;
    names_failed_read = grind arith;
    decided_is_written = grind (arith, rules);
    bounded = grind arith;
    beyond = record {
      flushed = grind arith;
      flushes = grind arith;
      untouched = k.untouched;
      ended = grind arith;
      left = grind (arith, f, rules);
      bounded_lag = earlier_map m _ _ _ _
          (λ bytes up. kept_up bytes was is is' k.pushed reached.front reached.rest up unused.nothing_buffered
          reached.split reached.accepted f.wrote.kept reached.unknown o.out.failed (grind arith))
          k.bounded_lag;
    };
  }

  pub stored : (m.beyond.reads_nothing (is_reader_unopened old) ≡ true → ⊥)
      → RunWithStorePost m old new (sinks (sink_of was) messages_first) o before store
  unfolding run_of
  stored reads = record {
    run = record { run = run_of; slots = k.slots };
    is_exact = exact_of_run m old new _ o fresh run_of;
    reads_nothing = λ none. absurd (reads none);
    keeps_nothing = λ none. absurd (reads none);
  }

-- ---- the outcome of a run, by what it left

-- The sink that is taken from an output has this state.
pub sink_is : (s : SinkState) (out : Output) → s.accepted ≡ out.accepted → s.failed ≡ out.write_failed
    → s.unflushed ≡ out.unflushed → s.flushes ≡ out.flushes → s ≡ sink_of out
sink_is s out accepted failed unflushed flushes =
    λ i. record { accepted = accepted i; failed = failed i; unflushed = unflushed i; flushes = flushes i }

pub new_sink_is : (s : SinkState) (out : Output) → s.failed ≡ false → out ≡ record {
  accepted = s.accepted;
  buffered = [];
  write_failed = false;
  unflushed = s.unflushed;
  flushes = s.flushes;
} → s ≡ sink_of out
new_sink_is s out fine made = rw made (sink_is s (record {
  accepted = s.accepted;
  buffered = [];
  write_failed = false;
  unflushed = s.unflushed;
  flushes = s.flushes;
}) refl fine refl refl)

pub outcome_is : (o : Outcome) (out : Output) (messages : SinkState) (store : Slots) (status : ℕ) → o.out ≡ sink_of out
    → o.messages ≡ messages → o.status ≡ status → (o.peak ≡ store.peak) × (o.denied ≡ store.denied)
    → o ≡ outcome_of out messages store status
outcome_is o out messages store status out_is said status_is memory =
    λ i. record { out = out_is i; messages = said i; status = status_is i; peak = memory.0 i; denied = memory.1 i }

pub returned : (made left : Output) {m spec : CommandSpec} {old new : List Reader}
    {said said_after out messages : SinkState} {before store : Slots} {status : ℕ} {o : Outcome}
    → spec ≡ m → out ≡ sink_of made → messages ≡ said → o ≡ outcome_of left said_after store status
    → RunWithStorePost m old new (sinks (sink_of made) said) (outcome_of left said_after store status) before store
    → RunWithStorePost spec old new (sinks out messages) o before store
returned made left same out_is said_is o_is run = rw (same, out_is, said_is, o_is) run

-- ---- the specification of arguments

pub spec_of_fault : {A : Type 0} (command : Result (code.Command A) UseFault) (words : List (List ℕ)) (fault : UseFault)
    → command ≡ Err fault → CommandPost command (command_of_args words)
    → spec_of_parsed command words ≡ message_only (usage_message (tool_name words) (fault_view fault))
    (usage_status (fault_view fault))
spec_of_fault command words fault is m = grind arith

record AcceptsOperands (m : CommandSpec) : Type 0 where
  accepts_operands : m.beyond.accepts ≡ true
  few : m.beyond.sequential ≡ None → length m.positions ≤ 512

accepts_operands : (job : Job) (word : List ℕ) (names : List (List ℕ)) (order : List Input) → AreInputsOf job order
    → AcceptsOperands (spec_of_tool word (tool_of_job job) names (positions order))
accepts_operands (RunCut u) word names order any = grind arith
accepts_operands (RunPaste u) word names order few = grind usual
accepts_operands (RunUniq u) word names order one = grind usual
accepts_operands (RunComm u) word names order two = grind arith
accepts_operands (RunJoin u) word names order two = grind arith
accepts_operands (RunTr u) word names order any = grind arith

inputs_pre_of_spelled : (words : List (List ℕ)) (c : Command) (readers : List Reader) → SpellsCommand words c
    → AreNewInputs (Some (length c.names)) readers → InputsPre (tool_spec c) readers
inputs_pre_of_spelled words c readers (Spelled name rest tool os operands named s allowed) fresh =
    let is = accepts_operands c.job (word_of_job c.job) c.names c.order
    (grind (arith, are_inputs)) in record {
      fresh = fresh.1;
      in_range = All-map (λ p. p < length readers) position c.order
          (grind (arith, positions_within));
      named = fresh.0;
      accepts_operands = is.accepts_operands;
      few = is.few;
    }

-- ---- the name of the tool

-- Each of these tools has this word as its name.
abbrev AreNamed : {T : Type 0} → (T → List ℕ) → List (List ℕ × T) → Type 0
AreNamed word_of [] = ⊤
AreNamed word_of (t ∷ ts) = (t.0 ≡ word_of t.1) × AreNamed word_of ts

named_in : {T : Type 0} (word_of : T → List ℕ) (name : List ℕ) (ts : List (List ℕ × T)) (tool : T)
    → AreNamed word_of ts
    → option_map (λ (t : List ℕ × T). t.1) (find (λ (t : List ℕ × T). bytes_eq name t.0) ts) ≡ Some tool
    → name ≡ word_of tool
named_in word_of name [] tool all is = cc
named_in {T} word_of name (t ∷ ts) tool all is = by_test (bytes_eq name t.0) refl is (named_in word_of name ts tool all.1)
  where
    by_test : (same : Bool) → bytes_eq name t.0 ≡ same
        → option_map (λ (t : List ℕ × T). t.1) (cond same (Some t) (find (λ (t : List ℕ × T). bytes_eq name t.0) ts))
        ≡ Some tool
        → (option_map (λ (t : List ℕ × T). t.1) (find (λ (t : List ℕ × T). bytes_eq name t.0) ts) ≡ Some tool
        → name ≡ word_of tool)
        → name ≡ word_of tool
    by_test true same is later = (bytes_eq-Decides name t.0).0 same ∙ (all.0 ∙ ap word_of (some_same is))
    by_test false same is later = later is

-- The first word is the name of the tool, by which the specification of the command is that of its tool.
spec_of_spelled : (words : List (List ℕ)) (c : Command) → SpellsCommand words c
    → command_spec (tool_name words) c ≡ tool_spec c
spec_of_spelled words c (Spelled name rest tool os operands named s allowed) =
    ap (λ word. command_spec word c)
    (named_in (λ tool. word_of_job (job tool os operands)) name tools tool (refl, (refl, (refl, (refl, (refl, (refl, tt))))))
    named)
    ∙ spec_same (word_of_job c.job) c

-- ---- words that mean a command

pub inputs_pre_of_meant : (c : Command) (readers : List Reader) → IsMeant c
    → AreNewInputs (Some (length c.names)) readers → InputsPre (tool_spec c) readers
inputs_pre_of_meant c readers (words, is) = inputs_pre_of_spelled words c readers ((meant_as_spelled words c).1 is)

pub spec_of_meant : (words : List (List ℕ)) (c : Command) → command_of_args words ≡ Ok c
    → spec_of_args words ≡ tool_spec c
spec_of_meant words c is =
    ap (spec_of_result (tool_name words)) is ∙ spec_of_spelled words c ((meant_as_spelled words c).1 is)

-- the main theorem for arguments, if parsing did not run out of memory
pub exact_for_args : {A : Type 0} (command : Result (code.Command A) UseFault) (words : List (List ℕ))
    (old new : List Reader) (before : Sinks) (o : Outcome)
    → All IsNewOrUnopened old → IsRun (spec_of_parsed command words) old new before o → is_memory_fault command ≡ false
    → IsExactUnlessFailed (spec_of_args words) old new before o
exact_for_args command words old new before o fresh run not_denied =
    rw not_denied at (exact_of_run _ old new _ o fresh run)
