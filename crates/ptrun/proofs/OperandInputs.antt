-- Lemmas about the operands of a command, by induction on their list: their inputs and positions, the messages about
-- them, and the output that is decided. And about one input: what was received from it, the output that was decided
-- two blocks earlier, and how much of that has reached the sink, of which at most one block is still buffered.
use Rattle.ptrun.proofs
use Rattle.ptrun.specs
use proofs.Common.{All, AllWritten, Any-from_list_any, AreInputsConsistent, Bool, BoundedLag, BufferLag, CommandSpec}
use proofs.Common.{Completion, DecidesAll, HasReceived, HasSaid, HaveReceived, Input, usual, InputBytes, IsConsistent}
use proofs.Common.{IsDone, IsKnownPrefix, IsPrefix, IsPushedUpToBlock, LaggedInput, List, None, Option, Output}
use proofs.Common.{PushEffect, Reader, Received, ReceivedInputs, SinkState, Some, ToolSpec, Unopened, [], ap}
use proofs.Common.{append-nil, append_assoc, append_known, arith, cond, decided_in_order, drop, empty_input, false}
use proofs.Common.{file_names, filter_map-append, flat_map, flat_map-append, get_or, get_or-map, is_in, is_unopened}
use proofs.Common.{length, length-append, length-drop, length-map, list_any, map, max, name_of, no_reader, option_map}
use proofs.Common.{order_from, position, positions, reader_at, refl, rules, set, slice_get, suc, sym, take}
use proofs.Common.{take-append-drop, take_more, true, unopened_message, unopened_messages, up_to_unended, zero, ℕ, ◌++◌}
use proofs.Common.{◌+◌, ◌<◌, ◌==◌, ◌^◌, ◌∙◌, ◌∷◌, ◌≡◌, ◌≢◌, ◌≤◌}
use proofs.MessageWrites.{said_trans}
use Rattle.ptflow.specs.Private.PasteCall.{update_at}
use Rattle.ptlines.proofs.KnownBytes.{append_known-append}
use Rattle.ptlines.proofs.Lag.{bounded_lag_now, known_length}
use specs.Files.{HasReceivedAt, IsConsistentAt, IsNewOrUnopened, at}
use specs.Private.Operands.{input_of_operand, inputs_of_operands, opened_inputs, opened_values}
use specs.Lines.{maximum}
use Rattle.std.proofs.Math.ListN.{get_or-map as get_or-map_any}
use specs.Lag.{HasBoundedLag, IsWrittenUpToBlock, LagBy, LagOfAny, LagOfLast}
use Rattle.ptlines.specs.declared.sizes.TheConstants.{BLOCK}

pub some_same : {X : Type 0} {a b : X} → Some a ≡ Some b → a ≡ b
some_same same = cc

pub same_here : (p : ℕ) → (p == p) ≡ true
same_here p = grind arith

pub each_listed : (P : ℕ → Type 0) (ps : List ℕ) → All P ps → (q : ℕ) → is_in ps q ≡ true → P q
each_listed P ps all q named = let a = Any-from_list_any (λ p. p == q) ps named in
    search rules

pub none_passes : (test : ℕ → Bool) (ps : List ℕ) → list_any test ps ≡ false → (q : ℕ) → is_in ps q ≡ true
    → test q ≡ false
none_passes test [] none q named = cc
none_passes test (p ∷ ps) none q named = grind (arith, none_passes test ps)

-- ---- functions of positions, updated at one

pub put_here : {X : Type 0} (p : ℕ) (x : X) (f : ℕ → X) → update_at p x f p ≡ x
put_here p x f = ap (λ b. cond b x (f p)) (same_here p)

pub put_other : {X : Type 0} (p q : ℕ) (x : X) (f : ℕ → X) → p ≢ q → update_at p x f q ≡ f q
put_other p q x f differs = grind arith

-- ---- operands

module _ {X : Type 0} (rest : X) (xs : List (Option X)) where
  inputs_of_operands-append : (before ps qs : List ℕ)
      → inputs_of_operands rest xs before (ps ++ qs) ≡ inputs_of_operands rest xs before ps
      ++ inputs_of_operands rest xs (before ++ ps) qs
  inputs_of_operands-append before [] qs = search rules
  inputs_of_operands-append before (p ∷ ps) qs = grind (
    arith,
    append_assoc,
    inputs_of_operands-append (before ++ p ∷ []) ps qs,
  )

  opened_inputs_at : (done : List ℕ) (p : ℕ) (more : List ℕ)
      → opened_inputs rest xs (done ++ p ∷ more) ≡ opened_inputs rest xs done
      ++ opened_values (input_of_operand rest xs done p ∷ inputs_of_operands rest xs (done ++ p ∷ []) more)
  opened_inputs_at done p more = grind (arith, inputs_of_operands-append, filter_map-append)

  pub opened_inputs_some : (done : List ℕ) (p : ℕ) (more : List ℕ) (x : X) → input_of_operand rest xs done p ≡ Some x
      → opened_inputs rest xs (done ++ p ∷ more) ≡ opened_inputs rest xs done ++ x
      ∷ opened_values (inputs_of_operands rest xs (done ++ p ∷ []) more)
  opened_inputs_some done p more x is = grind (arith, opened_inputs_at)

  pub opened_inputs_none : (done : List ℕ) (p : ℕ) → input_of_operand rest xs done p ≡ None
      → opened_inputs rest xs (done ++ p ∷ []) ≡ opened_inputs rest xs done
  opened_inputs_none done p is = search (rules, opened_inputs_at)

-- ---- messages

pub any_same : (f g : ℕ → Bool) (ps : List ℕ) → ((p : ℕ) → f p ≡ g p) → list_any f ps ≡ list_any g ps
any_same f g ps same = λ i. list_any (λ q. same q i) ps

pub said_more : (word : List ℕ) (names : List (List ℕ)) (is_unopened_at : ℕ → Bool) (done : List ℕ)
    (p : ℕ) {messages_old messages_new messages_new' : SinkState}
    → HasSaid messages_old messages_new (unopened_messages word names is_unopened_at done)
    → HasSaid messages_new messages_new' (cond (is_unopened_at p) (unopened_message word (name_of names p)) [])
    → HasSaid messages_old messages_new' (unopened_messages word names is_unopened_at (done ++ p ∷ []))
said_more word names is_unopened_at done p k says = search (rules, flat_map-append, said_trans)

module _ (test : ℕ → Bool) (done : List ℕ) (p : ℕ) where
  pub any_now : test p ≡ true → list_any test (done ++ p ∷ []) ≡ true
  any_now is = grind usual

  pub any_before : test p ≡ false → list_any test (done ++ p ∷ []) ≡ list_any test done
  any_before is = grind usual

pub is_in-same : (done : List ℕ) (p : ℕ) → is_in (done ++ p ∷ []) p ≡ true
is_in-same done p = any_now (λ q. q == p) done p (same_here p)

pub not_more : (done : List ℕ) (p q : ℕ) → is_in (done ++ p ∷ []) q ≡ false → (p ≢ q) × (is_in done q ≡ false)
not_more done p q none = grind (arith, is_in-same, any_before)

pub holds_more : (P : ℕ → Type 0) (done : List ℕ) (p : ℕ) → ((q : ℕ) → is_in done q ≡ true → P q) → P p → (q : ℕ)
    → is_in (done ++ p ∷ []) q ≡ true → P q
holds_more P done p before here = grind (arith, any_before)

-- ---- the maximum

pub maximum-append : (xs ys : List ℕ) → maximum (xs ++ ys) ≡ max (maximum xs) (maximum ys)
maximum-append [] ys = omega arith
maximum-append (x ∷ xs) ys = omega (arith, maximum-append xs ys)

-- ---- the decided output

abbrev pub IsEndedAt : Option Received → Type 0
IsEndedAt None = Unit {0}
IsEndedAt (Some g) = g.eof ≡ true

abbrev bytes_at : Option Received → Option (List ℕ)
bytes_at None = None
bytes_at (Some g) = Some g.bytes

-- the shortest inputs that are consistent with what was received
abbrev pub least_bytes : ReceivedInputs → InputBytes
least_bytes r = map bytes_at r

module _ (t : ToolSpec) (law : DecidesAll t) where
  module _ (came : List (Option Received)) (texts : List (Option (List ℕ))) (later : List Received) (rest : List ℕ)
      (further : flat_map t.decided (up_to_unended (opened_values came ++ later))
      ≡ flat_map t.text (opened_values texts) ++ rest) where
    one : (g : Received) → g.eof ≡ true
        → flat_map t.decided (up_to_unended (g ∷ opened_values came ++ later))
        ≡ (t.text g.bytes ++ flat_map t.text (opened_values texts)) ++ rest
    one g is = grind usual

    decided_input : (o : Option Received) → IsEndedAt o → (seen : Bool)
        → flat_map t.decided (up_to_unended
        (opened_values (option_map (λ (g : Received). cond seen empty_input g) o ∷ came) ++ later))
        ≡ flat_map t.text (opened_values (option_map (λ (b : List ℕ). cond seen [] b) (bytes_at o) ∷ texts)) ++ rest
    decided_input None e seen = further
    decided_input (Some g) e true = one _ refl
    decided_input (Some g) e false = one g e

  -- operands whose ends were reached decide all their output, and the decided output goes on with the next operand
  pub decided_inputs : (r : ReceivedInputs) (before ps : List ℕ) (later : List Received)
      → ((q : ℕ) → is_in ps q ≡ true → IsEndedAt (at r q))
      → flat_map t.decided (up_to_unended (opened_values (inputs_of_operands empty_input r before ps) ++ later))
      ≡ flat_map t.text (opened_values (inputs_of_operands [] (least_bytes r) before ps))
      ++ flat_map t.decided (up_to_unended later)
  decided_inputs r before [] later eof = refl
  decided_inputs r before (p ∷ ps) later eof =
      rw (get_or-map_any bytes_at r p None) (decided_input (inputs_of_operands empty_input r (before ++ p ∷ []) ps)
      (inputs_of_operands [] (least_bytes r) (before ++ p ∷ []) ps) later (flat_map t.decided (up_to_unended later))
      (decided_inputs r (before ++ p ∷ []) ps later (grind arith))
      (at r p) (eof p (grind arith)) (is_in before p))

-- ---- the positions of the operands, in order

pub fresh_all : (readers : List Reader)
    → ((k : ℕ) (d : Reader) → k < length readers → IsNewOrUnopened (get_or readers k d)) → (q : ℕ)
    → IsNewOrUnopened (reader_at readers q)
fresh_all readers h q = grind usual

pub position_in_range : (order : List Input) (n : ℕ) → All (λ p. p < n) (positions order)
    → All (λ o. position o < n) order
position_in_range order n in_range i d within =
    rw (get_or-map position order i d 0 within) at (in_range i 0 (omega (arith, length-map order position)))

-- the position `p` of the operand `i` has a reader, and splits the list of operands
pub record OperandStep (order : List Input) (i p n : ℕ) : Type 0 where
  pub low : p < n
  pub next : take (i + 1) (positions order) ≡ take i (positions order) ++ p ∷ []
  pub split : take i (positions order) ++ p ∷ drop (i + 1) (positions order) ≡ positions order

pub operand_step : {p n : ℕ} (order : List Input) (i : ℕ) (d : Input) → All (λ q. q < n) (positions order)
    → i < length order → p ≡ position (get_or order i d) → OperandStep order i p n
operand_step {p} {n} order i d in_range within is = record {
  low = grind (arith, position_in_range);
  next = next;
  split = sym (append_assoc (take i (positions order)) (p ∷ []) (drop (i + 1) (positions order)))
      ∙ ap (λ l. l ++ drop (i + 1) (positions order)) (sym next) ∙ take-append-drop (i + 1) (positions order);
}
  where
    next : take (i + 1) (positions order) ≡ take i (positions order) ++ p ∷ []
    next = grind (arith, take_more, get_or-map position order i d 0, length-map)

pub positions_end : (order : List Input) (i : ℕ) → length order ≤ i → take i (positions order) ≡ positions order
positions_end order i all = grind usual

-- ---- the operands of arguments

pub positions_within : (n : ℕ) (operands : List (List ℕ))
    → All (λ o. position o < n + length (file_names operands) + 1) (order_from n operands)
positions_within n [] k d within = absurd (omega arith)
positions_within n (operand ∷ operands) zero d within = grind arith
positions_within n (operand ∷ operands) (suc k) d within = grind (
  arith,
  positions_within n operands k d,
  positions_within (n + 1) operands k d,
)

-- its end was reached and no call failed, so that it can be read again
pub record IsAtEof (r : Reader) : Type 0 where
  pub done : IsDone r
  pub fault : r.fault ≡ None
  pub failed : r.failed ≡ false
  pub short : r.pulled < 2 ^ 63

abbrev pub none_received : Received
none_received = record { bytes = []; eof = false }

abbrev pub completion_with : Bool → Completion
completion_with any = cond any Unopened AllWritten

-- ---- one input

-- what was received from a reader before it is read
abbrev pub received_of : Reader → Option Received
received_of r = cond r.refused None (Some none_received)

-- an opened reader has received something, possibly no bytes
pub record OpenedInput (old now : Reader) (o : Option Received) : Type 0 where
  pub given : Received
  pub is : o ≡ Some given
  pub received : HasReceived old now given

pub opened_receives : (old now : Reader) (o : Option Received) → old.refused ≡ false → HasReceivedAt old now o
    → OpenedInput old now o
opened_receives old now None opened (unopened, same) = cc
opened_receives old now (Some g) opened (_, received) = grind arith

pub unopened_agrees : (old now : List Reader) (r : ReceivedInputs) (w : InputBytes) → HaveReceived old now r
    → AreInputsConsistent r w → (q : ℕ) → (reader_at old q).refused ≡ is_unopened w q
unopened_agrees old now r w reading agrees q = grind arith

-- ---- the input of an operand

pub record ConsistentBytes (v : Option (List ℕ)) (g : Received) : Type 0 where
  pub bytes : List ℕ
  pub are : v ≡ Some bytes
  pub agree : IsConsistent g bytes

pub consistent_bytes : (o : Option Received) (v : Option (List ℕ)) (g : Received) → o ≡ Some g → IsConsistentAt o v
    → ConsistentBytes v g
consistent_bytes None v g is a = cc
consistent_bytes (Some h) None g is a = absurd a
consistent_bytes (Some h) (Some b) g is a = grind arith

pub consistent_before : (g e : Received) (b : List ℕ) → (g.eof ≡ true → (e.bytes ≡ []) × (e.eof ≡ true))
    → IsConsistent (record { bytes = g.bytes ++ e.bytes; eof = e.eof }) b → IsConsistent g b
consistent_before g e b still a = grind usual

-- ---- before the first operand, and after the last

pub received_at : (old : List Reader) (q : ℕ) → at (map received_of old) q ≡ received_of (reader_at old q)
received_at old q = get_or-map_any received_of old q no_reader

pub nothing_read : (old : List Reader) → ((q : ℕ) → IsNewOrUnopened (reader_at old q))
    → HaveReceived old old (map received_of old)
nothing_read old fresh q = grind (arith, received_at)

least_consistent_at : (o : Option Received) → IsConsistentAt o (bytes_at o)
least_consistent_at None = tt
least_consistent_at (Some g) = search rules

pub least_consistent : (r : ReceivedInputs) → AreInputsConsistent r (least_bytes r)
least_consistent r q = rw (get_or-map_any bytes_at r q None) (least_consistent_at _)

pub nth_here : (done more : List ℕ) (p : ℕ) → slice_get (done ++ p ∷ more) (length done) ≡ Some p
nth_here [] more p = refl
nth_here (q ∷ done) more p = nth_here done more p

-- ---- the output that was decided two blocks earlier

-- all that was received: a lag of no bytes is within the bound
abbrev same_before : (g : Received) → LaggedInput g
same_before g = record { earlier = g; last = []; split = sym (append-nil g.bytes); short = omega arith; eof = λ e. e }

last_same : (xs ys : List Received) (x y : Received) → xs ++ x ∷ [] ≡ ys ++ y ∷ [] → (xs ≡ ys) × (x ≡ y)
last_same xs ys x y is = grind usual

pub all_earlier : (t : ToolSpec) (came : List Received) (P : List ℕ → Type 0) → P (decided_in_order t came)
    → LagOfLast t.decided came P
all_earlier t came P holds done last is = (same_before last, grind arith)

pub last_earlier : (t : ToolSpec) (came : List Received) (g : Received) (b : LaggedInput g) (P : List ℕ → Type 0)
    → P (decided_in_order t (came ++ b.earlier ∷ [])) → LagOfLast t.decided (came ++ g ∷ []) P
last_earlier t came g b P holds done last is = let (before, same) = last_same _ _ g _ is in
    rw (sym before, sym same) (b, holds)

-- a call with a bounded lag has pushed what was decided by less of one input
pub lagged_output : (f : Received → List ℕ) {came : Received} {was is : Output} {pushed : List ℕ}
    → BoundedLag {I = Unit {0}} (λ given. f (given tt)) (λ u. came) was is pushed
    → (cut : LaggedInput came) × IsPushedUpToBlock (f cut.earlier) was is pushed
lagged_output f up = (up.processing.before tt, grind arith)

-- ---- less was received from one input

pub at_set : (r : ReceivedInputs) (p : ℕ) (g e : Received) → at r p ≡ Some g → at (set r p (Some e)) p ≡ Some e
at_set [] p g e is = cc
at_set (o ∷ r) zero g e is = refl
at_set (o ∷ r) (suc p) g e is = at_set r p g e is

pub opened_set : (r : ReceivedInputs) (p : ℕ) (g e : Received) → at r p ≡ Some g → (q : ℕ)
    → is_unopened (set r p (Some e)) q ≡ is_unopened r q
opened_set r p g e is = search (rules, at_set)

pub nothing_decided : (positions : List ℕ) (decided : ReceivedInputs → List ℕ) (r : ReceivedInputs) (failed : Bool)
    → ((s : ReceivedInputs) → ((q : ℕ) → is_unopened s q ≡ is_unopened r q) → decided s ≡ [])
    → LagOfAny positions decided r (λ bytes. IsWrittenUpToBlock bytes [] failed)
nothing_decided positions decided r failed none position came named is = (
  same_before came,
  record {
    front = [];
    lost = [];
    split = grind (arith, opened_set);
    begins = record { rest = []; is = refl };
    few = omega arith;
    none = λ _. refl;
  },
)

pub earlier_map : (m : CommandSpec) (r : ReceivedInputs) (n : ℕ) (P Q : List ℕ → Type 0)
    → ((bytes : List ℕ) → P bytes → Q bytes) → HasBoundedLag m r n P → HasBoundedLag m r n Q
earlier_map m r n P Q follows = by_kind m.beyond.sequential
  where
    by_kind : (kind : Option (Received → List ℕ)) → LagBy m r n P kind → LagBy m r n Q kind
    by_kind None k = λ position came named is. let (lagged, holds) = k position came named is in
        (lagged, grind arith)
    by_kind (Some t) k = λ done last is. let (lagged, holds) = k done last is in
        (lagged, grind arith)

-- bytes that were pushed before any write failed were sent on
pub sends_now : (was mid : Output) (pushed bytes : List ℕ) → PushEffect was mid pushed → mid.write_failed ≡ false
    → IsPrefix bytes pushed → BufferLag was mid bytes
sends_now was mid pushed bytes wrote clean begins =
    (bounded_lag_now {I = Unit {0}} (λ given. bytes) (λ u. empty_input) was mid pushed
    (record { before = λ u. same_before empty_input; begins = begins }) wrote clean).buffering

-- and so were the bytes after them
pub sends_after : (was mid is : Output) (pushed bytes : List ℕ) → PushEffect was mid pushed → mid.write_failed ≡ false
    → BufferLag mid is bytes → BufferLag was is (pushed ++ bytes)
unfolding known_length
sends_after was mid is pushed bytes wrote clean s = by_known was.accepted refl
  where
    by_known : (known : Option (List ℕ)) → was.accepted ≡ known → BufferLag was is (pushed ++ bytes)
    by_known None none = record {
      written_out = was.buffered ++ (pushed ++ bytes);
      accepted = rw (s.accepted, wrote.kept.is, none) refl;
      most = grind usual;
    }
    by_known (Some known) is_known = record {
      written_out = wrote.kept.front ++ s.written_out;
      accepted = grind (arith, append_known-append);
      most = grind (arith, rw (wrote.kept.is, is_known) at (ap known_length (wrote.whole clean)), length-append);
    }

-- ---- the output that was written in the end

take_front : (n : ℕ) (xs ys : List ℕ) → (rest : List ℕ) × (take n (xs ++ ys) ≡ take n xs ++ rest)
take_front zero xs ys = ([], refl)
take_front (suc n) [] ys = (take (suc n) ys, refl)
take_front (suc n) (x ∷ xs) ys = search (rules, take_front n xs ys)

module _ (bytes : List ℕ) (was is is' : Output) (pushed front rest : List ℕ) (k : IsPushedUpToBlock bytes was is pushed)
    (empty : was.buffered ≡ []) (split : pushed ≡ front ++ rest)
    (accepted : is'.accepted ≡ append_known was.accepted front) (kept : IsKnownPrefix is.accepted is'.accepted)
    (unknown : was.accepted ≡ None → rest ≡ []) where
  few : length (drop (length front) bytes) ≤ BLOCK
  unfolding known_length
  few = by_known was.accepted refl
    where
      by_known : (known : Option (List ℕ)) → was.accepted ≡ known → length (drop (length front) bytes) ≤ BLOCK
      by_known None none =
          grind (
            usual,
            length-drop (length front) bytes,
            ap length split,
            ap length k.begins.is,
            length-append front rest,
            ap,
          )
      by_known (Some known) is_known =
          let all = rw (accepted, k.buffering.accepted, is_known) at (ap known_length kept.is) in
          grind (arith, ap, length-drop, length-append)

  pub kept_up : (failed : Bool) → (failed ≡ false → rest ≡ []) → IsWrittenUpToBlock bytes front failed
  kept_up failed whole =
      let (more, is) = take_front (length front) bytes k.begins.rest in
      grind (usual, few)
