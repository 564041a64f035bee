-- Texts written to a sink one after another: together they are one text, of which a failure leaves a prefix. And a
-- message as its parts so far, each of which goes on with the next one.
use Rattle.ptrun.proofs
use proofs.Common.{Bool, Bor, HasSaid, List, SayPost, SinkState, WriteOutOk, [], ap, append-nil, append_assoc, usual}
use proofs.Common.{append_known, arith, drop, false, false≢true, flat_map, flat_map-append, get_or}
use proofs.Common.{get_or-map, length, length-append, length-map, line_of, refl, rules, sym, take, take-append-drop}
use proofs.Common.{take_more, texts, true, ℕ, ◌++◌, ◌+◌, ◌<◌, ◌∙◌, ◌∷◌, ◌≡◌, ◌≤◌}
use Rattle.ptlines.proofs.KnownBytes.{append_known-append, append_known-nil, unflushed_after-append}
use Rattle.ptlines.specs.Calls.Sinks.{WriteOutErr}
use Rattle.ptlines.specs.Sinks.{unflushed_after}

pub say_post_part : {old mid new : SinkState} {text piece : List ℕ} (done more : List ℕ)
    → text ≡ (done ++ piece) ++ more → WriteOutOk old mid done → WriteOutErr mid new piece → SayPost old new text false
say_post_part {old} {piece = piece} done more split took p = record {
  front = done ++ p.front;
  rest = p.rest ++ more;
  split = grind usual;
  accepted = search (rules, append_known-append);
  unflushed = search rules;
  flushes = p.flushes ∙ ap (λ s. s.flushes) took;
  whole = λ all. absurd (false≢true all);
  broken = λ _. (omega (arith, length-append p.rest more), p.failed);
}

pub say_post_all : {old new : SinkState} {text : List ℕ} → old.failed ≡ false → WriteOutOk old new text
    → SayPost old new text true
say_post_all {text = text} clean took = search rules

pub said_nothing : (s : SinkState) → HasSaid s s []
said_nothing s = grind (arith, append_known-nil)

pub said_trans : {a b c : SinkState} {xs ys : List ℕ} → HasSaid a b xs → HasSaid b c ys → HasSaid a c (xs ++ ys)
said_trans {a} {b} {c} {xs} {ys} p q = by_failed b.failed refl
  where
    by_failed : (f : Bool) → b.failed ≡ f → HasSaid a c (xs ++ ys)
    by_failed true is = rw (q.stays is) (record {
      front = p.front;
      rest = p.rest ++ ys;
      split = ap (λ l. l ++ ys) p.split ∙ append_assoc p.front p.rest ys;
      accepted = p.accepted;
      unflushed = p.unflushed;
      flushes = p.flushes;
      whole = λ fine. absurd (false≢true (sym fine ∙ is));
      stays = p.stays;
    })
    by_failed false is =
        let all = p.split ∙ ap (λ l. p.front ++ l) (p.whole is) ∙ append-nil p.front in
        rw all (record {
          front = p.front ++ q.front;
          rest = q.rest;
          split = ap (λ l. p.front ++ l) q.split ∙ sym (append_assoc p.front q.front q.rest);
          accepted = q.accepted ∙ ap (λ t. append_known t q.front) p.accepted
              ∙ append_known-append _ _ _;
          unflushed = q.unflushed ∙ ap (λ b. unflushed_after b q.front) p.unflushed
              ∙ unflushed_after-append _ p.front _;
          flushes = q.flushes ∙ p.flushes;
          whole = q.whole;
          stays = λ failed. absurd (false≢true (sym is ∙ ap (λ s. s.failed) (p.stays failed) ∙ failed));
        })

abbrev pub joined : List (Bor (List ℕ)) → ℕ → List ℕ
joined parts n = flat_map (λ p. p) (take n (texts parts))

abbrev part_at : List (Bor (List ℕ)) → ℕ → List ℕ
part_at parts i = (get_or parts i (record { ref_ptr = (0, 0); now = [] })).now

pub joined_more : (parts : List (Bor (List ℕ))) (i : ℕ) → i < length parts
    → joined parts (i + 1) ≡ joined parts i ++ part_at parts i
joined_more parts i within = grind (
  arith,
  take_more (texts parts) i [],
  flat_map-append,
  get_or-map,
  length-map,
  append-nil,
)

pub joined_all : (parts : List (Bor (List ℕ))) (i : ℕ) → length parts ≤ i
    → joined parts i ≡ flat_map (λ p. p) (texts parts)
joined_all parts i all = grind usual

pub line_split : (parts : List (Bor (List ℕ))) (i : ℕ) → i < length parts
    → (more : List ℕ) × (line_of (texts parts) ≡ (joined parts i ++ part_at parts i) ++ more)
line_split parts i within = (
  flat_map (λ p. p) (drop (i + 1) (texts parts)) ++ 10 ∷ [],
  grind (
    arith,
    joined_more,
    append_assoc,
    take-append-drop (i + 1) (texts parts),
    flat_map-append,
  ),
)
