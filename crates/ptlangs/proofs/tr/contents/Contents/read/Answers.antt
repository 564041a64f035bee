-- Answers for `Contents::read`: each turn adds a byte and the copies of it that follow. The fault of a byte is that
-- of the string. At the end all bytes are read. The length stays within its bound, and fewer bytes are left after
-- each turn.
use Rattle.ptlangs.proofs
use proofs.Common.{List, Ok, Segment, ap, arith, array, usual, contents_of, map-append, member_bytes, ok_map}
use proofs.Common.{plain_members, refl, replicate, read_string, sym, ◌++◌, ◌∙◌, ◌∷◌, ◌≡◌}
use proofs.TrArrays.{contents-new, items_end, items_fault, items_more, member_bytes-array, member_bytes-plain, on_fault}
use proofs.TrArrays.{string-fault, string-read}
use proofs.tr.contents.Contents.read.Goals as goal

pub returns-in_err-member-clause-is : goal.returns-in_err-member-clause-is
returns-in_err-member-clause-is c =
    let k = c.in_err-member.field-0.0 in
    let fault = string-fault _ _ _ k c.if-is_empty.ensures
    (items_fault c.loop-member.invariant.read c.in_err-member.ensures.steps) in
    let (_, is) = c.from_residual.ensures in
    on_fault
    (λ r. r ≡ ok_map (λ (ps : List Segment). contents_of (array c.args.fill ps))
    (read_string c.args.role c.args.text.now)) _ k is (rw fault refl)

pub loop-member-init : goal.loop-member-init
loop-member-init c = grind (usual, contents-new)

pub loop-member-preserved : goal.loop-member-preserved
loop-member-preserved c =
    let old = c.loop-member.bytes in
    let new = c.next.new.self in
    let read = c.loop-member.invariant.read in
    let step = rw c.in-Some.is at c.in_ok-member.ensures.steps in
    let fewer = rw c.in-Some.is at c.in_ok-member.ensures.fewer in
    let m = c.in-Some.member in
    let copies = replicate c.skip_repeats-more.result m.byte in
    let bytes =
    map-append _ read.done _
    ∙ ap (λ bs. member_bytes read.done ++ m.byte ∷ bs) (member_bytes-plain copies) in
    record {
      read =
          items_more read _ (m ∷ plain_members copies) (grind arith)
          (λ h. c.push.ensures.is _ h ∙ ap contents_of (sym bytes));
      most = omega arith;
    }

pub returns-clause-is : goal.returns-clause-is
returns-clause-is c =
    let read = c.loop-member.invariant.read in
    let (end, _) = rw c.in_default.is at c.in_ok-member.ensures.steps in
    let (ps, whole, bytes) = string-read _ _ _ _ c.if-is_empty.ensures (items_end read end) in
    rw whole (ap Ok (read.holds ∙ ap contents_of (ap member_bytes (sym bytes) ∙ member_bytes-array _ ps)))

pub push-requires : goal.push-requires
push-requires c = grind arith

pub loop-member-smaller : goal.loop-member-smaller
loop-member-smaller c = grind arith
